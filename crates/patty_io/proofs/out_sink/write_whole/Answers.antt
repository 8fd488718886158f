use Rattle.std.proofs.Common.{ℕ, List, sym, subst, ◌∙◌}
use Rattle.std.proofs.lemmas.List.{take_rest}
use Rattle.patty_io.proofs.Filling.{Written, written_none, written_more, written_whole, written_front, written_kept, none_left}
use Rattle.patty_io.proofs.out_sink.write_whole.Goals as goal

pub loop-rest-init : goal.loop-rest-init
loop-rest-init g c = written_none _ _

pub loop-rest-preserved : goal.loop-rest-preserved
loop-rest-preserved g c =
    let P : List ℕ → Type 0 = λ l. Written (g.W.Write.contents c.args.out.now) (g.W.Write.contents c.write.new.self) c.args.bytes.now l in
    subst P (sym (take_rest c.loop-rest.rest.now c.in-Ok.count)) (written_more _ _ _ _ c.loop-rest.invariant _ c.in-Ok.count c.in-Ok.ensures.bytes)

pub returns-in-Ok-eq0 : goal.returns-in-Ok-eq0
returns-in-Ok-eq0 g c = written_front _ _ _ _ (written_more _ _ _ _ c.loop-rest.invariant _ _ c.in-Ok-eq0.ensures.bytes)

pub returns-in-Err : goal.returns-in-Err
returns-in-Err g c = written_front _ _ _ _ (written_kept _ _ _ _ _ c.loop-rest.invariant c.in-Err.ensures.bytes)

pub returns : goal.returns
returns g c = written_whole _ _ _ _ c.loop-rest.invariant (none_left _ (sym c.is_empty.ensures ∙ c.loop-rest-test.false))
