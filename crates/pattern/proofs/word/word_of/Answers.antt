use Rattle.std.proofs.Common.{refl, ◌∙◌}
use Rattle.pattern.proofs.Copies.{spelling-start, spelling-next, spelling-done}
use Rattle.pattern.proofs.word.word_of.Goals as goal

pub loop-i-init : goal.loop-i-init
loop-i-init c = spelling-start c.args.pattern.now c.args.counts.now _ c.new-parts.ensures.items

pub loop-i-preserved : goal.loop-i-preserved
loop-i-preserved c =
    spelling-next c.args.pattern.now c.places-places.result.now c.args.counts.now c.loop-i.parts.items c.push_part.new.parts.items c.loop-i.i c.index-counts-i.result _ c.places-places.ensures
    c.loop-i-test.true c.index-counts-i.is refl c.in_ok-push_part.ensures c.loop-i.invariant

pub returns : goal.returns
returns c = λ n l. c.from_vec.ensures ∙ spelling-done c.args.pattern.now c.args.counts.now _ c.loop-i.i c.loop-i-test.false c.loop-i.invariant n l
