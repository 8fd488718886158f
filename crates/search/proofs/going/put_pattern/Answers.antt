use Rattle.std.proofs.Common.{ℕ, List, subst, sym}
use Rattle.patty_run.specs.Outside.{output_seen}
use Rattle.patty_run.specs.Printed.{joined, AppendsFront}
use Rattle.search.specs.declared.found.SearchFail.{SearchFail}
use Rattle.search.specs.Searching.{SearchFails}
use Rattle.search.proofs.GoingLaws.{heads_err}
use Rattle.search.proofs.going.put_pattern.Goals as goal

pub returns : goal.returns
returns g c =
    let output = output_seen g.O.Sink.written g.O.Sink.faults c.args.out.now c.put_lines.new.out in
    let front = subst (λ (ls : List (List ℕ)). AppendsFront (g.O.Sink.written c.args.out.now) (g.O.Sink.written c.put_lines.new.out) (joined ls)) c.as_slice.ensures c.in-Err.ensures.0 in
    subst (λ (e : SearchFail). SearchFails output c.args.task.now c.args.limits.now e) (sym c.fail_of.ensures)
    (heads_err c.args.task.now c.args.limits.now c.args.opened.now c.requires output c.in-Ok.lines c.in-Err.fail c.in-Ok.ensures front c.in-Err.ensures.1)
