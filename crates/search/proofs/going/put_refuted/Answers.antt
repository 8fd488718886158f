use Rattle.std.proofs.Common.{ℕ, List, Option, ◌<◌, suc, ◌≤◌, subst, sym, arith}
use Rattle.std.specs.Io.KnownBytes.{Appends}
use Rattle.patty_run.specs.Printed.{joined, AppendsFront}
use Rattle.search.specs.declared.found.SearchFail.{SearchFail}
use Rattle.search.specs.inside.Going.{Leaves, seen_since}
use Rattle.search.proofs.GoingLaws.{goes_ok, goes_err}
use Rattle.search.proofs.going.put_refuted.Goals as goal

pub returns-in-Ok : goal.returns-in-Ok
returns-in-Ok g c = λ first fails going.
    let put = subst (λ (ls : List (List ℕ)). Appends (g.O.Sink.written c.args.out.now) (g.O.Sink.written c.put_lines.new.out) (joined ls)) c.as_slice.ensures c.in-Ok.ensures.0 in
    goes_ok c.args.task.now c.args.limits.now c.args.opened.now c.requires.opened c.args.n first (g.O.Sink.written c.args.out.now) fails (g.O.Sink.faults c.args.out.now) going
    c.args.made c.requires.made (g.O.Sink.written c.put_lines.new.out) (g.O.Sink.faults c.put_lines.new.out) c.requires.refuted put c.in-Ok.ensures.1

pub returns : goal.returns
returns g c = λ first fails going.
    let front = subst (λ (ls : List (List ℕ)). AppendsFront (g.O.Sink.written c.args.out.now) (g.O.Sink.written c.put_lines.new.out) (joined ls)) c.as_slice.ensures c.in-Err.ensures.0 in
    let more : suc c.args.n ≤ c.args.limits.now.max_n = let h = c.requires.more in omega (arith, h) in
    subst (λ (e : SearchFail). Leaves (seen_since first fails (g.O.Sink.written c.put_lines.new.out) (g.O.Sink.faults c.put_lines.new.out)) c.args.task.now c.args.limits.now e) (sym c.fail_of.ensures)
    (goes_err c.args.task.now c.args.limits.now c.args.opened.now c.requires.opened c.args.n first (g.O.Sink.written c.args.out.now) fails (g.O.Sink.faults c.args.out.now) going
    c.args.made c.requires.made (g.O.Sink.written c.put_lines.new.out) (g.O.Sink.faults c.put_lines.new.out) c.requires.refuted c.in-Err.fail more front c.in-Err.ensures.1)
