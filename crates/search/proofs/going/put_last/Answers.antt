use Rattle.std.proofs.Common.{rules, ℕ, ◌≤◌, List, Option, length, map, ap, subst, sym}
use Rattle.std.proofs.lemmas.List.{length-map}
use Rattle.ground_walk.specs.Walk.{kept_instances}
use Rattle.ground_laws.specs.Result.{task_from, numbered, action_in}
use Rattle.search.proofs.PlaceLaws.{places_fit}
use Rattle.std.specs.Io.KnownBytes.{Appends}
use Rattle.patty_run.specs.Printed.{joined, AppendsFront}
use Rattle.search.specs.declared.found.SearchFail.{SearchFail}
use Rattle.search.specs.inside.Going.{Leaves, seen_since}
use Rattle.search.proofs.GoingLaws.{stays, last_ok, last_err}
use Rattle.search.proofs.going.put_last.Goals as goal

pub returns-in_default : goal.returns-in_default
returns-in_default g c = λ first fails going.
    stays c.args.task.now c.args.limits.now c.args.opened.now c.requires.opened c.args.n first (g.O.Sink.written c.args.out.now) fails (g.O.Sink.faults c.args.out.now) going c.requires.within

pub overflow_cast-places : goal.overflow_cast-places
overflow_cast-places g c =
    let few : length (map (action_in (numbered c.args.task.now)) (kept_instances c.args.task.now)) ≤ 1000000 = subst (λ (k : ℕ). k ≤ 1000000) (sym (length-map (kept_instances c.args.task.now) (action_in (numbered c.args.task.now)))) c.requires.opened.ready.grounded.few in
    let fits = places_fit (task_from c.args.task.now) c.args.opened.now.pattern c.places.result.now c.requires.opened.pattern few c.places.ensures in
    search (rules, fits)

pub returns-in-Ok-put_lines : goal.returns-in-Ok-put_lines
returns-in-Ok-put_lines g c = λ first fails going.
    let put = subst (λ (ls : List (List ℕ)). Appends (g.O.Sink.written c.args.out.now) (g.O.Sink.written c.put_lines.new.out) (joined ls)) c.as_slice.ensures c.in-Ok-put_lines.ensures.0 in
    last_ok c.args.task.now c.args.limits.now c.args.opened.now c.requires.opened c.args.n first (g.O.Sink.written c.args.out.now) fails (g.O.Sink.faults c.args.out.now) going
    c.args.made c.requires.made (g.O.Sink.written c.put_lines.new.out) (g.O.Sink.faults c.put_lines.new.out) c.in-Ok.lines c.in-Ok.ensures c.requires.within c.requires.last
    c.found_by.result (length c.places.result.now) (ap length c.places.ensures) (c.found_by.ensures c.requires.made.log) put c.in-Ok-put_lines.ensures.1

pub returns-in-Err : goal.returns-in-Err
returns-in-Err g c = λ first fails going.
    let front = subst (λ (ls : List (List ℕ)). AppendsFront (g.O.Sink.written c.args.out.now) (g.O.Sink.written c.put_lines.new.out) (joined ls)) c.as_slice.ensures c.in-Err.ensures.0 in
    subst (λ (e : SearchFail). Leaves (seen_since first fails (g.O.Sink.written c.put_lines.new.out) (g.O.Sink.faults c.put_lines.new.out)) c.args.task.now c.args.limits.now e) (sym c.fail_of.ensures)
    (last_err c.args.task.now c.args.limits.now c.args.opened.now c.requires.opened c.args.n first (g.O.Sink.written c.args.out.now) fails (g.O.Sink.faults c.args.out.now) going
    c.args.made c.requires.made (g.O.Sink.written c.put_lines.new.out) (g.O.Sink.faults c.put_lines.new.out) c.in-Ok.lines c.in-Ok.ensures c.requires.within c.requires.last c.in-Err.fail front c.in-Err.ensures.1)
