use Rattle.std.proofs.Common.{◌≡◌, List, [], map, Result, refl, sym, subst}
use Rattle.clause_core.specs.declared.solving.CoreFail.TheVariants.{Steps, Wide, Pivots}
use Rattle.cert_form.specs.Spelling.{step_line}
use Rattle.planner_text.specs.Text.{Log}
use Rattle.search.proofs.SolvingLaws.{ComesAs, comes_found, comes_empty, comes_failed, attempted, same_pivots}
use Rattle.search.proofs.solving.run_core.Goals as goal
use Rattle.search.proofs.solving.run_core.Goals.{in-Ok-Found, in-Ok-Empty, in-Err-Steps, in-Err-Wide, in-Err-Pivots}

pub returns : goal.returns
returns g c =
    let how : ComesAs c.solve.result c.match-solve.came = elim c.match-solve.branch [
      | in-Ok-Found w ↦ comes_found _ _ _ w.in-Ok-Found.point w.in-Ok-Found.is (sym w.in-Ok-Found.field-0-is) w.came-is
      | in-Ok-Empty w ↦ comes_empty _ _ _ w.in-Ok-Empty.is (sym w.in-Ok-Empty.field-0-is) w.came-is
      | in-Err-Steps w ↦ comes_failed _ _ _ Steps w.in-Err-Steps.is (sym w.in-Err-Steps.field-0-is) w.came-is
      | in-Err-Wide w ↦ comes_failed _ _ _ (Wide w.in-Err-Wide.trace) w.in-Err-Wide.is (sym w.in-Err-Wide.field-0-is) w.came-is
      | in-Err-Pivots w ↦ comes_failed _ _ _ (Pivots w.in-Err-Pivots.trace) w.in-Err-Pivots.is (sym w.in-Err-Pivots.field-0-is) w.came-is
    ] in
    attempted g.T.Theory.shown g.T.Theory.stuck g.T.Theory.cuts c.args.limits.now c.args.core.formula _ _ _ _ _ c.requires.shows c.requires.stops (λ log p. c.point_of_a_log_meets_the_formula.ensures _ log p) c.solve.new.sink.lines c.new.ensures (λ log now. now) c.solve.result c.match-solve.came how (same_pivots _ _ c.requires.pivots c.solve.ensures.solved)
