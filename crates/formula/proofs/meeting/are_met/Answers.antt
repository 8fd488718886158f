use Rattle.std.proofs.Common.{length, sym, ap, subst, ◌≡◌, true, ◌∙◌}
use Rattle.std.specs.List.{list_any}
use Rattle.formula.specs.Meets.{is_true}
use Rattle.formula.specs.Contents.{is_clause}
use Rattle.formula.proofs.MeetingSteps.{all_at, clause_fails, clause_holds, clauses_done}
use Rattle.formula.proofs.meeting.are_met.Goals as goal

pub is_met-requires : goal.is_met-requires
is_met-requires c =
    subst (λ ls. is_clause (length c.args.truth.now) ls ≡ true) (sym c.lits.ensures) (all_at (is_clause (length c.args.truth.now)) _ _ _ c.requires c.loop-clause-test.true c.clause-item.is)

pub returns-then-not-is_met : goal.returns-then-not-is_met
returns-then-not-is_met c = sym (clause_fails c.args.truth.now _ _ _ c.loop-clause-test.true c.clause-item.is (ap (list_any (is_true c.args.truth.now)) (sym c.lits.ensures) ∙ sym c.is_met.ensures ∙ c.if-not-is_met.true) c.loop-clause.invariant)

pub loop-clause-preserved : goal.loop-clause-preserved
loop-clause-preserved c = clause_holds c.args.truth.now _ _ _ c.loop-clause-test.true c.clause-item.is (ap (list_any (is_true c.args.truth.now)) (sym c.lits.ensures) ∙ sym c.is_met.ensures ∙ c.if-not-is_met.false) c.loop-clause.invariant

pub returns : goal.returns
returns c = sym (clauses_done c.args.truth.now _ _ c.loop-clause-test.false c.loop-clause.invariant)
