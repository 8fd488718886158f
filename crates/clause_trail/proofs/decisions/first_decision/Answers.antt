use Rattle.std.proofs.Common.{ℕ, arith, subst, inl, inr, None, refl, false}
use Rattle.std.proofs.lemmas.Bool.{cases_eq}
use Rattle.clause_trail.specs.declared.trail.Entry.{Entry}
use Rattle.clause_trail.specs.Decisions.{HasDecisionAt}
use Rattle.clause_trail.proofs.Gets.{get-from}
use Rattle.clause_trail.proofs.Lasts.{has_reason}
use Rattle.clause_trail.proofs.decisions.first_decision.Goals as goal

first : Entry
first = record { lit = record { boolean = 0; pos = false }; reason = None }

pub loop-i-preserved : goal.loop-i-preserved
unfolding first
loop-i-preserved c = λ j lt d. elim (cases_eq j c.loop-i.i) as (λ _. ⊥) [
  | inl same ↦ has_reason c.args.entries.now c.loop-i.i _ _ (get-from c.args.entries.now c.loop-i.i first _ (omega arith) refl) c.in-Some.is (subst (λ (n : ℕ). HasDecisionAt c.args.entries.now n) same d)
  | inr other ↦ c.loop-i.invariant j (omega arith) d
]

pub returns-clause-before : goal.returns-clause-before
returns-clause-before c = λ i lt d. c.loop-i.invariant i (omega arith) d
