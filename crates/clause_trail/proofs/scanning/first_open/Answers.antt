use Rattle.std.proofs.Common.{◌≡◌, ◌⊎◌, ℕ, List, arith, subst, sym, ap, inl, inr, ◌∙◌, get_or}
use Rattle.std.proofs.lemmas.Bool.{cases_eq}
use Rattle.std.proofs.lemmas.List.{get_or_read}
use Rattle.formula.specs.declared.atom.Lit.{Lit}
use Rattle.clause_trail.specs.Scanning.{IsSatisfied, HasTwoFree}
use Rattle.clause_trail.proofs.Scans.{scan_rest, quiet_before}
use Rattle.clause_trail.proofs.scanning.first_open.Goals as goal

pub loop-k-preserved : goal.loop-k-preserved
loop-k-preserved c = λ i d lt. elim (cases_eq i c.loop-k.k) [
  | inl same ↦
      let rest = scan_rest c.args.trail.now.entries c.lits.result.now c.scan.result c.scan.ensures c.in_default.not-Falsified c.in_default.not-Unit in
      let is : c.lits.result.now ≡ get_or c.args.clauses.now i d = c.lits.ensures ∙ get_or_read c.args.clauses.now c.loop-k.k c.index-clauses-k.result c.loop-k-test.true c.index-clauses-k.is d ∙ ap (λ (n : ℕ). get_or c.args.clauses.now n d) (sym same) in
      subst (λ (x : List Lit). IsSatisfied c.args.trail.now.entries x ⊎ HasTwoFree c.args.trail.now.entries x) is rest
  | inr other ↦ c.loop-k.invariant i d (omega arith)
]

pub returns-clause-next : goal.returns-clause-next
returns-clause-next c = λ k d lt. c.loop-k.invariant k d (omega arith)

pub returns-in-Falsified-clause-first : goal.returns-in-Falsified-clause-first
returns-in-Falsified-clause-first c = quiet_before c.args.trail.now.entries c.args.clauses.now c.loop-k.k c.loop-k.invariant

pub returns-in-Unit-clause-first : goal.returns-in-Unit-clause-first
returns-in-Unit-clause-first c = quiet_before c.args.trail.now.entries c.args.clauses.now c.loop-k.k c.loop-k.invariant
