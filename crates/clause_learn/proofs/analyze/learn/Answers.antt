use Rattle.std.proofs.Common.{◌⊎◌, ◌<◌, ◌≤◌, inl, inr, arith, take, ℕ, length, subst, sym, List, Bool, map}
use Rattle.std.proofs.lemmas.Bool.{cases_lt}
use Rattle.formula.specs.Reading.{opposite}
use Rattle.clause_trail.specs.declared.trail.Entry.{Entry}
use Rattle.clause_learn.specs.inside.Analysis.{IsKept, IsAnalyzed}
use Rattle.clause_trail.proofs.Gets.{get-within}
use Rattle.clause_learn.proofs.Rup.{analyzed, kept_within}
use Rattle.clause_trail.specs.Propagation.{IsComplete}
use Rattle.clause_trail.specs.Decisions.{HasDecisionAt, IsLastDecision, lits_of}
use Rattle.clause_learn.proofs.Licences.{licensed}
use Rattle.clause_learn.proofs.analyze.learn.Goals.{in-Some, in-None}
use Rattle.clause_learn.proofs.analyze.learn.Goals as goal

pub returns-clause-learned : goal.returns-clause-learned
returns-clause-learned c =
    let m = c.in_ok-marks.ensures.marked in
    let f = c.requires.conflict in
    let k1 = subst (λ (x : List Bool). IsKept c.args.trail.now.entries x c.as_slice-3.result.now c.in_ok-lits.lits.items) c.as_slice-2.ensures.value c.in_ok-lits.ensures.kept in
    let k2 = subst (λ (x : List Bool). IsKept c.args.trail.now.entries c.in_ok-marks.marks.marked.items x c.in_ok-lits.lits.items) c.as_slice-3.ensures.value k1 in
    let a = analyzed c.args.clauses.now c.args.trail.now.entries c.in_ok-marks.marks.marked.items c.in_ok-marks.marks.resolved.items c.args.conflict c.in_ok-lits.lits.items f.0 f.1 (m.all_marked f.0 f.1) m.closed c.entries-entries.ensures.apart k2 m.resolves in
    let a1 = subst (λ (x : List Entry). IsAnalyzed c.args.clauses.now x c.in_ok-marks.marks.marked.items c.in_ok-marks.marks.resolved.items c.args.conflict (map opposite c.in_ok-lits.lits.items)) (sym c.entries-entries.ensures.value) a in
    let a2 = subst (λ (x : List Bool). IsAnalyzed c.args.clauses.now c.entries-entries.result.now c.in_ok-marks.marks.marked.items x c.args.conflict (map opposite c.in_ok-lits.lits.items)) (sym c.as_slice-4.ensures.value) a1 in
    c.in_ok-hints.ensures c.args.clauses.now c.in_ok-marks.marks.marked.items (map opposite c.in_ok-lits.lits.items) a2

pub returns-clause-within : goal.returns-clause-within
returns-clause-within c = kept_within c.args.trail.now.booleans c.args.trail.now.entries c.as_slice-2.result.now c.as_slice-3.result.now c.in_ok-lits.lits.items c.requires.below c.in_ok-lits.ensures.kept

pub resolve-requires-clause-base : goal.resolve-requires-clause-base
resolve-requires-clause-base c = subst (λ (x : List Entry). (i : ℕ) → i < c.first_decision-base.result → HasDecisionAt x i → ⊥) c.entries-entries.ensures.value c.first_decision-base.ensures.before

pub resolve-requires-clause-from : goal.resolve-requires-clause-from
resolve-requires-clause-from c =
    elim c.match-last_decision.branch [
      | in-Some w ↦ λ i lt d. (subst (λ (x : List Entry). IsLastDecision x w.in-Some.place) c.entries-entries.ensures.value w.in-Some.ensures).1 i (omega (arith, lt, w.from-is)) d
      | in-None w ↦ λ i lt d. (subst (λ (x : List Entry). (j : ℕ) → HasDecisionAt x j → ⊥) c.entries-entries.ensures.value w.in-None.ensures) i d
    ]

pub returns-clause-licensed : goal.returns-clause-licensed
returns-clause-licensed c =
    let entries = c.args.trail.now.entries in
    let m = c.in_ok-marks.ensures in
    let k1 = subst (λ (x : List Bool). IsKept c.args.trail.now.entries x c.as_slice-3.result.now c.in_ok-lits.lits.items) c.as_slice-2.ensures.value c.in_ok-lits.ensures.kept in
    let k2 = subst (λ (x : List Bool). IsKept c.args.trail.now.entries c.in_ok-marks.marks.marked.items x c.in_ok-lits.lits.items) c.as_slice-3.ensures.value k1 in
    let start : IsComplete c.args.clauses.now (lits_of (take c.match-last_decision.from entries)) ⊎ (length entries ≤ c.first_decision-base.result) = elim c.match-last_decision.branch [
      | in-Some w ↦
          let last = subst (λ (x : List Entry). IsLastDecision x w.in-Some.place) c.entries-entries.ensures.value w.in-Some.ensures in
          inl (subst (λ (n : ℕ). IsComplete c.args.clauses.now (lits_of (take n entries))) (sym w.from-is) (c.requires.complete w.in-Some.place last.0))
      | in-None w ↦
          let none = subst (λ (x : List Entry). (j : ℕ) → HasDecisionAt x j → ⊥) c.entries-entries.ensures.value w.in-None.ensures in
          let here = subst (λ (x : List Entry). c.first_decision-base.result < length x → HasDecisionAt x c.first_decision-base.result) c.entries-entries.ensures.value c.first_decision-base.ensures.here in
          inr (elim (cases_lt c.first_decision-base.result (length entries)) as (λ _. length entries ≤ c.first_decision-base.result) [ inl lt ↦ absurd (none c.first_decision-base.result (here lt)) | inr le ↦ omega arith ])
    ] in
    licensed c.args.clauses.now entries c.in_ok-marks.marks.marked.items c.in_ok-marks.marks.resolved.items c.in_ok-lits.lits.items c.first_decision-base.result c.match-last_decision.from c.entries-entries.ensures.apart k2 m.one start c.requires.none

pub resolve-requires-clause-within : goal.resolve-requires-clause-within
resolve-requires-clause-within c =
    elim c.match-last_decision.branch [
      | in-Some w ↦
          let last = subst (λ (x : List Entry). IsLastDecision x w.in-Some.place) c.entries-entries.ensures.value w.in-Some.ensures in
          let lt = get-within c.args.trail.now.entries w.in-Some.place _ last.0.1 in
          omega (arith, lt, w.from-is)
      | in-None w ↦ omega (arith, w.from-is)
    ]

pub learn_fixed-requires-clause-start : goal.learn_fixed-requires-clause-start
learn_fixed-requires-clause-start c = λ i le d.
    let fixed = c.in-Some-first_fixed.ensures in
    c.first_decision-base.ensures.before i (omega (arith, le, fixed.low)) (subst (λ (x : List Entry). HasDecisionAt x i) (sym c.entries-entries.ensures.value) d)
