use Rattle.std.proofs.Common.{rules, ◌≡◌, ◌<◌, false, List, [], ◌∷◌, length, get_or, Some, None, slice_get, sym, ap, subst, refl, arith, inl, inr}
use Rattle.std.proofs.lemmas.Bool.{cases_lt}
use Rattle.formula.specs.declared.atom.Lit.{Lit}
use Rattle.clause_trail.specs.declared.trail.Entry.{Entry}
use Rattle.clause_trail.specs.Standing.{Stands}
use Rattle.clause_trail.specs.Decisions.{HasDecisionAt}
use Rattle.clause_trail.proofs.Gets.{get-from}
use Rattle.clause_core.proofs.back.settled.Goals as goal

first : Entry
first = record { lit = record { boolean = 0; pos = false }; reason = None }

one_lit : (c : List Lit) (d : Lit) → length c ≡ 1 → c ≡ get_or c 0 d ∷ []
one_lit [] d e = absurd (omega arith)
one_lit (x ∷ []) d e = refl
one_lit (x ∷ y ∷ c) d e = absurd (omega arith)

pub returns-then-place-first_decision : goal.returns-then-place-first_decision
unfolding first
returns-then-place-first_decision c =
    let d : Lit = record { boolean = 0; pos = false } in
    let e : Entry = get_or c.entries-entries.result.now c.in-Some.place first in
    let at : slice_get c.args.trail.now.entries c.in-Some.place ≡ Some e = get-from c.args.trail.now.entries c.in-Some.place first e c.in-Some.ensures.within (ap (λ (l : List Entry). get_or l c.in-Some.place first) (sym c.entries-entries.ensures.value)) in
    let one : length c.args.clause.now ≡ 1 = search rules in
    record {
      lit = get_or c.args.clause.now 0 d;
      is = one_lit c.args.clause.now d one;
      stands = subst (λ (x : Lit). Stands c.args.trail.now.entries c.in-Some.place x) (c.differs.ensures.same c.if-differs.false) (e.reason, at);
      low = λ i h. elim (cases_lt i c.first_decision.result) as (λ _. c.in-Some.place < i) [
        | inl lt ↦ absurd (c.first_decision.ensures.before i lt (subst (λ (x : List Entry). HasDecisionAt x i) (sym c.entries-entries.ensures.value) h))
        | inr ge ↦ omega (arith, ge, c.if-place-first_decision.true)
      ];
    }
