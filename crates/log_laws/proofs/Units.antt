-- A clause that follows by units is true where the clauses that its hints name are.
use Rattle.std.proofs.Common.{◌≡◌, ℕ, zero, suc, ◌<◌, Bool, true, false, not, ◌||◌, cond, List, [], ◌∷◌, map, length, Some, refl, sym, ap, subst, ◌∙◌, arith}
use Rattle.std.specs.Prelude.{slice_get}
use Rattle.std.specs.List.{Contains, list_any, list_all}
use Rattle.std.proofs.lemmas.Bool.{and_parts}
use Rattle.std.proofs.lemmas.Option.{same_Some}
use Rattle.formula.specs.declared.atom.Lit.{Lit}
use Rattle.formula.specs.Meets.{truth_at, is_true, are_met}
use Rattle.formula.specs.Reading.{opposite}
use Rattle.theory_law.specs.Units.{IsFalse, IsUnit, Follows}

-- the clause has a true literal
abbrev pub clause_true : List Bool → List Lit → Bool
clause_true truth c = list_any (is_true truth) c

or_false : (a b : Bool) → (a || b) ≡ false → (a ≡ false) × (b ≡ false)
or_false true b h = absurd (cc)
or_false false b h = (refl, h)

not_false : (b : Bool) → (b ≡ false → ⊥) → b ≡ true
not_false true h = refl
not_false false h = absurd (h refl)

-- a clause that is true has a literal that is true
true_in : (truth : List Bool) (c : List Lit) → clause_true truth c ≡ true → (m : Lit) × Contains c m × (is_true truth m ≡ true)
true_in truth [] h = absurd (cc)
true_in truth (l ∷ c) h = by_first (is_true truth l) refl h (true_in truth c)
  where
    by_first : (b : Bool) → is_true truth l ≡ b → (b || clause_true truth c) ≡ true → (clause_true truth c ≡ true → (m : Lit) × Contains c m × (is_true truth m ≡ true))
        → (m : Lit) × Contains (l ∷ c) m × (is_true truth m ≡ true)
    by_first true e h rest = (l, (0, omega arith, refl), e)
    by_first false e h rest = let r = rest h in (r.0, (suc r.1.0, omega (arith, r.1.1), r.1.2), r.2)

not_both : (truth : List Bool) (l : Lit) → is_true truth (opposite l) ≡ true → is_true truth l ≡ true → ⊥
not_both truth l a b = by_sign l.pos (truth_at truth l.boolean) a b
  where
    by_sign : (s t : Bool) → cond (not s) t (not t) ≡ true → cond s t (not t) ≡ true → ⊥
    by_sign true true a b = absurd (cc)
    by_sign true false a b = absurd (cc)
    by_sign false true a b = absurd (cc)
    by_sign false false a b = absurd (cc)

abbrev AreTrue : List Bool → List Lit → Type 0
AreTrue truth ls = (l : Lit) → Contains ls l → is_true truth l ≡ true

pub clause_at : (truth : List Bool) (clauses : List (List Lit)) → are_met truth clauses ≡ true → (h : ℕ) (c : List Lit) → slice_get clauses h ≡ Some c → clause_true truth c ≡ true
clause_at truth [] all h c e = absurd (cc)
clause_at truth (d ∷ clauses) all zero c e = subst (λ (x : List Lit). clause_true truth x ≡ true) (same_Some _ _ e) (and_parts (clause_true truth d) (are_met truth clauses) all).0
clause_at truth (d ∷ clauses) all (suc h) c e = clause_at truth clauses (and_parts (clause_true truth d) (are_met truth clauses) all).1 h c e

cons_true : (truth : List Bool) (trues : List Lit) (l : Lit) → is_true truth l ≡ true → AreTrue truth trues → AreTrue truth (l ∷ trues)
cons_true truth trues l h all m (zero, less, e) = subst (λ (x : Lit). is_true truth x ≡ true) e h
cons_true truth trues l h all m (suc j, less, e) = all m (j, omega arith, e)

unit_true : (truth : List Bool) (trues c : List Lit) (l : Lit) → AreTrue truth trues → clause_true truth c ≡ true → IsUnit trues c l → is_true truth l ≡ true
unit_true truth trues c l all h u = let found = true_in truth c h in by_truth (is_true truth l) refl found.0 found.1 found.2
  where
    by_truth : (b : Bool) → is_true truth l ≡ b → (m : Lit) → Contains c m → is_true truth m ≡ true → b ≡ true
    by_truth true e m there t = refl
    by_truth false e m there t = absurd (not_both truth m (all (opposite m) (u.others m there (λ (same : m ≡ l). let f : true ≡ false = sym t ∙ ap (is_true truth) same ∙ e in cc))) t)

none_follows : (truth : List Bool) (clauses : List (List Lit)) → are_met truth clauses ≡ true → (hints : List ℕ) (trues : List Lit) → AreTrue truth trues → Follows clauses trues hints → ⊥
none_follows truth clauses h [] trues all f = f
none_follows truth clauses h (i ∷ []) trues all f =
    let found = true_in truth f.0 (clause_at truth clauses h i f.0 f.1) in
    not_both truth found.0 (all (opposite found.0) (f.2 found.0 found.1)) found.2
none_follows truth clauses h (i ∷ j ∷ hints) trues all f =
    none_follows truth clauses h (j ∷ hints) (f.2 ∷ trues) (cons_true truth trues f.2 (unit_true truth trues f.0 f.2 all (clause_at truth clauses h i f.0 f.1) f.3) all) f.4

opposite_true : (truth : List Bool) (l : Lit) → is_true truth l ≡ false → is_true truth (opposite l) ≡ true
opposite_true truth l h = by_sign l.pos (truth_at truth l.boolean) h
  where
    by_sign : (s t : Bool) → cond s t (not t) ≡ false → cond (not s) t (not t) ≡ true
    by_sign true true h = absurd (cc)
    by_sign true false h = refl
    by_sign false true h = refl
    by_sign false false h = absurd (cc)

opposites_true : (truth : List Bool) (c : List Lit) → clause_true truth c ≡ false → AreTrue truth (map opposite c)
opposites_true truth [] h = λ m there. absurd (omega (arith, there.1))
opposites_true truth (l ∷ c) h =
    let parts = or_false (is_true truth l) (clause_true truth c) h in
    cons_true truth (map opposite c) (opposite l) (opposite_true truth l parts.0) (opposites_true truth c parts.1)

pub learned_true : (truth : List Bool) (clauses : List (List Lit)) → are_met truth clauses ≡ true → (c : List Lit) (hints : List ℕ) → Follows clauses (map opposite c) hints → clause_true truth c ≡ true
learned_true truth clauses h c hints f = not_false _ (λ e. none_follows truth clauses h hints (map opposite c) (opposites_true truth c e) f)

-- the empty clause isn't true
pub none_empty : (truth : List Bool) (clauses : List (List Lit)) → are_met truth clauses ≡ true → Contains clauses [] → ⊥
none_empty truth [] all (j, less, e) = absurd (omega arith)
none_empty truth (c ∷ clauses) all (zero, less, e) =
    let h : clause_true truth [] ≡ true = subst (λ (x : List Lit). clause_true truth x ≡ true) e (and_parts (clause_true truth c) (are_met truth clauses) all).0 in
    absurd (cc)
none_empty truth (c ∷ clauses) all (suc j, less, e) = none_empty truth clauses (and_parts (clause_true truth c) (are_met truth clauses) all).1 (j, omega arith, e)
