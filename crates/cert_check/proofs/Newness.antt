-- Whether a clause that is taken as false contains an earlier one: it then contains the literal under which that one stands.
use Rattle.std.proofs.Common.{◌≡◌, ◌⊎◌, inl, inr, ◌↔◌, ℕ, ◌<◌, ◌≤◌, ◌+◌, Option, Bool, true, false, Some, List, [], ◌∷◌, length, map, get_or, refl, sym, ap, subst, ◌∙◌, arith}
use Rattle.std.specs.Prelude.{slice_get, IsTrue}
use Rattle.std.specs.List.{Contains}
use Rattle.std.proofs.lemmas.Bool.{cases_eq}
use Rattle.std.proofs.lemmas.Option.{slice_get-get_or, slice_get_within, get_or_from_slice_get}
use Rattle.formula.specs.declared.atom.Lit.{Lit}
use Rattle.formula.specs.Reading.{opposite}
use Rattle.theory_law.specs.Licence.{IsPart, IsNew}
use Rattle.clause_units.specs.Truth.{Tells}
use Rattle.clause_units.specs.Scanning.{IsBroken}
use Rattle.clause_units.proofs.Scans.{any_default}
use Rattle.clause_index.specs.Places.{Places, listed, IsListed}
use Rattle.cert_check.specs.inside.Indexed.{IsIndexed, HasBroken}
use Rattle.cert_check.proofs.Parts.{broken_part, part_broken}

-- the clause of a number is among the clauses
pub among : {A : Type 0} (xs : List A) (n : ℕ) (x : A) → slice_get xs n ≡ Some x → Contains xs x
among xs n x e = (n, slice_get_within xs n x e, get_or_from_slice_get xs n x x e)

-- none of the literals before the place leads to a false clause
abbrev pub NoneBefore : List (Option Bool) → List (List Lit) → Places → List Lit → ℕ → Type 0
NoneBefore table clauses index lits n = (k : ℕ) (x : Lit) → k < n → HasBroken table clauses (listed index (get_or lits k x)) → ⊥

pub none_more : (table : List (Option Bool)) (clauses : List (List Lit)) (index : Places) (lits : List Lit) (n : ℕ) (e : Lit) → NoneBefore table clauses index lits n → n < length lits
    → (HasBroken table clauses (listed index (get_or lits n e)) → ⊥) → NoneBefore table clauses index lits (n + 1)
none_more table clauses index lits n e none lt here k x less broken = by_place (cases_eq k n)
  where
    by_place : (k ≡ n) ⊎ (k ≡ n → ⊥) → ⊥
    by_place (inl same) = here (subst (λ (y : Lit). HasBroken table clauses (listed index y)) (ap (λ (i : ℕ). get_or lits i x) same ∙ any_default lits n x e lt) broken)
    by_place (inr other) = none k x (omega arith) broken

pub none_below : (table : List (Option Bool)) (clauses : List (List Lit)) (index : Places) (lits : List Lit) (n : ℕ) → NoneBefore table clauses index lits n → length lits ≤ n → NoneBefore table clauses index lits (length lits)
none_below table clauses index lits n none le k x less = none k x (omega (arith, less, le))

-- what was asked of the denied clause, as it is named
pub new_is : (table : List (Option Bool)) (clauses all : List (List Lit)) (lits again c : List Lit) (r : Bool) → clauses ≡ all → lits ≡ c → again ≡ c
    → (Tells table (map opposite again) → IsTrue r ↔ IsNew clauses again) → Tells table (map opposite lits) → IsTrue r ↔ IsNew all c
new_is table clauses all lits again c r e g h says tells =
    subst (λ (xs : List (List Lit)). IsTrue r ↔ IsNew xs c) e (subst (λ (x : List Lit). IsTrue r ↔ IsNew clauses x) h (says (subst (λ (x : List Lit). Tells table (map opposite x)) (g ∙ sym h) tells)))

module _ (table : List (Option Bool)) (clauses : List (List Lit)) (index : Places) (lits : List Lit) (indexed : IsIndexed clauses index) where
  pub empty_not_new : index.empty ≡ true → IsNew clauses lits → ⊥
  empty_not_new e new = new [] (indexed.flag.0 e) (λ l c. absurd (omega (arith, c.1)))

  module _ (tells : Tells table (map opposite lits)) where
    pub broken_not_new : (numbers : List ℕ) → HasBroken table clauses numbers → IsNew clauses lits → ⊥
    broken_not_new numbers h new = new h.1 (among clauses h.0 h.1 h.3) (broken_part table lits tells h.1 h.4)

    pub none_is_new : index.empty ≡ false → NoneBefore table clauses index lits (length lits) → IsNew clauses lits
    none_is_new e none [] has part = let t = indexed.flag.1 has in absurd (cc)
    none_is_new e none (l ∷ ls) has part =
        let d : List Lit = l ∷ ls in
        let at : slice_get clauses has.0 ≡ Some d = slice_get-get_or clauses has.0 d has.1 ∙ ap (λ (x : List Lit). Some x) has.2 in
        let under = indexed.listed has.0 d at in
        let own : Contains lits under.0 = part under.0 under.1 in
        none own.0 under.0 own.1 (has.0, d, subst (λ (m : Lit). Contains (listed index m) has.0) (sym own.2) under.2, at, part_broken table lits tells d part)
