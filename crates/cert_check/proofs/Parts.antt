-- Where a clause is taken as false, the false clauses are its parts.
use Rattle.std.proofs.Common.{◌≡◌, ◌⊎◌, inl, inr, Option, Bool, List, [], ◌∷◌, map, sym, ap, subst, ◌∙◌, arith}
use Rattle.std.specs.List.{Contains}
use Rattle.formula.specs.declared.atom.Lit.{Lit}
use Rattle.formula.specs.Reading.{opposite}
use Rattle.theory_law.specs.Licence.{IsPart}
use Rattle.clause_units.specs.Truth.{Tells}
use Rattle.clause_units.specs.Scanning.{IsBroken}
use Rattle.clause_units.proofs.Literals.{opposite-opposite, in_cons, cons_in, cons_same}
use Rattle.clause_units.proofs.Telling.{false_told, told_false}

pub opposite_in : (c : List Lit) (l : Lit) → Contains c l → Contains (map opposite c) (opposite l)
opposite_in [] l h = absurd (omega (arith, h.1))
opposite_in (x ∷ c) l h = by_part (opposite_in c l) (in_cons x l c h)
  where
    by_part : (Contains c l → Contains (map opposite c) (opposite l)) → (x ≡ l) ⊎ Contains c l → Contains (map opposite (x ∷ c)) (opposite l)
    by_part rest (inl e) = subst (λ (y : Lit). Contains (map opposite (x ∷ c)) (opposite y)) e (cons_same (opposite x) (map opposite c))
    by_part rest (inr g) = cons_in (opposite x) (opposite l) (map opposite c) (rest g)

pub in_opposite : (c : List Lit) (l : Lit) → Contains (map opposite c) (opposite l) → Contains c l
in_opposite [] l h = absurd (omega (arith, h.1))
in_opposite (x ∷ c) l h = by_part (in_opposite c l) (in_cons (opposite x) (opposite l) (map opposite c) h)
  where
    by_part : (Contains (map opposite c) (opposite l) → Contains c l) → (opposite x ≡ opposite l) ⊎ Contains (map opposite c) (opposite l) → Contains (x ∷ c) l
    by_part rest (inl e) = subst (λ (y : Lit). Contains (x ∷ c) y) (sym (opposite-opposite x) ∙ ap opposite e ∙ opposite-opposite l) (cons_same x c)
    by_part rest (inr g) = cons_in x l c (rest g)

module _ (table : List (Option Bool)) (c : List Lit) (tells : Tells table (map opposite c)) where
  pub broken_part : (d : List Lit) → IsBroken table d → IsPart d c
  broken_part d h l g = in_opposite c l (false_told table (map opposite c) tells l (h l g))

  pub part_broken : (d : List Lit) → IsPart d c → IsBroken table d
  part_broken d h l g = told_false table (map opposite c) tells l (opposite_in c l (h l g))
