-- One more atom `v <= k` of a count: it has no row, so the rows of the others stay.
use Rattle.std.proofs.Common.{◌≡◌, ℕ, Bool, true, false, cond, List, [], ◌∷◌, ◌++◌, length, Option, Some, refl, sym, ap, ap₂, subst, ◌∙◌}
use Rattle.std.proofs.lemmas.List.{map-append}
use Rattle.std.specs.Prelude.{slice_get, unwrap_or}
use lib.IntN.{pos}
use Rattle.algebra.proofs.Solve.{v, inv, solve}
use Rattle.rational.specs.Fraction.{Fraction, whole, ◌+ℚ◌, neg_ℚ}
use Rattle.rational.proofs.FieldLaws.{fraction-ring}
use Rattle.lin.specs.Linear.{Linear, var}
use Rattle.lin.specs.Negative.{negative}
use Rattle.formula.specs.declared.atom.Atom.{Atom}
use Rattle.formula.specs.declared.atom.Constraint.{Constraint}
use Rattle.formula.specs.Atoms.{is_one_count}
use Rattle.formula.specs.Contents.{Contents, IsFormula, with_boolean}
use Rattle.tableau.specs.Table.{Table, IsTableauOf}
use Rattle.theory_law.specs.Splits.{at_most}
use Rattle.simplex_atoms.specs.LeftSides.{with_atom, with_atoms, rows_of}
use Rattle.simplex_atoms.specs.Sides.{below, sides_of_atom, sides_where, sides_of}
use Rattle.simplex_atoms.specs.declared.sides.Sides.{Sides}
use Rattle.simplex_fit.specs.Fit.{IsFit}

abbrev split_denied : Bool → ℕ → Fraction → Constraint
split_denied one count bound = cond one (record { lin = negative (var count); strict = false; bound = neg_ℚ (bound +ℚ whole (pos 1)) }) (record { lin = negative (var count); strict = true; bound = neg_ℚ bound })

pub split_sides_are : (counts : List Bool) (rows : List Linear) (count : ℕ) (bound next : Fraction) → slice_get counts count ≡ Some true → next ≡ bound +ℚ whole (pos 1)
    → record { variable = count; upper = record { value = bound; strict = false }; lower = record { value = next; strict = false } } ≡ sides_of_atom counts rows (at_most count bound)
split_sides_are counts rows count bound next is e =
    let one : is_one_count counts ((count, whole (pos 1)) ∷ []) ≡ true = ap (λ (o : Option Bool). unwrap_or o false) is in
    ap (λ (y : Fraction). record { variable = count; upper = record { value = bound; strict = false }; lower = record { value = y; strict = false } }) (e ∙ solve fraction-ring (v 0) (inv (inv (v 0))) ((bound +ℚ whole (pos 1)) ∷ []) refl)
    ∙ ap (λ (b : Bool). record { variable = count; upper = record { value = bound; strict = false }; lower = below (split_denied b count bound) }) (sym one)

with_more : (rows : List Linear) (xs ys : List (Option Atom)) → with_atoms rows (xs ++ ys) ≡ with_atoms (with_atoms rows xs) ys
with_more rows [] ys = refl
with_more rows (x ∷ xs) ys = with_more (with_atom rows x) xs ys

split_rows : (atoms : List (Option Atom)) (count : ℕ) (bound : Fraction) → rows_of (atoms ++ Some (at_most count bound) ∷ []) ≡ rows_of atoms
split_rows atoms count bound = with_more [] atoms (Some (at_most count bound) ∷ [])

pub split_fits : (f : Contents) (sides : List (Option Sides)) (t : Table) (count : ℕ) (bound : Fraction) (s : Sides) → IsFit f sides t → IsFormula (with_boolean (Some (at_most count bound)) f)
    → s ≡ sides_of_atom f.counts (rows_of f.atoms) (at_most count bound) → IsFit (with_boolean (Some (at_most count bound)) f) (sides ++ Some s ∷ []) t
split_fits f sides t count bound s fit is e = record {
  formula = is;
  sides_are =
      ap₂ (λ (xs : List (Option Sides)) (y : Sides). xs ++ Some y ∷ []) fit.sides_are e
      ∙ sym (map-append (sides_where f.counts (rows_of f.atoms)) f.atoms (Some (at_most count bound) ∷ []))
      ∙ ap (λ (rows : List Linear). sides_of f.counts rows (f.atoms ++ Some (at_most count bound) ∷ [])) (sym (split_rows f.atoms count bound));
  tableau = subst (λ (rows : List Linear). IsTableauOf (length f.counts) rows t) (sym (split_rows f.atoms count bound)) fit.tableau;
}
