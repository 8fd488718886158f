-- What fits a formula: each variable of the table is one of the tableau.
use Rattle.std.proofs.Common.{◌≡◌, ◌<◌, ℕ, ◌+◌, true, false, List, [], ◌∷◌, length, Option, Some, None, refl, sym, ap, subst, arith, nat_lt}
use Rattle.std.specs.Prelude.{slice_get}
use Rattle.std.proofs.lemmas.Bool.{and_parts}
use Rattle.std.proofs.lemmas.Bool.Decides.{nat_tests}
use Rattle.std.proofs.lemmas.Option.{get_or_from_slice_get}
use Rattle.rational.specs.Linear.{Terms}
use Rattle.lin.specs.Linear.{Linear, AreBelow}
use Rattle.formula.specs.declared.atom.Atom.{Atom}
use Rattle.formula.specs.Atoms.{LeadsWithOne}
use Rattle.formula.specs.Contents.{Contents}
use Rattle.formula.proofs.Readings.{atom_is}
use Rattle.tableau.specs.Table.{Table, width}
use Rattle.simplex_atoms.specs.LeftSides.{is_one_term, row_with, rows_of, variable_of}
use Rattle.simplex_atoms.specs.Tightest.{IsTable}
use Rattle.simplex_atoms.specs.declared.sides.Sides.{Sides}
use Rattle.simplex_clash.proofs.Variables.{has_row}
use Rattle.simplex_clash.proofs.ReadingRows.{has_atom}
use Rattle.simplex_fit.specs.Fit.{IsFit}

is_less : (m n : ℕ) → nat_lt m n ≡ true → m < n
is_less m n e = grind (arith, nat_tests)

variable_below : (vars : ℕ) (rows : List Linear) (ts : Terms) → LeadsWithOne ts → AreBelow vars ts → (is_one_term ts ≡ false → row_with ts rows < length rows) → variable_of vars rows ts < vars + length rows
variable_below vars rows [] lead known found = absurd lead
variable_below vars rows (t ∷ []) lead known found =
    let lt : t.0 < vars = is_less t.0 vars (and_parts (nat_lt t.0 vars) _ known).0 in
    omega arith
variable_below vars rows (t ∷ u ∷ ts) lead known found =
    let lt : row_with (t ∷ u ∷ ts) rows < length rows = found refl in
    omega arith

pub atom_variable : (f : Contents) (sides : List (Option Sides)) (t : Table) → IsFit f sides t → (b : ℕ) (a : Atom) → slice_get f.atoms b ≡ Some (Some a) → variable_of (length f.counts) (rows_of f.atoms) a.lin.terms < width t
atom_variable f sides t fit b a has =
    let atom = atom_is f b a fit.formula (get_or_from_slice_get f.atoms b (Some a) None has) in
    let lt = variable_below (length f.counts) (rows_of f.atoms) a.lin.terms atom.leading atom.known (has_row [] f.atoms b a has) in
    omega (arith, lt, fit.tableau.covers)

pub is_table : (f : Contents) (sides : List (Option Sides)) (t : Table) → IsFit f sides t → IsTable (width t) sides
is_table f sides t fit = record {
  below = λ b s at.
      let h = has_atom f.counts (rows_of f.atoms) f.atoms b s (subst (λ (xs : List (Option Sides)). slice_get xs b ≡ Some (Some s)) fit.sides_are at) in
      let lt = atom_variable f sides t fit b h.atom h.has in
      subst (λ (w : ℕ). w < width t) (sym (ap (λ (x : Sides). x.variable) h.sides)) lt;
}
