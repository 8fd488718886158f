-- A copy of a formula, as far as it has come; atoms of one count are bounds of it.
use Rattle.std.proofs.Common.{◌≡◌, ℕ, ◌+◌, Bool, true, false, cond, List, [], ◌∷◌, ◌++◌, length, take, Option, Some, None, sym, ap, subst, ◌∙◌}
use Rattle.std.specs.Prelude.{slice_get, unwrap_or}
use Rattle.std.specs.Option.{is_some}
use Rattle.std.proofs.lemmas.Option.{same_Some}
use lib.IntN.{pos}
use Rattle.rational.specs.Fraction.{Fraction, whole}
use Rattle.rational.specs.Linear.{Terms}
use Rattle.lin.specs.Linear.{Linear, var}
use Rattle.lin.specs.Code.{same_linear}
use Rattle.formula.specs.declared.atom.Atom.{Atom}
use Rattle.formula.specs.Atoms.{IsAtom, LeadsWithOne, is_one_count}
use Rattle.formula.specs.Contents.{Contents, with_boolean}
use Rattle.formula.specs.Equal.{boolean_of, with_atom}
use Rattle.theory_law.specs.Splits.{CanSplit, at_most}
use Rattle.theory_law.proofs.Fronts.{take_get}

-- one term with the coefficient 1
one_term : (counts : List Bool) (ts : Terms) (t : ℕ × Fraction) → is_one_count counts ts ≡ true → LeadsWithOne ts → slice_get ts 0 ≡ Some t → ts ≡ (t.0, whole (pos 1)) ∷ []
one_term counts [] t one leads e = absurd (cc)
one_term counts (u ∷ []) t one leads e =
    let same : u ≡ t = same_Some u t e in
    ap (λ (c : Fraction). (u.0, c) ∷ []) leads ∙ ap (λ (w : ℕ). (w, whole (pos 1)) ∷ []) (ap (λ (w : ℕ × Fraction). w.0) same)
one_term counts (u ∷ w ∷ ts) t one leads e = absurd (cc)

count_is : (counts : List Bool) (n : ℕ) → unwrap_or (slice_get counts n) false ≡ true → slice_get counts n ≡ Some true
count_is counts n h = by_case (slice_get counts n) h
  where
    by_case : (o : Option Bool) → unwrap_or o false ≡ true → o ≡ Some true
    by_case None e = absurd (cc)
    by_case (Some b) e = ap Some e

pub one_count_is : (counts : List Bool) (a : Atom) (t : ℕ × Fraction) → IsAtom counts a → is_one_count counts a.lin.terms ≡ true → slice_get a.lin.terms 0 ≡ Some t → (a ≡ at_most t.0 a.bound) × CanSplit counts t.0 a.bound
one_count_is counts a t atom one e =
    let terms : a.lin.terms ≡ (t.0, whole (pos 1)) ∷ [] = one_term counts a.lin.terms t one atom.leading e in
    let rounded = atom.rounded one in
    let count : unwrap_or (slice_get counts t.0) false ≡ true = subst (λ (ts : Terms). is_one_count counts ts ≡ true) terms one in (
      ap (λ (s : Bool). record { lin = a.lin; strict = s; bound = a.bound }) rounded.weak
          ∙ ap (λ (l : Linear). record { lin = l; strict = false; bound = a.bound }) (same_linear a.lin (var t.0) terms atom.constant),
      record { count = count_is counts t.0 count; integral = rounded.integral; next = rounded.next },
    )

-- an atom that makes one more Boolean
pub added_is : (f g : Contents) (a : Atom) → g ≡ with_atom a f → (length g.atoms ≡ length f.atoms → ⊥) → g ≡ with_boolean (Some a) f
added_is f g a e more = by_place (is_some (boolean_of a f.atoms)) e
  where
    by_place : (b : Bool) → g ≡ cond b f (with_boolean (Some a) f) → g ≡ with_boolean (Some a) f
    by_place true d = absurd (more (ap (λ (x : Contents). length x.atoms) d))
    by_place false d = d

pub atoms_next : (all atoms : List (Option Atom)) (n : ℕ) (o : Option Atom) → atoms ≡ take n all → slice_get all n ≡ Some o → atoms ++ o ∷ [] ≡ take (n + 1) all
atoms_next all atoms n o e at = ap (λ (xs : List (Option Atom)). xs ++ o ∷ []) e ∙ sym (take_get all n o at)
