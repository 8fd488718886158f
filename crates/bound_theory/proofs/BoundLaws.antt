-- Atoms of one count are bounds of it.
use Rattle.std.proofs.Common.{◌≡◌, ℕ, Bool, true, false, List, [], ◌∷◌, Option, Some, None, ap, subst, ◌∙◌}
use Rattle.std.specs.Prelude.{slice_get, unwrap_or}
use Rattle.std.proofs.lemmas.Option.{same_Some}
use lib.IntN.{pos}
use Rattle.rational.specs.Fraction.{Fraction, whole}
use Rattle.rational.specs.Linear.{Terms}
use Rattle.lin.specs.Linear.{Linear, var}
use Rattle.lin.specs.Code.{same_linear}
use Rattle.formula.specs.declared.atom.Atom.{Atom}
use Rattle.formula.specs.Atoms.{IsAtom, LeadsWithOne, is_one_count}
use Rattle.theory_law.specs.Splits.{CanSplit, at_most}
use Rattle.bound_theory.specs.Bounds.{IsBound}

-- one term with the coefficient 1
one_term : (counts : List Bool) (ts : Terms) (t : ℕ × Fraction) → is_one_count counts ts ≡ true → LeadsWithOne ts → slice_get ts 0 ≡ Some t → ts ≡ (t.0, whole (pos 1)) ∷ []
one_term counts [] t one leads e = absurd (cc)
one_term counts (u ∷ []) t one leads e =
    let same : u ≡ t = same_Some u t e in
    ap (λ (c : Fraction). (u.0, c) ∷ []) leads ∙ ap (λ (v : ℕ). (v, whole (pos 1)) ∷ []) (ap (λ (w : ℕ × Fraction). w.0) same)
one_term counts (u ∷ w ∷ ts) t one leads e = absurd (cc)

count_is : (counts : List Bool) (v : ℕ) → unwrap_or (slice_get counts v) false ≡ true → slice_get counts v ≡ Some true
count_is counts v h = by_case (slice_get counts v) h
  where
    by_case : (o : Option Bool) → unwrap_or o false ≡ true → o ≡ Some true
    by_case None e = absurd (cc)
    by_case (Some b) e = ap Some e

made : Linear → Bool → Fraction → Atom
made l s b = record { lin = l; strict = s; bound = b }

-- such an atom is a bound
pub bound_is : (counts : List Bool) (a : Atom) (t : ℕ × Fraction) → IsAtom counts a → is_one_count counts a.lin.terms ≡ true → slice_get a.lin.terms 0 ≡ Some t → (a ≡ at_most t.0 a.bound) × CanSplit counts t.0 a.bound
bound_is counts a t atom one e =
    let terms : a.lin.terms ≡ (t.0, whole (pos 1)) ∷ [] = one_term counts a.lin.terms t one atom.leading e in
    let rounded = atom.rounded one in
    let count : unwrap_or (slice_get counts t.0) false ≡ true = subst (λ (ts : Terms). is_one_count counts ts ≡ true) terms one in (
      ap (λ (s : Bool). record { lin = a.lin; strict = s; bound = a.bound }) rounded.weak
          ∙ ap (λ (l : Linear). record { lin = l; strict = false; bound = a.bound }) (same_linear a.lin (var t.0) terms atom.constant),
      record { count = count_is counts t.0 count; integral = rounded.integral; next = rounded.next },
    )

pub is_bound : (counts : List Bool) (atoms : List (Option Atom)) (b : ℕ) (a : Atom) (t : ℕ × Fraction) → slice_get atoms b ≡ Some (Some a) → IsAtom counts a → is_one_count counts a.lin.terms ≡ true → slice_get a.lin.terms 0 ≡ Some t → IsBound counts atoms b (record { var = t.0; most = a.bound })
is_bound counts atoms b a t at atom one e =
    let is = bound_is counts a t atom one e in
    record { at = at ∙ ap (λ (x : Atom). Some (Some x)) is.0; splits = is.1 }
