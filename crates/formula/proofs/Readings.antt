-- What the code of a reading needs: the next whole number, one count alone, and the order of a value and its bound.
use Rattle.std.proofs.Common.{◌≡◌, ◌≢◌, ◌<◌, ◌↔◌, ℕ, zero, suc, ◌^◌, Bool, true, false, not, List, [], ◌∷◌, length, get_or, Option, Some, None, refl, sym, ap, subst, ◌∙◌, arith, nat_lt}
use Rattle.std.specs.Prelude.{IsTrue, slice_get, IsSome}
use Rattle.std.specs.List.{AllByRecursion}
use Rattle.std.proofs.lemmas.List.Elements.{recursion_from_All}
use Rattle.std.proofs.lemmas.Option.{get_or_from_slice_get, unwrap_or-slice_get}
use Rattle.std.proofs.lemmas.Bool.{and_parts}
use Rattle.std.proofs.lemmas.Bool.Decides.{nat_tests}
use lib.IntN.{pos, nat_abs, ◌+ℤ◌}
use Rattle.rational.specs.Fraction.{Fraction, whole, quotient, ◌+ℚ◌, ◌≤ℚ◌, ◌<ℚ◌}
use Rattle.rational.specs.Floor.{IsWhole}
use Rattle.rational.specs.Linear.{Terms}
use Rattle.rational.specs.Farkas.{InOrder}
use Rattle.rational.proofs.FieldLaws.{same_parts, whole-add, quotient-itself}
use Rattle.rational.proofs.OrderLaws.{≤ℚ_refl, <ℚ-weaken, <ℚ_irrefl, ≤ℚ-<ℚ_trans}
use Rattle.frac128.specs.Bounds.{IsFrac}
use Rattle.lin.specs.Linear.{AreBelow}
use Rattle.formula.specs.declared.atom.Atom.{Atom}
use Rattle.formula.specs.Atoms.{IsAtom, is_one_count}
use Rattle.formula.specs.Contents.{Contents, IsFormula, IsBoolean}
use Rattle.formula.specs.Reading.{atom_of}

-- ---- the next whole number
next_whole : (k : Fraction) → IsWhole k → whole (k.num +ℤ pos 1) ≡ k +ℚ whole (pos 1)
next_whole k h = whole-add k.num (pos 1) ∙ ap (λ (x : Fraction). x +ℚ whole (pos 1)) (sym (same_parts k (whole k.num) refl h))

pub successor_is : (k : Fraction) → IsWhole k → quotient (k.num +ℤ pos 1) 1 ≡ k +ℚ whole (pos 1)
successor_is k h = quotient-itself (whole (k.num +ℤ pos 1)) ∙ next_whole k h

pub successor_within : (k : Fraction) → IsWhole k → IsFrac (k +ℚ whole (pos 1)) → nat_abs (k.num +ℤ pos 1) < 2 ^ 127
successor_within k h f = subst (λ (x : Fraction). nat_abs x.num < 2 ^ 127) (sym (next_whole k h)) f.num

-- ---- the order of a value and its bound
pub less_in_order : (strict : Bool) (x y : Fraction) → x <ℚ y → InOrder strict x y
less_in_order true x y h = h
less_in_order false x y h = <ℚ-weaken x y h

pub equal_in_order : (strict : Bool) (x y : Fraction) → x ≡ y → IsTrue (not strict) ↔ InOrder strict x y
equal_in_order true x y e = ((λ h. absurd (cc)), λ h. absurd (<ℚ_irrefl y (subst (λ (z : Fraction). z <ℚ y) e h)))
equal_in_order false x y e = ((λ h. subst (λ (z : Fraction). x ≤ℚ z) e (≤ℚ_refl x)), λ h. refl)

pub greater_in_order : (strict : Bool) (x y : Fraction) → y <ℚ x → InOrder strict x y → ⊥
greater_in_order true x y h g = <ℚ_irrefl x (≤ℚ-<ℚ_trans _ _ _ (<ℚ-weaken x y g) h)
greater_in_order false x y h g = <ℚ_irrefl x (≤ℚ-<ℚ_trans _ _ _ g h)

-- ---- atoms of a formula
atom_at : (counts : List Bool) (xs : List (Option Atom)) (b : ℕ) (a : Atom) → AllByRecursion (IsBoolean counts) xs → get_or xs b None ≡ Some a → IsAtom counts a
atom_at counts [] b a h e = absurd (cc)
atom_at counts (x ∷ xs) zero a h e = let P : Option Atom → Type 0 = IsBoolean counts in subst P e h.0
atom_at counts (x ∷ xs) (suc b) a h e = atom_at counts xs b a h.1 e

within_at : (xs : List (Option Atom)) (b : ℕ) (a : Atom) → get_or xs b None ≡ Some a → b < length xs
within_at [] b a e = absurd (cc)
within_at (x ∷ xs) zero a e = omega arith
within_at (x ∷ xs) (suc b) a e = let h = within_at xs b a e in omega arith

pub atom_is : (f : Contents) (b : ℕ) (a : Atom) → IsFormula f → atom_of f b ≡ Some a → IsAtom f.counts a
atom_is f b a h e = atom_at f.counts f.atoms b a (recursion_from_All (IsBoolean f.counts) f.atoms h.atoms) e

-- a literal of an atom is of a Boolean of the formula
pub of_atom_within : (f : Contents) (b : ℕ) → IsSome (atom_of f b) → b < length f.atoms
of_atom_within f b h = by_case (atom_of f b) refl h
  where
    by_case : (o : Option Atom) → atom_of f b ≡ o → IsSome o → b < length f.atoms
    by_case None e h = absurd (cc)
    by_case (Some a) e h = within_at f.atoms b a e

pub read_atom : (f : Contents) (b : ℕ) (o : Option Atom) → slice_get f.atoms b ≡ Some o → atom_of f b ≡ o
read_atom f b o e = get_or_from_slice_get f.atoms b o None e

-- ---- one count alone
pub not_one : (counts : List Bool) (ts : Terms) → length ts ≢ 1 → is_one_count counts ts ≡ false
not_one counts [] e = refl
not_one counts (t ∷ []) e = absurd (e (omega arith))
not_one counts (t ∷ u ∷ ts) e = refl

pub one_count : (counts : List Bool) (ts : Terms) (t : ℕ × Fraction) → length ts ≡ 1 → slice_get ts 0 ≡ Some t → get_or counts t.0 false ≡ is_one_count counts ts
one_count counts [] t e f = absurd (omega arith)
one_count counts (u ∷ []) t e f =
    let g : u ≡ t = get_or_from_slice_get (u ∷ []) 0 t u f in
    ap (λ (w : ℕ × Fraction). get_or counts w.0 false) (sym g) ∙ sym (unwrap_or-slice_get counts u.0 false)
one_count counts (u ∷ w ∷ ts) t e f = absurd (omega arith)

pub first_below : (n : ℕ) (ts : Terms) (t : ℕ × Fraction) → AreBelow n ts → slice_get ts 0 ≡ Some t → t.0 < n
first_below n [] t h e = absurd (cc)
first_below n (u ∷ us) t h e =
    let g : u ≡ t = get_or_from_slice_get (u ∷ us) 0 t u e in
    subst (λ (w : ℕ × Fraction). w.0 < n) g (is_less u.0 n (and_parts (nat_lt u.0 n) _ h).0)
  where
    is_less : (a b : ℕ) → nat_lt a b ≡ true → a < b
    is_less a b e = grind (arith, nat_tests)
