-- Rows that are found, and the variables of left sides.
use Rattle.std.proofs.Common.{◌≡◌, ◌<◌, ◌≤◌, ℕ, suc, ◌+◌, Bool, true, false, cond, ◌||◌, List, [], ◌∷◌, ◌++◌, length, drop, get_or, Option, Some, refl, sym, ap, ◌∙◌, arith, nat_lt}
use Rattle.std.specs.Prelude.{slice_get}
use Rattle.std.proofs.lemmas.List.{drop_more, drop_all}
use Rattle.std.proofs.lemmas.Bool.Decides.{nat_tests}
use Rattle.std.proofs.lemmas.Option.{same_Some}
use Rattle.rational.specs.Fraction.{Fraction}
use Rattle.rational.specs.Linear.{Terms}
use Rattle.lin.specs.Linear.{Linear}
use Rattle.formula.specs.Equal.{same_terms}
use Rattle.formula.specs.declared.atom.Atom.{Atom}
use Rattle.simplex_atoms.specs.LeftSides.{is_one_term, row_with, with_side, with_atom, with_atoms, variable_of}

pub row_with-most : (ts : Terms) (rows : List Linear) → row_with ts rows ≤ length rows
row_with-most ts [] = omega arith
row_with-most ts (l ∷ rows) = by_test (same_terms l.terms ts) (row_with-most ts rows)
  where
    by_test : (b : Bool) → row_with ts rows ≤ length rows → cond b 0 (suc (row_with ts rows)) ≤ length (l ∷ rows)
    by_test true h = omega arith
    by_test false h = omega arith

pub found : (ts : Terms) (rows : List Linear) (i : ℕ) (l : Linear) → row_with ts rows ≡ i + row_with ts (drop i rows) → i < length rows → l ≡ get_or rows i l → same_terms l.terms ts ≡ true → i ≡ row_with ts rows
found ts rows i l h lt is e =
    let d : drop i rows ≡ get_or rows i l ∷ drop (i + 1) rows = drop_more rows i l lt in
    let g : row_with ts (drop i rows) ≡ 0 =
    ap (row_with ts) (d ∙ ap (λ (m : Linear). m ∷ drop (i + 1) rows) (sym is)) ∙ ap (λ (b : Bool). cond b 0 (suc (row_with ts (drop (i + 1) rows)))) e in
    omega arith

pub not_found : (ts : Terms) (rows : List Linear) (i : ℕ) (l : Linear) → row_with ts rows ≡ i + row_with ts (drop i rows) → i < length rows → l ≡ get_or rows i l → same_terms l.terms ts ≡ false → row_with ts rows ≡ (i + 1) + row_with ts (drop (i + 1) rows)
not_found ts rows i l h lt is e =
    let d : drop i rows ≡ get_or rows i l ∷ drop (i + 1) rows = drop_more rows i l lt in
    let g : row_with ts (drop i rows) ≡ suc (row_with ts (drop (i + 1) rows)) =
    ap (row_with ts) (d ∙ ap (λ (m : Linear). m ∷ drop (i + 1) rows) (sym is)) ∙ ap (λ (b : Bool). cond b 0 (suc (row_with ts (drop (i + 1) rows)))) e in
    omega arith

pub none_found : (ts : Terms) (rows : List Linear) (i : ℕ) → row_with ts rows ≡ i + row_with ts (drop i rows) → length rows ≤ i → i ≤ length rows → length rows ≡ row_with ts rows
none_found ts rows i h le le' =
    let d : row_with ts (drop i rows) ≡ 0 = ap (row_with ts) (drop_all i rows le) in
    omega arith

-- ---- one variable
pub one_term : (ts : Terms) (b : Bool) → (b ≡ true → length ts ≡ 1) → (b ≡ false → length ts ≡ 1 → ⊥) → b ≡ is_one_term ts
one_term [] true h g = absurd (omega (arith, h refl))
one_term [] false h g = refl
one_term (t ∷ []) true h g = refl
one_term (t ∷ []) false h g = absurd (g refl (omega arith))
one_term (t ∷ u ∷ ts) true h g = absurd (omega (arith, h refl))
one_term (t ∷ u ∷ ts) false h g = refl

pub variable-one : (vars : ℕ) (rows : List Linear) (ts : Terms) (t : ℕ × Fraction) → is_one_term ts ≡ true → slice_get ts 0 ≡ Some t → t.0 ≡ variable_of vars rows ts
variable-one vars rows [] t h e = absurd (cc)
variable-one vars rows (u ∷ []) t h e = ap (λ (w : ℕ × Fraction). w.0) (sym (same_Some u t e))
variable-one vars rows (u ∷ w ∷ ts) t h e = absurd (cc)

pub variable-row : (vars : ℕ) (rows : List Linear) (ts : Terms) → is_one_term ts ≡ false → vars + row_with ts rows ≡ variable_of vars rows ts
variable-row vars rows [] h = refl
variable-row vars rows (u ∷ []) h = absurd (cc)
variable-row vars rows (u ∷ w ∷ ts) h = refl

pub one_is_some : (ts : Terms) → is_one_term ts ≡ true → 0 < length ts
one_is_some [] h = absurd (cc)
one_is_some (t ∷ ts) h = omega arith

-- ---- one more row
pub side-one : (rows : List Linear) (l : Linear) → is_one_term l.terms ≡ true → rows ≡ with_side rows l
side-one rows l e = sym (ap (λ (b : Bool). cond (b || nat_lt (row_with l.terms rows) (length rows)) rows (rows ++ l ∷ [])) e)

is_less : (m n : ℕ) → m < n → nat_lt m n ≡ true
is_less m n h = grind (arith, nat_tests)

isnt_less : (m n : ℕ) → n ≤ m → nat_lt m n ≡ false
isnt_less m n h = grind (arith, nat_tests)

pub side-known : (rows : List Linear) (l : Linear) → is_one_term l.terms ≡ false → row_with l.terms rows < length rows → rows ≡ with_side rows l
side-known rows l e h =
    sym (ap (λ (b : Bool). cond (b || nat_lt (row_with l.terms rows) (length rows)) rows (rows ++ l ∷ [])) e ∙ ap (λ (b : Bool). cond b rows (rows ++ l ∷ [])) (is_less _ _ h))

pub side-new : (rows : List Linear) (l : Linear) → is_one_term l.terms ≡ false → length rows ≤ row_with l.terms rows → rows ++ l ∷ [] ≡ with_side rows l
side-new rows l e h =
    sym (ap (λ (b : Bool). cond (b || nat_lt (row_with l.terms rows) (length rows)) rows (rows ++ l ∷ [])) e ∙ ap (λ (b : Bool). cond b rows (rows ++ l ∷ [])) (isnt_less _ _ h))

pub next_atom : (rows more : List Linear) (atoms : List (Option Atom)) (i : ℕ) (a : Option Atom) (all : List Linear) → with_atoms rows (drop i atoms) ≡ all → i < length atoms → a ≡ get_or atoms i a → more ≡ with_atom rows a → with_atoms more (drop (i + 1) atoms) ≡ all
next_atom rows more atoms i a all h lt is e =
    let d : drop i atoms ≡ a ∷ drop (i + 1) atoms = drop_more atoms i a lt ∙ ap (λ (x : Option Atom). x ∷ drop (i + 1) atoms) (sym is) in
    ap (λ (rs : List Linear). with_atoms rs (drop (i + 1) atoms)) e ∙ sym (ap (with_atoms rows) d) ∙ h
