-- The linear expressions of variables: each atom's left side is that of its variable, and points of the numeric variables,
-- extended by them, solve the tableau.
use Rattle.std.proofs.Common.{◌≡◌, ◌<◌, ◌≤◌, ℕ, zero, suc, ◌+◌, ◌-◌, Bool, true, false, cond, ◌||◌, List, [], ◌∷◌, ◌++◌, length, Option, Some, None, refl, sym, ap, ap₂, subst, ◌∙◌, arith, nat_lt, length-append}
use Rattle.std.specs.Prelude.{slice_get}
use Rattle.std.specs.List.{AllByRecursion}
use Rattle.std.proofs.lemmas.Bool.{and_parts}
use Rattle.std.proofs.lemmas.Bool.Decides.{nat_tests}
use Rattle.std.proofs.lemmas.Option.{same_Some}
use lib.IntN.{pos}
use Rattle.algebra.proofs.Solve.{v, k, ◌⊕◌, ◌⊗◌, solve}
use Rattle.rational.specs.Fraction.{Fraction, whole, ◌+ℚ◌, ◌*ℚ◌}
use Rattle.rational.specs.Linear.{Terms, value_at}
use Rattle.rational.proofs.FieldLaws.{fraction-ring}
use Rattle.lin.specs.Linear.{Linear, AreBelow}
use Rattle.tableau.specs.Table.{Table, Solves, terms_at, IsTableauOf}
use Rattle.formula.specs.Equal.{same_terms}
use Rattle.formula.specs.Atoms.{LeadsWithOne, IsAtom}
use Rattle.formula.specs.Contents.{IsBoolean}
use Rattle.formula.specs.declared.atom.Atom.{Atom}
use Rattle.simplex_law.specs.Readings.{Extends}
use Rattle.simplex_atoms.specs.LeftSides.{is_one_term, row_with, with_side, with_atom, with_atoms, rows_of, variable_of}
use Rattle.simplex_atoms.proofs.SameTerms.{same_terms-true, same_terms-self}
use Rattle.simplex_clash.specs.VariableTerms.{variable_terms}

is_less : (m n : ℕ) → nat_lt m n ≡ true → m < n
is_less m n e = grind (arith, nat_tests)

less_is : (m n : ℕ) → m < n → nat_lt m n ≡ true
less_is m n h = grind (arith, nat_tests)

isnt_less : (m n : ℕ) → n ≤ m → nat_lt m n ≡ false
isnt_less m n h = grind (arith, nat_tests)

not_less : (m n : ℕ) → nat_lt m n ≡ false → n ≤ m
not_less m n e = grind (arith, nat_tests)

-- ---- rows that are there
row_with-push : (ts : Terms) (rows : List Linear) (l : Linear) → row_with ts rows < length rows → row_with ts (rows ++ l ∷ []) ≡ row_with ts rows
row_with-push ts [] l h = absurd (omega arith)
row_with-push ts (m ∷ rows) l h = by_test (same_terms m.terms ts) refl (λ g. row_with-push ts rows l g)
  where
    by_test : (b : Bool) → same_terms m.terms ts ≡ b → (row_with ts rows < length rows → row_with ts (rows ++ l ∷ []) ≡ row_with ts rows) → row_with ts ((m ∷ rows) ++ l ∷ []) ≡ row_with ts (m ∷ rows)
    by_test true e ih = ap (λ (c : Bool). cond c 0 (suc (row_with ts (rows ++ l ∷ [])))) e ∙ sym (ap (λ (c : Bool). cond c 0 (suc (row_with ts rows))) e)
    by_test false e ih =
        let here : row_with ts (m ∷ rows) ≡ suc (row_with ts rows) = ap (λ (c : Bool). cond c 0 (suc (row_with ts rows))) e in
        ap (λ (c : Bool). cond c 0 (suc (row_with ts (rows ++ l ∷ [])))) e ∙ ap suc (ih (omega arith)) ∙ sym here

row_with-own : (rows : List Linear) (l : Linear) → row_with l.terms (rows ++ l ∷ []) ≤ length rows
row_with-own [] l = let e : row_with l.terms (l ∷ []) ≡ 0 = ap (λ (c : Bool). cond c 0 1) (same_terms-self l.terms) in omega arith
row_with-own (m ∷ rows) l = by_test (same_terms m.terms l.terms) (row_with-own rows l)
  where
    by_test : (b : Bool) → row_with l.terms (rows ++ l ∷ []) ≤ length rows → cond b 0 (suc (row_with l.terms (rows ++ l ∷ []))) ≤ length (m ∷ rows)
    by_test true h = omega arith
    by_test false h = omega arith

has_side : (rows : List Linear) (l : Linear) → is_one_term l.terms ≡ false → row_with l.terms (with_side rows l) < length (with_side rows l)
has_side rows l e = by_test (is_one_term l.terms) e (nat_lt (row_with l.terms rows) (length rows)) refl
  where
    by_test : (c : Bool) → c ≡ false → (b : Bool) → nat_lt (row_with l.terms rows) (length rows) ≡ b
        → row_with l.terms (cond (c || b) rows (rows ++ l ∷ [])) < length (cond (c || b) rows (rows ++ l ∷ []))
    by_test true f b g = absurd (cc)
    by_test false f true g = is_less _ _ g
    by_test false f false g = omega (arith, row_with-own rows l, length-append rows (l ∷ []))

keeps_side : (ts : Terms) (rows : List Linear) (l : Linear) → row_with ts rows < length rows → row_with ts (with_side rows l) < length (with_side rows l)
keeps_side ts rows l h = by_test (is_one_term l.terms || nat_lt (row_with l.terms rows) (length rows))
  where
    by_test : (b : Bool) → row_with ts (cond b rows (rows ++ l ∷ [])) < length (cond b rows (rows ++ l ∷ []))
    by_test true = h
    by_test false = omega (arith, row_with-push ts rows l h, length-append rows (l ∷ []))

keeps_atom : (ts : Terms) (rows : List Linear) (a : Option Atom) → row_with ts rows < length rows → row_with ts (with_atom rows a) < length (with_atom rows a)
keeps_atom ts rows None h = h
keeps_atom ts rows (Some a) h = keeps_side ts rows a.lin h

keeps_atoms : (ts : Terms) (rows : List Linear) (atoms : List (Option Atom)) → row_with ts rows < length rows → row_with ts (with_atoms rows atoms) < length (with_atoms rows atoms)
keeps_atoms ts rows [] h = h
keeps_atoms ts rows (a ∷ atoms) h = keeps_atoms ts (with_atom rows a) atoms (keeps_atom ts rows a h)

pub has_row : (rows : List Linear) (atoms : List (Option Atom)) (b : ℕ) (a : Atom) → slice_get atoms b ≡ Some (Some a) → is_one_term a.lin.terms ≡ false
    → row_with a.lin.terms (with_atoms rows atoms) < length (with_atoms rows atoms)
has_row rows [] b a e f = absurd (cc)
has_row rows (x ∷ atoms) zero a e f =
    let same : x ≡ Some a = same_Some x (Some a) e in
    keeps_atoms a.lin.terms (with_atom rows x) atoms (subst (λ (y : Option Atom). row_with a.lin.terms (with_atom rows y) < length (with_atom rows y)) (sym same) (has_side rows a.lin f))
has_row rows (x ∷ atoms) (suc b) a e f = has_row (with_atom rows x) atoms b a e f

terms_found : (ts : Terms) (rows : List Linear) → row_with ts rows < length rows → terms_at rows (row_with ts rows) ≡ ts
terms_found ts [] h = absurd (omega arith)
terms_found ts (m ∷ rows) h = by_test (same_terms m.terms ts) refl (λ g. terms_found ts rows g)
  where
    by_test : (b : Bool) → same_terms m.terms ts ≡ b → (row_with ts rows < length rows → terms_at rows (row_with ts rows) ≡ ts) → terms_at (m ∷ rows) (row_with ts (m ∷ rows)) ≡ ts
    by_test true e ih =
        let here : row_with ts (m ∷ rows) ≡ 0 = ap (λ (c : Bool). cond c 0 (suc (row_with ts rows))) e in
        ap (terms_at (m ∷ rows)) here ∙ same_terms-true m.terms ts e
    by_test false e ih =
        let here : row_with ts (m ∷ rows) ≡ suc (row_with ts rows) = ap (λ (c : Bool). cond c 0 (suc (row_with ts rows))) e in
        ap (terms_at (m ∷ rows)) here ∙ ih (omega arith)

-- ---- each atom's left side is that of its variable
terms_row : (vars i : ℕ) (rows : List Linear) → variable_terms vars rows (vars + i) ≡ terms_at rows i
terms_row vars i rows =
    ap (λ (c : Bool). cond c ((vars + i, whole (pos 1)) ∷ []) (terms_at rows (vars + i - vars))) (isnt_less (vars + i) vars (omega arith))
    ∙ ap (terms_at rows) (let e : vars + i - vars ≡ i = omega arith in e)

terms_of_side : (vars : ℕ) (rows : List Linear) (ts : Terms) → LeadsWithOne ts → AreBelow vars ts → (is_one_term ts ≡ false → row_with ts rows < length rows)
    → variable_terms vars rows (variable_of vars rows ts) ≡ ts
terms_of_side vars rows [] lead below found = absurd lead
terms_of_side vars rows (t ∷ []) lead below found =
    let p = and_parts (nat_lt t.0 vars) _ below in
    ap (λ (c : Bool). cond c ((t.0, whole (pos 1)) ∷ []) (terms_at rows (t.0 - vars))) p.0 ∙ ap (λ (x : Fraction). (t.0, x) ∷ []) (sym lead)
terms_of_side vars rows (t ∷ u ∷ ts) lead below found = terms_row vars (row_with (t ∷ u ∷ ts) rows) rows ∙ terms_found (t ∷ u ∷ ts) rows (found refl)

pub terms_of_atom : (counts : List Bool) (atoms : List (Option Atom)) (b : ℕ) (a : Atom) → slice_get atoms b ≡ Some (Some a) → IsAtom counts a
    → variable_terms (length counts) (rows_of atoms) (variable_of (length counts) (rows_of atoms) a.lin.terms) ≡ a.lin.terms
terms_of_atom counts atoms b a e h = terms_of_side (length counts) (rows_of atoms) a.lin.terms h.leading h.known (has_row [] atoms b a e)

-- ---- the rows are over the numeric variables
abbrev AllBelow : ℕ → List Linear → Type 0
AllBelow vars rows = AllByRecursion (λ (l : Linear). AreBelow vars l.terms) rows

push_below : (vars : ℕ) (rows : List Linear) (l : Linear) → AllBelow vars rows → AreBelow vars l.terms → AllBelow vars (rows ++ l ∷ [])
push_below vars [] l h g = (g, tt)
push_below vars (m ∷ rows) l h g = (h.0, push_below vars rows l h.1 g)

side_below : (vars : ℕ) (rows : List Linear) (l : Linear) → AllBelow vars rows → AreBelow vars l.terms → AllBelow vars (with_side rows l)
side_below vars rows l h g = by_test (is_one_term l.terms || nat_lt (row_with l.terms rows) (length rows))
  where
    by_test : (b : Bool) → AllBelow vars (cond b rows (rows ++ l ∷ []))
    by_test true = h
    by_test false = push_below vars rows l h g

atom_below : (counts : List Bool) (rows : List Linear) (a : Option Atom) → AllBelow (length counts) rows → IsBoolean counts a → AllBelow (length counts) (with_atom rows a)
atom_below counts rows None h g = h
atom_below counts rows (Some a) h g = side_below (length counts) rows a.lin h g.known

atoms_below : (counts : List Bool) (rows : List Linear) (atoms : List (Option Atom)) → AllBelow (length counts) rows → AllByRecursion (IsBoolean counts) atoms → AllBelow (length counts) (with_atoms rows atoms)
atoms_below counts rows [] h g = h
atoms_below counts rows (a ∷ atoms) h g = atoms_below counts (with_atom rows a) atoms (atom_below counts rows a h g.0) g.1

pub rows_below : (counts : List Bool) (atoms : List (Option Atom)) → AllByRecursion (IsBoolean counts) atoms → AllByRecursion (λ (l : Linear). AreBelow (length counts) l.terms) (rows_of atoms)
rows_below counts atoms g = atoms_below counts [] atoms tt g

row_below : (vars : ℕ) (rows : List Linear) (i : ℕ) → AllBelow vars rows → AreBelow vars (terms_at rows i)
row_below vars [] i h = refl
row_below vars (l ∷ rows) zero h = h.0
row_below vars (l ∷ rows) (suc i) h = row_below vars rows i h.1

-- ---- points, extended
value_numeric : (vars : ℕ) (rows : List Linear) (point : ℕ → Fraction) (ts : Terms) → AreBelow vars ts → value_at point ts ≡ value_at (λ i. value_at point (variable_terms vars rows i)) ts
value_numeric vars rows point [] h = refl
value_numeric vars rows point (t ∷ ts) h =
    let p = and_parts (nat_lt t.0 vars) _ h in
    let own : value_at point (variable_terms vars rows t.0) ≡ point t.0 =
    ap (λ (c : Bool). value_at point (cond c ((t.0, whole (pos 1)) ∷ []) (terms_at rows (t.0 - vars)))) p.0
    ∙ solve fraction-ring (k (pos 1) ⊗ v 0 ⊕ k (pos 0)) (v 0) (point t.0 ∷ []) refl in
    ap₂ (λ (x y : Fraction). t.1 *ℚ x +ℚ y) (sym own) (value_numeric vars rows point ts p.1)

pub extends : (counts : List Bool) (atoms : List (Option Atom)) (t : Table) → AllByRecursion (IsBoolean counts) atoms → IsTableauOf (length counts) (rows_of atoms) t → Extends (variable_terms (length counts) (rows_of atoms)) t
extends counts atoms t all is point =
    (is.same (λ i. value_at point (variable_terms (length counts) (rows_of atoms) i))).1
    (λ i l. ap (value_at point) (terms_row (length counts) i (rows_of atoms)) ∙ value_numeric (length counts) (rows_of atoms) point (terms_at (rows_of atoms) i) (row_below (length counts) (rows_of atoms) i (rows_below counts atoms all)))

-- the value of a variable at a point that solves the tableau is that of its expression
pub variable_value : (counts : List Bool) (atoms : List (Option Atom)) (t : Table) → IsTableauOf (length counts) (rows_of atoms) t → (point : ℕ → Fraction) → Solves t point → (b : ℕ) (a : Atom) → slice_get atoms b ≡ Some (Some a) → IsAtom counts a
    → point (variable_of (length counts) (rows_of atoms) a.lin.terms) ≡ value_at point a.lin.terms
variable_value counts atoms t is point solves b a e h = by_terms a.lin.terms h.leading (has_row [] atoms b a e)
  where
    by_terms : (ts : Terms) → LeadsWithOne ts → (is_one_term ts ≡ false → row_with ts (rows_of atoms) < length (rows_of atoms)) → point (variable_of (length counts) (rows_of atoms) ts) ≡ value_at point ts
    by_terms [] lead found = absurd lead
    by_terms (t ∷ []) lead found =
        solve fraction-ring (v 0) (k (pos 1) ⊗ v 0 ⊕ k (pos 0)) (point t.0 ∷ []) refl ∙ ap (λ (x : Fraction). x *ℚ point t.0 +ℚ whole (pos 0)) (sym lead)
    by_terms (t ∷ u ∷ ts) lead found =
        (is.same point).0 solves (row_with (t ∷ u ∷ ts) (rows_of atoms)) (found refl) ∙ ap (value_at point) (terms_found (t ∷ u ∷ ts) (rows_of atoms) (found refl))
