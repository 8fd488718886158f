-- The readings of literals that give bounds are the rows of those bounds.
use Rattle.std.proofs.Common.{◌≡◌, ℕ, zero, suc, Bool, true, false, not, cond, List, [], ◌∷◌, length, Option, Some, None, refl, sym, ap, ap₂, ◌∙◌}
use Rattle.std.specs.Prelude.{slice_get}
use Rattle.std.proofs.lemmas.Option.{same_Some, get_or_from_slice_get}
use lib.IntN.{pos, negsuc}
use Rattle.algebra.proofs.Solve.{v, k, ◌⊗◌, inv, solve}
use Rattle.rational.specs.Fraction.{Fraction, whole, ◌+ℚ◌, neg_ℚ}
use Rattle.rational.specs.Linear.{Terms}
use Rattle.rational.specs.Farkas.{Row}
use Rattle.rational.proofs.FieldLaws.{fraction-ring}
use Rattle.lin.specs.Linear.{Linear}
use Rattle.lin.specs.Negative.{negative}
use Rattle.lin.proofs.Negatives.{terms-negative, negatives}
use Rattle.formula.specs.declared.atom.Atom.{Atom}
use Rattle.formula.specs.declared.atom.Constraint.{Constraint}
use Rattle.formula.specs.declared.atom.Lit.{Lit}
use Rattle.formula.specs.Atoms.{IsAtom, is_one_count}
use Rattle.formula.specs.Contents.{Contents, IsFormula}
use Rattle.formula.specs.Reading.{reading, reading_where, reading_of, denied, atom_of}
use Rattle.formula.specs.Farkas.{row_of}
use Rattle.formula.proofs.Readings.{atom_is}
use Rattle.simplex_law.specs.Readings.{negative_of, upper_row, lower_row}
use Rattle.simplex_law.specs.declared.bound.Bound.{Bound}
use Rattle.simplex_atoms.specs.LeftSides.{rows_of, variable_of}
use Rattle.simplex_atoms.specs.Sides.{above, below, sides_of_atom, sides_where, sides_of, bound_by}
use Rattle.simplex_atoms.specs.Tightest.{Gives, lit_of}
use Rattle.simplex_atoms.specs.declared.sides.Sides.{Sides}
use Rattle.simplex_clash.specs.VariableTerms.{variable_terms}
use Rattle.simplex_clash.specs.Parts.{Part}
use Rattle.simplex_clash.proofs.Variables.{terms_of_atom}

-- the atom of a Boolean that has sides
pub record HasAtom (counts : List Bool) (rows : List Linear) (atoms : List (Option Atom)) (b : ℕ) (s : Sides) : Type 0 where
  pub atom : Atom
  pub has : slice_get atoms b ≡ Some (Some atom)
  pub sides : s ≡ sides_of_atom counts rows atom

pub has_atom : (counts : List Bool) (rows : List Linear) (atoms : List (Option Atom)) (b : ℕ) (s : Sides) → slice_get (sides_of counts rows atoms) b ≡ Some (Some s) → HasAtom counts rows atoms b s
has_atom counts rows [] b s e = absurd (cc)
has_atom counts rows (x ∷ atoms) zero s e = by_atom x (same_Some (sides_where counts rows x) (Some s) e)
  where
    by_atom : (x : Option Atom) → sides_where counts rows x ≡ Some s → HasAtom counts rows (x ∷ atoms) 0 s
    by_atom None f = absurd (cc)
    by_atom (Some a) f = record { atom = a; has = refl; sides = sym (same_Some (sides_of_atom counts rows a) s f) }
has_atom counts rows (x ∷ atoms) (suc b) s e = let h = has_atom counts rows atoms b s e in record { atom = h.atom; has = h.has; sides = h.sides }

-- the row of an asserted literal's reading
abbrev pub row_by : Contents → Part → Row
row_by f p = row_of (reading_of f p.0, p.1)

negative_terms : (ts : Terms) → negatives ts ≡ negative_of ts
negative_terms [] = refl
negative_terms (t ∷ ts) = ap₂ (λ (x : Fraction) (us : Terms). (t.0, x) ∷ us) (solve fraction-ring (inv (v 0)) (k (negsuc 0) ⊗ v 0) (t.1 ∷ []) refl) (negative_terms ts)

denied_terms : (counts : List Bool) (a : Atom) → (denied counts a).lin.terms ≡ negative_of a.lin.terms
denied_terms counts a = by_kind (is_one_count counts a.lin.terms) ∙ terms-negative a.lin ∙ negative_terms a.lin.terms
  where
    by_kind : (b : Bool) → (let d : Constraint = cond b (record { lin = negative a.lin; strict = false; bound = neg_ℚ (a.bound +ℚ whole (pos 1)) }) (record { lin = negative a.lin; strict = not a.strict; bound = neg_ℚ a.bound }) in d.lin.terms ≡ (negative a.lin).terms)
    by_kind true = refl
    by_kind false = refl

row_below : (c : Constraint) (ts : Terms) (x : Fraction) → c.lin.terms ≡ negative_of ts → row_of (c, x) ≡ lower_row (below c) ts x
row_below c ts x e =
    ap₂ (λ (us : Terms) (b : Fraction). record { terms = us; bound = b; strict = c.strict; factor = x }) e (solve fraction-ring (v 0) (inv (inv (v 0))) (c.bound ∷ []) refl)

module _ (f : Contents) (is : IsFormula f) where
  abbrev vars : ℕ
  vars = length f.counts

  -- what a literal that gives a bound says
  pub record IsGiven (l : Lit) (w : ℕ) (b : Bound) : Type 0 where
    pub atom : Atom
    pub has : slice_get f.atoms l.boolean ≡ Some (Some atom)
    pub known : atom_of f l.boolean ≡ Some atom
    pub is_atom : IsAtom f.counts atom
    pub variable : variable_of (length f.counts) (rows_of f.atoms) atom.lin.terms ≡ w
    pub bound : b ≡ bound_by l.pos (sides_of_atom f.counts (rows_of f.atoms) atom)
    pub terms : variable_terms (length f.counts) (rows_of f.atoms) w ≡ atom.lin.terms

  pub given : (l : Lit) (w : ℕ) (b : Bound) → Gives (sides_of f.counts (rows_of f.atoms) f.atoms) l w b → IsGiven l w b
  given l w b g =
      let h = has_atom f.counts (rows_of f.atoms) f.atoms l.boolean g.side g.has in
      let known : atom_of f l.boolean ≡ Some h.atom = get_or_from_slice_get f.atoms l.boolean (Some h.atom) None h.has in
      let variable : variable_of (length f.counts) (rows_of f.atoms) h.atom.lin.terms ≡ w = ap (λ (s : Sides). s.variable) (sym h.sides) ∙ g.variable in
      let is_atom = atom_is f l.boolean h.atom is known in
      record {
        atom = h.atom;
        has = h.has;
        known = known;
        is_atom = is_atom;
        variable = variable;
        bound = g.bound ∙ ap (bound_by l.pos) h.sides;
        terms = ap (variable_terms (length f.counts) (rows_of f.atoms)) (sym variable) ∙ terms_of_atom f.counts f.atoms l.boolean h.atom h.has is_atom;
      }

  pub row_up : (by w : ℕ) (b : Bound) (x : Fraction) → Gives (sides_of f.counts (rows_of f.atoms) f.atoms) (lit_of by true) w b
      → row_by f (lit_of by true, x) ≡ upper_row b (variable_terms (length f.counts) (rows_of f.atoms) w) x
  row_up by w b x g =
      let h = given (lit_of by true) w b g in
      ap (λ (o : Option Atom). row_of (reading_where f.counts o true, x)) h.known
      ∙ ap (λ (ts : Terms). upper_row (above (reading f.counts h.atom true)) ts x) (sym h.terms)
      ∙ ap (λ (c : Bound). upper_row c (variable_terms (length f.counts) (rows_of f.atoms) w) x) (sym h.bound)

  pub row_down : (by w : ℕ) (b : Bound) (x : Fraction) → Gives (sides_of f.counts (rows_of f.atoms) f.atoms) (lit_of by false) w b
      → row_by f (lit_of by false, x) ≡ lower_row b (variable_terms (length f.counts) (rows_of f.atoms) w) x
  row_down by w b x g =
      let h = given (lit_of by false) w b g in
      ap (λ (o : Option Atom). row_of (reading_where f.counts o false, x)) h.known
      ∙ row_below (denied f.counts h.atom) h.atom.lin.terms x (denied_terms f.counts h.atom)
      ∙ ap (λ (ts : Terms). lower_row (below (reading f.counts h.atom false)) ts x) (sym h.terms)
      ∙ ap (λ (c : Bound). lower_row c (variable_terms (length f.counts) (rows_of f.atoms) w) x) (sym h.bound)
