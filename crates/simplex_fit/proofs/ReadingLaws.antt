-- A solution of the tableau within the bounds that some literals give meets the readings of these literals.
use Rattle.std.proofs.Common.{◌≡◌, inl, inr, ◌<◌, ℕ, Bool, true, false, not, cond, List, [], ◌∷◌, length, Option, Some, None, refl, sym, ap, ap₂, subst, ◌∙◌, arith, nat_lt}
use Rattle.std.specs.Prelude.{slice_get}
use Rattle.std.specs.Option.{option_map}
use Rattle.std.specs.List.{Contains}
use Rattle.std.proofs.lemmas.Bool.{and_parts}
use Rattle.std.proofs.lemmas.Bool.Decides.{nat_tests}
use Rattle.std.proofs.lemmas.Option.{get_or_from_slice_get, slice_get-map}
use lib.IntN.{pos, negsuc}
use Rattle.algebra.proofs.Solve.{v, k, ◌⊕◌, ◌⊗◌, inv, solve, bound_from, strict_from, le, lt, done}
use Rattle.rational.specs.Fraction.{Fraction, whole, neg_ℚ, ◌+ℚ◌, ◌*ℚ◌, ◌≤ℚ◌, ◌<ℚ◌}
use Rattle.rational.specs.Linear.{Terms, value_at}
use Rattle.rational.specs.Farkas.{InOrder}
use Rattle.rational.proofs.FieldLaws.{fraction-ring}
use Rattle.rational.proofs.Signs.{fraction-order}
use Rattle.rational.proofs.OrderLaws.{<ℚ-≤ℚ_trans, ≤ℚ-<ℚ_trans, <ℚ_trans, <ℚ-weaken, <ℚ-not-≥, positive-iff}
use Rattle.lin.specs.Linear.{AreBelow, point_of, value_of}
use Rattle.lin.specs.Negative.{negative}
use Rattle.lin.proofs.ValueLaws.{value_scale}
use Rattle.formula.specs.declared.atom.Atom.{Atom}
use Rattle.formula.specs.declared.atom.Constraint.{Constraint}
use Rattle.formula.specs.declared.atom.Lit.{Lit}
use Rattle.formula.specs.Atoms.{IsAtom, is_one_count}
use Rattle.formula.specs.Contents.{Contents}
use Rattle.formula.specs.Reading.{Holds, reading, affirmed, denied}
use Rattle.formula.proofs.Readings.{atom_is}
use Rattle.theory_law.specs.Readings.{Reads, BooleanReads}
use Rattle.tableau.specs.Table.{Table, width, Solves}
use Rattle.simplex_law.specs.Pairs.{◌≤ₚ◌}
use Rattle.simplex_law.specs.Bounds.{lower_pair, upper_pair, MeetsLower, MeetsUpper}
use Rattle.simplex_law.specs.Config.{Limits, MeetsAll}
use Rattle.simplex_law.specs.declared.bound.Bound.{Bound}
use Rattle.simplex_atoms.specs.LeftSides.{rows_of, variable_of}
use Rattle.simplex_atoms.specs.Sides.{above, below, bound_by, sides_of, sides_of_atom, sides_where}
use Rattle.simplex_atoms.specs.Tightest.{Gives, IsTightest, IsAsTight, number_at, bound_at}
use Rattle.simplex_atoms.specs.declared.sides.Sides.{Sides}
use Rattle.simplex_clash.proofs.Variables.{variable_value}
use Rattle.simplex_fit.specs.Fit.{IsFit, AreLimits}
use Rattle.simplex_fit.proofs.TableLaws.{atom_variable}

-- ---- looser bounds
abbrev upper_small : Bool → Fraction
upper_small s = (upper_pair (record { value = whole (pos 0); strict = s })).small

one_positive : whole (pos 0) <ℚ whole (pos 1)
one_positive = (positive-iff (whole (pos 1))).0 tt

one_below : ¬ (whole (pos 0) ≤ℚ whole (negsuc 0))
one_below = <ℚ-not-≥ (whole (negsuc 0)) (whole (pos 0)) (strict_from fraction-order (k (negsuc 0)) (k (pos 0)) [] (lt (k (pos 1)) (k (pos 0)) (k (pos 1)) tt one_positive done) tt refl)

looser_upper : (b c : Bound) (x : Fraction) → upper_pair b ≤ₚ upper_pair c → InOrder b.strict x b.value → InOrder c.strict x c.value
looser_upper b c x (inl l) h = by_strict b.strict c.strict h
  where
    by_strict : (s t : Bool) → InOrder s x b.value → InOrder t x c.value
    by_strict true true h = <ℚ_trans x b.value c.value h l
    by_strict true false h = <ℚ-weaken x c.value (<ℚ_trans x b.value c.value h l)
    by_strict false true h = ≤ℚ-<ℚ_trans x b.value c.value h l
    by_strict false false h = <ℚ-weaken x c.value (≤ℚ-<ℚ_trans x b.value c.value h l)
looser_upper b c x (inr (e, l)) h = subst (λ (y : Fraction). InOrder c.strict x y) e (by_strict b.strict refl c.strict refl h)
  where
    by_strict : (s : Bool) → b.strict ≡ s → (t : Bool) → c.strict ≡ t → InOrder s x b.value → InOrder t x b.value
    by_strict true p true q h = h
    by_strict true p false q h = <ℚ-weaken x b.value h
    by_strict false p false q h = h
    by_strict false p true q h =
        absurd (one_below (subst (λ (u : Bool). upper_small false ≤ℚ upper_small u) q (subst (λ (u : Bool). upper_small u ≤ℚ upper_small c.strict) p l)))

abbrev lower_small : Bool → Fraction
lower_small s = (lower_pair (record { value = whole (pos 0); strict = s })).small

zero_below : ¬ (whole (pos 1) ≤ℚ whole (pos 0))
zero_below = <ℚ-not-≥ (whole (pos 0)) (whole (pos 1)) one_positive

looser_lower : (b c : Bound) (x : Fraction) → lower_pair c ≤ₚ lower_pair b → InOrder b.strict b.value x → InOrder c.strict c.value x
looser_lower b c x (inl l) h = by_strict b.strict c.strict h
  where
    by_strict : (s t : Bool) → InOrder s b.value x → InOrder t c.value x
    by_strict true true h = <ℚ_trans c.value b.value x l h
    by_strict true false h = <ℚ-weaken c.value x (<ℚ_trans c.value b.value x l h)
    by_strict false true h = <ℚ-≤ℚ_trans c.value b.value x l h
    by_strict false false h = <ℚ-weaken c.value x (<ℚ-≤ℚ_trans c.value b.value x l h)
looser_lower b c x (inr (e, l)) h = subst (λ (y : Fraction). InOrder c.strict y x) (sym e) (by_strict b.strict refl c.strict refl h)
  where
    by_strict : (s : Bool) → b.strict ≡ s → (t : Bool) → c.strict ≡ t → InOrder s b.value x → InOrder t b.value x
    by_strict true p true q h = h
    by_strict true p false q h = <ℚ-weaken b.value x h
    by_strict false p false q h = h
    by_strict false p true q h =
        absurd (zero_below (subst (λ (u : Bool). lower_small true ≤ℚ lower_small u) p (subst (λ (u : Bool). lower_small u ≤ℚ lower_small b.strict) q l)))

-- ---- values
is_less : (m n : ℕ) → nat_lt m n ≡ true → m < n
is_less m n e = grind (arith, nat_tests)

same_value : (n : ℕ) (p q : ℕ → Fraction) → ((w : ℕ) → w < n → p w ≡ q w) → (ts : Terms) → AreBelow n ts → value_at p ts ≡ value_at q ts
same_value n p q h [] below = refl
same_value n p q h (t ∷ ts) below =
    let parts = and_parts (nat_lt t.0 n) _ below in
    ap₂ (λ (x y : Fraction). t.1 *ℚ x +ℚ y) (h t.0 (is_less t.0 n parts.0)) (same_value n p q h ts parts.1)

turned : (s : Bool) (x b : Fraction) → InOrder s (neg_ℚ b) x → InOrder s (whole (negsuc 0) *ℚ x) b
turned true x b h = strict_from fraction-order (k (negsuc 0) ⊗ v 0) (v 1) (x ∷ b ∷ []) (lt (k (pos 1)) (inv (v 1)) (v 0) tt h done) tt refl
turned false x b h = bound_from fraction-order (k (negsuc 0) ⊗ v 0) (v 1) (x ∷ b ∷ []) (le (k (pos 1)) (inv (v 1)) (v 0) tt h done) refl

denied_value : (counts : List Bool) (a : Atom) (at : ℕ → Fraction) → value_of at (denied counts a).lin ≡ whole (negsuc 0) *ℚ value_of at a.lin
denied_value counts a at = by_kind (is_one_count counts a.lin.terms) ∙ value_scale at (whole (negsuc 0)) a.lin
  where
    by_kind : (b : Bool) → (let d : Constraint = cond b (record { lin = negative a.lin; strict = false; bound = neg_ℚ (a.bound +ℚ whole (pos 1)) }) (record { lin = negative a.lin; strict = not a.strict; bound = neg_ℚ a.bound }) in value_of at d.lin ≡ value_of at (negative a.lin))
    by_kind true = refl
    by_kind false = refl

module _ (f : Contents) (sides : List (Option Sides)) (t : Table) (fit : IsFit f sides t) (lits : List Lit) (l : Limits) (are : AreLimits f lits (width t) l)
    (point : ℕ → Fraction) (solves : Solves t point) (meets : MeetsAll l (width t) point) (values : List Fraction) (same : (w : ℕ) → w < length f.counts → point_of values w ≡ point w) where
  module _ (m : Lit) (within : Contains lits m) (a : Atom) (has : slice_get f.atoms m.boolean ≡ Some (Some a)) where
    abbrev w : ℕ
    w = variable_of (length f.counts) (rows_of f.atoms) a.lin.terms

    gives : Gives (sides_of f.counts (rows_of f.atoms) f.atoms) m (variable_of (length f.counts) (rows_of f.atoms) a.lin.terms) (bound_by m.pos (sides_of_atom f.counts (rows_of f.atoms) a))
    gives = record {
      side = sides_of_atom f.counts (rows_of f.atoms) a;
      has = slice_get-map (sides_where f.counts (rows_of f.atoms)) f.atoms m.boolean ∙ ap (option_map (sides_where f.counts (rows_of f.atoms))) has;
      variable = refl;
      bound = refl;
    }

    atom : IsAtom f.counts a
    atom = atom_is f m.boolean a fit.formula (get_or_from_slice_get f.atoms m.boolean (Some a) None has)

    value : value_of (point_of values) a.lin ≡ point w
    value =
        ap₂ (λ (x y : Fraction). x +ℚ y) (same_value (length f.counts) (point_of values) point same a.lin.terms atom.known) atom.constant
        ∙ solve fraction-ring (v 0 ⊕ k (pos 0)) (v 0) (value_at point a.lin.terms ∷ []) refl
        ∙ sym (variable_value f.counts f.atoms t fit.tableau point solves m.boolean a has atom)

    low : w < width t
    low = atom_variable f sides t fit m.boolean a has

    from_above : m.pos ≡ true → InOrder a.strict (point w) a.bound
    from_above e = by_bound (bound_at l.upper w) (are.upper.1.each w low) (meets w low).1
      where
        by_bound : (o : Option Bound) → IsTightest (sides_of f.counts (rows_of f.atoms) f.atoms) lits true w (number_at are.upper.0 w) o → MeetsUpper o (point w) → InOrder a.strict (point w) a.bound
        by_bound None h g = absurd (h m (bound_by m.pos (sides_of_atom f.counts (rows_of f.atoms) a)) within e gives)
        by_bound (Some b) h g =
            looser_upper b (above (affirmed a)) (point w)
            (subst (λ (p : Bool). IsAsTight true b (bound_by p (sides_of_atom f.counts (rows_of f.atoms) a))) e (h.2 m (bound_by m.pos (sides_of_atom f.counts (rows_of f.atoms) a)) within e gives)) g

    from_below : m.pos ≡ false → InOrder (denied f.counts a).strict (neg_ℚ (denied f.counts a).bound) (point w)
    from_below e = by_bound (bound_at l.lower w) (are.lower.1.each w low) (meets w low).0
      where
        by_bound : (o : Option Bound) → IsTightest (sides_of f.counts (rows_of f.atoms) f.atoms) lits false w (number_at are.lower.0 w) o → MeetsLower o (point w) → InOrder (denied f.counts a).strict (neg_ℚ (denied f.counts a).bound) (point w)
        by_bound None h g = absurd (h m (bound_by m.pos (sides_of_atom f.counts (rows_of f.atoms) a)) within e gives)
        by_bound (Some b) h g =
            looser_lower b (below (denied f.counts a)) (point w)
            (subst (λ (p : Bool). IsAsTight false b (bound_by p (sides_of_atom f.counts (rows_of f.atoms) a))) e (h.2 m (bound_by m.pos (sides_of_atom f.counts (rows_of f.atoms) a)) within e gives)) g

    holds : (p : Bool) → m.pos ≡ p → Holds (point_of values) (reading f.counts a p)
    holds true e = subst (λ (x : Fraction). InOrder a.strict x a.bound) (sym value) (from_above e)
    holds false e =
        subst (λ (x : Fraction). InOrder (denied f.counts a).strict x (denied f.counts a).bound) (sym (denied_value f.counts a (point_of values) ∙ ap (λ (x : Fraction). whole (negsuc 0) *ℚ x) value))
        (turned (denied f.counts a).strict (point w) (denied f.counts a).bound (from_below e))

    pub reads : Reads f.counts f.atoms values m
    reads = subst (λ (o : Option (Option Atom)). BooleanReads f.counts values o m.pos) (sym has) (holds m.pos refl)
