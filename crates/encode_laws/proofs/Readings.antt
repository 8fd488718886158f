-- The reading of an atom's literal says the truth of the atom, for whole counts.
use Rattle.std.proofs.Common.{◌≡◌, ℕ, Bool, true, false, not, cond, List, [], ◌∷◌, refl, sym, ap, subst, ◌∙◌}
use lib.IntN.{ℤ, pos, negsuc}
use Rattle.algebra.proofs.Solve.{v, k, ◌⊕◌, ◌⊗◌, inv, bound_from, strict_from, le, lt, done}
use Rattle.rational.specs.Fraction.{Fraction, whole, neg_ℚ, ◌+ℚ◌, ◌*ℚ◌, ◌≤ℚ◌, ◌<ℚ◌}
use Rattle.rational.specs.Floor.{IsWhole}
use Rattle.rational.specs.Farkas.{InOrder}
use Rattle.rational.proofs.FieldLaws.{whole-add}
use Rattle.rational.proofs.Signs.{fraction-order}
use Rattle.rational.proofs.OrderLaws.{positive-iff, <ℚ-not-≥, ≥-from_not, >-from_not}
use Rattle.rational.proofs.FloorLaws.{IsWhole-split}
use Rattle.lin.specs.Linear.{Linear, value_of, var}
use Rattle.lin.specs.Negative.{negative}
use Rattle.lin.proofs.ValueLaws.{value_scale, value_var}
use Rattle.formula.specs.declared.atom.Atom.{Atom}
use Rattle.formula.specs.Atoms.{is_one_count}
use Rattle.formula.specs.Reading.{Holds, reading}
use Rattle.encode_laws.specs.Rows.{is_at_most, is_below}
use Rattle.encode_laws.specs.Numbering.{atom}
use Rattle.encode_laws.proofs.RowLaws.{at_most-true, true-at_most, below-true, true-below}
use Rattle.encode_laws.proofs.PlainLaws.{is_counted_in, atom_true}
use Rattle.encode_laws.proofs.TableLaws.{IsGood}

pub not_at_most : (x y : Fraction) → y <ℚ x → is_at_most x y ≡ false
not_at_most x y h = by_truth (is_at_most x y) refl
  where
    by_truth : (b : Bool) → is_at_most x y ≡ b → b ≡ false
    by_truth true e = absurd (<ℚ-not-≥ y x h (at_most-true x y e))
    by_truth false e = refl

pub not_below : (x y : Fraction) → y ≤ℚ x → is_below x y ≡ false
not_below x y h = by_truth (is_below x y) refl
  where
    by_truth : (b : Bool) → is_below x y ≡ b → b ≡ false
    by_truth true e = absurd (<ℚ-not-≥ x y (below-true x y e) h)
    by_truth false e = refl

at_most-false : (x y : Fraction) → is_at_most x y ≡ false → y <ℚ x
at_most-false x y e = >-from_not x y (λ h. let g = true-at_most x y h in absurd (cc))

below-false : (x y : Fraction) → is_below x y ≡ false → y ≤ℚ x
below-false x y e = ≥-from_not x y (λ h. let g = true-below x y h in absurd (cc))

one_positive : whole (pos 0) <ℚ whole (pos 1)
one_positive = (positive-iff (whole (pos 1))).0 tt

one_more : (x b : Fraction) → (b +ℚ whole (pos 1)) ≤ℚ x → b <ℚ x
one_more x b h = strict_from fraction-order (v 0) (v 1) (b ∷ x ∷ []) (le (k (pos 1)) (v 0 ⊕ k (pos 1)) (v 1) tt h (lt (k (pos 1)) (k (pos 0)) (k (pos 1)) tt one_positive done)) tt refl

-- ---- bounds of a negative
module _ (x b : Fraction) where
  turned : (whole (negsuc 0) *ℚ x) ≤ℚ neg_ℚ b → b ≤ℚ x
  turned h = bound_from fraction-order (v 1) (v 0) (x ∷ b ∷ []) (le (k (pos 1)) (k (negsuc 0) ⊗ v 0) (inv (v 1)) tt h done) refl

  turned_strict : (whole (negsuc 0) *ℚ x) <ℚ neg_ℚ b → b <ℚ x
  turned_strict h = strict_from fraction-order (v 1) (v 0) (x ∷ b ∷ []) (lt (k (pos 1)) (k (negsuc 0) ⊗ v 0) (inv (v 1)) tt h done) tt refl

  turn : b ≤ℚ x → (whole (negsuc 0) *ℚ x) ≤ℚ neg_ℚ b
  turn h = bound_from fraction-order (k (negsuc 0) ⊗ v 0) (inv (v 1)) (x ∷ b ∷ []) (le (k (pos 1)) (v 1) (v 0) tt h done) refl

  turn_strict : b <ℚ x → (whole (negsuc 0) *ℚ x) <ℚ neg_ℚ b
  turn_strict h = strict_from fraction-order (k (negsuc 0) ⊗ v 0) (inv (v 1)) (x ∷ b ∷ []) (lt (k (pos 1)) (v 1) (v 0) tt h done) tt refl

-- where an atom is false, by whether it is of one count and whether it is strict; y is the negative's value
abbrev Fails : Bool → Bool → Fraction → Fraction → Type 0
Fails true s y b = InOrder false y (neg_ℚ (b +ℚ whole (pos 1)))
Fails false s y b = InOrder (not s) y (neg_ℚ b)

abbrev test : Bool → Fraction → Fraction → Bool
test s x b = cond s (is_below x b) (is_at_most x b)

holds-test : (s : Bool) (x b : Fraction) → InOrder s x b → test s x b ≡ true
holds-test true x b h = true-below x b h
holds-test false x b h = true-at_most x b h

test-holds : (s : Bool) (x b : Fraction) → test s x b ≡ true → InOrder s x b
test-holds true x b h = below-true x b h
test-holds false x b h = at_most-true x b h

fails-test : (o s : Bool) (x b : Fraction) → Fails o s (whole (negsuc 0) *ℚ x) b → test s x b ≡ false
fails-test true true x b h = not_below x b (weaker (one_more x b (turned x (b +ℚ whole (pos 1)) h)))
  where
    weaker : b <ℚ x → b ≤ℚ x
    weaker g = bound_from fraction-order (v 0) (v 1) (b ∷ x ∷ []) (lt (k (pos 1)) (v 0) (v 1) tt g done) refl
fails-test true false x b h = not_at_most x b (one_more x b (turned x (b +ℚ whole (pos 1)) h))
fails-test false true x b h = not_below x b (turned x b h)
fails-test false false x b h = not_at_most x b (turned_strict x b h)

module _ (at : ℕ → Fraction) (counts : List Bool) (a : Atom) where
  x : Fraction
  x = value_of at a.lin

  -- what the reading of the false atom says
  denied-fails : (o : Bool) → is_one_count counts a.lin.terms ≡ o → Holds at (reading counts a false) → Fails o a.strict (whole (negsuc 0) *ℚ value_of at a.lin) a.bound
  denied-fails o e h = by_kind o (subst (λ (b : Bool). Holds at (cond b (record { lin = negative a.lin; strict = false; bound = neg_ℚ (a.bound +ℚ whole (pos 1)) }) (record { lin = negative a.lin; strict = not a.strict; bound = neg_ℚ a.bound }))) e h)
    where
      by_kind : (b : Bool) → Holds at (cond b (record { lin = negative a.lin; strict = false; bound = neg_ℚ (a.bound +ℚ whole (pos 1)) }) (record { lin = negative a.lin; strict = not a.strict; bound = neg_ℚ a.bound }))
          → Fails b a.strict (whole (negsuc 0) *ℚ value_of at a.lin) a.bound
      by_kind true g = subst (λ w. InOrder false w (neg_ℚ (a.bound +ℚ whole (pos 1)))) (value_scale at (whole (negsuc 0)) a.lin) g
      by_kind false g = subst (λ w. InOrder (not a.strict) w (neg_ℚ a.bound)) (value_scale at (whole (negsuc 0)) a.lin) g

  fails-denied : (o : Bool) → is_one_count counts a.lin.terms ≡ o → Fails o a.strict (whole (negsuc 0) *ℚ value_of at a.lin) a.bound → Holds at (reading counts a false)
  fails-denied o e h = subst (λ (b : Bool). Holds at (cond b (record { lin = negative a.lin; strict = false; bound = neg_ℚ (a.bound +ℚ whole (pos 1)) }) (record { lin = negative a.lin; strict = not a.strict; bound = neg_ℚ a.bound }))) (sym e) (by_kind o h)
    where
      by_kind : (b : Bool) → Fails b a.strict (whole (negsuc 0) *ℚ value_of at a.lin) a.bound
          → Holds at (cond b (record { lin = negative a.lin; strict = false; bound = neg_ℚ (a.bound +ℚ whole (pos 1)) }) (record { lin = negative a.lin; strict = not a.strict; bound = neg_ℚ a.bound }))
      by_kind true g = subst (λ w. InOrder false w (neg_ℚ (a.bound +ℚ whole (pos 1)))) (sym (value_scale at (whole (negsuc 0)) a.lin)) g
      by_kind false g = subst (λ w. InOrder (not a.strict) w (neg_ℚ a.bound)) (sym (value_scale at (whole (negsuc 0)) a.lin)) g

  pub reading-truth : (t : Bool) → Holds at (reading counts a t) → t ≡ atom_true at a
  reading-truth true h = sym (holds-test a.strict (value_of at a.lin) a.bound h)
  reading-truth false h = sym (fails-test (is_one_count counts a.lin.terms) a.strict (value_of at a.lin) a.bound (denied-fails (is_one_count counts a.lin.terms) refl h))

module _ (at : ℕ → Fraction) (counts : List Bool) (counts_whole : (n : ℕ) → is_counted_in counts n ≡ true → IsWhole (at n)) (a : Atom) (good : IsGood counts (atom a)) where
  -- the value of one count is whole
  one_whole : is_one_count counts a.lin.terms ≡ true → IsWhole (value_of at a.lin)
  one_whole e =
      let g = good e in
      let c = g.2.0 in
      let is_var : a.lin ≡ var c = g.2.1 in
      subst IsWhole (sym (ap (value_of at) is_var ∙ value_var at c)) (counts_whole c (sym (ap (λ (l : Linear). is_one_count counts l.terms) is_var) ∙ e))

  next : (x b : Fraction) (z : ℤ) → b ≡ whole z → IsWhole x → b <ℚ x → (b +ℚ whole (pos 1)) ≤ℚ x
  next x b z e i h = subst (λ w. w ≤ℚ x) (whole-add z (pos 1) ∙ ap (λ w. w +ℚ whole (pos 1)) (sym e))
      ((IsWhole-split x z i).0 (λ j. <ℚ-not-≥ b x h (subst (λ w. x ≤ℚ w) (sym e) j)))

  test-fails : (o s : Bool) → is_one_count counts a.lin.terms ≡ o → a.strict ≡ s → test s (value_of at a.lin) a.bound ≡ false → Fails o s (whole (negsuc 0) *ℚ value_of at a.lin) a.bound
  test-fails true true o e h = absurd (let g = (good o).0 in cc)
  test-fails true false o e h =
      let g = good o in
      turn (value_of at a.lin) (a.bound +ℚ whole (pos 1)) (next (value_of at a.lin) a.bound g.1.0 g.1.1 (one_whole o) (at_most-false (value_of at a.lin) a.bound h))
  test-fails false true o e h = turn (value_of at a.lin) a.bound (below-false (value_of at a.lin) a.bound h)
  test-fails false false o e h = turn_strict (value_of at a.lin) a.bound (at_most-false (value_of at a.lin) a.bound h)

  pub truth-reading : (t : Bool) → atom_true at a ≡ t → Holds at (reading counts a t)
  truth-reading true e = test-holds a.strict (value_of at a.lin) a.bound e
  truth-reading false e = fails-denied at counts a (is_one_count counts a.lin.terms) refl (test-fails (is_one_count counts a.lin.terms) a.strict refl refl e)
