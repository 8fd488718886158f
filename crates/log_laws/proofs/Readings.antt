-- An atom's two readings exclude each other, and at a whole count one of a split's two readings holds.
use Rattle.std.proofs.Common.{◌≡◌, ◌⊎◌, inl, inr, ℕ, Bool, true, false, not, cond, List, [], ◌∷◌, Some, refl, sym, ap, subst, ◌∙◌}
use Rattle.std.specs.Prelude.{◌+ℤ◌, slice_get, unwrap_or}
use lib.IntN.{ℤ, pos, negsuc}
use Rattle.algebra.proofs.Solve.{v, k, ◌⊕◌, ◌⊗◌, inv, bound_from, strict_from, le, lt, done}
use Rattle.rational.specs.Fraction.{Fraction, whole, neg_ℚ, ◌+ℚ◌, ◌*ℚ◌, ◌≤ℚ◌, ◌<ℚ◌}
use Rattle.rational.specs.Floor.{IsWhole}
use Rattle.rational.specs.Farkas.{InOrder}
use Rattle.rational.proofs.FieldLaws.{whole-add}
use Rattle.rational.proofs.Signs.{fraction-order}
use Rattle.rational.proofs.OrderLaws.{positive-iff, <ℚ-not-≥, <ℚ-weaken}
use Rattle.rational.proofs.FloorLaws.{IsWhole-num, whole_either_side}
use Rattle.lin.specs.Linear.{Linear, value_of, point_of, var}
use Rattle.lin.specs.Negative.{negative}
use Rattle.lin.proofs.ValueLaws.{value_scale, value_var}
use Rattle.formula.specs.declared.atom.Atom.{Atom}
use Rattle.formula.specs.declared.atom.Constraint.{Constraint}
use Rattle.formula.specs.Atoms.{is_one_count}
use Rattle.formula.specs.Reading.{Holds, affirmed, denied, reading}
use Rattle.theory_law.specs.Splits.{at_most}

one_positive : whole (pos 0) <ℚ whole (pos 1)
one_positive = (positive-iff (whole (pos 1))).0 tt

one_more : (x b : Fraction) → (b +ℚ whole (pos 1)) ≤ℚ x → b <ℚ x
one_more x b h = strict_from fraction-order (v 0) (v 1) (b ∷ x ∷ []) (le (k (pos 1)) (v 0 ⊕ k (pos 1)) (v 1) tt h (lt (k (pos 1)) (k (pos 0)) (k (pos 1)) tt one_positive done)) tt refl

turned : (x b : Fraction) → (whole (negsuc 0) *ℚ x) ≤ℚ neg_ℚ b → b ≤ℚ x
turned x b h = bound_from fraction-order (v 1) (v 0) (x ∷ b ∷ []) (le (k (pos 1)) (k (negsuc 0) ⊗ v 0) (inv (v 1)) tt h done) refl

turned_strict : (x b : Fraction) → (whole (negsuc 0) *ℚ x) <ℚ neg_ℚ b → b <ℚ x
turned_strict x b h = strict_from fraction-order (v 1) (v 0) (x ∷ b ∷ []) (lt (k (pos 1)) (k (negsuc 0) ⊗ v 0) (inv (v 1)) tt h done) tt refl

turn : (x b : Fraction) → b ≤ℚ x → (whole (negsuc 0) *ℚ x) ≤ℚ neg_ℚ b
turn x b h = bound_from fraction-order (k (negsuc 0) ⊗ v 0) (inv (v 1)) (x ∷ b ∷ []) (le (k (pos 1)) (v 1) (v 0) tt h done) refl

-- the reading of an atom that is false, by whether it is of one count
abbrev denied_as : Bool → Atom → Constraint
denied_as one a =
    cond one (record { lin = negative a.lin; strict = false; bound = neg_ℚ (a.bound +ℚ whole (pos 1)) }) (record { lin = negative a.lin; strict = not a.strict; bound = neg_ℚ a.bound })

-- what it says of the value of the atom's expression
abbrev Fails : Bool → Bool → Fraction → Fraction → Type 0
Fails true s x b = InOrder false (whole (negsuc 0) *ℚ x) (neg_ℚ (b +ℚ whole (pos 1)))
Fails false s x b = InOrder (not s) (whole (negsuc 0) *ℚ x) (neg_ℚ b)

fails : (at : ℕ → Fraction) (one : Bool) (a : Atom) → Holds at (denied_as one a) → Fails one a.strict (value_of at a.lin) a.bound
fails at true a h = subst (λ w. InOrder false w (neg_ℚ (a.bound +ℚ whole (pos 1)))) (value_scale at (whole (negsuc 0)) a.lin) h
fails at false a h = subst (λ w. InOrder (not a.strict) w (neg_ℚ a.bound)) (value_scale at (whole (negsuc 0)) a.lin) h

not_both : (one s : Bool) (x b : Fraction) → InOrder s x b → Fails one s x b → ⊥
not_both true true x b h f = <ℚ-not-≥ x b h (<ℚ-weaken b x (one_more x b (turned x (b +ℚ whole (pos 1)) f)))
not_both true false x b h f = <ℚ-not-≥ b x (one_more x b (turned x (b +ℚ whole (pos 1)) f)) h
not_both false true x b h f = <ℚ-not-≥ x b h (turned x b f)
not_both false false x b h f = <ℚ-not-≥ b x (turned_strict x b f) h

apart : (at : ℕ → Fraction) (counts : List Bool) (a : Atom) → Holds at (affirmed a) → Holds at (denied counts a) → ⊥
apart at counts a h d = not_both (is_one_count counts a.lin.terms) a.strict (value_of at a.lin) a.bound h (fails at (is_one_count counts a.lin.terms) a d)

-- the truths by which two readings hold are one
pub one_truth : (at : ℕ → Fraction) (counts : List Bool) (a : Atom) (s t : Bool) → Holds at (reading counts a s) → Holds at (reading counts a t) → s ≡ t
one_truth at counts a true true h g = refl
one_truth at counts a true false h g = absurd (apart at counts a h g)
one_truth at counts a false true h g = absurd (apart at counts a g h)
one_truth at counts a false false h g = refl

-- ---- a split

holds_below : (at : ℕ → Fraction) (n : ℕ) (b : Fraction) → at n ≤ℚ b → Holds at (affirmed (at_most n b))
holds_below at n b h = subst (λ w. w ≤ℚ b) (sym (value_var at n)) h

holds_above : (at : ℕ → Fraction) (n : ℕ) (b : Fraction) → (b +ℚ whole (pos 1)) ≤ℚ at n → Holds at (denied_as true (at_most n b))
holds_above at n b h =
    subst (λ w. w ≤ℚ neg_ℚ (b +ℚ whole (pos 1))) (sym (value_scale at (whole (negsuc 0)) (var n) ∙ ap (λ w. whole (negsuc 0) *ℚ w) (value_var at n)))
    (turn (at n) (b +ℚ whole (pos 1)) h)

pub split_reads : (at : ℕ → Fraction) (counts : List Bool) (n : ℕ) (b : Fraction) → slice_get counts n ≡ Some true → IsWhole b → IsWhole (at n) → (t : Bool) × Holds at (reading counts (at_most n b) t)
split_reads at counts n b count integral whole_at = by_side (whole_either_side (at n) b.num whole_at)
  where
    bound_is : b ≡ whole b.num
    bound_is = IsWhole-num b integral

    by_side : (at n ≤ℚ whole b.num) ⊎ (whole (b.num +ℤ pos 1) ≤ℚ at n) → (t : Bool) × Holds at (reading counts (at_most n b) t)
    by_side (inl h) = (true, holds_below at n b (subst (λ w. at n ≤ℚ w) (sym bound_is) h))
    by_side (inr h) =
        let above : (b +ℚ whole (pos 1)) ≤ℚ at n = subst (λ w. w ≤ℚ at n) (whole-add b.num (pos 1) ∙ ap (λ w. w +ℚ whole (pos 1)) (sym bound_is)) h in
        (false, subst (λ (one : Bool). Holds at (denied_as one (at_most n b))) (sym (ap (λ o. unwrap_or o false) count)) (holds_above at n b above))
