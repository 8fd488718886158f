-- At whole counts one of the two readings of an atom holds.
use Rattle.std.proofs.Common.{◌≡◌, ◌⊎◌, inl, inr, ℕ, Bool, true, false, not, cond, List, [], ◌∷◌, Option, Some, None, refl, sym, ap, subst, ◌∙◌}
use Rattle.std.specs.Prelude.{slice_get, unwrap_or}
use lib.IntN.{pos, negsuc, ◌+ℤ◌}
use Rattle.algebra.proofs.Solve.{v, k, ◌⊕◌, ◌⊗◌, inv, solve, bound_from, strict_from, le, lt, done}
use Rattle.rational.specs.Fraction.{Fraction, whole, neg_ℚ, ◌+ℚ◌, ◌*ℚ◌, ◌≤ℚ◌, ◌<ℚ◌}
use Rattle.rational.specs.Floor.{IsWhole}
use Rattle.rational.specs.Linear.{Terms, value_at}
use Rattle.rational.specs.Farkas.{InOrder}
use Rattle.rational.proofs.FieldLaws.{fraction-ring, whole-add}
use Rattle.rational.proofs.Signs.{fraction-order}
use Rattle.rational.proofs.OrderLaws.{<ℚ-not-≥, at_most_or_above}
use Rattle.rational.proofs.FloorLaws.{IsWhole-num, whole_either_side}
use Rattle.lin.specs.Linear.{value_of}
use Rattle.lin.specs.Negative.{negative}
use Rattle.lin.proofs.ValueLaws.{value_scale}
use Rattle.formula.specs.declared.atom.Atom.{Atom}
use Rattle.formula.specs.declared.atom.Constraint.{Constraint}
use Rattle.formula.specs.Atoms.{IsAtom, LeadsWithOne, is_one_count}
use Rattle.formula.specs.Reading.{Holds, reading}

-- ---- bounds of a negative
module _ (x b : Fraction) where
  turn : b ≤ℚ x → (whole (negsuc 0) *ℚ x) ≤ℚ neg_ℚ b
  turn h = bound_from fraction-order (k (negsuc 0) ⊗ v 0) (inv (v 1)) (x ∷ b ∷ []) (le (k (pos 1)) (v 1) (v 0) tt h done) refl

  turn_strict : b <ℚ x → (whole (negsuc 0) *ℚ x) <ℚ neg_ℚ b
  turn_strict h = strict_from fraction-order (k (negsuc 0) ⊗ v 0) (inv (v 1)) (x ∷ b ∷ []) (lt (k (pos 1)) (v 1) (v 0) tt h done) tt refl

  -- above a whole number another one is at least the next
  next : IsWhole b → IsWhole x → b <ℚ x → (b +ℚ whole (pos 1)) ≤ℚ x
  next integral also h = by_side (whole_either_side x b.num also)
    where
      bound_is : b ≡ whole b.num
      bound_is = IsWhole-num b integral

      by_side : (x ≤ℚ whole b.num) ⊎ (whole (b.num +ℤ pos 1) ≤ℚ x) → (b +ℚ whole (pos 1)) ≤ℚ x
      by_side (inl g) = absurd (<ℚ-not-≥ b x h (subst (λ w. x ≤ℚ w) (sym bound_is) g))
      by_side (inr g) = subst (λ w. w ≤ℚ x) (whole-add b.num (pos 1) ∙ ap (λ w. w +ℚ whole (pos 1)) (sym bound_is)) g

-- ---- the value of one count
abbrev only : List Bool → Terms → Type 0
only counts [] = ⊥
only counts (t ∷ []) = slice_get counts t.0 ≡ Some true
only counts (t ∷ u ∷ ts) = ⊥

counted : (o : Option Bool) → unwrap_or o false ≡ true → o ≡ Some true
counted None h = absurd (cc)
counted (Some true) h = refl
counted (Some false) h = absurd (cc)

one_only : (counts : List Bool) (ts : Terms) → is_one_count counts ts ≡ true → only counts ts
one_only counts [] h = absurd (cc)
one_only counts (t ∷ []) h = counted (slice_get counts t.0) h
one_only counts (t ∷ u ∷ ts) h = absurd (cc)

module _ (at : ℕ → Fraction) (counts : List Bool) (wholes : (n : ℕ) → slice_get counts n ≡ Some true → IsWhole (at n)) where
  term_whole : (ts : Terms) (c : Fraction) → only counts ts → LeadsWithOne ts → c ≡ whole (pos 0) → IsWhole (value_at at ts +ℚ c)
  term_whole [] c h one zero = absurd h
  term_whole (t ∷ []) c h one zero = subst IsWhole (sym (ap (λ q. q *ℚ at t.0 +ℚ whole (pos 0) +ℚ c) one ∙ ap (λ q. whole (pos 1) *ℚ at t.0 +ℚ whole (pos 0) +ℚ q) zero ∙ single (at t.0))) (wholes t.0 h)
    where
      single : (x : Fraction) → (whole (pos 1) *ℚ x +ℚ whole (pos 0)) +ℚ whole (pos 0) ≡ x
      single x = solve fraction-ring (k (pos 1) ⊗ v 0 ⊕ k (pos 0) ⊕ k (pos 0)) (v 0) (x ∷ []) refl
  term_whole (t ∷ u ∷ ts) c h one zero = absurd h

  module _ (a : Atom) (atom : IsAtom counts a) where
    x : Fraction
    x = value_of at a.lin

    value_whole : is_one_count counts a.lin.terms ≡ true → IsWhole (value_of at a.lin)
    value_whole e = term_whole a.lin.terms a.lin.constant (one_only counts a.lin.terms e) atom.leading atom.constant

    -- where the atom is false, by whether it is of one count
    abbrev denied_as : Bool → Constraint
    denied_as one =
        cond one (record { lin = negative a.lin; strict = false; bound = neg_ℚ (a.bound +ℚ whole (pos 1)) }) (record { lin = negative a.lin; strict = not a.strict; bound = neg_ℚ a.bound })

    turned : (s : Bool) (b : Fraction) → InOrder s (whole (negsuc 0) *ℚ value_of at a.lin) b → InOrder s (value_of at (negative a.lin)) b
    turned s b h = subst (λ w. InOrder s w b) (sym (value_scale at (whole (negsuc 0)) a.lin)) h

    -- not strictly below
    denied_strict : (one s : Bool) → is_one_count counts a.lin.terms ≡ one → a.strict ≡ s → s ≡ true → a.bound ≤ℚ value_of at a.lin → Holds at (denied_as one)
    denied_strict true s e is on h = absurd (let g = (atom.rounded e).weak in cc)
    denied_strict false s e is on h = turned (not a.strict) (neg_ℚ a.bound) (subst (λ w. InOrder (not w) (whole (negsuc 0) *ℚ value_of at a.lin) (neg_ℚ a.bound)) (sym (is ∙ on)) (turn (value_of at a.lin) a.bound h))

    -- above
    denied_weak : (one s : Bool) → is_one_count counts a.lin.terms ≡ one → a.strict ≡ s → s ≡ false → a.bound <ℚ value_of at a.lin → Holds at (denied_as one)
    denied_weak true s e is off h = turned false (neg_ℚ (a.bound +ℚ whole (pos 1))) (turn (value_of at a.lin) (a.bound +ℚ whole (pos 1)) (next (value_of at a.lin) a.bound (atom.rounded e).integral (value_whole e) h))
    denied_weak false s e is off h = turned (not a.strict) (neg_ℚ a.bound) (subst (λ w. InOrder (not w) (whole (negsuc 0) *ℚ value_of at a.lin) (neg_ℚ a.bound)) (sym (is ∙ off)) (turn_strict (value_of at a.lin) a.bound h))

    by_strict : (s : Bool) → a.strict ≡ s → InOrder s (value_of at a.lin) a.bound ⊎ Holds at (reading counts a false)
    by_strict true e = by_side (at_most_or_above a.bound (value_of at a.lin))
      where
        by_side : (a.bound ≤ℚ value_of at a.lin) ⊎ (value_of at a.lin <ℚ a.bound) → InOrder true (value_of at a.lin) a.bound ⊎ Holds at (reading counts a false)
        by_side (inl h) = inr (denied_strict (is_one_count counts a.lin.terms) true refl e refl h)
        by_side (inr h) = inl h
    by_strict false e = by_side (at_most_or_above (value_of at a.lin) a.bound)
      where
        by_side : (value_of at a.lin ≤ℚ a.bound) ⊎ (a.bound <ℚ value_of at a.lin) → InOrder false (value_of at a.lin) a.bound ⊎ Holds at (reading counts a false)
        by_side (inl h) = inl h
        by_side (inr h) = inr (denied_weak (is_one_count counts a.lin.terms) false refl e refl h)

    pub either_reading : (t : Bool) → Holds at (reading counts a t) ⊎ Holds at (reading counts a (not t))
    either_reading true = by_strict a.strict refl
    either_reading false = by_turn (by_strict a.strict refl)
      where
        by_turn : Holds at (reading counts a true) ⊎ Holds at (reading counts a false) → Holds at (reading counts a false) ⊎ Holds at (reading counts a true)
        by_turn (inl h) = inr h
        by_turn (inr h) = inl h
