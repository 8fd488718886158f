-- The value of a function after a step lies in its old interval or in what the action adds.
use Rattle.std.proofs.Common.{◌≡◌, ℕ, Bool, true, false, cond, ◌||◌, List, [], ◌∷◌, refl, sym, subst, Option, Some, None, nat_eq, ◌⊎◌, inl, inr}
use lib.IntN.{pos}
use Rattle.algebra.proofs.Solve.{v, k, ◌⊕◌, solve, solve_from, bound_from, le, lt, eq, done}
use Rattle.rational.specs.Fraction.{Fraction, whole, ◌+ℚ◌}
use Rattle.rational.specs.Linear.{Terms, value_at, coefficient_of}
use Rattle.rational.proofs.FieldLaws.{fraction-ring}
use Rattle.rational.proofs.Signs.{fraction-order}
use Rattle.rational.proofs.OrderLaws.{≤ℚ_trans, ≤ℚ-same, positive-iff}
use Rattle.task_core.specs.declared.action.GAction.{GAction}
use Rattle.task_core.specs.State.{State}
use Rattle.task_core.specs.Step.{Holds, is_in, set_of, new_value, value_after, after, is_empty}
use Rattle.task_core.specs.Task.{GroundParts, value_atom, is_valued, has_value, numbers, IsActionOf}
use Rattle.lin.specs.Linear.{Linear, value_of}
use Rattle.lin.specs.Normal.{is_zero}
use Rattle.relaxed.specs.declared.interval.End.{End}
use Rattle.relaxed.specs.declared.interval.End.TheVariants.{At, Infinite}
use Rattle.relaxed.specs.declared.interval.Interval.{Interval}
use Rattle.relaxed.specs.declared.range.Side.TheVariants.{Least, Greatest}
use Rattle.relaxed.specs.Interval.{IsAbove, IsBelow, Within, MayBe, is_at_most, between, point}
use Rattle.relaxed.specs.Range.{is_positive, range_end}
use Rattle.relaxed.specs.Layers.{Layer, box, stretched_low, stretched_high, reached_by_range, reached_by_amount, reached_by, reached}
use Rattle.relaxed.specs.InLayer.{InLayer}
use Rattle.relaxed.proofs.Tests.{at_most-true, positive-true, positive-false, is_zero-true}
use Rattle.relaxed.proofs.Ranges.{InBox, range-sound}
use Rattle.relaxed.proofs.ReadLaws.{reads-sets, reads-set}
use Rattle.relaxed.proofs.Supported.{in_box, reads-valued}

stretched_low_has : (e r : End) (x : Fraction) → IsAbove r x → IsAbove (stretched_low e r) x
stretched_low_has Infinite r x h = tt
stretched_low_has (At e) Infinite x h = tt
stretched_low_has (At e) (At r) x h = by_test (is_at_most e r) refl
  where
    by_test : (b : Bool) → is_at_most e r ≡ b → IsAbove (cond b (At e) Infinite) x
    by_test true j = ≤ℚ_trans e r x (at_most-true e r j) h
    by_test false j = tt

stretched_high_has : (e r : End) (x : Fraction) → IsBelow r x → IsBelow (stretched_high e r) x
stretched_high_has Infinite r x h = tt
stretched_high_has (At e) Infinite x h = tt
stretched_high_has (At e) (At r) x h = by_test (is_at_most r e) refl
  where
    by_test : (b : Bool) → is_at_most r e ≡ b → IsBelow (cond b (At e) Infinite) x
    by_test true j = ≤ℚ_trans x r e h (at_most-true r e j)
    by_test false j = tt

low_grows : (l : End) (x c : Fraction) → IsAbove l x → is_positive c ≡ true → IsAbove l (x +ℚ c)
low_grows Infinite x c h p = tt
low_grows (At e) x c h p = bound_from fraction-order (v 0) (v 1 ⊕ v 2) (e ∷ x ∷ c ∷ [])
    (le (k (pos 1)) (v 0) (v 1) tt h (lt (k (pos 1)) (k (pos 0)) (v 2) tt ((positive-iff c).0 (positive-true c p)) done)) refl

high_falls : (l : End) (x c : Fraction) → IsBelow l x → is_positive c ≡ false → IsBelow l (x +ℚ c)
high_falls Infinite x c h p = tt
high_falls (At e) x c h p = bound_from fraction-order (v 1 ⊕ v 2) (v 0) (e ∷ x ∷ c ∷ [])
    (le (k (pos 1)) (v 1) (v 0) tt h (le (k (pos 1)) (v 2) (k (pos 0)) tt (positive-false c p) done)) refl

plus_zero : (x c : Fraction) → c ≡ whole (pos 0) → x +ℚ c ≡ x
plus_zero x c e = solve_from fraction-ring (v 0 ⊕ v 1) (v 0) (x ∷ c ∷ []) (eq (k (pos 1)) (v 1) (k (pos 0)) e done) refl

amount-reached : (c x : Fraction) (i : Option Interval) → MayBe i x → MayBe i (x +ℚ c) ⊎ MayBe (reached_by_amount c i) (x +ℚ c)
amount-reached c x None h = absurd h
amount-reached c x (Some i) h = by_tests (is_zero c) refl (is_positive c) refl
  where
    by_tests : (z : Bool) → is_zero c ≡ z → (b : Bool) → is_positive c ≡ b
        → Within i (x +ℚ c) ⊎ MayBe (cond z None (cond b (Some (between i.low Infinite)) (Some (between Infinite i.high)))) (x +ℚ c)
    by_tests true e b p = inl (subst (Within i) (sym (plus_zero x c (is_zero-true c e))) h)
    by_tests false e true p = inr (record { low = low_grows i.low x c h.low p; high = tt })
    by_tests false e false p = inr (record { low = tt; high = high_falls i.high x c h.high p })

constant-value : (l : Linear) (at : ℕ → Fraction) → is_empty l.terms ≡ true → value_of at l ≡ l.constant
constant-value l at e = by_terms l.terms e
  where
    by_terms : (ts : Terms) → is_empty ts ≡ true → value_at at ts +ℚ l.constant ≡ l.constant
    by_terms [] e = solve fraction-ring (k (pos 0) ⊕ v 0) (v 0) (l.constant ∷ []) refl
    by_terms (t ∷ ts) e = absurd (cc)

-- a function without a new value isn't among those with one
unset : (ss : List (ℕ × Linear)) (f : ℕ) → set_of ss f ≡ None → is_in f (numbers ss) ≡ false
unset [] f e = refl
unset (s ∷ more) f e = by_test (nat_eq s.0 f) e (unset more f)
  where
    by_test : (b : Bool) → cond b (Some s.1) (set_of more f) ≡ None → (set_of more f ≡ None → is_in f (numbers more) ≡ false) → (b || is_in f (numbers more)) ≡ false
    by_test true e ih = absurd (cc)
    by_test false e ih = ih e

module _ (task : GroundParts) (y : Layer) (s : State) (inside : InLayer task y s) (a : GAction) (of : IsActionOf task a) (h : Holds a s) where
  range-reached : (l : Linear) (i : Option Interval) → InBox Least s.value (box y) l.terms → Within (reached_by_range y l i) (value_of s.value l)
  range-reached l None j = record { low = tt; high = tt }
  range-reached l (Some i) j = record {
    low = stretched_low_has i.low (range_end Least (box y) l) (value_of s.value l) (range-sound Least s.value (box y) l j);
    high = stretched_high_has i.high (range_end Greatest (box y) l) (value_of s.value l) (range-sound Greatest s.value (box y) l j);
  }

  set-reached : (l : Linear) (i : Option Interval) → InBox Least s.value (box y) l.terms
      → Within (cond (is_empty l.terms) (point l.constant) (reached_by_range y l i)) (value_of s.value l)
  set-reached l i j = by_test (is_empty l.terms) refl
    where
      by_test : (b : Bool) → is_empty l.terms ≡ b → Within (cond b (point l.constant) (reached_by_range y l i)) (value_of s.value l)
      by_test true e = record { low = ≤ℚ-same _ _ (sym (constant-value l s.value e)); high = ≤ℚ-same _ _ (constant-value l s.value e) }
      by_test false e = range-reached l i j

  -- a function without a new value has a value after the step only where it had one
  had-value : (f : ℕ) → set_of a.sets f ≡ None → has_value task (after a s) f ≡ true → has_value task s f ≡ true
  had-value f e g = by_atom (value_atom task f) refl g
    where
      by_tests : (p : ℕ) → (is_in p a.adds ≡ true → is_in f (numbers a.sets) ≡ true) → (b d : Bool) → is_in p a.adds ≡ b → cond b true (cond d false (s.truth p)) ≡ true
          → s.truth p ≡ true
      by_tests p add true d n g = let m = add n in let q = unset a.sets f e in absurd (cc)
      by_tests p add false true n g = absurd (cc)
      by_tests p add false false n g = g

      by_atom : (o : Option ℕ) → value_atom task f ≡ o → is_valued o (after a s) ≡ true → is_valued o s ≡ true
      by_atom None j g = refl
      by_atom (Some p) j g = by_tests p (of.tells f p j).added (is_in p a.adds) (is_in p a.dels) refl g

  pub after-reached : (f : ℕ) → has_value task (after a s) f ≡ true → MayBe (y.interval f) (value_after a s f) ⊎ MayBe (reached y f a) (value_after a s f)
  after-reached f g = by_set (set_of a.sets f) refl
    where
      by_set : (o : Option Linear) → set_of a.sets f ≡ o
          → MayBe (y.interval f) (new_value s a.incs f o) ⊎ MayBe (reached_by y (y.interval f) (coefficient_of f a.incs) o) (new_value s a.incs f o)
      by_set None e = amount-reached (coefficient_of f a.incs) (s.value f) (y.interval f) (inside.value_in f (had-value f e g))
      by_set (Some l) e =
          let valued = reads-sets (has_value task s) a (reads-valued task y s inside a of h) in
          inr (set-reached l (y.interval f) (in_box task y s inside l.terms (reads-set (has_value task s) a.sets f l valued e)))
