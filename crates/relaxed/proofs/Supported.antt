-- An action that has its step in a state of the layer is supported there.
use Rattle.std.proofs.Common.{◌≡◌, ℕ, Bool, true, false, cond, List, [], ◌∷◌, refl, sym, Option, Some, None}
use Rattle.std.specs.List.{list_all, flat_map}
use Rattle.std.proofs.lemmas.Bool.{and_parts, and_from}
use lib.IntN.{pos}
use Rattle.rational.specs.Fraction.{Fraction, whole, ◌≤ℚ◌, ◌<ℚ◌}
use Rattle.rational.specs.Linear.{Terms}
use Rattle.rational.proofs.OrderLaws.{≤ℚ-same, ≤ℚ_trans, ≤ℚ-<ℚ_trans}
use Rattle.lin.specs.Linear.{Linear, value_of}
use Rattle.lin.specs.declared.comparison.Cmp.{Cmp}
use Rattle.lin.specs.declared.comparison.Cmp.TheVariants.{Le, Lt, Eq}
use Rattle.task_core.specs.declared.action.GAction.{GAction}
use Rattle.task_core.specs.State.{State, ComparesToZero}
use Rattle.task_core.specs.Step.{LiteralsHold, ComparisonsHold, Holds}
use Rattle.task_core.specs.Task.{GroundParts, has_value, read_by, variables, numbers, IsActionOf}
use Rattle.task_core.proofs.ValueLaws.{reads_valued}
use Rattle.relaxed.specs.declared.interval.End.{End}
use Rattle.relaxed.specs.declared.interval.End.TheVariants.{At, Infinite}
use Rattle.relaxed.specs.declared.interval.Interval.{Interval}
use Rattle.relaxed.specs.declared.range.Side.TheVariants.{Least, Greatest}
use Rattle.relaxed.specs.Interval.{IsAbove, IsBelow, Within, MayBe, is_at_most, is_below}
use Rattle.relaxed.specs.Range.{range_end}
use Rattle.relaxed.specs.Layers.{Layer, is_there, interval_or_all, box, literal_may_hold, end_passes, ends_may_hold, comparison_may_hold, has_interval, is_supported}
use Rattle.relaxed.specs.InLayer.{InLayer}
use Rattle.relaxed.proofs.Tests.{true-at_most, true-below}
use Rattle.relaxed.proofs.ReadLaws.{all-left, all-right, all_from, all-more, reads-comparisons}
use Rattle.relaxed.proofs.Ranges.{InBox, range-sound}

value-there : (i : Option Interval) (x : Fraction) → MayBe i x → is_there i ≡ true
value-there None x h = absurd h
value-there (Some i) x h = refl

value-within : (i : Option Interval) (x : Fraction) → MayBe i x → Within (interval_or_all i) x
value-within None x h = absurd h
value-within (Some i) x h = h

low_at_most : (l : End) (x : Fraction) → IsAbove l x → x ≤ℚ whole (pos 0) → end_passes (λ e. is_at_most e (whole (pos 0))) l ≡ true
low_at_most Infinite x h j = refl
low_at_most (At e) x h j = true-at_most e (whole (pos 0)) (≤ℚ_trans e x (whole (pos 0)) h j)

low_below : (l : End) (x : Fraction) → IsAbove l x → x <ℚ whole (pos 0) → end_passes (λ e. is_below e (whole (pos 0))) l ≡ true
low_below Infinite x h j = refl
low_below (At e) x h j = true-below e (whole (pos 0)) (≤ℚ-<ℚ_trans e x (whole (pos 0)) h j)

high_at_least : (l : End) (x : Fraction) → IsBelow l x → whole (pos 0) ≤ℚ x → end_passes (λ e. is_at_most (whole (pos 0)) e) l ≡ true
high_at_least Infinite x h j = refl
high_at_least (At e) x h j = true-at_most (whole (pos 0)) e (≤ℚ_trans (whole (pos 0)) x e j h)

ends-may : (c : Cmp) (low high : End) (x : Fraction) → IsAbove low x → IsBelow high x → ComparesToZero c x → ends_may_hold c low high ≡ true
ends-may Le low high x a b h = low_at_most low x a h
ends-may Lt low high x a b h = low_below low x a h
ends-may Eq low high x a b h = and_from _ _ (low_at_most low x a (≤ℚ-same _ _ h)) (high_at_least high x b (≤ℚ-same _ _ (sym h)))

module _ (task : GroundParts) (y : Layer) (s : State) (inside : InLayer task y s) where
  literals-may : (lits : List (ℕ × Bool)) → LiteralsHold s lits → list_all (literal_may_hold y) lits ≡ true
  literals-may [] h = refl
  literals-may (l ∷ more) h = and_from _ _ (by_sign l.1 h.0) (literals-may more h.1)
    where
      by_sign : (b : Bool) → s.truth l.0 ≡ b → cond b (y.may_be_true l.0) (y.may_be_false l.0) ≡ true
      by_sign true e = inside.true_in l.0 e
      by_sign false e = inside.false_in l.0 e

  -- the values of an expression lie in its box
  pub in_box : (ts : Terms) → list_all (has_value task s) (numbers ts) ≡ true → InBox Least s.value (box y) ts
  in_box [] e = tt
  in_box (t ∷ ts) e =
      let p = and_parts (has_value task s t.0) _ e in
      (value-within (y.interval t.0) (s.value t.0) (inside.value_in t.0 p.0), in_box ts p.1)

  comparisons-may : (cs : List (Linear × Cmp)) → list_all (has_value task s) (flat_map (λ c. variables c.0) cs) ≡ true → ComparisonsHold s cs
      → list_all (comparison_may_hold y) cs ≡ true
  comparisons-may [] e h = refl
  comparisons-may (c ∷ more) e h =
      let inb = in_box c.0.terms (all-left (has_value task s) (variables c.0) (flat_map (λ c. variables c.0) more) e) in
      and_from _ _ (ends-may c.1 (range_end Least (box y) c.0) (range_end Greatest (box y) c.0) (value_of s.value c.0)
      (range-sound Least s.value (box y) c.0 inb) (range-sound Greatest s.value (box y) c.0 inb) h.0)
      (comparisons-may more (all-right (has_value task s) (variables c.0) (flat_map (λ c. variables c.0) more) e) h.1)

  pub reads-valued : (a : GAction) → IsActionOf task a → Holds a s → list_all (has_value task s) (read_by a) ≡ true
  reads-valued a of h = all_from (has_value task s) (read_by a) (reads_valued task a s of h.literals)

  pub step-supported : (a : GAction) → IsActionOf task a → Holds a s → is_supported y a ≡ true
  step-supported a of h =
      let valued = reads-valued a of h in
      and_from _ _
      (and_from _ _ (literals-may a.lits h.literals)
      (all-more (has_value task s) (has_interval y) (λ f e. value-there (y.interval f) (s.value f) (inside.value_in f e)) (read_by a) valued))
      (comparisons-may a.cmps (reads-comparisons (has_value task s) a valued) h.comparisons)
