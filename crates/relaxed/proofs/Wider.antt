-- What a layer supports, the next one supports.
use Rattle.std.proofs.Common.{◌≡◌, ℕ, Bool, true, false, cond, ◌&&◌, ◌||◌, List, [], ◌∷◌, refl, sym, ap, subst, ◌∙◌, Option, Some, None}
use Rattle.std.specs.List.{AllByRecursion, list_all, list_any, flat_map}
use Rattle.std.proofs.lemmas.Bool.{and_parts, and_from}
use lib.IntN.{pos}
use Rattle.rational.specs.Fraction.{Fraction, whole, ◌+ℚ◌, ◌*ℚ◌, ◌≤ℚ◌}
use Rattle.rational.specs.Linear.{Terms}
use Rattle.rational.proofs.OrderLaws.{≤ℚ_refl, ≤ℚ_trans, ≤ℚ-<ℚ_trans}
use Rattle.task_core.specs.declared.action.GAction.{GAction}
use Rattle.task_core.specs.Step.{is_in}
use Rattle.task_core.specs.Task.{GroundParts, numbers, variables, read_by}
use Rattle.lin.specs.Linear.{Linear}
use Rattle.lin.specs.declared.comparison.Cmp.{Cmp}
use Rattle.lin.specs.declared.comparison.Cmp.TheVariants.{Le, Lt, Eq}
use Rattle.relaxed.specs.declared.interval.End.{End}
use Rattle.relaxed.specs.declared.interval.End.TheVariants.{At, Infinite}
use Rattle.relaxed.specs.declared.interval.Interval.{Interval}
use Rattle.relaxed.specs.declared.range.Side.{Side}
use Rattle.relaxed.specs.declared.range.Side.TheVariants.{Least, Greatest}
use Rattle.relaxed.specs.Interval.{is_at_most, is_below, lower, higher, hull}
use Rattle.relaxed.specs.Range.{is_positive, end_for, with_pick, picks, sum_from, end_of_picks, range_end}
use Rattle.relaxed.specs.Layers.{Layer, is_there, interval_or_all, box, literal_may_hold, end_passes, ends_may_hold, comparison_may_hold, has_interval, is_readable, is_supported, reached, widened, next_layer, layer}
use Rattle.relaxed.proofs.Tests.{at_most-true, true-at_most, below-true, true-below, at_most-false}
use Rattle.relaxed.proofs.Ranges.{Before, up, down, add_before}
use Rattle.relaxed.proofs.ReadLaws.{all-left, all-right, all-more, reads-comparisons}

-- the end a is at Least as far as b
abbrev pub WiderEnd : Side → End → End → Type 0
WiderEnd side Infinite b = Unit {0}
WiderEnd side (At x) Infinite = ⊥
WiderEnd side (At x) (At y) = Before side x y

pub record Covers (i j : Interval) : Type 0 where
  pub low : WiderEnd Least i.low j.low
  pub high : WiderEnd Greatest i.high j.high

abbrev pub CoversAll : Option Interval → Option Interval → Type 0
CoversAll i None = Unit {0}
CoversAll None (Some j) = ⊥
CoversAll (Some i) (Some j) = Covers i j

pub record IsWider (z y : Layer) : Type 0 where
  pub true_more : (p : ℕ) → y.may_be_true p ≡ true → z.may_be_true p ≡ true
  pub false_more : (p : ℕ) → y.may_be_false p ≡ true → z.may_be_false p ≡ true
  pub interval_more : (f : ℕ) → CoversAll (z.interval f) (y.interval f)

finite : (side : Side) (a b : End) (x : Fraction) → WiderEnd side a b → a ≡ At x → (y : Fraction) × (b ≡ At y) × Before side x y
finite side Infinite b x w e = absurd (cc)
finite side (At l) Infinite x w e = absurd w
finite side (At l) (At m) x w e = let q : l ≡ x = cc in (m, refl, subst (λ u. Before side u m) q w)

itself_by : (s : Side) (x : Fraction) → Before s x x
itself_by Least x = ≤ℚ_refl x
itself_by Greatest x = ≤ℚ_refl x

product_wide : (side : Side) (c : Fraction) (i j : Interval) (x : Fraction) → Covers i j → end_for side c i ≡ At x → (y : Fraction) × (end_for side c j ≡ At y) × Before side (c *ℚ x) (c *ℚ y)
product_wide side c i j x w h = by_side side (is_positive c) refl h
  where
    by_side : (side : Side) (b : Bool) → is_positive c ≡ b → end_for side c i ≡ At x → (y : Fraction) × (end_for side c j ≡ At y) × Before side (c *ℚ x) (c *ℚ y)
    by_side Least true p h = let r = finite Least i.low j.low x w.low (sym (ap (λ b. cond b i.low i.high) p) ∙ h) in (r.0, ap (λ b. cond b j.low j.high) p ∙ r.1, up c x r.0 p r.2)
    by_side Least false p h = let r = finite Greatest i.high j.high x w.high (sym (ap (λ b. cond b i.low i.high) p) ∙ h) in (r.0, ap (λ b. cond b j.low j.high) p ∙ r.1, down c r.0 x p r.2)
    by_side Greatest true p h = let r = finite Greatest i.high j.high x w.high (sym (ap (λ b. cond b i.high i.low) p) ∙ h) in (r.0, ap (λ b. cond b j.high j.low) p ∙ r.1, up c r.0 x p r.2)
    by_side Greatest false p h = let r = finite Least i.low j.low x w.low (sym (ap (λ b. cond b i.high i.low) p) ∙ h) in (r.0, ap (λ b. cond b j.high j.low) p ∙ r.1, down c x r.0 p r.2)

module _ (side : Side) (wide narrow : ℕ → Interval) where
  abbrev pub CoversTerms : Terms → Type 0
  CoversTerms ts = AllByRecursion (λ t. Covers (wide t.0) (narrow t.0)) ts

  abbrev pub Narrowed : Terms → Fraction → Fraction → List (Fraction × Fraction) → Type 0
  Narrowed ts a b ps = (qs : List (Fraction × Fraction)) × (picks side narrow ts ≡ Some qs) × Before side (sum_from a ps) (sum_from b qs)

  wide_from : (ts : Terms) (a b : Fraction) (ps : List (Fraction × Fraction)) → CoversTerms ts → Before side a b → picks side wide ts ≡ Some ps → Narrowed ts a b ps
  wide_from [] a b [] h l e = ([], refl, l)
  wide_from [] a b (p ∷ ps) h l e = absurd (cc)
  wide_from (t ∷ ts) a b ps h l e = by_end (end_for side t.1 (wide t.0)) refl (picks side wide ts) refl ps e (wide_from ts)
    where
      by_end : (m : End) → end_for side t.1 (wide t.0) ≡ m → (o : Option (List (Fraction × Fraction))) → picks side wide ts ≡ o → (ps : List (Fraction × Fraction)) → with_pick t.1 m o ≡ Some ps
          → ((a b : Fraction) (ps : List (Fraction × Fraction)) → CoversTerms ts → Before side a b → picks side wide ts ≡ Some ps → Narrowed ts a b ps) → Narrowed (t ∷ ts) a b ps
      by_end Infinite j o g ps e ih = absurd (cc)
      by_end (At m) j None g ps e ih = absurd (cc)
      by_end (At m) j (Some qs) g ps e ih =
          let r = product_wide side t.1 (wide t.0) (narrow t.0) m h.0 j in
          let s = ih (a +ℚ t.1 *ℚ m) (b +ℚ t.1 *ℚ r.0) qs h.1 (add_before side a b (t.1 *ℚ m) (t.1 *ℚ r.0) l r.2) g in
          let q : (t.1, m) ∷ qs ≡ ps = cc in
          subst (λ (ps : List (Fraction × Fraction)). Narrowed (t ∷ ts) a b ps) q
          ((t.1, r.0) ∷ s.0, ap (λ w. with_pick t.1 w (picks side narrow ts)) r.1 ∙ ap (λ w. with_pick t.1 (At r.0) w) s.1, s.2)

  pub range-wide : (l : Linear) → CoversTerms l.terms → WiderEnd side (range_end side wide l) (range_end side narrow l)
  range-wide l h = by_picks (picks side wide l.terms) refl
    where
      by_picks : (o : Option (List (Fraction × Fraction))) → picks side wide l.terms ≡ o → WiderEnd side (end_of_picks l.constant o) (range_end side narrow l)
      by_picks None e = tt
      by_picks (Some ps) e =
          let r = wide_from l.terms l.constant l.constant ps h (itself_by side l.constant) e in
          subst (λ (o : Option (List (Fraction × Fraction))). WiderEnd side (At (sum_from l.constant ps)) (end_of_picks l.constant o)) (sym r.1) r.2

low_more : (a b : End) → WiderEnd Least a b → end_passes (λ e. is_at_most e (whole (pos 0))) b ≡ true → end_passes (λ e. is_at_most e (whole (pos 0))) a ≡ true
low_more Infinite b w h = refl
low_more (At x) Infinite w h = absurd w
low_more (At x) (At y) w h = true-at_most x (whole (pos 0)) (≤ℚ_trans x y (whole (pos 0)) w (at_most-true y (whole (pos 0)) h))

below_more : (a b : End) → WiderEnd Least a b → end_passes (λ e. is_below e (whole (pos 0))) b ≡ true → end_passes (λ e. is_below e (whole (pos 0))) a ≡ true
below_more Infinite b w h = refl
below_more (At x) Infinite w h = absurd w
below_more (At x) (At y) w h = true-below x (whole (pos 0)) (≤ℚ-<ℚ_trans x y (whole (pos 0)) w (below-true y (whole (pos 0)) h))

high_more : (a b : End) → WiderEnd Greatest a b → end_passes (λ e. is_at_most (whole (pos 0)) e) b ≡ true → end_passes (λ e. is_at_most (whole (pos 0)) e) a ≡ true
high_more Infinite b w h = refl
high_more (At x) Infinite w h = absurd w
high_more (At x) (At y) w h = true-at_most (whole (pos 0)) x (≤ℚ_trans (whole (pos 0)) y x (at_most-true (whole (pos 0)) y h) w)

ends_more : (c : Cmp) (a b d e : End) → WiderEnd Least a b → WiderEnd Greatest d e → ends_may_hold c b e ≡ true → ends_may_hold c a d ≡ true
ends_more Le a b d e w x h = low_more a b w h
ends_more Lt a b d e w x h = below_more a b w h
ends_more Eq a b d e w x h = and_from _ _ (low_more a b w (and_parts _ _ h).0) (high_more d e x (and_parts _ _ h).1)

covers-there : (i j : Option Interval) → CoversAll i j → is_there j ≡ true → is_there i ≡ true
covers-there i None w h = absurd (cc)
covers-there None (Some j) w h = absurd w
covers-there (Some i) (Some j) w h = refl

covers-box : (i j : Option Interval) → CoversAll i j → is_there j ≡ true → Covers (interval_or_all i) (interval_or_all j)
covers-box i None w h = absurd (cc)
covers-box None (Some j) w h = absurd w
covers-box (Some i) (Some j) w h = w

module _ (z y : Layer) (w : IsWider z y) where
  lits-more : (ls : List (ℕ × Bool)) → list_all (literal_may_hold y) ls ≡ true → list_all (literal_may_hold z) ls ≡ true
  lits-more [] h = refl
  lits-more (l ∷ ls) h = and_from _ _ (by_sign l.1 (and_parts _ _ h).0) (lits-more ls (and_parts _ _ h).1)
    where
      by_sign : (b : Bool) → cond b (y.may_be_true l.0) (y.may_be_false l.0) ≡ true → cond b (z.may_be_true l.0) (z.may_be_false l.0) ≡ true
      by_sign true e = w.true_more l.0 e
      by_sign false e = w.false_more l.0 e

  terms-more : (ts : Terms) → list_all (has_interval y) (numbers ts) ≡ true → AllByRecursion (λ t. Covers (box z t.0) (box y t.0)) ts
  terms-more [] h = tt
  terms-more (t ∷ ts) h =
      let p = and_parts (has_interval y t.0) _ h in
      (covers-box (z.interval t.0) (y.interval t.0) (w.interval_more t.0) p.0, terms-more ts p.1)

  comparisons-more : (cs : List (Linear × Cmp)) → list_all (has_interval y) (flat_map (λ c. variables c.0) cs) ≡ true → list_all (comparison_may_hold y) cs ≡ true
      → list_all (comparison_may_hold z) cs ≡ true
  comparisons-more [] r h = refl
  comparisons-more (c ∷ more) r h =
      let t = terms-more c.0.terms (all-left (has_interval y) (variables c.0) (flat_map (λ c. variables c.0) more) r) in
      let p = and_parts (comparison_may_hold y c) _ h in
      and_from _ _ (ends_more c.1 (range_end Least (box z) c.0) (range_end Least (box y) c.0) (range_end Greatest (box z) c.0) (range_end Greatest (box y) c.0)
      (range-wide Least (box z) (box y) c.0 t) (range-wide Greatest (box z) (box y) c.0 t) p.0)
      (comparisons-more more (all-right (has_interval y) (variables c.0) (flat_map (λ c. variables c.0) more) r) p.1)

  pub supported-more : (a : GAction) → is_supported y a ≡ true → is_supported z a ≡ true
  supported-more a h =
      let p = and_parts (is_readable y a) _ h in
      let q = and_parts (list_all (literal_may_hold y) a.lits) _ p.0 in
      and_from _ _
      (and_from _ _ (lits-more a.lits q.0)
      (all-more (has_interval y) (has_interval z) (λ f e. covers-there (z.interval f) (y.interval f) (w.interval_more f) e) (read_by a) q.1))
      (comparisons-more a.cmps (reads-comparisons (has_interval y) a q.1) p.1)

-- ---- the next layer is wider
lower-wide : (a b c : End) → WiderEnd Least a c → WiderEnd Least (lower a b) c
lower-wide Infinite b c w = tt
lower-wide (At x) Infinite c w = tt
lower-wide (At x) (At y) Infinite w = absurd w
lower-wide (At x) (At y) (At u) w = by_test (is_at_most x y) refl
  where
    by_test : (b : Bool) → is_at_most x y ≡ b → cond b x y ≤ℚ u
    by_test true e = w
    by_test false e = ≤ℚ_trans y x u (at_most-false x y e) w

higher-wide : (a b c : End) → WiderEnd Greatest a c → WiderEnd Greatest (higher a b) c
higher-wide Infinite b c w = tt
higher-wide (At x) Infinite c w = tt
higher-wide (At x) (At y) Infinite w = absurd w
higher-wide (At x) (At y) (At u) w = by_test (is_at_most x y) refl
  where
    by_test : (b : Bool) → is_at_most x y ≡ b → u ≤ℚ cond b y x
    by_test true e = ≤ℚ_trans u x y w (at_most-true x y e)
    by_test false e = w

hull-wide : (i j o : Option Interval) → CoversAll i o → CoversAll (hull i j) o
hull-wide i j None w = tt
hull-wide None j (Some o) w = absurd w
hull-wide (Some i) None (Some o) w = w
hull-wide (Some i) (Some j) (Some o) w = record { low = lower-wide i.low j.low o.low w.low; high = higher-wide i.high j.high o.high w.high }

widened-wide : (y : Layer) (f : ℕ) (acts : List GAction) (i o : Option Interval) → CoversAll i o → CoversAll (widened y f acts i) o
widened-wide y f [] i o w = w
widened-wide y f (a ∷ more) i o w = widened-wide y f more (cond (is_supported y a) (hull i (reached y f a)) i) o (by_test (is_supported y a))
  where
    by_test : (b : Bool) → CoversAll (cond b (hull i (reached y f a)) i) o
    by_test true = hull-wide i (reached y f a) o w
    by_test false = w

end_itself : (side : Side) (a : End) → WiderEnd side a a
end_itself side Infinite = tt
end_itself Least (At x) = ≤ℚ_refl x
end_itself Greatest (At x) = ≤ℚ_refl x

covers_itself : (i : Option Interval) → CoversAll i i
covers_itself None = tt
covers_itself (Some i) = record { low = end_itself Least i.low; high = end_itself Greatest i.high }

pub next-wider : (task : GroundParts) (y : Layer) → IsWider (next_layer task y) y
next-wider task y = record {
  true_more = λ p e. ap (λ b. b || list_any (λ a. is_supported y a && is_in p a.adds) task.actions) e;
  false_more = λ p e. ap (λ b. b || list_any (λ a. is_supported y a && is_in p a.dels) task.actions) e;
  interval_more = λ f. widened-wide y f task.actions (y.interval f) (y.interval f) (covers_itself (y.interval f));
}

-- an action that is supported stays so
pub supported-next : (task : GroundParts) (n : ℕ) (a : GAction) → is_supported (layer task n) a ≡ true → is_supported (next_layer task (layer task n)) a ≡ true
supported-next task n a h = supported-more (next_layer task (layer task n)) (layer task n) (next-wider task (layer task n)) a h
