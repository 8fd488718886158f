-- What the next layer's interval of a function has: the old interval, and what each supported action adds.
use Rattle.std.proofs.Common.{◌≡◌, ℕ, zero, suc, ◌<◌, Bool, true, false, cond, List, [], ◌∷◌, length, get_or, Option, arith}
use Rattle.rational.specs.Fraction.{Fraction}
use Rattle.task_core.specs.declared.action.GAction.{GAction}
use Rattle.relaxed.specs.declared.interval.Interval.{Interval}
use Rattle.relaxed.specs.Interval.{MayBe, hull}
use Rattle.relaxed.specs.Layers.{Layer, is_supported, reached, widened}
use Rattle.relaxed.proofs.Hulls.{hull-left, hull-right}

module _ (y : Layer) (f : ℕ) (z : Fraction) where
  keep_one : (b : Bool) (i j : Option Interval) → MayBe i z → MayBe (cond b (hull i j) i) z
  keep_one true i j h = hull-left z i j h
  keep_one false i j h = h

  pub widened-keeps : (actions : List GAction) (i : Option Interval) → MayBe i z → MayBe (widened y f actions i) z
  widened-keeps [] i h = h
  widened-keeps (a ∷ more) i h = widened-keeps more (cond (is_supported y a) (hull i (reached y f a)) i) (keep_one (is_supported y a) i (reached y f a) h)

  add_one : (b : Bool) (i j : Option Interval) → b ≡ true → MayBe j z → MayBe (cond b (hull i j) i) z
  add_one true i j e h = hull-right z i j h
  add_one false i j e h = absurd (cc)

  pub widened-at : (actions : List GAction) (i : Option Interval) (n : ℕ) (d : GAction) → n < length actions → is_supported y (get_or actions n d) ≡ true → MayBe (reached y f (get_or actions n d)) z → MayBe (widened y f actions i) z
  widened-at [] i n d l e h = absurd (omega arith)
  widened-at (a ∷ more) i zero d l e h = widened-keeps more (cond (is_supported y a) (hull i (reached y f a)) i) (add_one (is_supported y a) i (reached y f a) e h)
  widened-at (a ∷ more) i (suc n) d l e h = widened-at more (cond (is_supported y a) (hull i (reached y f a)) i) n d (omega arith) e h
