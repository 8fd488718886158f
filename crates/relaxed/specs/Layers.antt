-- Relaxed layers: what may be true, what may be false, and what each function may be, computed whole from the layer before
-- (this project, after the relaxations of numeric planning).
use Rattle.std.specs.Prelude.{◌≡◌, ℕ, zero, suc, Bool, true, false, not, ◌&&◌, ◌||◌, List, [], ◌∷◌, Option, Some, None, pos, if◌then◌else◌}
use Rattle.std.specs.List.{list_any, list_all}
use Rattle.rational.specs.Fraction.{Fraction, whole}
use Rattle.rational.specs.Linear.{coefficient_of}
use Rattle.lin.specs.Normal.{is_zero}
use Rattle.lin.specs.Linear.{Linear}
use Rattle.lin.specs.declared.comparison.Cmp.{Cmp}
use Rattle.lin.specs.declared.comparison.Cmp.TheVariants.{Le, Lt, Eq}
use Rattle.task_core.specs.declared.action.GAction.{GAction}
use Rattle.task_core.specs.Step.{is_in, set_of, is_empty}
use Rattle.task_core.specs.Task.{GroundParts, start, has_value, read_by}
use Rattle.relaxed.specs.declared.interval.End.{End}
use Rattle.relaxed.specs.declared.interval.End.TheVariants.{At, Infinite}
use Rattle.relaxed.specs.declared.interval.Interval.{Interval}
use Rattle.relaxed.specs.declared.range.Side.TheVariants.{Least, Greatest}
use Rattle.relaxed.specs.Interval.{hull, between, point, everything, is_at_most, is_below}
use Rattle.relaxed.specs.Range.{is_positive, range_end}

pub record Layer : Type 0 where
  pub may_be_true : ℕ → Bool
  pub may_be_false : ℕ → Bool
  pub interval : ℕ → Option Interval

-- layer 0 is the start: each interval is one point, and a function without a value has none
abbrev pub first_layer : GroundParts → Layer
first_layer task = record {
  may_be_true = (start task).truth;
  may_be_false = λ p. not ((start task).truth p);
  interval = λ f. if has_value task (start task) f then Some (point ((start task).value f)) else None;
}

-- ---- supported

abbrev pub is_there : Option Interval → Bool
is_there None = false
is_there (Some i) = true

-- ranges are taken only where each function has an interval
abbrev pub interval_or_all : Option Interval → Interval
interval_or_all None = everything
interval_or_all (Some i) = i

abbrev pub box : Layer → ℕ → Interval
box y f = interval_or_all (y.interval f)

abbrev pub literal_may_hold : Layer → ℕ × Bool → Bool
literal_may_hold y l = if l.1 then y.may_be_true l.0 else y.may_be_false l.0

-- an infinite end is as far as one likes
abbrev pub end_passes : (Fraction → Bool) → End → Bool
end_passes test Infinite = true
end_passes test (At e) = test e

-- the least value is at most 0, or below 0; for an equality the greatest is at least 0 too
abbrev pub ends_may_hold : Cmp → End → End → Bool
ends_may_hold Le low high = end_passes (λ e. is_at_most e (whole (pos 0))) low
ends_may_hold Lt low high = end_passes (λ e. is_below e (whole (pos 0))) low
ends_may_hold Eq low high = end_passes (λ e. is_at_most e (whole (pos 0))) low && end_passes (λ e. is_at_most (whole (pos 0)) e) high

-- some point of the box meets the comparison
abbrev pub comparison_may_hold : Layer → Linear × Cmp → Bool
comparison_may_hold y c = ends_may_hold c.1 (range_end Least (box y) c.0) (range_end Greatest (box y) c.0)

abbrev pub has_interval : Layer → ℕ → Bool
has_interval y f = is_there (y.interval f)

-- its literals may hold, and each function that it reads has an interval: its comparisons are looked at
abbrev pub is_readable : Layer → GAction → Bool
is_readable y a = list_all (literal_may_hold y) a.lits && list_all (has_interval y) (read_by a)

-- and each comparison by itself may hold
abbrev pub is_supported : Layer → GAction → Bool
is_supported y a = is_readable y a && list_all (comparison_may_hold y) a.cmps

-- ---- the interval that an action gives a function, with all ranges taken in the old layer

-- an old end that the range passes becomes infinite
abbrev pub stretched_low : End → End → End
stretched_low Infinite r = Infinite
stretched_low (At e) Infinite = Infinite
stretched_low (At e) (At r) = if is_at_most e r then At e else Infinite

abbrev pub stretched_high : End → End → End
stretched_high Infinite r = Infinite
stretched_high (At e) Infinite = Infinite
stretched_high (At e) (At r) = if is_at_most r e then At e else Infinite

-- a new value that isn't constant
abbrev pub reached_by_range : Layer → Linear → Option Interval → Interval
reached_by_range y l None = everything
reached_by_range y l (Some i) = between (stretched_low i.low (range_end Least (box y) l)) (stretched_high i.high (range_end Greatest (box y) l))

-- an amount above 0 makes the upper end infinite, one below 0 the lower end
abbrev pub reached_by_amount : Fraction → Option Interval → Option Interval
reached_by_amount c None = None
reached_by_amount c (Some i) =
    if is_zero c then None else (if is_positive c then Some (between i.low Infinite) else Some (between Infinite i.high))

-- a constant new value is a point; None: the action doesn't change the function
abbrev pub reached_by : Layer → Option Interval → Fraction → Option Linear → Option Interval
reached_by y old c (Some l) = Some (if is_empty l.terms then point l.constant else reached_by_range y l old)
reached_by y old c None = reached_by_amount c old

abbrev pub reached : Layer → ℕ → GAction → Option Interval
reached y f a = reached_by y (y.interval f) (coefficient_of f a.incs) (set_of a.sets f)

-- ---- the next layer

-- the least interval that has the old one and all that the supported actions give
abbrev pub widened : Layer → ℕ → List GAction → Option Interval → Option Interval
widened y f [] i = i
widened y f (a ∷ more) i = widened y f more (if is_supported y a then hull i (reached y f a) else i)

abbrev pub next_layer : GroundParts → Layer → Layer
next_layer task y = record {
  may_be_true = λ p. y.may_be_true p || list_any (λ a. is_supported y a && is_in p a.adds) task.actions;
  may_be_false = λ p. y.may_be_false p || list_any (λ a. is_supported y a && is_in p a.dels) task.actions;
  interval = λ f. widened y f task.actions (y.interval f);
}

abbrev pub layer : GroundParts → ℕ → Layer
layer task zero = first_layer task
layer task (suc n) = next_layer task (layer task n)

-- nothing changes any more
abbrev pub EndsAt : GroundParts → ℕ → Type 0
EndsAt task e = layer task (suc e) ≡ layer task e
