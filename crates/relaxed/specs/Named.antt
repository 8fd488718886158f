-- The operations that are named in making the layers, each with its layer, its action and its part.
use Rattle.std.specs.Prelude.{◌≡◌, ◌⊎◌, ℕ, suc, Bool, not, ◌&&◌, List, [], ◌∷◌, ◌++◌, map, if◌then◌else◌}
use Rattle.std.specs.List.{AllByRecursion}
use Rattle.frac128.specs.Operations.{Fits, Passes}
use Rattle.frac128.specs.declared.operations.Wide.{Wide}
use Rattle.lin.specs.Linear.{Linear}
use Rattle.lin.specs.declared.comparison.Cmp.{Cmp}
use Rattle.lin.specs.declared.comparison.Cmp.TheVariants.{Le, Lt, Eq}
use Rattle.task_core.specs.declared.action.GAction.{GAction}
use Rattle.task_core.specs.Step.{is_empty}
use Rattle.task_core.specs.Task.{GroundParts}
use Rattle.relaxed.specs.declared.range.Side.TheVariants.{Least, Greatest}
use Rattle.relaxed.specs.declared.failure.RangePart.{RangePart}
use Rattle.relaxed.specs.declared.failure.RangePart.TheVariants.{Cond, Set}
use Rattle.relaxed.specs.Range.{range_operations}
use Rattle.relaxed.specs.Layers.{Layer, has_interval, box, is_readable, is_supported, layer}
use Rattle.relaxed.specs.Supported.{is_seen}

-- the least value of a comparison, and for an equality the greatest too
abbrev pub comparison_operations : Layer → Linear → Cmp → List Wide
comparison_operations y l Le = range_operations Least (box y) l
comparison_operations y l Lt = range_operations Least (box y) l
comparison_operations y l Eq = range_operations Least (box y) l ++ range_operations Greatest (box y) l

-- both ends of a new value that isn't constant, where the function has an interval
abbrev pub set_operations : Layer → ℕ → Linear → List Wide
set_operations y f l =
    if not (is_empty l.terms) && has_interval y f then range_operations Least (box y) l ++ range_operations Greatest (box y) l else []

-- the operations of the comparisons, and of the new values, from place i on
abbrev pub of_comparisons : Layer → ℕ → List (Linear × Cmp) → List (RangePart × Wide)
of_comparisons y i [] = []
of_comparisons y i (c ∷ more) = map (λ o. (Cond i, o)) (comparison_operations y c.0 c.1) ++ of_comparisons y (suc i) more

abbrev pub of_sets : Layer → ℕ → List (ℕ × Linear) → List (RangePart × Wide)
of_sets y i [] = []
of_sets y i (s ∷ more) = map (λ o. (Set i, o)) (set_operations y s.0 s.1) ++ of_sets y (suc i) more

-- the comparisons of an action that no earlier layer supports and that is readable
abbrev pub tested_operations : Bool → Layer → GAction → List (RangePart × Wide)
tested_operations seen y a = if not seen && is_readable y a then of_comparisons y 0 a.cmps else []

-- the new values of an action that is supported
abbrev pub given_operations : Layer → GAction → List (RangePart × Wide)
given_operations y a = if is_supported y a then of_sets y 0 a.sets else []

-- all of an action in layer n
abbrev pub operations_of : GroundParts → ℕ → GAction → List (RangePart × Wide)
operations_of task n a = tested_operations (is_seen task n a) (layer task n) a ++ given_operations (layer task n) a

-- the operation fits 128 bits, or it passes them
abbrev pub FitsIn : Wide → Type 0
FitsIn w = Fits w.op w.x w.y

abbrev pub Passing : Wide → Type 0
Passing w = Passes w.op w.x w.y

-- each of them fits
abbrev pub AllPartsFit : List (RangePart × Wide) → Type 0
AllPartsFit ops = AllByRecursion (λ o. FitsIn o.1) ops

-- the operation is named for the part, and passes
abbrev pub IsOnePassing : List (RangePart × Wide) → RangePart → Wide → Type 0
IsOnePassing [] part w = ⊥
IsOnePassing (o ∷ more) part w = ((o ≡ (part, w)) × Passing w) ⊎ IsOnePassing more part w
