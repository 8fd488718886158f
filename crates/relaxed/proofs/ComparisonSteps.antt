-- What taking the ends of a comparison answers.
use Rattle.lin.specs.Linear.{Linear}
use Rattle.lin.specs.declared.comparison.Cmp.{Cmp}
use Rattle.lin.specs.declared.comparison.Cmp.TheVariants.{Le, Lt, Eq}
use Rattle.relaxed.specs.declared.range.Side.TheVariants.{Least, Greatest}
use Rattle.relaxed.specs.Range.{range_operations}
use Rattle.relaxed.specs.Layers.{Layer, box}
use Rattle.relaxed.specs.Named.{comparison_operations}
use Rattle.relaxed.specs.inside.Ranging.{AllFit, IsFirstPassing}
use Rattle.frac128.specs.declared.operations.Wide.{Wide}
use Rattle.relaxed.proofs.RangeSteps.{passing_left, passing_right}

pub least_fails : (y : Layer) (l : Linear) (c : Cmp) (w : Wide) → IsFirstPassing (range_operations Least (box y) l) w → IsFirstPassing (comparison_operations y l c) w
least_fails y l Le w h = h
least_fails y l Lt w h = h
least_fails y l Eq w h = passing_left (range_operations Least (box y) l) (range_operations Greatest (box y) l) w h

pub greatest_fails : (y : Layer) (l : Linear) (w : Wide) → AllFit (range_operations Least (box y) l) → IsFirstPassing (range_operations Greatest (box y) l) w
    → IsFirstPassing (comparison_operations y l Eq) w
greatest_fails y l w h j = passing_right (range_operations Least (box y) l) (range_operations Greatest (box y) l) w h j
