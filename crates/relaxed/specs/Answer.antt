-- What making the layers of a task answers: the first layer of each action where every named operation fits, and else one
-- that passes.
use Rattle.std.specs.Prelude.{◌≡◌, ℕ, ◌<◌, List, length, Option, None, slice_index_or, Result, Ok, Err}
use Rattle.task_core.specs.Task.{GroundParts, action_at}
use Rattle.relaxed.specs.declared.failure.LayerFail.{LayerFail}
use Rattle.relaxed.specs.declared.failure.LayerFail.TheVariants.{RangeWide, Memory}
use Rattle.relaxed.specs.Supported.{IsFirst}
use Rattle.relaxed.specs.Named.{AllPartsFit, IsOnePassing, operations_of}

pub record AreFirst (task : GroundParts) (first : List (Option ℕ)) : Type 0 where
  pub size : length first ≡ length task.actions
  pub each : (a : ℕ) → a < length task.actions → IsFirst task (action_at task a) (slice_index_or first a None)

abbrev pub EachFits : GroundParts → Type 0
EachFits task = (n a : ℕ) → a < length task.actions → AllPartsFit (operations_of task n (action_at task a))

abbrev pub IsPassing : GroundParts → LayerFail → Type 0
IsPassing task (RangeWide w) = (w.action < length task.actions) × IsOnePassing (operations_of task w.layer (action_at task w.action)) w.part w.wide
IsPassing task Memory = Unit {0}

abbrev pub AnswersLayers : GroundParts → Result (List (Option ℕ)) LayerFail → Type 0
AnswersLayers task (Ok first) = AreFirst task first × EachFits task
AnswersLayers task (Err e) = IsPassing task e
