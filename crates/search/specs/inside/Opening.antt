-- What a search knows before it prints: the ground task and its pattern.
use Rattle.std.specs.Prelude.{◌≡◌, true, Ok, Err, Result, ⊤}
use Rattle.pddl_task.specs.declared.parts.TaskParts.{TaskParts}
use Rattle.relaxed.specs.declared.failure.LayerFail.TheVariants as layers
use Rattle.relaxed.specs.Answer.{EachFits, IsPassing}
use Rattle.pattern.specs.Pattern.{IsPattern}
use Rattle.plain_formula.specs.Plain.{is_plain_task}
use Rattle.ground_laws.specs.Result.{task_from}
use Rattle.ground.specs.Parts.{GroundedParts}
use Rattle.ground.specs.Grounds.{IsGrounded}
use Rattle.search.specs.declared.opening.Opened.{Opened}
use Rattle.search.specs.declared.opening.Opening.{Opening}
use Rattle.search.specs.declared.opening.Opening.TheVariants.{Layered, Unlayered}
use Rattle.search.specs.declared.found.SearchFail.{SearchFail}
use Rattle.search.specs.declared.found.SearchFail.TheVariants.{Ground, NotBuilt, Sink, Memory}
use Rattle.search.specs.Searching.{IsNotBuilt, RefusesGround}

-- the ground task has no numbers in its actions and its goal
pub record IsReady (task : TaskParts) (parts : GroundedParts) : Type 0 where
  pub grounded : IsGrounded task 1000000 parts
  pub plain : is_plain_task parts.task ≡ true

-- its pattern
pub record IsOpened (task : TaskParts) (o : Opened) : Type 0 where
  pub ready : IsReady task o.grounded
  pub ranges : EachFits (task_from task)
  pub pattern : IsPattern (task_from task) o.pattern

-- why nothing is printed; want of memory is free
abbrev pub Refuses : TaskParts → SearchFail → Type 0
Refuses task (Ground fail) = RefusesGround task fail
Refuses task NotBuilt = IsNotBuilt task
Refuses task Sink = ⊥
Refuses task Memory = ⊤

abbrev pub Readies : TaskParts → Result GroundedParts SearchFail → Type 0
Readies task (Ok parts) = IsReady task parts
Readies task (Err e) = Refuses task e

abbrev pub OpensAs : TaskParts → Opening → Type 0
OpensAs task (Layered o) = IsOpened task o
OpensAs task (Unlayered parts w) = IsReady task parts × IsPassing (task_from task) (layers.RangeWide w)

abbrev pub Opens : TaskParts → Result Opening SearchFail → Type 0
Opens task (Ok o) = OpensAs task o
Opens task (Err e) = Refuses task e
