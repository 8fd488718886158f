-- Words for the laws of a step.
use Rattle.std.specs.Prelude.{◌≡◌, ◌⊎◌, Result, Ok, Err}
use Rattle.frac128.specs.Operations.{Passes}
use Rattle.plan_step.specs.declared.failure.StepFail.{StepFail}
use Rattle.plan_step.specs.declared.failure.StepFail.TheVariants as fail

-- the failure is an operation that passes 128 bits
abbrev pub IsWide : StepFail → Type 0
IsWide (fail.Wide w) = Unit {0}
IsWide fail.Arity = ⊥
IsWide fail.ArgType = ⊥
IsWide (fail.Condition i) = ⊥
IsWide (fail.NoValue i) = ⊥
IsWide (fail.Clash i) = ⊥
IsWide fail.Memory = ⊥

-- the failure says that there is no step
abbrev pub IsRefutal : StepFail → Type 0
IsRefutal (fail.Wide w) = ⊥
IsRefutal fail.Arity = Unit {0}
IsRefutal fail.ArgType = Unit {0}
IsRefutal (fail.Condition i) = Unit {0}
IsRefutal (fail.NoValue i) = Unit {0}
IsRefutal (fail.Clash i) = Unit {0}
IsRefutal fail.Memory = ⊥

-- where the failure is an operation, that passes 128 bits by the numbers that it names; it is never want of memory
abbrev pub TellsWide : StepFail → Type 0
TellsWide (fail.Wide w) = Passes w.op w.x w.y
TellsWide fail.Arity = Unit {0}
TellsWide fail.ArgType = Unit {0}
TellsWide (fail.Condition i) = Unit {0}
TellsWide (fail.NoValue i) = Unit {0}
TellsWide (fail.Clash i) = Unit {0}
TellsWide fail.Memory = ⊥

-- this failure is answered, or an operation that passes 128 bits
abbrev pub FailsOnly : {A : Type 0} → StepFail → Result A StepFail → Type 0
FailsOnly e (Ok a) = ⊥
FailsOnly e (Err f) = (f ≡ e) ⊎ IsWide f
