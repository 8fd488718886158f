-- What is met where operations are made in order, and what a call answers that meets it; want of memory says nothing.
use Rattle.std.specs.Prelude.{◌≡◌, List, [], ◌∷◌, Option, Result, Ok, Err, if◌then◌else◌}
use Rattle.frac128.specs.declared.operations.Wide.{Wide}
use Rattle.lin.specs.declared.failure.LinFail.{LinFail}
use Rattle.lin.specs.declared.failure.LinFail.TheVariants as fail
use Rattle.plan_step.specs.Met.{Met, found, passes, passes_128, value_or_none}

-- the value, or the first of the operations that passes
abbrev pub made_by : {A : Type 0} → List Wide → A → Met A
made_by [] x = found x
made_by (o ∷ ops) x = if passes_128 o.op o.x o.y then passes o else made_by ops x

abbrev pub FailsAs : {A : Type 0} → Met A → LinFail → Type 0
FailsAs m (fail.Wide w) = m ≡ passes w
FailsAs m fail.Memory = Unit {0}

-- a value or none
abbrev pub Gives : {A : Type 0} → Met A → Result (Option A) LinFail → Type 0
Gives m (Ok o) = m ≡ value_or_none o
Gives m (Err e) = FailsAs m e

-- a value
abbrev pub GivesValue : {A : Type 0} → Met A → Result A LinFail → Type 0
GivesValue m (Ok x) = m ≡ found x
GivesValue m (Err e) = FailsAs m e
