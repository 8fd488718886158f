-- What is answered at the end of a text.
use Rattle.std.specs.Prelude.{◌≡◌, List, Option, Some, None, Result, Ok, Err}
use Rattle.pddl_form.specs.declared.fault.Fault.{Fault}
use Rattle.plan_form.specs.declared.plan.Part.{Part}
use Rattle.plan_text.specs.declared.refusal.PlanRefusal.{PlanRefusal}
use Rattle.plan_text.specs.declared.refusal.PlanRefusal.TheVariants as refusal
use Rattle.plan_form.specs.Printed.{AreCounted}

-- there is a fault, or a plan
abbrev pub IsOutcome : Option (List Part) → Option Fault → Type 0
IsOutcome found (Some f) = Unit {0}
IsOutcome (Some parts) None = AreCounted parts
IsOutcome None None = ⊥

-- the fault where there is one, and else the plan
abbrev pub Finishes : Option (List Part) → Option Fault → Result (List Part) PlanRefusal → Type 0
Finishes found (Some f) result = result ≡ Err (refusal.Fault f.kind f.place)
Finishes (Some parts) None result = result ≡ Ok parts
Finishes None None result = ⊥
