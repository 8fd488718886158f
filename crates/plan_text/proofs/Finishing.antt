-- The answer at the end of a text.
use Rattle.std.proofs.Common.{◌≡◌, ℕ, List, Option, Some, None, Result, Ok, Err, refl, sym, subst}
use Rattle.std.specs.Prelude.{IfOk}
use Rattle.pddl_form.specs.declared.fault.Fault.{Fault}
use Rattle.pddl_form.specs.Judged.{Judged, good, bad, syntax_of}
use Rattle.pddl_form.specs.Reading.{IsRead}
use Rattle.pddl_form.proofs.Concluding.{has_outcome}
use Rattle.pddl_task.specs.declared.parts.TaskParts.{TaskParts}
use Rattle.plan_form.specs.declared.plan.Part.{Part}
use Rattle.plan_text.specs.declared.refusal.PlanRefusal.{PlanRefusal}
use Rattle.plan_text.specs.declared.refusal.PlanRefusal.TheVariants as refusal
use Rattle.plan_text.specs.PlanText.{Names, names_of, plan_judged, ReadsPlan}
use Rattle.plan_form.specs.Printed.{IsPlanOf}
use Rattle.plan_text.specs.inside.Finishing.{IsOutcome, Finishes}
use Rattle.plan_text.proofs.GoodPlans.{good_is_counted, good_is_plan_of}

judged_is : (j : Judged (List Part)) (plan : List Part) → Some plan ≡ syntax_of j → j ≡ good plan
judged_is (good a) plan is = cc is
judged_is (bad f more) plan is = absurd (cc is)

pub is_outcome : (names : Names) (bytes : List ℕ) (found : Option (List Part)) (faults : Option Fault) → IsRead (plan_judged names bytes) None faults found → IsOutcome found faults
is_outcome names bytes None None read = has_outcome (plan_judged names bytes) None None read
is_outcome names bytes (Some parts) None read = good_is_counted names bytes parts (judged_is (plan_judged names bytes) parts read.syntax_is)
is_outcome names bytes None (Some f) read = tt
is_outcome names bytes (Some parts) (Some f) read = tt

fault_read : (names : Names) (bytes : List ℕ) (found : Option (List Part)) (f : Fault) (r : Result (List Part) PlanRefusal) → IsRead (plan_judged names bytes) None (Some f) found → r ≡ Err (refusal.Fault f.kind f.place) → ReadsPlan names bytes r
fault_read names bytes found f r read is = subst (ReadsPlan names bytes) (sym is) (record { fault = f; first = sym read.first_is; kind_is = refl; place_is = refl })

pub reads_plan : (names : Names) (bytes : List ℕ) (found : Option (List Part)) (faults : Option Fault) (r : Result (List Part) PlanRefusal) → IsRead (plan_judged names bytes) None faults found → Finishes found faults r → ReadsPlan names bytes r
reads_plan names bytes None None r read is = absurd is
reads_plan names bytes (Some parts) None r read is = subst (ReadsPlan names bytes) (sym is) (judged_is (plan_judged names bytes) parts read.syntax_is)
reads_plan names bytes None (Some f) r read is = fault_read names bytes None f r read is
reads_plan names bytes (Some parts) (Some f) r read is = fault_read names bytes (Some parts) f r read is

pub reads_numbers : (task : TaskParts) (bytes : List ℕ) (r : Result (List Part) PlanRefusal) → ReadsPlan (names_of task) bytes r → IfOk r (IsPlanOf task)
reads_numbers task bytes (Ok plan) is = good_is_plan_of task bytes plan is
reads_numbers task bytes (Err e) is = tt
