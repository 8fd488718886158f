-- The first fault of a text is the least of all.
use Rattle.std.proofs.Common.{ℕ, List}
use Rattle.pddl_form.specs.Judged.{faults_of, noted}
use Rattle.pddl_form.proofs.FirstFaults.{first_is_least}
use Rattle.plan_text.specs.PlanText.{Names, plan_judged, IsFirstFault}
use Rattle.plan_text.specs.Laws.{IsLeastFault}

pub least_fault : (names : Names) (bytes : List ℕ) (kind place : ℕ) → IsFirstFault names bytes kind place → IsLeastFault names bytes kind place
unfolding noted
least_fault names bytes kind place is = record { fault = is.fault; kind_is = is.kind_is; place_is = is.place_is; least = first_is_least (faults_of (plan_judged names bytes)) is.fault is.first }
