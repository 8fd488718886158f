-- What the readers of a line's parts answer.
use Rattle.std.specs.Prelude.{◌≡◌, List, ℕ, map, Option, Some, None, if◌then◌else◌}
use Rattle.pddl_form.specs.declared.fault.Fault.{Fault}
use Rattle.pddl_form.specs.declared.spot.Spot.{Spot}
use Rattle.pddl_form.specs.Judged.{Judged, each}
use Rattle.pddl_form.specs.Faults.{first_with}
use Rattle.pddl_form.specs.Names.{is_name}
use Rattle.pddl_form.specs.Reading.{IsRead}
use Rattle.plan_text.specs.PlanText.{Names, numbered}

-- what is written here is read
pub record IsReadAs {S A : Type 0} (written : Option S) (form : S → Judged A) (old new : Option Fault) (answer : Option A) : Type 0 where
  pub what : S
  pub is : written ≡ Some what
  pub read : IsRead (form what) old new answer

-- where nothing of the form is written, none is answered
abbrev pub ReadsAs : {S A : Type 0} → Option S → (S → Judged A) → Option Fault → Option Fault → Option (Option A) → Type 0
ReadsAs written form old new None = written ≡ None
ReadsAs written form old new (Some answer) = IsReadAs written form old new answer

-- a word that is a name
abbrev pub name_or_none : List ℕ → Option (List ℕ)
name_or_none word = if is_name word then Some word else None

abbrev pub arguments_judged : Names → List Spot → Judged (List ℕ)
arguments_judged names args = each (map (numbered names.objects) args)

-- the first fault of some, and then of others
abbrev pub with_first : Option Fault → Option Fault → Option Fault
with_first first None = first
with_first first (Some f) = Some (first_with first f)
