-- The plan that a text spells, or its faults: kind 17 for a line of another form, 18 for a count that is 0, has a zero in
-- front or passes 2^127 - 1, 19 for a name that isn't one of an action or an object (this project).
use Rattle.std.specs.Prelude.{◌≡◌, ℕ, ◌^◌, Bool, ◌||◌, ◌==◌, nat_le, slice_index, List, [], ◌∷◌, map, Option, Some, None, Result, Ok, Err, if◌then◌else◌}
use Rattle.std.specs.Str.Parse.{digits_value}
use Rattle.name_table.specs.NameTable.{number_in}
use Rattle.sexpr.specs.Tokens.{Token, tokens}
use Rattle.pddl_form.specs.declared.fault.Fault.{Fault}
use Rattle.pddl_form.specs.declared.spot.Spot.{Spot}
use Rattle.pddl_form.specs.Judged.{Judged, good, bad, mapped, both, each, noted}
use Rattle.pddl_form.specs.Gather.{joined}
use Rattle.pddl_task.specs.declared.instance.Instance.{Instance}
use Rattle.pddl_task.specs.declared.parts.TaskParts.{TaskParts}
use Rattle.plan_form.specs.declared.plan.Part.{Part}
use Rattle.plan_text.specs.declared.refusal.PlanRefusal.{PlanRefusal}
use Rattle.plan_text.specs.declared.refusal.PlanRefusal.TheVariants as refusal
use Rattle.plan_text.specs.Lines.{Line, lines_from, code_of, first_place, has_foreign}
use Rattle.plan_text.specs.Written.{Call, Written, written}

-- ---- faults

abbrev pub malformed : ℕ → Fault
malformed place = record { kind = 17; place = place; word = [] }

abbrev pub miscounted : ℕ → Fault
miscounted place = record { kind = 18; place = place; word = [] }

abbrev pub unknown : ℕ → Fault
unknown place = record { kind = 19; place = place; word = [] }

-- ---- the names of a task

pub record Names : Type 0 where
  pub actions : List (List ℕ)
  pub objects : List (List ℕ)

abbrev pub names_of : TaskParts → Names
names_of task = record { actions = map (λ a. a.name) task.actions; objects = map (λ o. o.name) task.objects }

-- ---- a part

-- a count begins with a zero, as 0 itself does, or is more than 2^127 - 1
unfoldable pub is_miscount : List ℕ → Bool
is_miscount digits = slice_index digits 0 == 48 || nat_le (2 ^ 127) (digits_value 10 digits)

-- where no count is written, it is 1
abbrev pub count_judged : Option Spot → Judged ℕ
count_judged None = good 1
count_judged (Some spot) = if is_miscount spot.text then bad (miscounted spot.place) [] else good (digits_value 10 spot.text)

abbrev pub found_at : ℕ → Option ℕ → Judged ℕ
found_at place None = bad (unknown place) []
found_at place (Some n) = good n

-- the number of a name
abbrev pub numbered : List (List ℕ) → Spot → Judged ℕ
numbered names spot = found_at spot.place (number_in names spot.text)

abbrev pub instance_with : ℕ → List ℕ → Instance
instance_with action args = record { action = action; args = args }

abbrev pub call_judged : Names → Call → Judged Instance
call_judged names call = both instance_with (numbered names.actions call.name) (each (map (numbered names.objects) call.args))

abbrev pub part_with : ℕ → Instance → Part
part_with count by = record { count = count; by = by }

abbrev pub part_judged : Names → Written → Judged Part
part_judged names w = both part_with (count_judged w.count) (call_judged names w.call)

-- ---- a line, which has at most one part

abbrev pub only : Part → List Part
only part = part ∷ []

abbrev pub form_judged : Names → ℕ → Option Written → Judged (List Part)
form_judged names place None = bad (malformed place) []
form_judged names place (Some w) = mapped only (part_judged names w)

-- a line without words and parentheses is empty
abbrev pub code_judged : Names → ℕ → List Token → Judged (List Part)
code_judged names place [] = good []
code_judged names place (t ∷ more) = form_judged names place (written (t ∷ more))

unfoldable pub line_judged : Names → Line → Judged (List Part)
line_judged names line =
    if has_foreign line then bad (malformed (first_place line)) [] else code_judged names (first_place line) (tokens line.at (code_of line))

-- ---- a text

unfoldable pub plan_judged : Names → List ℕ → Judged (List Part)
plan_judged names bytes = mapped joined (each (map (line_judged names) (lines_from 0 bytes)))

-- the fault at the least place
pub record IsFirstFault (names : Names) (bytes : List ℕ) (kind place : ℕ) : Type 0 where
  pub fault : Fault
  pub first : noted None (plan_judged names bytes) ≡ Some fault
  pub kind_is : kind ≡ fault.kind
  pub place_is : place ≡ fault.place

-- what reading answers: the plan where no line has a fault, and else the first fault, unless memory ran out
abbrev pub ReadsPlan : Names → List ℕ → Result (List Part) PlanRefusal → Type 0
ReadsPlan names bytes (Ok plan) = plan_judged names bytes ≡ good plan
ReadsPlan names bytes (Err (refusal.Fault kind place)) = IsFirstFault names bytes kind place
ReadsPlan names bytes (Err refusal.Memory) = Unit {0}
