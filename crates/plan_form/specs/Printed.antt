-- How a plan is written, its steps one by one, and how many they are.
use Rattle.std.specs.Prelude.{◌≡◌, ℕ, ◌-◌, ◌^◌, Bool, true, ◌&&◌, nat_le, nat_lt, min, List, [], ◌++◌, length, replicate, codes, slice_get, unwrap_or}
use Rattle.std.specs.List.{list_all, flat_map}
use Rattle.std.specs.Option.{option_map}
use Rattle.std.specs.Fmt.{decimal}
use Rattle.pddl_task.specs.declared.instance.Instance.{Instance}
use Rattle.pddl_task.specs.declared.parts.TaskParts.{TaskParts}
use Rattle.plan_form.specs.declared.plan.Part.{Part}

-- the numbers are those of an action and of objects of the task
abbrev pub is_call_of : TaskParts → Instance → Bool
is_call_of task by = nat_lt by.action (length task.actions) && list_all (λ o. nat_lt o (length task.objects)) by.args

abbrev pub is_part_of : TaskParts → Part → Bool
is_part_of task part = is_call_of task part.by

-- each part is made at least once
abbrev pub AreCounted : List Part → Type 0
AreCounted plan = list_all (λ part. nat_le 1 part.count) plan ≡ true

abbrev pub IsPlanOf : TaskParts → List Part → Type 0
IsPlanOf task plan = list_all (is_part_of task) plan ≡ true

abbrev pub action_name : TaskParts → ℕ → List ℕ
action_name task action = unwrap_or (option_map (λ a. a.name) (slice_get task.actions action)) []

abbrev pub object_name : TaskParts → ℕ → List ℕ
object_name task object = unwrap_or (option_map (λ o. o.name) (slice_get task.objects object)) []

-- each after a space
abbrev pub arguments_text : TaskParts → List ℕ → List ℕ
arguments_text task args = flat_map (λ o. codes " " ++ object_name task o) args

-- `(NAME ARG ..)`
abbrev pub call_text : TaskParts → Instance → List ℕ
call_text task by = codes "(" ++ (action_name task by.action ++ (arguments_text task by.args ++ codes ")"))

-- `COUNT (NAME ARG ..)` and a line feed
abbrev pub part_text : TaskParts → Part → List ℕ
part_text task part = decimal part.count ++ (codes " " ++ (call_text task part.by ++ codes "\n"))

unfoldable pub plan_text : TaskParts → List Part → List ℕ
plan_text task plan = flat_map (part_text task) plan

-- ---- a plan written out (PDDL 2.1): each part stands as often as it counts

abbrev pub copies_of : Part → List Instance
copies_of part = replicate part.count part.by

unfoldable pub written_out : List Part → List Instance
written_out plan = flat_map copies_of plan

-- how many steps there are, where a number of 128 bits holds it, and else the last such number
abbrev pub flat_length : List Part → ℕ
flat_length plan = min (length (written_out plan)) (2 ^ 128 - 1)
