-- How a pattern is written: a line with the number of its places, and a line for each place. Where taking a range passes 128
-- bits there is no pattern, and one line says where (this project's texts).
use Rattle.std.specs.Prelude.{ℕ, Bool, if◌then◌else◌, List, ◌++◌, codes}
use Rattle.std.specs.Fmt.{decimal}
use Rattle.operation_text.specs.Operation.{operation_text}
use Rattle.pddl_task.specs.declared.instance.Instance.{Instance}
use Rattle.pddl_task.specs.declared.parts.TaskParts.{TaskParts}
use Rattle.plan_form.specs.Printed.{call_text}
use Rattle.relaxed.specs.declared.failure.RangePart.{RangePart}
use Rattle.relaxed.specs.declared.failure.RangePart.TheVariants as part
use Rattle.relaxed.specs.declared.failure.RangeWide.{RangeWide}

abbrev pub header_line : ℕ → List ℕ
header_line places = codes "pattern " ++ (decimal places ++ codes "\n")

abbrev pub repetition_word : Bool → List ℕ
repetition_word rolls = if rolls then codes " roll " else codes " once "

-- the place with this number, from 1: its instance, which may be repeated at once or not
abbrev pub place_line : TaskParts → ℕ → Bool → Instance → List ℕ
place_line task number rolls by = decimal number ++ (repetition_word rolls ++ (call_text task by ++ codes "\n"))

-- a range is that of a comparison or that of a new value, by its place among them, from 0
abbrev pub part_word : RangePart → List ℕ
part_word (part.Cond i) = codes " cond "
part_word (part.Set i) = codes " set "

abbrev pub part_place : RangePart → ℕ
part_place (part.Cond i) = i
part_place (part.Set i) = i

-- the part and the operation
abbrev pub passing_text : RangeWide → List ℕ
passing_text w = part_word w.part ++ (decimal (part_place w.part) ++ (codes " " ++ operation_text w.wide))

-- the layer, the instance, and where its operation passes
abbrev pub range_line : TaskParts → Instance → RangeWide → List ℕ
range_line task by w = codes "unknown wide range " ++ (decimal w.layer ++ (codes " " ++ (call_text task by ++ (passing_text w ++ codes "\n"))))
