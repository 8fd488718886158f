-- How the program's answers stand for what an instance's expressions and comparisons come to.
use Rattle.std.specs.Prelude.{true, false, Option, Some, None}
use Rattle.plan_step.specs.Held.{state_of}
use Rattle.ground_action.specs.Setting.{Setting, setting_from}
use Rattle.ground_action.specs.Parts as spec
use Rattle.ground_action.specs.Leaves.{Leaf, fails, unclear, nothing, literal, compared}
use Rattle.ground_parts.specs.declared.given.Grounding.{Grounding}
use Rattle.ground_parts.specs.declared.part.Part.{Part}
use Rattle.ground_parts.specs.declared.part.Part.TheVariants.{Constant, Linear as Line}
use Rattle.ground_parts.specs.declared.comparison.Compared.{Compared}
use Rattle.ground_parts.specs.declared.comparison.Compared.TheVariants.{Settled, Left}

-- the setting that the program is given
abbrev pub setting_in : Grounding → Setting
setting_in g = setting_from g.task.now (state_of g.start.now) g.atoms.now g.funcs.now

-- a part, without those that it reads
abbrev pub form_of : spec.Part → Part
form_of (spec.constant a) = Constant a
form_of (spec.linear r l) = Line l

-- a part, or none where there is no value in any state or the expression isn't linear
abbrev pub part_made : spec.Outcome → Option Part
part_made spec.ends = None
part_made spec.bent = None
part_made (spec.part p) = Some (form_of p)

-- what is left of a comparison: it is settled, or an expression is compared with 0
abbrev pub comparison_made : Leaf → Compared
comparison_made fails = Settled false
comparison_made unclear = Settled false
comparison_made nothing = Settled true
comparison_made (literal x sign) = Settled false
comparison_made (compared r l c) = Left l c
