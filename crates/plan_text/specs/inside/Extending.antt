-- What one more line makes of what was read.
use Rattle.std.specs.Prelude.{◌≡◌, ◌++◌, List}
use Rattle.pddl_form.specs.Judged.{Judged, syntax_of, noted}
use Rattle.pddl_form.specs.Gather.{option_both}
use Rattle.plan_form.specs.declared.plan.Part.{Part}
use Rattle.plan_text.specs.declared.line.Reading.{Reading}

-- the parts of the line are after the others, and its faults are noted
pub record Extends (j : Judged (List Part)) (old new : Reading) : Type 0 where
  pub grown : new.found ≡ option_both ◌++◌ old.found (syntax_of j)
  pub first : new.faults ≡ noted old.faults j
