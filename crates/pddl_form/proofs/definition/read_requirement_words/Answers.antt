use Rattle.std.proofs.Common.{◌∙◌}
use Rattle.pddl_form.proofs.Loops.{mapped_as}
use Rattle.pddl_form.proofs.SectionLaws.{and-no_effect}
use Rattle.pddl_form.proofs.definition.read_requirement_words.Goals as goal

pub returns : goal.returns
returns c = mapped_as _ _ _ _ _ _ c.in_ok-words.ensures (c.and.ensures ∙ and-no_effect c.in_ok-words.words)
