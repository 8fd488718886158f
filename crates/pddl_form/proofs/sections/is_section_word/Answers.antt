use Rattle.std.proofs.Common.{◌∙◌, refl}
use Rattle.pddl_form.specs.Sections.{section_words}
use Rattle.pddl_form.proofs.SeenLaws.{at_place}
use Rattle.pddl_form.proofs.sections.is_section_word.Goals as goal

pub returns : goal.returns
returns c = c.eq.ensures ∙ at_place section_words _ _ _ _ _ refl c.section_index.ensures c.find_word.ensures.found c.word.ensures
