use Rattle.std.proofs.Common.{◌≡◌, drop}
use Rattle.pddl_form.specs.Sections.{section_with, section_word}
use Rattle.pddl_form.proofs.sections.find_section.Given as goal

abbrev pub invariant-loop-tree : goal.invariant-loop-tree
invariant-loop-tree l = section_with (section_word l.wanted) (drop l.tree-index l.sections) ≡ section_with (section_word l.wanted) l.sections
