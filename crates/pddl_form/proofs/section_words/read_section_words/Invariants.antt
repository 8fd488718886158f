use Rattle.pddl_form.proofs.SectionLaws.{WordsSoFar}
use Rattle.pddl_form.proofs.section_words.read_section_words.Given as goal

abbrev pub invariant-loop-tree : goal.invariant-loop-tree
invariant-loop-tree l = WordsSoFar l.file l.sections l.tree-index l.seen.flags l.initial.faults l.faults l.all
