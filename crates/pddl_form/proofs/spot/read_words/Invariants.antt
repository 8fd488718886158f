use Rattle.pddl_form.specs.Words.{word_form}
use Rattle.pddl_form.proofs.Loops.{AreRead}
use Rattle.pddl_form.proofs.spot.read_words.Given as goal

abbrev pub invariant-loop-tree : goal.invariant-loop-tree
invariant-loop-tree l = AreRead (word_form l.sort) l.trees l.tree-index l.initial.faults l.faults l.found
