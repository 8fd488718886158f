use Rattle.std.specs.Prelude.{codes}
use Rattle.pddl_form.proofs.SectionLaws.{AreSectionsRead}
use Rattle.pddl_domain.specs.Domain.{action_in}
use Rattle.pddl_domain.proofs.domain.read_actions.Given as goal

abbrev pub invariant-loop-tree : goal.invariant-loop-tree
invariant-loop-tree l = AreSectionsRead action_in (codes ":action") l.sections l.tree-index l.initial.faults l.faults l.found
