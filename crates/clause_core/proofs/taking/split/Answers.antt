use Rattle.theory_law.specs.Splits.{at_most}
use Rattle.clause_core.proofs.Cores.{core_split}
use Rattle.clause_core.proofs.taking.split.Goals as goal

pub invariant_of-result : goal.invariant_of-result
invariant_of-result g c =
    core_split c.core.inside.trail c.add_boolean.new.self (at_most c.args.var c.args.k) c.core.invariant c.in_ok-add_boolean.ensures.entries c.in_ok-add_boolean.ensures.booleans c.in_ok-add_split.ensures.added (c.in_ok-learn_atom.ensures.learned (rw (← c.core.view_is) at c.requires.cut))

pub add_split-requires-clause-count : goal.add_split-requires-clause-count
add_split-requires-clause-count g c = let can = rw (← c.core.view_is) at c.requires.splits in can.count

pub add_split-requires-clause-whole : goal.add_split-requires-clause-whole
add_split-requires-clause-whole g c = c.requires.splits.integral

pub add_split-requires-clause-next : goal.add_split-requires-clause-next
add_split-requires-clause-next g c = c.requires.splits.next
