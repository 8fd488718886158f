use Rattle.std.proofs.Common.{sym, ◌∙◌}
use Rattle.pddl_domain.specs.Heads.{functions}
use Rattle.pddl_domain.proofs.Functions.{functions_none, functions_item, functions_number, functions_cut, functions_end}
use Rattle.pddl_domain.proofs.head.read_functions.Goals as goal

pub loop-tree-init : goal.loop-tree-init
loop-tree-init c = functions_none _ _ _ _ c.new.ensures

pub loop-tree-preserved : goal.loop-tree-preserved
loop-tree-preserved c = functions_item _ _ _ _ _ _ _ _ _ _ _ _ c.loop-tree.invariant c.in-Some.ensures (sym c.is_dash.ensures ∙ c.if-is_dash.false) c.in_ok-one.ensures c.in_ok-add.ensures

pub loop-tree-preserved-then-is_dash : goal.loop-tree-preserved-then-is_dash
loop-tree-preserved-then-is_dash c =
    functions_number _ _ _ _ _ _ _ _ _ _ _ _ _ _ _ _ _ c.loop-tree.invariant c.in-Some.ensures (sym c.is_dash.ensures ∙ c.if-is_dash.true) c.start.ensures
    c.provided-so_far.ensures.made c.provided-so_far.ensures.noted c.in-Some-parted.ensures c.in_ok-none.ensures c.in_ok-add_all.ensures

pub returns-in_default-parted : goal.returns-in_default-parted
unfolding functions
returns-in_default-parted c =
    functions_cut _ _ _ _ _ _ _ _ _ _ _ _ _ c.loop-tree.invariant c.in-Some.ensures (sym c.is_dash.ensures ∙ c.if-is_dash.true) c.start.ensures
    c.provided-so_far.ensures.made c.provided-so_far.ensures.noted c.in_default-parted.ensures c.lacking.ensures

pub returns : goal.returns
unfolding functions
returns c = functions_end _ _ _ _ _ _ _ c.loop-tree.invariant c.in_default.ensures
