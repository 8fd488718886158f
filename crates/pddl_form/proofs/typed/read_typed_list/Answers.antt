use Rattle.std.proofs.Common.{sym, ◌∙◌}
use Rattle.pddl_form.specs.Typed.{typed_list}
use Rattle.pddl_form.proofs.TypedLists.{typed_none, typed_item, typed_group, typed_cut, typed_end}
use Rattle.pddl_form.proofs.typed.read_typed_list.Goals as goal

pub loop-tree-init : goal.loop-tree-init
loop-tree-init c = typed_none _ _ _ _ _ _ c.new.ensures c.new-2.ensures

pub loop-tree-preserved : goal.loop-tree-preserved
loop-tree-preserved c = typed_item _ _ _ _ _ _ _ _ _ _ _ _ _ c.loop-tree.invariant c.in-Some.ensures (sym c.is_dash.ensures ∙ c.if-is_dash.false) c.in_ok-one.ensures c.in_ok-add.ensures

pub loop-tree-preserved-then-is_dash : goal.loop-tree-preserved-then-is_dash
loop-tree-preserved-then-is_dash c =
    typed_group _ _ _ _ _ _ _ _ _ _ _ _ _ _ _ _ _ _ _ _ _ c.loop-tree.invariant c.in-Some.ensures (sym c.is_dash.ensures ∙ c.if-is_dash.true) c.has_item-named.ensures c.start.ensures
    c.provided-names.ensures.made c.provided-names.ensures.noted c.in-Some-parted.ensures c.in_ok-types.ensures c.in_ok-group.ensures c.in_ok-add_all.ensures c.new-then-is_dash.ensures

pub returns-in_default-parted : goal.returns-in_default-parted
unfolding typed_list
returns-in_default-parted c =
    typed_cut _ _ _ _ _ _ _ _ _ _ _ _ _ _ _ c.loop-tree.invariant c.in-Some.ensures (sym c.is_dash.ensures ∙ c.if-is_dash.true) c.has_item-named.ensures c.start.ensures
    c.provided-names.ensures.made c.provided-names.ensures.noted c.in_default-parted.ensures c.lacking.ensures

pub returns : goal.returns
unfolding typed_list
returns c = typed_end _ _ _ _ _ _ _ _ _ _ _ c.loop-tree.invariant c.in_default.ensures c.new-3.ensures c.in_ok-last.ensures c.in_ok-add_all-2.ensures
