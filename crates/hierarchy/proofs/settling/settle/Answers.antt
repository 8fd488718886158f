use Rattle.std.proofs.Common.{refl, arith}
use Rattle.hierarchy.proofs.EntryLaws.{can_jump, jump_within, jump_known, depth_small}
use Rattle.hierarchy.proofs.SettleLaws.{settled}
use Rattle.hierarchy.proofs.settling.settle.Goals as goal

pub jump_over-jump-requires-clause-near : goal.jump_over-jump-requires-clause-near
jump_over-jump-requires-clause-near c =
    let index = c.requires.partly in
    can_jump _ _ _ _ index _ (index.lengths.hierarchy _ c.requires.within) c.requires.parent

pub jump_over-jump-requires-clause-far : goal.jump_over-jump-requires-clause-far
jump_over-jump-requires-clause-far c =
    let index = c.requires.partly in
    let parent_in = index.lengths.hierarchy _ c.requires.within in
    can_jump _ _ _ _ index _ (jump_within _ _ _ _ index _ parent_in c.requires.parent) (jump_known _ _ _ _ index _ parent_in c.requires.parent)

pub overflow_add-depths : goal.overflow_add-depths
overflow_add-depths c =
    let index = c.requires.partly in
    omega (arith, depth_small _ _ _ _ index _ (index.lengths.hierarchy _ c.requires.within) c.requires.parent, index.lengths.few)

pub returns-clause-partly : goal.returns-clause-partly
returns-clause-partly c =
    settled _ _ _ _ c.requires.partly c.args.t c.requires.within c.requires.unknown c.requires.parent c.jump_over-jump.result c.jump_over-jump.ensures _ _ refl refl
