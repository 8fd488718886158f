use Rattle.ground_action.specs.Leaves.{move_of}
use Rattle.ground_action.specs.GroundAction.{may_move}
use Rattle.ground_action.specs.Work.{effect_ops}
use Rattle.ground_parts.specs.Forms.{setting_in}
use Rattle.ground_draft.specs.inside.Made.{move_made}
use Rattle.ground_draft.proofs.Loops.{IsMaking}
use Rattle.ground_draft.proofs.moves.all_moves.Given as goal

abbrev pub invariant-loop-effect : goal.invariant-loop-effect
invariant-loop-effect l =
    IsMaking (λ e. may_move (move_of (setting_in l.given) l.args e)) (effect_ops (setting_in l.given) l.args) (move_made (setting_in l.given) l.given.atoms.now l.args) l.effects l.moves l.effect-index
