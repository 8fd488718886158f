use Rattle.std.proofs.Common.{refl, sym, ap, ◌∙◌}
use Rattle.std.specs.Prelude.{is_some}
use Rattle.typing_uses.specs.Expressions.{change_operator}
use Rattle.typing_uses.specs.Names.{scope_of}
use Rattle.typing_uses.proofs.Words.{known_change}
use Rattle.typing_uses.proofs.ExpressionLaws.{changed_none, changed_some, changed_read}
use Rattle.typing_uses.proofs.effects.resolve_change.Goals as goal

pub find_change-op-requires : goal.find_change-op-requires
find_change-op-requires c = ap (λ text. is_some (change_operator text)) c.as_str.ensures ∙ known_change c.args.op.now.text c.requires.operator

pub returns-in_default : goal.returns-in_default
returns-in_default c = changed_read (scope_of c.args.names.now) c.args.op.now c.args.name.now c.args.args.now c.args.by.now c.find_change-op.result _ _ _ (ap change_operator (sym c.as_str.ensures) ∙ c.find_change-op.ensures) (changed_none _ _ _ _ _ _ _ c.in_ok-call.ensures c.in_default.is)

pub returns : goal.returns
returns c =
    changed_read (scope_of c.args.names.now) c.args.op.now c.args.name.now c.args.args.now c.args.by.now c.find_change-op.result _ _ _ (ap change_operator (sym c.as_str.ensures) ∙ c.find_change-op.ensures) (changed_some _ _ _ _ _ _ _ _ _ _ c.in_ok-call.ensures c.in-Some.is refl)
