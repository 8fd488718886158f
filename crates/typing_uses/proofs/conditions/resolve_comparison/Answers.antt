use Rattle.std.proofs.Common.{refl, sym, ap, ◌∙◌}
use Rattle.std.specs.Prelude.{is_some}
use Rattle.typing_uses.specs.Expressions.{relation}
use Rattle.typing_uses.specs.Names.{scope_of}
use Rattle.typing_uses.proofs.Words.{known_relation}
use Rattle.typing_uses.proofs.ExpressionLaws.{paired_none, paired_some, compared_read}
use Rattle.typing_uses.proofs.conditions.resolve_comparison.Goals as goal

pub find_relation-rel-requires : goal.find_relation-rel-requires
find_relation-rel-requires c = ap (λ text. is_some (relation text)) c.as_str.ensures ∙ known_relation c.args.rel.now.text c.requires.relation

pub returns-in_default : goal.returns-in_default
returns-in_default c = compared_read (scope_of c.args.names.now) c.args.rel.now c.args.left.now c.args.right.now c.find_relation-rel.result _ _ _ (ap relation (sym c.as_str.ensures) ∙ c.find_relation-rel.ensures) (paired_none _ _ _ _ _ _ c.in_ok-left.ensures c.in_default.is)

pub returns : goal.returns
returns c =
    compared_read (scope_of c.args.names.now) c.args.rel.now c.args.left.now c.args.right.now c.find_relation-rel.result _ _ _ (ap relation (sym c.as_str.ensures) ∙ c.find_relation-rel.ensures) (paired_some _ _ _ _ _ _ _ _ _ c.in_ok-left.ensures c.in-Some.is refl)
