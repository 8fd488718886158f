use Rattle.std.proofs.Common.{Some, sym, ◌∙◌, ap}
use Rattle.plan_text.proofs.Arguments.{no_arguments, argument_more}
use Rattle.plan_text.proofs.part.read_arguments.Goals as goal

pub loop-piece-init : goal.loop-piece-init
loop-piece-init c = no_arguments _ _ _ _ _ c.requires.within c.new.ensures

pub loop-piece-preserved : goal.loop-piece-preserved
loop-piece-preserved c =
    argument_more _ _ _ _ _ _ _ _ _ _ _ _ c.loop-piece.invariant c.in-Some.ensures c.in-Word.is
    (ap Some c.as_str.ensures ∙ sym c.in-Some-2.is ∙ c.in_ok-name-in-Word.ensures) c.read_object-one.ensures c.in_ok-add-in-Word.ensures
