use Rattle.std.proofs.Common.{Some, sym, ◌∙◌, ap}
use Rattle.plan_text.proofs.Arguments.{call_read, read_some}
use Rattle.plan_text.proofs.part.read_call.Goals as goal

pub returns : goal.returns
returns c =
    call_read _ _ _ _ _ _ _ _ _ _ _ c.in-Some.ensures c.in-Word.is
    (ap Some c.as_str.ensures ∙ sym c.in-Some-2.is ∙ c.in_ok-name.ensures) c.read_action-action.ensures
    (read_some _ _ _ _ _ _ c.in_ok-args.ensures c.in-Some-3.is) c.make_instance.ensures
