use Rattle.plan_text.proofs.Arguments.{read_some}
use Rattle.plan_text.proofs.LineLaws.{code_empty, code_read}
use Rattle.plan_text.proofs.line.Reading.read_code.Goals as goal

pub returns-in_default : goal.returns-in_default
returns-in_default c = code_empty _ _ c.args.text.now c.args.from _ c.in_default.ensures

pub returns-in_ok-add-in-Some-2 : goal.returns-in_ok-add-in-Some-2
returns-in_ok-add-in-Some-2 c =
    code_read _ _ c.args.text.now c.args.from c.in-Some.first _ _ _ _ _ c.in-Some.ensures c.new-faults.ensures (read_some _ _ _ _ _ _ c.in_ok-part.ensures c.in-Some-2.is)
    c.in_ok-add-in-Some-2.ensures c.note_first.ensures
