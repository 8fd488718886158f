use Rattle.std.proofs.Common.{refl}
use Rattle.plan_text.proofs.LineLaws.{line_refused}
use Rattle.plan_text.proofs.line.Reading.refuse_line.Goals as goal

pub returns : goal.returns
returns c = line_refused _ _ _ refl c.note_malformed.ensures
