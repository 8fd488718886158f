use Rattle.std.proofs.Common.{refl}
use Rattle.plan_text.specs.inside.Tables.{names_in}
use Rattle.plan_text.proofs.LinesLaws.{no_lines, one_more_line, last_line}
use Rattle.plan_text.proofs.reading.read_lines.Goals as goal

pub lines-init : goal.lines-init
lines-init c = no_lines _ _ _ _ refl c.new.ensures c.new-2.ensures

pub returns-then-end-bytes : goal.returns-then-end-bytes
returns-then-end-bytes c =
    last_line (names_in c.args.tables.now) c.args.bytes.now c.lines.at c.line_len.result _ _ c.lines.invariant c.line_len.ensures.value c.if-end-bytes.true c.in_ok-read_line.ensures

pub lines-preserved : goal.lines-preserved
lines-preserved c =
    one_more_line (names_in c.args.tables.now) c.args.bytes.now c.lines.at c.line_len.result _ _ c.lines.invariant c.line_len.ensures.value c.if-end-bytes.false c.in_ok-read_line.ensures
