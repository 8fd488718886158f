use Rattle.std.proofs.Common.{sym, ◌∙◌, ap}
use Rattle.std.specs.Result.{result_ok}
use Rattle.planner.specs.Words.{is_short_numeral}
use Rattle.planner.proofs.Numerals.{short_parsed}
use Rattle.planner.proofs.words.number.Goals as goal

pub returns : goal.returns
returns c =
    let short = ap is_short_numeral (sym c.as_bytes.ensures.value) ∙ sym c.is_short_numeral.ensures ∙ c.if-not-is_short_numeral.false in
    let parsed = short_parsed c.args.text.now c.parse.result short c.parse.ensures.value.0 in
    c.ok.ensures.value ∙ ap result_ok parsed.1 ∙ sym parsed.2
