use Rattle.std.proofs.Common.{List, subst, sym}
use Rattle.pddl_form.specs.Judged.{Judged}
use Rattle.plan_form.specs.declared.plan.Part.{Part}
use Rattle.plan_text.specs.inside.Extending.{Extends}
use Rattle.plan_text.specs.inside.Tables.{names_in}
use Rattle.plan_text.proofs.LineLaws.{has_code, line_foreign, line_fine}
use Rattle.plan_text.proofs.line.Reading.read_line.Goals as goal

pub returns-then-has_foreign : goal.returns-then-has_foreign
returns-then-has_foreign c =
    let code = has_code c.args.bytes.now c.args.at c.args.end c.code_len.result c.requires.rises c.requires.within c.code_len.ensures.value in
    subst (λ (j : Judged (List Part)). Extends j c.args.self.now c.refuse_line.new.self)
    (sym (line_foreign (names_in c.args.tables.now) c.args.bytes.now c.args.at c.args.end c.white_len.result _ c.has_foreign.result c.white_len.ensures.value code.code c.has_foreign.ensures c.if-has_foreign.true))
    c.refuse_line.ensures

pub returns : goal.returns
returns c =
    let code = has_code c.args.bytes.now c.args.at c.args.end c.code_len.result c.requires.rises c.requires.within c.code_len.ensures.value in
    subst (λ (j : Judged (List Part)). Extends j c.args.self.now c.read_code.new.self)
    (sym (line_fine (names_in c.args.tables.now) c.args.bytes.now c.args.at c.args.end c.white_len.result _ _ c.has_foreign.result c.white_len.ensures.value code.code code.front c.has_foreign.ensures c.if-has_foreign.false))
    c.in_ok-read_code.ensures
