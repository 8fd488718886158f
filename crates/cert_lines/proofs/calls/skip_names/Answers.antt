use Rattle.std.proofs.Common.{sym, ◌∙◌}
use Rattle.cert_lines.proofs.CallLaws.{last_taken, no_name}
use Rattle.cert_lines.proofs.calls.skip_names.Goals as goal

pub returns-then-not-is_name : goal.returns-then-not-is_name
returns-then-not-is_name c =
    c.names.invariant ∙ no_name c.names.name.now c.names.words (sym c.is_last_name.ensures ∙ c.names-test.true) (sym c.is_name.ensures ∙ c.if-not-is_name.true)

pub returns : goal.returns
returns c = c.names.invariant ∙ last_taken c.names.name.now c.names.words (sym c.is_last_name.ensures ∙ c.names-test.false)
