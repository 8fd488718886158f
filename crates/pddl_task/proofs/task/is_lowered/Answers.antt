use Rattle.std.proofs.Common.{◌≡◌, List, ℕ, length, sym, ◌∙◌, ap, arith, map}
use Rattle.std.specs.Prelude.{bytes_eq}
use Rattle.std.specs.Str.{str_to_ascii_lowercase}
use Rattle.pddl_task.proofs.Lowering.{byte_differs, byte_agrees}
use Rattle.pddl_task.proofs.task.is_lowered.Goals as goal

pub returns-then-to_ascii_lowercase-lowered : goal.returns-then-to_ascii_lowercase-lowered
returns-then-to_ascii_lowercase-lowered c =
    byte_differs c.as_bytes-text.result.now c.as_bytes-lowered.result.now c.loop-i.i c.to_ascii_lowercase.result (omega arith) c.loop-i-test.true c.to_ascii_lowercase.ensures.value c.loop-i.invariant c.if-to_ascii_lowercase-lowered.true
    ∙ ap (λ (l : List ℕ). bytes_eq l (str_to_ascii_lowercase c.as_bytes-text.result.now)) c.as_bytes-lowered.ensures.value
    ∙ ap (λ (l : List ℕ). bytes_eq c.args.lowered.now (str_to_ascii_lowercase l)) c.as_bytes-text.ensures.value

pub loop-i-preserved : goal.loop-i-preserved
loop-i-preserved c =
    byte_agrees c.as_bytes-text.result.now c.as_bytes-lowered.result.now c.loop-i.i c.to_ascii_lowercase.result (omega arith) c.loop-i-test.true c.to_ascii_lowercase.ensures.value c.loop-i.invariant c.if-to_ascii_lowercase-lowered.false
