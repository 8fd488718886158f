use Rattle.std.proofs.Common.{ℕ, ◌+◌, ap, arith, drop, sym, ◌∙◌}
use Rattle.std.specs.Str.Parse.{digits_value_after}
use Rattle.std.proofs.lemmas.Str.Parse.{digit_at}
use Rattle.frac128.proofs.OneSpelling.{value_step, passed_on}
use Rattle.cert_lines.proofs.Digits.{number_digits}
use Rattle.cert_lines.proofs.numbers.parse_value.Goals as goal

pub overflow_sub-digit : goal.overflow_sub-digit
overflow_sub-digit c = (digit_at c.args.digits.now c.loop-digit.digit-index (number_digits c.args.digits.now c.requires) c.loop-digit-test.true).0

pub shifted-requires-clause-digit : goal.shifted-requires-clause-digit
shifted-requires-clause-digit c =
    let r = digit_at c.args.digits.now c.loop-digit.digit-index (number_digits c.args.digits.now c.requires) c.loop-digit-test.true in omega (arith, r.0, r.1)

pub returns-in_err-value : goal.returns-in_err-value
returns-in_err-value c =
    rw c.from_residual.ensures (passed_on c.loop-digit.value _ _ c.args.digits.now c.loop-digit.digit-index (number_digits c.args.digits.now c.requires) c.loop-digit-test.true c.loop-digit.invariant.1 c.in_err-value.ensures)

pub loop-digit-preserved : goal.loop-digit-preserved
loop-digit-preserved c =
    let e = c.in_ok-value.ensures in let ds = c.args.digits.now in let i = c.loop-digit.digit-index in (
      omega (arith, e.0, e.1),
      ap (λ (n : ℕ). digits_value_after 10 n (drop (i + 1) ds)) e.1 ∙ sym (value_step c.loop-digit.value ds i (number_digits ds c.requires) c.loop-digit-test.true) ∙ c.loop-digit.invariant.1,
    )
