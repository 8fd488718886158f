use Rattle.std.proofs.Common.{ℕ, sym, ap, subst, ◌∙◌, arith}
use Rattle.std.specs.Str.Parse.{digits_value_after}
use Rattle.frac128.specs.Bounds.{KeptNatural}
use Rattle.frac128.proofs.OneSpelling.{value-append, value_ge}
use Rattle.frac128.proofs.decimal.number_of_both.Goals as goal

pub returns-in_err-number : goal.returns-in_err-number
returns-in_err-number c =
    let xs = c.args.front.now in let ys = c.args.back.now in
    rw c.from_residual.ensures (omega (arith, value-append 0 xs ys, value_ge (digits_value_after 10 0 xs) ys, c.in_err-number.ensures))

pub returns : goal.returns
returns c =
    let xs = c.args.front.now in let ys = c.args.back.now in
    let P = λ (n : ℕ). KeptNatural n c.number-2.result in
    subst P (ap (λ (n : ℕ). digits_value_after 10 n ys) c.in_ok-number.ensures.1 ∙ sym (value-append 0 xs ys)) c.number-2.ensures
