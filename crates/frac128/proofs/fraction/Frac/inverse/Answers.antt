use Rattle.std.proofs.Common.{pos, ◌∙◌, arith}
use Rattle.std.proofs.lemmas.Int.{ints}
use lib.Signed.{◌<ℤ◌, ◌≤ℤ◌}
use Rattle.frac128.proofs.Passed.{read, minus_passed}
use Rattle.frac128.proofs.Inverse.{inverse_negative, inverse_positive}
use Rattle.frac128.proofs.fraction.Frac.inverse.Goals as goal

pub lowest-requires-clause-coprime : goal.lowest-requires-clause-coprime
lowest-requires-clause-coprime c =
    let n = read c.num.ensures.within c.num.ensures.value in
    let h : c.args.self.now.num <ℤ pos 0 = omega (arith, ints) in
    (inverse_negative c.args.self.now h (minus_passed c.den.ensures.within c.den.ensures.value) (minus_passed c.num-then-num-lt0.ensures.within c.num-then-num-lt0.ensures.value)).coprime

pub lowest-requires-else-num-lt0-clause-coprime : goal.lowest-requires-else-num-lt0-clause-coprime
lowest-requires-else-num-lt0-clause-coprime c =
    let n = read c.num.ensures.within c.num.ensures.value in
    let h : pos 0 ≤ℤ c.args.self.now.num = omega (arith, ints) in
    (inverse_positive c.args.self.now h (read c.den-else-num-lt0.ensures.within c.den-else-num-lt0.ensures.value) (read c.num-else-num-lt0.ensures.within c.num-else-num-lt0.ensures.value)).coprime

pub returns-then-num-lt0 : goal.returns-then-num-lt0
returns-then-num-lt0 c =
    let n = read c.num.ensures.within c.num.ensures.value in
    let h : c.args.self.now.num <ℤ pos 0 = omega (arith, ints) in
    c.lowest.ensures ∙ (inverse_negative c.args.self.now h (minus_passed c.den.ensures.within c.den.ensures.value) (minus_passed c.num-then-num-lt0.ensures.within c.num-then-num-lt0.ensures.value)).value

pub returns-else-num-lt0 : goal.returns-else-num-lt0
returns-else-num-lt0 c =
    let n = read c.num.ensures.within c.num.ensures.value in
    let h : pos 0 ≤ℤ c.args.self.now.num = omega (arith, ints) in
    c.lowest-else-num-lt0.ensures ∙ (inverse_positive c.args.self.now h (read c.den-else-num-lt0.ensures.within c.den-else-num-lt0.ensures.value) (read c.num-else-num-lt0.ensures.within c.num-else-num-lt0.ensures.value)).value
