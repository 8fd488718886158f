use Rattle.std.proofs.Common.{◌≡◌, ℕ, List, Option, Some, refl, sym, ap, subst, arith}
use Rattle.std.proofs.lemmas.Bool.Decides.{nat_tests}
use Rattle.std.specs.Option.{option_copied, IfSome}
use Rattle.std.specs.Str.Parse.{IsNumeral}
use Rattle.frac128.specs.Text.{IsDenominator}
use Rattle.frac128.proofs.Reading.{two_digits}
use Rattle.frac128.proofs.text.is_denominator.Goals as goal

pub returns-then-digits-gt1 : goal.returns-then-digits-gt1
returns-then-digits-gt1 c =
    let ds = c.in-Some.digits.now in let p = c.if-is_plain.ensures.0 refl in
    let e : option_copied c.args.digits ≡ Some ds = ap option_copied c.in-Some.is in
    let r : IsNumeral 10 ds = subst (λ (o : Option (List ℕ)). IfSome o (IsNumeral 10)) e c.requires in
    (λ h. subst IsDenominator (sym e) (p, two_digits ds r p c.if-digits-gt1.true), λ h. grind (arith, nat_tests))
