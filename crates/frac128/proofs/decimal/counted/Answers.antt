use Rattle.std.proofs.Common.{◌≡◌, ℕ, List, Option, Some, sym, ap, subst}
use Rattle.std.specs.Option.{option_copied, IfSome}
use Rattle.std.specs.Str.Parse.{IsNumeral, AllDigits}
use Rattle.frac128.proofs.OneSpelling.{digits-take}
use Rattle.frac128.proofs.decimal.counted.Goals as goal

pub returns-in-Some-clause-digits : goal.returns-in-Some-clause-digits
returns-in-Some-clause-digits c =
    let ds = c.in-Some.digits.now in
    let e : option_copied c.args.bottom ≡ Some ds = ap option_copied c.in-Some.is in
    let r : IsNumeral 10 ds = subst (λ (o : Option (List ℕ)). IfSome o (IsNumeral 10)) e c.requires in
    subst (AllDigits 10) (sym c.without_end_zeros.ensures) (digits-take _ ds r.1)
