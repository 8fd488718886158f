use Rattle.std.proofs.Common.{◌≡◌, sym, subst, refl, lit<, ◌∙◌, ap}
use lib.IntN.{pos}
use Rattle.rational.specs.Fraction.{Fraction, whole, ◌+ℚ◌}
use Rattle.rational.specs.Floor.{IsWhole}
use Rattle.rational.proofs.FieldLaws.{whole-add}
use Rattle.frac128.specs.Bounds.{IsFrac}
use Rattle.theory_law.proofs.Zeros.{zero_quotient}
use Rattle.clause_rows.proofs.starting.add.Goals as goal

pub add_split-requires-clause-whole : goal.add_split-requires-clause-whole
add_split-requires-clause-whole c = subst IsWhole (sym (c.ratio.ensures ∙ zero_quotient)) refl

pub add_split-requires-clause-next : goal.add_split-requires-clause-next
add_split-requires-clause-next c =
    let is : whole (pos 1) ≡ c.ratio.result +ℚ whole (pos 1) = whole-add (pos 0) (pos 1) ∙ ap (λ (x : Fraction). x +ℚ whole (pos 1)) (sym (c.ratio.ensures ∙ zero_quotient)) in
    let one : IsFrac (whole (pos 1)) = record { num = lit< tt; den = lit< tt } in
    subst IsFrac is one
