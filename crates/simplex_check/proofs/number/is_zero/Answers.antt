use Rattle.std.proofs.Common.{rules, sym, ◌≡◌, ◌∙◌}
use lib.IntN.{pos}
use Rattle.rational.proofs.FieldLaws.{zero_num, num_zero}
use Rattle.simplex_check.proofs.number.is_zero.Goals as goal

pub returns : goal.returns
returns c = (
  (λ h. let e : c.num.result ≡ pos 0 = search (rules, h) in zero_num _ (sym c.num.ensures.value ∙ e)),
  (λ h. let e : c.num.result ≡ pos 0 = c.num.ensures.value ∙ num_zero _ h in search (rules, e)),
)
