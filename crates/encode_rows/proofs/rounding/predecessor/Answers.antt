use Rattle.std.proofs.Common.{◌≡◌, ◌∙◌, ap, subst, refl, []}
use Rattle.std.specs.Prelude.{Result, Ok, Err}
use lib.IntN.{pos}
use Rattle.rational.specs.Fraction.{Fraction, whole, ◌-ℚ◌}
use Rattle.rational.proofs.FieldLaws.{quotient-itself}
use Rattle.frac128.specs.Operations.{Fits, Answers}
use Rattle.frac128.specs.declared.operations.Op.TheVariants.{Sub}
use Rattle.frac128.specs.declared.operations.Wide.{Wide}
use Rattle.encode_rows.specs.Bounds.{PredecessorAnswers}
use Rattle.encode_rows.proofs.Passing.{passes-first}
use Rattle.encode_rows.proofs.rounding.predecessor.Goals as goal

answered : (k one : Fraction) (r : Result Fraction Wide) → one ≡ whole (pos 1) → Answers Sub k one r → PredecessorAnswers k r
answered k one (Ok n) e h = ((subst (λ (x : Fraction). Fits Sub k x) e h.0, tt), h.1 ∙ ap (λ (x : Fraction). k -ℚ x) e)
answered k one (Err w) e h = passes-first Sub k (whole (pos 1)) k one w [] refl e h.0 h.1

pub returns : goal.returns
returns c = answered c.args.k.now c.ratio.result c.sub.result (c.ratio.ensures ∙ quotient-itself (whole (pos 1))) c.sub.ensures
