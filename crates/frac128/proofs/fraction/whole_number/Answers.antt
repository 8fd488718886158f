use Rattle.std.proofs.Common.{sym, ◌∙◌}
use Rattle.std.proofs.lemmas.Int.{to_z-of_z}
use mir.Syntax.{w128}
use mir.Val.{SFits}
use Rattle.rational.proofs.FieldLaws.{itself, is_quotient}
use Rattle.rational.specs.Fraction.{whole}
use Rattle.algebra.proofs.Reduce.{gcd-one}
use Rattle.frac128.proofs.fraction.whole_number.Goals as goal

pub lowest-requires-clause-coprime : goal.lowest-requires-clause-coprime
lowest-requires-clause-coprime c = gcd-one _

pub returns : goal.returns
returns c =
    let f : SFits w128 c.args.n = c.ranges.n in
    simp to_z-of_z at c.lowest.ensures ∙ sym (is_quotient (whole c.args.n) c.args.n 1 (itself (whole c.args.n)))
