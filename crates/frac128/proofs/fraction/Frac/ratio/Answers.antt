use Rattle.std.proofs.Common.{◌∙◌, sym}
use Rattle.std.proofs.lemmas.Int.{to_z-of_z}
use mir.Syntax.{w128}
use Rattle.frac128.proofs.Parts.{of_positive}
use Rattle.frac128.proofs.Passed.{reduced_lowest}
use Rattle.frac128.proofs.fraction.Frac.ratio.Goals as goal

pub lowest-requires-clause-positive : goal.lowest-requires-clause-positive
lowest-requires-clause-positive c =
    let r = c.reduced-num.ensures in let d = of_positive c.args.den c.requires.positive in
    (reduced_lowest r.within r.num r.den (to_z-of_z w128 c.args.num c.ranges.num) (to_z-of_z w128 c.args.den c.ranges.den ∙ sym d.0) d.1).positive

pub lowest-requires-clause-coprime : goal.lowest-requires-clause-coprime
lowest-requires-clause-coprime c =
    let r = c.reduced-num.ensures in let d = of_positive c.args.den c.requires.positive in
    (reduced_lowest r.within r.num r.den (to_z-of_z w128 c.args.num c.ranges.num) (to_z-of_z w128 c.args.den c.ranges.den ∙ sym d.0) d.1).coprime

pub returns : goal.returns
returns c =
    let r = c.reduced-num.ensures in let d = of_positive c.args.den c.requires.positive in
    c.lowest.ensures ∙ (reduced_lowest r.within r.num r.den (to_z-of_z w128 c.args.num c.ranges.num) (to_z-of_z w128 c.args.den c.ranges.den ∙ sym d.0) d.1).value
