use Rattle.std.proofs.Common.{◌≡◌, true, false, ◌∙◌, sym}
use Rattle.relaxed.specs.Layers.{has_interval}
use Rattle.relaxed.specs.inside.Kept.{layer_of}
use Rattle.relaxed.proofs.ReadLaws.{all-stops, all-goes}
use Rattle.relaxed.proofs.support.has_intervals.Goals as goal

pub returns-then-not-has_interval : goal.returns-then-not-has_interval
returns-then-not-has_interval c =
    let test = has_interval (layer_of c.args.table.now) in
    let fails : test c.term-variable.result.0 ≡ false = cc in
    sym (all-stops test c.args.l.now.terms c.loop-i.i c.term-variable.result c.term-variable.ensures fails) ∙ c.loop-i.invariant

pub loop-i-preserved : goal.loop-i-preserved
loop-i-preserved c =
    let test = has_interval (layer_of c.args.table.now) in
    let passes : test c.term-variable.result.0 ≡ true = cc in
    all-goes test c.args.l.now.terms c.loop-i.i c.term-variable.result c.term-variable.ensures passes ∙ c.loop-i.invariant
