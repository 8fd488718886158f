use Rattle.std.proofs.Common.{◌∙◌, sym, ap}
use Rattle.std.specs.Prelude.{is_some}
use Rattle.relaxed.specs.Layers.{box}
use Rattle.relaxed.specs.inside.Kept.{layer_of}
use Rattle.relaxed.proofs.RangeSteps.{some-next, none-at}
use Rattle.relaxed.proofs.range.is_bounded.Goals as goal

pub returns-in-Infinite : goal.returns-in-Infinite
returns-in-Infinite c =
    sym (ap is_some (none-at c.args.side (box (layer_of c.args.table.now)) c.args.l.now.terms c.loop-i.i c.term-variable.result c.term-variable.ensures c.in-Infinite.ensures))
    ∙ c.loop-i.invariant

pub loop-i-preserved : goal.loop-i-preserved
loop-i-preserved c =
    some-next c.args.side (box (layer_of c.args.table.now)) c.args.l.now.terms c.loop-i.i c.term-variable.result c.in-At.field-0 c.term-variable.ensures c.in-At.ensures
    ∙ c.loop-i.invariant
