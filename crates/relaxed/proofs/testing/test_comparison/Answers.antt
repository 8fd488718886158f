use Rattle.std.proofs.Common.{refl, sym, subst, map}
use Rattle.relaxed.specs.declared.failure.LayerFail.{LayerFail}
use Rattle.relaxed.specs.declared.failure.RangePart.TheVariants.{Cond}
use Rattle.relaxed.specs.Named.{comparison_operations}
use Rattle.relaxed.specs.inside.Kept.{layer_of}
use Rattle.relaxed.specs.inside.Answering.{FailsIn}
use Rattle.relaxed.proofs.PartSteps.{part_fits, part_passes}
use Rattle.relaxed.proofs.testing.test_comparison.Goals as goal

pub returns-in-Ok : goal.returns-in-Ok
returns-in-Ok c =
    (part_fits (Cond c.args.place) (comparison_operations (layer_of c.args.table.now) c.args.l.now c.args.cmp) c.in-Ok.ensures.0, c.in-Ok.ensures.1)

pub returns-in-Err : goal.returns-in-Err
returns-in-Err c =
    let ops = comparison_operations (layer_of c.args.table.now) c.args.l.now c.args.cmp in
    subst (λ (e : LayerFail). FailsIn c.args.layer c.args.action (map (λ o. (Cond c.args.place, o)) ops) e) (sym c.passing.ensures)
    (refl, refl, part_passes (Cond c.args.place) ops c.in-Err.wide c.in-Err.ensures)
