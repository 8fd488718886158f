use Rattle.std.proofs.Common.{refl, sym, subst, map}
use Rattle.relaxed.specs.declared.failure.LayerFail.{LayerFail}
use Rattle.relaxed.specs.declared.failure.RangePart.TheVariants.{Set}
use Rattle.relaxed.specs.Named.{set_operations}
use Rattle.relaxed.specs.inside.Kept.{layer_of}
use Rattle.relaxed.specs.inside.Answering.{FailsIn}
use Rattle.relaxed.proofs.PartSteps.{part_fits, part_passes}
use Rattle.relaxed.proofs.reaching.reach_by_value.Goals as goal

pub returns-in-Ok : goal.returns-in-Ok
returns-in-Ok c =
    (part_fits (Set c.args.place) (set_operations (layer_of c.args.table.now) c.args.f c.args.l.now) c.in-Ok.ensures.0, c.in-Ok.ensures.1)

pub returns-in-Err : goal.returns-in-Err
returns-in-Err c =
    let ops = set_operations (layer_of c.args.table.now) c.args.f c.args.l.now in
    subst (λ (e : LayerFail). FailsIn c.args.layer c.args.action (map (λ o. (Set c.args.place, o)) ops) e) (sym c.passing.ensures)
    (refl, refl, part_passes (Set c.args.place) ops c.in-Err.wide c.in-Err.ensures)
