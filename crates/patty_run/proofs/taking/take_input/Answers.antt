use Rattle.std.proofs.Common.{Err, refl, subst}
use Rattle.patty_io.specs.Shelf.{Fails, TakeCounts}
use Rattle.patty_run.specs.Outside.{files_seen}
use Rattle.patty_run.proofs.TakingLaws.{too_long}
use Rattle.patty_run.proofs.CountLaws.{all_same}
use Rattle.patty_run.proofs.taking.take_input.Goals as goal

pub returns-in-Ok-clause-counts : goal.returns-in-Ok-clause-counts
returns-in-Ok-clause-counts g c = all_same (files_seen g.F.Shelf.content g.F.Shelf.faults c.args.files.now c.take.new.self) _ c.in-Ok.ensures.cause c.in-Ok.ensures.others

pub returns-in-Err-Failed-clause-taken : goal.returns-in-Err-Failed-clause-taken
returns-in-Err-Failed-clause-taken g c =
    let rose = subst (λ e. TakeCounts {T = Unit {0}} (g.F.Shelf.faults c.args.files.now c.args.name.now) (g.F.Shelf.faults c.take.new.self c.args.name.now) (Err e)) c.in-Err-Failed.field-0-is c.in-Err-Failed.ensures.cause in
    (refl, record { rose = rose; others = c.in-Err-Failed.ensures.others })

pub returns-in-Err-Long-clause-counts : goal.returns-in-Err-Long-clause-counts
returns-in-Err-Long-clause-counts g c =
    let same = subst (λ e. TakeCounts {T = Unit {0}} (g.F.Shelf.faults c.args.files.now c.args.name.now) (g.F.Shelf.faults c.take.new.self c.args.name.now) (Err e)) c.in-Err-Long.field-0-is c.in-Err-Long.ensures.cause in
    all_same (files_seen g.F.Shelf.content g.F.Shelf.faults c.args.files.now c.take.new.self) _ same c.in-Err-Long.ensures.others

pub returns-in-Err-Long-clause-taken : goal.returns-in-Err-Long-clause-taken
returns-in-Err-Long-clause-taken g c =
    let long = subst (λ e. Fails e (g.F.Shelf.content c.args.files.now c.args.name.now) c.take.new.into.items) c.in-Err-Long.field-0-is c.in-Err-Long.ensures.taken in
    (refl, too_long _ _ long.0 long.1)
