use Rattle.std.proofs.Common.{refl}
use Rattle.patty_run.specs.Outside.{output_seen}
use Rattle.patty_run.proofs.PrintLaws.{printed_as}
use Rattle.planner.specs.Planner.{not_built_lines}
use Rattle.planner.proofs.answering.print_not_built.Goals as goal

pub returns : goal.returns
returns g c =
    printed_as (output_seen g.O.Sink.written g.O.Sink.faults c.args.out.now c.put_all-written.new.out) not_built_lines 3 3 _ _ c.put_all-written.ensures refl c.finish.ensures
