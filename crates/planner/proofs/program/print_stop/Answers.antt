use Rattle.patty_run.specs.Outside.{output_seen}
use Rattle.patty_run.specs.Printed.{stop_lines}
use Rattle.patty_run.proofs.PrintLaws.{printed_as}
use Rattle.planner.specs.Planner.{usage_line}
use Rattle.planner.proofs.program.print_stop.Goals as goal

pub returns : goal.returns
returns g c =
    printed_as (output_seen g.O.Sink.written g.O.Sink.faults c.args.out.now c.put_stop-written.new.out) (stop_lines usage_line c.args.stop.now) _ _ _ _ c.put_stop-written.ensures c.status_of_stop.ensures c.finish.ensures
