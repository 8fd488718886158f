use Rattle.std.proofs.Common.{refl}
use Rattle.patty_run.specs.Outside.{output_seen}
use Rattle.patty_run.proofs.PrintLaws.{printed_as}
use Rattle.planner.specs.Planner.{refusal_lines}
use Rattle.planner.proofs.answering.print_refusal.Goals as goal

pub returns : goal.returns
returns g c =
    printed_as (output_seen g.O.Sink.written g.O.Sink.faults c.args.out.now c.put_refusal-written.new.out) (refusal_lines c.args.fail.now) 3 3 _ _ c.put_refusal-written.ensures refl c.finish.ensures
