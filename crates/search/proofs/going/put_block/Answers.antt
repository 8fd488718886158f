use Rattle.search.proofs.GoingLaws.{stays}
use Rattle.search.proofs.going.put_block.Goals as goal

pub returns-in_default : goal.returns-in_default
returns-in_default g c = λ first fails going.
    stays c.args.task.now c.args.limits.now c.args.opened.now c.requires.opened c.args.n first (g.O.Sink.written c.args.out.now) fails (g.O.Sink.faults c.args.out.now) going c.requires.within
