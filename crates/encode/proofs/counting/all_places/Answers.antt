use Rattle.encode.proofs.CountingLaws.{copies-more}
use Rattle.encode.proofs.counting.all_places.Goals as goal

pub loop-copy-preserved : goal.loop-copy-preserved
loop-copy-preserved c = copies-more c.args.places.now c.loop-copy.copy c.loop-copy.all.items c.extend_from_slice.new.self.items c.loop-copy.invariant c.in_ok-extend_from_slice.ensures.items
