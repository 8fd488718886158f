use Rattle.std.proofs.Common.{ap, refl}
use Rattle.planner_text.specs.Text.{stuck, wide_atom}
use Rattle.search.specs.inside.Blocks.{end_of}
use Rattle.search.proofs.going.found_by.Goals as goal

pub returns-in-Stuck : goal.returns-in-Stuck
returns-in-Stuck c = λ log. ((stuck c.in-Stuck._trace, ap end_of c.in-Stuck.is), refl, refl)

pub returns-in-Wide : goal.returns-in-Wide
returns-in-Wide c = λ log. ((wide_atom c.in-Wide._wide, ap end_of c.in-Wide.is), refl, refl)
