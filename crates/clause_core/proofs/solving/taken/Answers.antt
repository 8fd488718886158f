use Rattle.std.proofs.Common.{refl}
use Rattle.theory_law.specs.Log.{after}
use Rattle.clause_core.proofs.Turns.{none_empty, some_empty}
use Rattle.clause_core.proofs.solving.taken.Goals as goal

pub returns-then-empty-clause-end : goal.returns-then-empty-clause-end
returns-then-empty-clause-end g c = some_empty c.args.core.formula (after c.args.core.formula c.args.step) c.args.step refl (c.if-empty.ensures.0 refl)

pub returns-else-empty-clause-none : goal.returns-else-empty-clause-none
returns-else-empty-clause-none g c =
    none_empty c.args.core.formula c.in-Ok.core.formula c.args.step c.in-Ok.ensures.formula c.requires.none (λ e. let t = c.if-empty.ensures.1 e in cc)
