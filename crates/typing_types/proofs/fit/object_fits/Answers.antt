use Rattle.std.proofs.Common.{length, sym}
use Rattle.std.specs.Prelude.{nat_lt}
use Rattle.pddl_task.specs.declared.declared.Object.{Object}
use Rattle.typing_types.proofs.Fitting.{below_from, each_got}
use Rattle.typing_types.proofs.fit.object_fits.Goals as goal

pub is_among-requires-clause-within : goal.is_among-requires-clause-within
is_among-requires-clause-within c = below_from _ _ (each_got (λ (o : Object). nat_lt o.of (length c.args.known.now.hierarchy.now)) _ _ _ c.requires.typed.objects (sym c.in-Some-object_at.ensures))
