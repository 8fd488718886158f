use Rattle.std.proofs.Common.{inl, inr, refl}
use Rattle.plan_repeat.proofs.Jumps.{not-wide}
use Rattle.plan_repeat.proofs.jumping.last_fails.Goals as goal

pub returns-in-Wide-clause-fails : goal.returns-in-Wide-clause-fails
returns-in-Wide-clause-fails c = inl (c.in-Wide.field-0, c.in-Wide.is, refl, c.in-Wide.is)

pub first_failing-requires-clause-refuted : goal.first_failing-requires-clause-refuted
first_failing-requires-clause-refuted c = not-wide c.args.fail c.in_default.not-Wide

pub returns-clause-fails : goal.returns-clause-fails
returns-clause-fails c = inr (not-wide c.args.fail c.in_default.not-Wide, c.first_failing.ensures.finds)
