use Rattle.std.proofs.Common.{arith, ap, length, length-append, ◌∙◌, ◌∷◌, []}
use Rattle.clause_trail.proofs.Fronts.{take_pop}
use Rattle.clause_trail.proofs.decisions.cut.Goals as goal

pub loop-trail-preserved : goal.loop-trail-preserved
loop-trail-preserved c = record {
  entries = take_pop c.args.trail.now.entries c.loop-trail.trail.entries c.pop.new.self.entries c.in-Some._entry c.loop-trail.invariant.entries c.in-Some.ensures.entries;
  long = omega (arith, ap length c.in-Some.ensures.entries, length-append c.pop.new.self.entries (c.in-Some._entry ∷ []), ap length c.entries.ensures.value);
  short = omega (arith, ap length c.in-Some.ensures.entries, length-append c.pop.new.self.entries (c.in-Some._entry ∷ []), c.loop-trail.invariant.short);
  booleans = c.in-Some.ensures.booleans ∙ c.loop-trail.invariant.booleans;
}
