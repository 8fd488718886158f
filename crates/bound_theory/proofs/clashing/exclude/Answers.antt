use Rattle.std.proofs.Common.{◌≡◌, ◌≢◌, ℕ, true, sym, subst, rules}
use Rattle.bound_theory.specs.Bounds.{IsBound}
use Rattle.bound_theory.proofs.clashing.exclude.Goals as goal

pub returns-then-above-below : goal.returns-then-above-below
returns-then-above-below c = λ t.
    let same : c.in-Some-bound_of.below.var ≡ c.in-Some.above.var = sym c.if-above-below.true in
    let apart : c.args.upper.boolean ≢ c.args.lower.boolean = c.if-upper-lower.false in
    let affirmed : c.args.upper.pos ≡ true = search rules in
    record {
      var = c.in-Some.above.var;
      k = c.in-Some.above.most;
      m = c.in-Some-bound_of.below.most;
      upper_is = c.in-Some.ensures;
      lower_is =
          subst (λ (v : ℕ). IsBound c.args.formula.now.counts c.args.formula.now.atoms c.args.lower.boolean (record { var = v; most = c.in-Some-bound_of.below.most })) same c.in-Some-bound_of.ensures;
      affirmed = affirmed;
      denied = c.if-lower.false;
      apart = apart;
      order = c.is_at_most.ensures t;
    }
