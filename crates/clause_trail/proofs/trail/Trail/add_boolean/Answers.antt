use Rattle.std.proofs.Common.{subst, sym, List, ℕ, Option}
use Rattle.clause_trail.specs.Standing.{IsTabled}
use Rattle.clause_trail.proofs.Places.{tabled_grow}
use Rattle.clause_trail.proofs.trail.Trail.add_boolean.Goals as goal

pub invariant_of-self-2 : goal.invariant_of-self-2
invariant_of-self-2 c = subst (λ (x : List (Option ℕ)). IsTabled x c.self.inside.entries.items) (sym c.in_ok-push.ensures.items) (tabled_grow _ _ c.self.invariant)
