use Rattle.std.proofs.Common.{◌≡◌, ◌≢◌, ◌++◌, ◌≤◌, List, Option, None, vec_len}
use Rattle.std.specs.Prelude.{vec_capacity}
use Rattle.std.specs.List.{All}
use Rattle.formula.specs.declared.atom.Lit.{Lit}
use Rattle.asserted.proofs.events.drop_mark.Given as goal

abbrev pub invariant-events : goal.invariant-events
invariant-events l = record {
  dropped : (behind : List (Option Lit)) × (l.initial.events.items ≡ l.events.items ++ behind) × All (λ e. e ≢ None) behind;
  capacity : vec_capacity l.initial.events ≤ vec_capacity l.events;
}

abbrev pub decreases-events : goal.decreases-events
decreases-events l = vec_len l.events
