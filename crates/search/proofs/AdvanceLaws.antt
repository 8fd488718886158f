-- What a block comes to, by the value that is answered.
use Rattle.std.proofs.Common.{◌≡◌, ℕ, suc, ◌≤◌, List, Option, Some, None, Ok, subst}
use Rattle.patty_run.specs.Outside.{Output}
use Rattle.pddl_task.specs.declared.parts.TaskParts.{TaskParts}
use Rattle.planner_text.specs.declared.limits.Limits.{Limits}
use Rattle.search.specs.declared.found.Found.{Found}
use Rattle.search.specs.Searching.{IsFound}
use Rattle.search.specs.inside.Going.{Advances}

module _ (output : Output) (task : TaskParts) (limits : Limits) (places : List ℕ) (n : ℕ) (o : Option Found) where
  pub found_at : (f : Found) → o ≡ Some f → Advances output task limits places n (Ok o) → IsFound output task limits f
  found_at f is h = subst (λ (x : Option Found). Advances output task limits places n (Ok x)) is h

  pub more_at : o ≡ None → Advances output task limits places n (Ok o) → suc n ≤ limits.max_n
  more_at is h = (subst (λ (x : Option Found). Advances output task limits places n (Ok x)) is h).0
