-- Whether some first arguments can belong to an argument list: they fit, and the static conditions that they bind hold.
use Rattle.std.specs.Prelude.{ℕ, Bool, true, false, ◌==◌, not, ◌&&◌, ◌||◌, nat_lt, List, [], ◌∷◌, length}
use Rattle.std.specs.List.{list_all}
use Rattle.pddl_task.specs.declared.action.Action.{Action}
use Rattle.pddl_task.specs.declared.condition.Cond.{Cond}
use Rattle.pddl_task.specs.declared.condition.Cond.TheVariants as cond
use Rattle.pddl_task.specs.declared.expression.Term.{Term}
use Rattle.pddl_task.specs.declared.expression.Term.TheVariants as term
use Rattle.pddl_task.specs.declared.parts.TaskParts.{TaskParts}
use Rattle.plan_step.specs.Meaning.{all_fit}
use Rattle.ground_instances.specs.ArgumentLists.{static_met}

abbrev pub is_bound : ℕ → Term → Bool
is_bound count (term.Param p) = nat_lt p count
is_bound count (term.Object o) = true

abbrev pub is_param : ℕ → Term → Bool
is_param number (term.Param p) = p == number
is_param number (term.Object o) = false

-- the terms of a literal or of an equality
abbrev pub terms_of : Cond → List Term
terms_of (cond.Lit sign pred terms) = terms
terms_of (cond.Same sign left right) = left ∷ right ∷ []
terms_of (cond.Compare rel left right) = []

abbrev pub met_so_far : TaskParts → List ℕ → Cond → Bool
met_so_far task args c = not (list_all (is_bound (length args)) (terms_of c)) || static_met task args c

unfoldable pub is_open : TaskParts → Action → List ℕ → Bool
is_open task a args = all_fit task a.params args && list_all (met_so_far task args) a.conds
