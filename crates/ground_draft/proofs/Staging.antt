-- The stages of an instance, at its own conditions and effects.
use Rattle.std.proofs.Common.{◌≡◌, ℕ, List, ◌++◌, Option, Result, subst}
use Rattle.lin.specs.declared.failure.LinFail.{LinFail}
use Rattle.lin.specs.Operations.{AnswersInMemory}
use Rattle.pddl_task.specs.declared.action.Action.{Action}
use Rattle.pddl_task.specs.declared.condition.Cond.{Cond}
use Rattle.pddl_task.specs.declared.effect.Effect.{Effect}
use Rattle.ground_numbers.specs.declared.named.Named.{Named}
use Rattle.ground_action.specs.Setting.{Setting}
use Rattle.ground_action.specs.Work.{condition_ops, condition_made, until_end}
use Rattle.ground_draft.specs.declared.draft.Draft.{Draft}
use Rattle.ground_draft.specs.inside.Made.{leaf_made, all_made}
use Rattle.ground_draft.specs.inside.Assembly.{left_draft, left_ops, made_draft, made_ops}

pub made_answers : (set : Setting) (atoms : List Named) (a : Action) (args : List ℕ) (conds : List Cond) (effs : List Effect) (r : Result (Option Draft) LinFail) → conds ≡ a.conds → effs ≡ a.effs
    → AnswersInMemory (until_end (condition_made set args) (condition_ops set args) conds ++ left_ops set atoms args effs (all_made (leaf_made set atoms args) conds)) (left_draft set atoms args conds effs (all_made (leaf_made set atoms args) conds)) r
    → AnswersInMemory (made_ops set atoms a args) (made_draft set atoms a args) r
made_answers set atoms a args conds effs r e f h =
    let P : List Cond → Type 0 = λ cs. AnswersInMemory (until_end (condition_made set args) (condition_ops set args) cs ++ left_ops set atoms args effs (all_made (leaf_made set atoms args) cs)) (left_draft set atoms args cs effs (all_made (leaf_made set atoms args) cs)) r in
    let Q : List Effect → Type 0 = λ es. AnswersInMemory (until_end (condition_made set args) (condition_ops set args) a.conds ++ left_ops set atoms args es (all_made (leaf_made set atoms args) a.conds)) (left_draft set atoms args a.conds es (all_made (leaf_made set atoms args) a.conds)) r in
    subst Q f (subst P e h)
