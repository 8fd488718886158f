-- What is listed is what is kept.
use Rattle.std.proofs.Common.{◌≡◌, ℕ, true, List, [], Some, refl, sym, ap, subst, ◌∙◌}
use Rattle.std.specs.Prelude.{◌↔◌}
use Rattle.pddl_task.specs.declared.action.Action.{Action}
use Rattle.pddl_task.specs.declared.instance.Instance.{Instance}
use Rattle.pddl_task.specs.declared.parts.TaskParts.{TaskParts}
use Rattle.plan_step.specs.Meaning.{IsInstanceOf}
use Rattle.ground_action.specs.Setting.{setting_of}
use Rattle.ground_action.specs.GroundAction.{is_kept}
use Rattle.ground_walk.proofs.StandingLaws.{kept_stands}
use Rattle.ground_laws.specs.Laws.{HasAction}
use Rattle.ground_laws.proofs.Standing.{kept_is, kept_instance}

module _ (task : TaskParts) (by : Instance) where
  of_kept : (h : HasAction task by) → IsInstanceOf task by h.kept.action
  of_kept h = subst (λ (i : Instance). IsInstanceOf task i h.kept.action) h.is (kept_instance task h.number h.kept h.stands)

  pub is_instance : HasAction task by → (a : Action) × IsInstanceOf task by a
  is_instance h = (h.kept.action, of_kept h)

  module _ (a : Action) (of : IsInstanceOf task by a) where
    listed : is_kept (setting_of task [] []) a by.args ≡ true → HasAction task by
    listed h =
        let there = kept_stands task by a of h in
        record { number = there.0; kept = record { number = by.action; action = a; args = by.args }; stands = there.1; is = refl }

    kept : HasAction task by → is_kept (setting_of task [] []) a by.args ≡ true
    kept h =
        let both : Some h.kept.action ≡ Some a = sym (of_kept h).is_action ∙ of.is_action in
        let same_action : h.kept.action ≡ a = cc in
        let same_args : h.kept.args ≡ by.args = ap (λ (i : Instance). i.args) h.is in
        subst (λ (args : List ℕ). is_kept (setting_of task [] []) a args ≡ true) same_args
        (subst (λ (b : Action). is_kept (setting_of task [] []) b h.kept.args ≡ true) same_action (kept_is task h.number h.kept h.stands).kept)

    pub listed_where_kept : (is_kept (setting_of task [] []) a by.args ≡ true) ↔ HasAction task by
    listed_where_kept = (listed, kept)
