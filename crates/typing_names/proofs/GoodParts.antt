-- What is declared without a fault has parts without one.
use Rattle.std.proofs.Common.{◌≡◌, ℕ, List, [], ◌∷◌, refl, ◌∙◌, ap}
use Rattle.pddl_form.specs.declared.fault.Fault.{Fault}
use Rattle.pddl_form.specs.Gather.{apply}
use Rattle.pddl_form.specs.Judged.{Judged, good, mapped, both}
use Rattle.pddl_domain.specs.declared.action.ActionAst.{ActionAst}
use Rattle.pddl_task.specs.declared.action.Action.{Action}
use Rattle.pddl_task.specs.declared.condition.Cond.{Cond}
use Rattle.pddl_task.specs.declared.effect.Effect.{Effect}
use Rattle.typing_uses.specs.Scope.{Scope}
use Rattle.typing_uses.specs.Expressions.{conditions_named, effects_named}
use Rattle.typing_uses.proofs.Good.{MappedGood, mapped_good, BothGood, both_good}
use Rattle.typing_names.specs.Faults.{beside}
use Rattle.typing_names.specs.Domain.{parameters_named, action_with, within, action_named}

pub record BesideGood {A : Type 0} (fs : List Fault) (j : Judged A) (a : A) : Type 0 where
  pub no_fault : fs ≡ []
  pub part_is : j ≡ good a

pub beside_good : {A : Type 0} (fs : List Fault) (j : Judged A) (a : A) → beside fs j ≡ good a → BesideGood fs j a
beside_good [] j a is = record { no_fault = refl; part_is = is }
beside_good (f ∷ more) j a is = absurd (cc is)

-- an action's parts
pub record ActionGood (scope : Scope) (a : ActionAst) (x : Action) : Type 0 where
  pub params : parameters_named scope.types a.params ≡ good x.params
  pub conds : conditions_named (within scope a.params) a.conds ≡ good x.conds
  pub effs : effects_named (within scope a.params) a.effs ≡ good x.effs

pub action_good : (scope : Scope) (a : ActionAst) (x : Action) → action_named scope a ≡ good x → ActionGood scope a x
action_good scope a x made =
    let h : BothGood apply (both apply (mapped (action_with a.name.text) (parameters_named scope.types a.params)) (conditions_named (within scope a.params) a.conds)) (effects_named (within scope a.params) a.effs) x =
    both_good apply (both apply (mapped (action_with a.name.text) (parameters_named scope.types a.params)) (conditions_named (within scope a.params) a.conds)) (effects_named (within scope a.params) a.effs) x made in
    let k : BothGood apply (mapped (action_with a.name.text) (parameters_named scope.types a.params)) (conditions_named (within scope a.params) a.conds) h.left =
    both_good apply (mapped (action_with a.name.text) (parameters_named scope.types a.params)) (conditions_named (within scope a.params) a.conds) h.left h.left_is in
    let l : MappedGood (action_with a.name.text) (parameters_named scope.types a.params) k.left = mapped_good (action_with a.name.text) (parameters_named scope.types a.params) k.left k.left_is in
    let whole : action_with a.name.text l.part k.right h.right ≡ x =
    ap (λ (f : List Cond → List Effect → Action). f k.right h.right) l.made ∙ ap (λ (f : List Effect → Action). f h.right) k.made ∙ h.made in
    record {
      params = l.part_is ∙ ap (λ (y : Action). good y.params) whole;
      conds = k.right_is ∙ ap (λ (y : Action). good y.conds) whole;
      effs = h.right_is ∙ ap (λ (y : Action). good y.effs) whole;
    }
