-- The operations of an instance stay the same when more is numbered behind what it names.
use Rattle.std.proofs.Common.{◌≡◌, ℕ, true, not, List, ◌++◌}
use Rattle.std.specs.List.{list_all}
use Rattle.std.proofs.lemmas.Bool.{and_parts}
use Rattle.pddl_task.specs.declared.action.Action.{Action}
use Rattle.pddl_task.specs.declared.parts.TaskParts.{TaskParts}
use Rattle.plan_step.specs.State.{initial}
use Rattle.ground_numbers.specs.declared.named.Named.{Named}
use Rattle.ground_numbers.specs.Numbers.{same, is_listed}
use Rattle.ground_action.specs.Setting.{setting_of}
use Rattle.ground_action.specs.GroundAction.{leaves_of, moves_of, is_numbered}
use Rattle.ground_action.specs.Work.{instance_ops}
use Rattle.ground_action.proofs.StepLaws.{listed_all}
use Rattle.ground_walk.specs.Sightings.{instance_atoms, instance_funcs}
use Rattle.ground_walk.proofs.Within.{Within}
use Rattle.ground_walk.proofs.NumberLaws.{instance_numbered}
use Rattle.ground_laws.proofs.ActionGrowth.{ops_stay}
use Rattle.ground_laws.proofs.Plain.{all_plain, all_aimed}

within : (ks xs : List Named) → list_all (is_listed same xs) ks ≡ true → Within ks xs
within ks xs h = record { within = λ k l. listed_all (is_listed same xs) ks k h l }

pub operations_stay : (task : TaskParts) (atoms more funcs later : List Named) → list_all (λ k. not (is_listed same atoms k)) more ≡ true → list_all (λ k. not (is_listed same funcs k)) later ≡ true
    → (a : Action) (args : List ℕ) → list_all (is_listed same atoms) (instance_atoms task a args) ≡ true → list_all (is_listed same funcs) (instance_funcs task a args) ≡ true
    → instance_ops (setting_of task (atoms ++ more) (funcs ++ later)) a args ≡ instance_ops (setting_of task atoms funcs) a args
operations_stay task atoms more funcs later more_new later_new a args in_atoms in_funcs =
    let numbers : is_numbered (setting_of task atoms funcs) (leaves_of (setting_of task atoms funcs) a args) (moves_of (setting_of task atoms funcs) a args) ≡ true =
    instance_numbered task atoms funcs a args (within (instance_atoms task a args) atoms in_atoms) (within (instance_funcs task a args) funcs in_funcs) in
    let parts = and_parts _ _ numbers in
    let marks = and_parts _ _ parts.1 in
    ops_stay task (initial task) atoms more funcs later more_new later_new a args in_funcs
    (all_aimed task (initial task) atoms funcs (moves_of (setting_of task atoms funcs) a args) marks.1) (all_plain task (initial task) atoms funcs args a.conds marks.0) parts.0
