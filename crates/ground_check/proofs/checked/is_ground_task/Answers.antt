use Rattle.std.proofs.Common.{◌-◌, length, arith}
use Rattle.std.proofs.lemmas.List.Elements.{All-weaker}
use Rattle.task_core.specs.Task.{GroundParts, IsActionOf, missing}
use Rattle.ground_check.specs.inside.Parts.{IsActionIn}
use Rattle.ground_check.proofs.ValueAtoms.{in_task, false_behind, not_before}
use Rattle.ground_check.proofs.checked.is_ground_task.Goals as goal

pub returns-then-are_actions : goal.returns-then-are_actions
returns-then-are_actions c e =
    let task : GroundParts = record { atoms = c.args.atoms.now; funcs = c.args.funcs.now; actions = c.args.actions.now; goal = c.args.goal.now } in
    record {
      few = omega arith;
      actions = All-weaker (IsActionIn c.args.atoms.now c.args.funcs.now) (IsActionOf task) (λ a h. in_task task a h) c.args.actions.now (c.are_actions.ensures c.if-are_actions.true);
      goal = in_task task c.args.goal.now (c.is_goal.ensures.action e);
      goal_is_test = c.is_goal.ensures.test e;
      value_atoms_fit = omega (arith, c.missing-missing.ensures, c.if-missing-atoms.false);
      value_atoms_false = λ f p h.
          false_behind c.args.atoms.now (length c.args.atoms.now - c.missing-missing.result) p (c.are_false.ensures c.if-are_false.true)
          (omega (arith, c.missing-missing.ensures, not_before (length c.args.atoms.now - missing c.args.funcs.now) c.args.funcs.now f p h));
    }
