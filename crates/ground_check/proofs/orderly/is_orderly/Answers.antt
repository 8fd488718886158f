use Rattle.std.proofs.Common.{◌≡◌, false}
use Rattle.task_core.specs.Step.{is_in}
use Rattle.task_core.specs.Task.{numbers}
use Rattle.ground_check.proofs.Parts.{all_numbers}
use Rattle.ground_check.proofs.orderly.is_orderly.Goals as goal

pub returns-then-atoms_are_apart : goal.returns-then-atoms_are_apart
returns-then-atoms_are_apart c e = record {
  adds = c.changes_rise.ensures.adds c.if-changes_rise.true;
  dels = c.changes_rise.ensures.dels c.if-changes_rise.true;
  incs = c.changes_rise.ensures.incs c.if-changes_rise.true;
  sets = c.changes_rise.ensures.sets c.if-changes_rise.true;
  amounts = c.amounts_are_nonzero.ensures c.if-amounts_are_nonzero.true;
  atoms_apart = c.atoms_are_apart.ensures c.if-atoms_are_apart.true;
  funcs_apart = all_numbers (λ f. is_in f (numbers c.args.a.now.incs) ≡ false) c.args.a.now.sets (c.functions_are_apart.ensures e);
}
