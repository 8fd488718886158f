use Rattle.std.proofs.Common.{◌≡◌, Some, sym, subst}
use Rattle.task_core.specs.Task.{value_atom_from}
use Rattle.ground_check.proofs.checked.is_action.Goals as goal

pub returns-then-is_orderly : goal.returns-then-is_orderly
returns-then-is_orderly c e = record {
  numbered = c.is_numbered.ensures c.if-is_numbered.true;
  orderly = c.is_orderly.ensures c.if-is_orderly.true;
  tells = λ f p h. c.tells_of_all.ensures e f p (subst (λ n. value_atom_from n c.args.funcs.now f ≡ Some p) (sym c.requires.first) h);
}
