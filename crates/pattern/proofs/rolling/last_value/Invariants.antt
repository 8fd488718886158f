use Rattle.pattern.specs.Rolled.{function_growth, function_ops}
use Rattle.pattern.proofs.Turns.{IsInTurn}
use Rattle.pattern.proofs.rolling.last_value.Given as goal

abbrev pub invariant-loop-inc : goal.invariant-loop-inc
invariant-loop-inc l = IsInTurn (function_ops l.count l.func) (function_growth l.count l.func) l.old l.incs l.value l.inc-index
