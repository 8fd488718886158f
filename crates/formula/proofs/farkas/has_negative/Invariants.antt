use Rattle.std.proofs.Common.{◌≡◌, drop}
use Rattle.std.specs.List.{list_any}
use Rattle.formula.specs.Farkas.{is_negative}
use Rattle.formula.proofs.farkas.has_negative.Given as goal

abbrev pub invariant-loop-c : goal.invariant-loop-c
invariant-loop-c l = list_any is_negative l.coefs ≡ list_any is_negative (drop l.c-index l.coefs)
