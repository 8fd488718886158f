use Rattle.hierarchy.specs.inside.Entries.{IsPartlyIndexed}
use Rattle.hierarchy.proofs.SettleLaws.{Settled}
use Rattle.hierarchy.proofs.settling.settle_path.Given as goal

abbrev pub invariant-loop-i : goal.invariant-loop-i
invariant-loop-i l = record {
  partly : IsPartlyIndexed l.parents l.depths l.circles l.jumps;
  settled : Settled l.parents l.path l.initial.circles l.circles l.i;
}
