use Rattle.std.proofs.Common.{length, take}
use Rattle.log_laws.proofs.Keeping.{no_exact_point}
use Rattle.log_laws.proofs.Cutting.{values_long, integral, meets}
use Rattle.log_laws.proofs.laws.empty_clause_refutes.Goals as goal

pub returns : goal.returns
returns g c f log p is sound empty s =
    no_exact_point g.T.Theory.shown g.met.T.Theory.shown_holds (take (length f.counts) p.values) f log is sound empty (values_long f p is s) (integral f p is s) (take (length f.atoms) p.truth) (meets f p is s)
