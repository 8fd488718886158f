use Rattle.ground_exact.proofs.Listed.{is_instance, listed_where_kept}
use Rattle.ground_exact.proofs.laws.kept_exactly.Goals as goal

pub returns-clause-kept : goal.returns-clause-kept
returns-clause-kept c = listed_where_kept

pub returns-clause-instance : goal.returns-clause-instance
returns-clause-instance c = is_instance
