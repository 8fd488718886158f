use Rattle.judge_laws.proofs.Twice.{once}
use Rattle.judge_laws.proofs.laws.no_clause_is_accepted_twice.Goals as goal

pub returns : goal.returns
returns c = once
