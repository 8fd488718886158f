use Rattle.typing_names.specs.Domain.{heads_of}
use Rattle.typing_names.proofs.DomainParts.{again_read, distinct_names}
use Rattle.typing_names.proofs.spaces.head_names.Goals as goal

pub returns-clause-faults : goal.returns-clause-faults
returns-clause-faults c = again_read _ _ _ _ _ c.new-table.ensures c.in_ok-new.ensures.faults

pub returns-clause-names : goal.returns-clause-names
returns-clause-names c = distinct_names _ _ (heads_of c.args.heads.now) c.new-table.ensures c.in_ok-new.ensures.names
