use Rattle.typing_names.proofs.DomainParts.{again_read}
use Rattle.typing_names.proofs.spaces.test_actions.Goals as goal

pub returns : goal.returns
returns c = again_read _ _ _ _ _ c.new-table.ensures c.in_ok-new.ensures.faults
