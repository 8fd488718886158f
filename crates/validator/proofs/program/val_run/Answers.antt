use Rattle.validator.proofs.ValidatorLaws.{is_val_run}
use Rattle.validator.proofs.program.val_run.Goals as goal

pub returns : goal.returns
returns g c = is_val_run _ _ c.run.ensures
