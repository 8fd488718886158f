use Rattle.patty_run.proofs.PrintLaws.{put_one}
use Rattle.patty_run.proofs.printing.put_bytes.Goals as goal

pub returns : goal.returns
returns g c = put_one _ _ c.put.result c.put.ensures.bytes c.put.ensures.cause
