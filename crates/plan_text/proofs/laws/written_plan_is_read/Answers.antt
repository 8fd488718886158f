use Rattle.plan_text.proofs.RoundTrip.{round_trip}
use Rattle.plan_text.proofs.laws.written_plan_is_read.Goals as goal

pub returns : goal.returns
returns c = round_trip
