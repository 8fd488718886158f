use Rattle.ground_seen.proofs.Naming.{past_pred}
use Rattle.ground_seen.proofs.changing.changes_pred.Goals as goal

pub returns-then-pred-preds : goal.returns-then-pred-preds
returns-then-pred-preds c = past_pred _ c.preds.ensures.numbered _ _ c.preds.ensures.value c.if-pred-preds.true
