use Rattle.std.proofs.Common.{ℕ, ◌≤◌, subst}
use Rattle.ground_parts.proofs.Calls.{unchanged_pred}
use Rattle.ground_parts.proofs.changing.changes_pred.Goals as goal

pub returns-then-pred-preds : goal.returns-then-pred-preds
returns-then-pred-preds c = unchanged_pred _ _ c.preds.ensures.numbered (let P : ℕ → Type 0 = λ n. n ≤ c.args.pred in subst P c.preds.ensures.value c.if-pred-preds.true)
