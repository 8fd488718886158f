use Rattle.std.proofs.Common.{ℕ}
use Rattle.task_core.specs.Plan.{rolls}
use Rattle.pattern.proofs.InPattern.{run-in}
use Rattle.pattern.proofs.Words.{word-of_places}
use Rattle.pattern.proofs.laws.plan_is_word_of_pattern.Goals as goal

pub returns-clause-word : goal.returns-clause-word
returns-clause-word c task ps plan n promised p valid l = word-of_places {X = ℕ} (rolls task) ps plan n (run-in task promised ps p plan valid.end valid.numbered valid.run) l

pub returns-clause-reaches : goal.returns-clause-reaches
returns-clause-reaches c task ps plan n promised p valid l = record {
  plan = plan;
  word = word-of_places {X = ℕ} (rolls task) ps plan n (run-in task promised ps p plan valid.end valid.numbered valid.run) l;
  valid = valid;
}
