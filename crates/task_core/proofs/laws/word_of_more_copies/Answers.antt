use Rattle.std.proofs.Common.{ℕ}
use Rattle.task_core.proofs.WordLaws.{word_of_more, reaches_more}
use Rattle.task_core.proofs.laws.word_of_more_copies.Goals as goal

pub returns-clause-word : goal.returns-clause-word
returns-clause-word c = word_of_more {X = ℕ}

pub returns-clause-reaches : goal.returns-clause-reaches
returns-clause-reaches c = reaches_more
