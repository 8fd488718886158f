use Rattle.word_laws.proofs.Spelling.{words_and_counts}
use Rattle.word_laws.proofs.laws.words_are_spelled_by_counts.Goals as goal

pub returns : goal.returns
returns c = words_and_counts
