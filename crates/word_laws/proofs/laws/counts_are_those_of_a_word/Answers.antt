use Rattle.word_laws.proofs.Spelling.{so_many, all_whole}
use Rattle.word_laws.proofs.laws.counts_are_those_of_a_word.Goals as goal

pub returns-clause-many : goal.returns-clause-many
returns-clause-many c = so_many

pub returns-clause-whole : goal.returns-clause-whole
returns-clause-whole c = all_whole
