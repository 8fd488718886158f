use Rattle.pddl_form.proofs.SeenLaws.{none_seen_more, one_seen_more}
use Rattle.pddl_form.proofs.seen.Seen.add.Goals as goal

pub returns-in-Some : goal.returns-in-Some
returns-in-Some c = λ front h. one_seen_more front c.args.tree.now _ c.first_word.result.now c.in-Some.at c.first_word.ensures c.in-Some.ensures.found h

pub returns-in_default : goal.returns-in_default
returns-in_default c = λ front h. none_seen_more front c.args.tree.now _ c.first_word.result.now c.first_word.ensures c.in_default.ensures.found h
