use Rattle.pddl_form.proofs.SeenLaws.{head_read, head_unread}
use Rattle.pddl_form.proofs.section_words.read_section_head.Goals as goal

pub returns-in-Some : goal.returns-in-Some
returns-in-Some c = λ front h. head_read _ front _ _ _ _ _ _ _ _ _ c.in-Some.ensures c.find_kind-kind.ensures (c.has-stands_twice.ensures front h) c.start.ensures c.read_section_word.ensures

pub returns-in-None : goal.returns-in-None
returns-in-None c = λ front h. head_unread _ front _ _ _ _ c.in-None.ensures c.misshapen.ensures
