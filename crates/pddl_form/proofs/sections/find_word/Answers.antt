use Rattle.std.proofs.Common.{ℕ, List, subst}
use Rattle.kw_table.specs.Table.{Finds}
use Rattle.pddl_form.specs.Sections.{section_words}
use Rattle.pddl_form.proofs.sections.find_word.Goals as goal

pub returns-clause-found : goal.returns-clause-found
returns-clause-found c = subst (λ (w : List ℕ). Finds section_words w c.find.result) c.as_bytes.ensures.value c.find.ensures.found
