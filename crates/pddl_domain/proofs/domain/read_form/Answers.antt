use Rattle.std.proofs.Common.{ap}
use Rattle.std.specs.Option.{option_map}
use Rattle.pddl_form.specs.SectionParts.{parts_of}
use Rattle.pddl_form.proofs.SectionLaws.{and_then_none, and_then_reads}
use Rattle.pddl_domain.specs.Domain.{domain_form}
use Rattle.pddl_domain.proofs.domain.read_form.Goals as goal

pub returns-in_default : goal.returns-in_default
unfolding domain_form
returns-in_default c = and_then_none _ _ _ _ _ c.open_definition.ensures (ap (option_map parts_of) c.in_default.is)

pub returns : goal.returns
unfolding domain_form
returns c = and_then_reads _ _ _ _ _ _ _ _ c.open_definition.ensures (ap (option_map parts_of) c.in-Some.is) c.read_parts.ensures
