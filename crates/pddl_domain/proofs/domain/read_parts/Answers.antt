use Rattle.pddl_domain.specs.Domain.{domain_parts, types_section, constants_section}
use Rattle.pddl_form.proofs.SectionLaws.{tested_read}
use Rattle.pddl_domain.proofs.Domains.{whole_read}
use Rattle.pddl_domain.proofs.domain.read_parts.Goals as goal

pub returns : goal.returns
unfolding domain_parts types_section constants_section
returns c =
    tested_read _ _ _ _ _ _ _ _ _ _ _ _ _ c.in_ok-known.ensures c.in_ok-requirements.ensures
    (whole_read _ _ _ _ _ _ _ _ _ _ _ _ _ _ _ _ _ _ _ c.in_ok-name.ensures c.in_ok-types.ensures c.in_ok-constants.ensures c.in_ok-preds.ensures c.in_ok-funcs.ensures c.in_ok-actions.ensures)
    c.and.ensures c.make_domain-domain.ensures c.and-2.ensures
