use Rattle.sexpr.specs.declared.fault.Source.TheVariants as source
use Rattle.pddl_domain.specs.Domain.{domain_form}
use Rattle.patty_run.proofs.TextLaws.{unread, read}
use Rattle.patty_run.proofs.texts.read_domain_text.Goals as goal

pub returns-in-Err-clause-reads : goal.returns-in-Err-clause-reads
returns-in-Err-clause-reads c = unread domain_form c.args.bytes.now source.Domain _ c.in-Err.ensures

pub returns-clause-reads : goal.returns-clause-reads
returns-clause-reads c = read domain_form c.args.bytes.now source.Domain _ _ c.in-Ok.ensures c.read_domain.ensures.answers
