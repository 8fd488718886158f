use Rattle.typing.proofs.Passes.{domain_names_refused}
use Rattle.typing.proofs.linking.link_texts.Goals as goal

pub returns-in-Err : goal.returns-in-Err
returns-in-Err c = domain_names_refused c.args.domain.now c.args.problem.now _ c.in-Err.ensures.refused
