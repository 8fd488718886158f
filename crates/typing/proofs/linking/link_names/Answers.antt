use Rattle.typing_names.specs.Tables.{parts_of}
use Rattle.typing.proofs.Passes.{domain_types_refused}
use Rattle.typing.proofs.linking.link_names.Goals as goal

pub returns-in-Err : goal.returns-in-Err
returns-in-Err c = domain_types_refused c.args.domain.now c.args.problem.now (parts_of c.args.made) c.requires.resolved.parts _ c.in-Err.ensures
