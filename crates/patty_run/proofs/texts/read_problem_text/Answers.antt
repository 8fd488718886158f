use Rattle.sexpr.specs.declared.fault.Source.TheVariants as source
use Rattle.pddl_problem.specs.Problem.{problem_form}
use Rattle.patty_run.proofs.TextLaws.{unread, read}
use Rattle.patty_run.proofs.texts.read_problem_text.Goals as goal

pub returns-in-Err-clause-reads : goal.returns-in-Err-clause-reads
returns-in-Err-clause-reads c = unread problem_form c.args.bytes.now source.Problem _ c.in-Err.ensures

pub returns-clause-reads : goal.returns-clause-reads
returns-clause-reads c = read problem_form c.args.bytes.now source.Problem _ _ c.in-Ok.ensures c.read_problem.ensures.answers
