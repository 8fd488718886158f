use Rattle.typing_names.specs.Tables.{scope_in}
use Rattle.typing_names.proofs.ProblemLaws.{problem_tables, problem_tested, problem_none, problem_some}
use Rattle.typing_names.proofs.GrammarParts.{problem_goal}
use Rattle.typing_names.proofs.problem.resolve_problem.Goals as goal

pub returns-in_default-clause-names : goal.returns-in_default-clause-names
returns-in_default-clause-names c =
    problem_none c.args.d.now c.args.p.now (scope_in (record c.args.tables.now { objects = c.declare_typed.new.table })) _ _ _ _ c.in_ok-parts.parts _
    (problem_tested c.args.tables.now c.args.d.now c.args.p.now _ _ _ _ _ _ _ c.requires.tables c.as_slice.ensures c.find_domain-same.ensures c.in_ok-fresh.ensures.faults c.beside-new.ensures)
    (problem_tables c.args.tables.now c.args.d.now c.args.p.now _ _ c.requires.tables c.as_slice.ensures c.in_ok-fresh.ensures.names)
    c.in_ok-parts.ensures c.beside.ensures c.in_default.is

pub returns-in_default-clause-tables : goal.returns-in_default-clause-tables
returns-in_default-clause-tables c = problem_tables c.args.tables.now c.args.d.now c.args.p.now _ _ c.requires.tables c.as_slice.ensures c.in_ok-fresh.ensures.names

pub returns-clause-names : goal.returns-clause-names
returns-clause-names c =
    problem_some c.args.d.now c.args.p.now (scope_in (record c.args.tables.now { objects = c.declare_typed.new.table })) _ _ _ _ c.in_ok-parts.parts _ _ _
    (problem_tested c.args.tables.now c.args.d.now c.args.p.now _ _ _ _ _ _ _ c.requires.tables c.as_slice.ensures c.find_domain-same.ensures c.in_ok-fresh.ensures.faults c.beside-new.ensures)
    (problem_tables c.args.tables.now c.args.d.now c.args.p.now _ _ c.requires.tables c.as_slice.ensures c.in_ok-fresh.ensures.names)
    c.in_ok-parts.ensures c.beside.ensures c.in-Some.is

pub returns-clause-tables : goal.returns-clause-tables
returns-clause-tables c = problem_tables c.args.tables.now c.args.d.now c.args.p.now _ _ c.requires.tables c.as_slice.ensures c.in_ok-fresh.ensures.names

pub resolve_parts-requires : goal.resolve_parts-requires
resolve_parts-requires c = problem_goal c.args.p.now c.requires.grammar
