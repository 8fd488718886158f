-- The parts of a problem, where all are there.
use Rattle.std.specs.Prelude.{List, Option}
use Rattle.std.specs.Option.{option_map}
use Rattle.pddl_condition.specs.declared.condition.CondAst.{CondAst}
use Rattle.pddl_form.specs.declared.spot.Spot.{Spot}
use Rattle.pddl_form.specs.declared.typed.Typed.{Typed}
use Rattle.pddl_form.specs.Gather.{apply, option_both}
use Rattle.pddl_problem.specs.declared.ast.InitAst.{InitAst}
use Rattle.pddl_problem.specs.declared.ast.ProblemAst.{ProblemAst}
use Rattle.pddl_problem.specs.Problem.{problem_of}

-- the syntax of all parts, or none
abbrev pub whole_made : Option Spot → Option Spot → Option (List Typed) → Option (List InitAst) → Option (List CondAst) → Option ProblemAst
whole_made name domain objects init goal = option_both apply (option_both apply (option_both apply (option_both apply (option_map problem_of name) domain) objects) init) goal
