-- A problem in the words of the grammar (this project's profile of PDDL 2.1, level 2): what `read_problem` promises of the
-- syntax that it makes.
use Rattle.std.specs.Prelude.{ℕ, Bool, ◌&&◌, List}
use Rattle.std.specs.List.{list_all}
use Rattle.pddl_form.specs.declared.names.Sort.TheVariants.{Name}
use Rattle.pddl_form.specs.Grammar.{is_of, is_call, is_typed}
use Rattle.pddl_condition.specs.Grammar.{is_condition}
use Rattle.pddl_problem.specs.declared.ast.InitAst.{InitAst}
use Rattle.pddl_problem.specs.declared.ast.InitAst.TheVariants as item
use Rattle.pddl_problem.specs.declared.ast.ProblemAst.{ProblemAst}

-- an item of the initial state, whose arguments are names
abbrev pub is_init : InitAst → Bool
is_init (item.Put pos name args place) = is_call Name name args
is_init (item.Value name args value place) = is_call Name name args

-- a problem. A variable in its goal is a fault of the names, not of the grammar
unfoldable pub is_problem : ProblemAst → Bool
is_problem p = is_of Name p.name && (is_of Name p.domain && (list_all (is_typed Name) p.objects && (list_all is_init p.init && list_all is_condition p.goal)))
