-- Expressions and conditions in the words of the grammar (this project's profile of PDDL 2.1, level 2): what their readers
-- promise of all that they make.
use Rattle.std.specs.Prelude.{ℕ, Bool, true, ◌&&◌, ◌||◌, ◌==◌, nat_le, List, length, codes, bytes_eq}
use Rattle.std.specs.List.{list_all}
use Rattle.pddl_form.specs.declared.names.Sort.TheVariants.{Term}
use Rattle.pddl_form.specs.Grammar.{is_of, is_call}
use Rattle.pddl_form.specs.Names.{is_one_of}
use Rattle.pddl_condition.specs.declared.expression.ExprAst.{ExprAst}
use Rattle.pddl_condition.specs.declared.expression.ExprAst.TheOpen.{ExprAst-F}
use Rattle.pddl_condition.specs.declared.expression.ExprAst.TheFolds.{fold-ExprAst}
use Rattle.pddl_condition.specs.declared.condition.CondAst.{CondAst}
use Rattle.pddl_condition.specs.declared.condition.CondAst.TheVariants as cond
use Rattle.pddl_condition.specs.Condition.{orders}

-- an operator with its number of arguments: `*` and `+` have two or more, `-` has one or two, `/` has two
abbrev pub is_operation : List ℕ → ℕ → Bool
is_operation op count =
    ((bytes_eq op (codes "*") || bytes_eq op (codes "+")) && nat_le 2 count)
    || ((bytes_eq op (codes "-") && (count == 1 || count == 2))
    || (bytes_eq op (codes "/") && count == 2))

-- one level of an expression, by what its arguments are
abbrev pub expression_step : ExprAst-F Bool → Bool
expression_step (ExprAst-F.Num n) = true
expression_step (ExprAst-F.Call name args) = is_call Term name args
expression_step (ExprAst-F.Op op args) = is_operation op.text (length args) && list_all (λ b. b) args

-- an expression
unfoldable pub is_expression : ExprAst → Bool
is_expression = fold-ExprAst Bool expression_step

-- `=`, or one of `<`, `<=`, `>` and `>=`
abbrev pub is_relation : List ℕ → Bool
is_relation text = bytes_eq text (codes "=") || is_one_of orders text

-- a leaf of a condition
abbrev pub is_condition : CondAst → Bool
is_condition (cond.Lit pos name args) = is_call Term name args
is_condition (cond.Same pos left right) = is_of Term left && is_of Term right
is_condition (cond.Compare rel left right) = is_relation rel.text && (is_expression left && is_expression right)
