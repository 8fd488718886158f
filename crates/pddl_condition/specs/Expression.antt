-- Expressions: a number, `(NAME TERM ..)`, `(+ E E ..)`, `(* E E ..)`, `(- E)`, `(- E E)` or `(/ E E)`.
use Rattle.std.specs.Prelude.{ℕ, nat_le, List, [], ◌∷◌, drop, length, Option, Some, None, codes, bytes_eq, if◌then◌else◌}
use Rattle.rational.specs.Fraction.{Fraction}
use Rattle.frac128.specs.Number.{number_of}
use Rattle.sexpr.specs.declared.tree.Tree.{Tree}
use Rattle.pddl_form.specs.declared.calls.Call.{Call}
use Rattle.pddl_form.specs.declared.names.Sort.TheVariants.{Term}
use Rattle.pddl_condition.specs.declared.expression.ExprAst.{ExprAst}
use Rattle.pddl_condition.specs.declared.expression.ExprAst.TheVariants as expr
use Rattle.pddl_condition.specs.declared.expression.Operator.{Operator}
use Rattle.pddl_condition.specs.declared.expression.Operator.TheVariants.{Fold, Minus, Over, Function, Other}
use Rattle.pddl_form.specs.Faults.{shape}
use Rattle.pddl_form.specs.Judged.{Judged, good, misshapen, lacking, no_number, mapped, provided, at_least}
use Rattle.pddl_form.specs.Names.{is_symbol}
use Rattle.pddl_form.specs.Words.{word_of, spot_of}
use Rattle.pddl_form.specs.Calls.{arguments}
use Rattle.pddl_form.specs.Recursion.{tree_rec}

abbrev pub number_or_fault : ℕ → Option Fraction → Judged Fraction
number_or_fault place None = no_number place
number_or_fault place (Some n) = good n

-- a word in the place of a number
unfoldable pub number_form : ℕ → List ℕ → Judged Fraction
number_form place text = number_or_fault place (number_of text)

-- a head that is no operator
abbrev pub other_operator : List ℕ → Operator
other_operator text = if is_symbol text then Function else Other

unfoldable pub operator_of : List ℕ → Operator
operator_of text =
    if bytes_eq text (codes "+") then Fold
    else (if bytes_eq text (codes "*") then Fold
    else (if bytes_eq text (codes "-") then Minus
    else (if bytes_eq text (codes "/") then Over else other_operator text)))

abbrev pub call_expression : Call → ExprAst
call_expression call = expr.Call call.name call.args

-- at least so many, and at most two
abbrev pub up_to_two : ℕ → ℕ → ℕ → List (Judged ExprAst) → Judged (List ExprAst)
up_to_two count start end args = provided (nat_le (length args) 2) (shape start) (at_least count end args)

abbrev pub operated : Tree → Judged (List ExprAst) → Judged ExprAst
operated head args = mapped (expr.Op (spot_of head)) args

-- a list with this head, these trees behind it and what an expression makes of each of them
abbrev pub expression_by : Operator → ℕ → ℕ → Tree → List Tree → List (Judged ExprAst) → Judged ExprAst
expression_by Fold start end head parts args = operated head (at_least 2 end args)
expression_by Minus start end head parts args = operated head (up_to_two 1 start end args)
expression_by Over start end head parts args = operated head (up_to_two 2 start end args)
expression_by Function start end head parts args = mapped call_expression (arguments Term head parts)
expression_by Other start end head parts args = misshapen start

unfoldable pub headed_expression : ℕ → ℕ → Tree → List Tree → List (Judged ExprAst) → Judged ExprAst
headed_expression start end head parts args = expression_by (operator_of (word_of head)) start end head parts args

abbrev pub expression_list : ℕ → ℕ → List Tree → List (Judged ExprAst) → Judged ExprAst
expression_list start end [] made = lacking end
expression_list start end (head ∷ parts) made = headed_expression start end head parts (drop 1 made)

abbrev pub expression_word : ℕ → ℕ → List ℕ → Judged ExprAst
expression_word start end text = mapped expr.Num (number_form start text)

unfoldable pub expression_form : Tree → Judged ExprAst
expression_form = tree_rec expression_word expression_list
