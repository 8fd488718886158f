-- What an expression makes of words and lists.
use Rattle.std.proofs.Common.{◌≡◌, ℕ, List, map, subst, sym, ap, ◌∙◌, Option, Result}
use Rattle.std.specs.declared.alloc.AllocError.{AllocError}
use Rattle.sexpr.specs.declared.tree.Tree.{Tree}
use Rattle.sexpr.specs.declared.tree.Tree.TheVariants as tree
use Rattle.pddl_form.specs.declared.fault.Fault.{Fault}
use Rattle.pddl_condition.specs.declared.expression.ExprAst.{ExprAst}
use Rattle.pddl_condition.specs.declared.expression.Operator.{Operator}
use Rattle.pddl_form.specs.Judged.{Judged}
use Rattle.pddl_form.specs.Words.{word_of}
use Rattle.pddl_form.specs.Reading.{IsRead, Reads}
use Rattle.pddl_condition.specs.Expression.{expression_form, expression_word, expression_list, expression_by, headed_expression, operator_of}
use Rattle.pddl_form.proofs.Trees.{tree_rec-word, tree_rec-list}

pub expression_form-word : (start end : ℕ) (text : List ℕ) → expression_form (tree.Word start end text) ≡ expression_word start end text
unfolding expression_form
expression_form-word start end text = tree_rec-word expression_word expression_list start end text

pub expression_form-list : (start end : ℕ) (items : List Tree) → expression_form (tree.List start end items) ≡ expression_list start end items (map expression_form items)
unfolding expression_form
expression_form-list start end items = tree_rec-list expression_word expression_list start end items

pub reads_word : (t : Tree) (start end : ℕ) (text said : List ℕ) (old new : Option Fault) (r : Result (Option ExprAst) AllocError) → t ≡ tree.Word start end text → said ≡ text → Reads (expression_word start end said) old new r → Reads (expression_form t) old new r
reads_word t start end text said old new r is same h = subst (λ (j : Judged ExprAst). Reads j old new r) (ap (expression_word start end) same ∙ sym (ap expression_form is ∙ expression_form-word start end text)) h

pub reads_list : (t : Tree) (start end : ℕ) (items said : List Tree) (old new : Option Fault) (r : Result (Option ExprAst) AllocError) → t ≡ tree.List start end items → said ≡ items → Reads (expression_list start end said (map expression_form said)) old new r → Reads (expression_form t) old new r
reads_list t start end items said old new r is same h = subst (λ (j : Judged ExprAst). Reads j old new r) (ap (λ (ts : List Tree). expression_list start end ts (map expression_form ts)) same ∙ sym (ap expression_form is ∙ expression_form-list start end items)) h

pub by_operator : (op : Operator) (text : List ℕ) (start end : ℕ) (head : Tree) (parts : List Tree) (made : List (Judged ExprAst)) (old new : Option Fault) (x : Option ExprAst)
    → op ≡ operator_of text → text ≡ word_of head → IsRead (expression_by op start end head parts made) old new x → IsRead (headed_expression start end head parts made) old new x
unfolding headed_expression
by_operator op text start end head parts made old new x is same h = subst (λ (o : Operator). IsRead (expression_by o start end head parts made) old new x) (is ∙ ap operator_of same) h
