-- What a condition makes of words and lists.
use Rattle.std.proofs.Common.{◌≡◌, ℕ, List, map, subst, sym, ap, ◌∙◌, Option, Some, None, Result}
use Rattle.std.specs.declared.alloc.AllocError.{AllocError}
use Rattle.sexpr.specs.declared.tree.Tree.{Tree}
use Rattle.sexpr.specs.declared.tree.Tree.TheVariants as tree
use Rattle.pddl_form.specs.declared.fault.Fault.{Fault}
use Rattle.pddl_condition.specs.declared.condition.CondAst.{CondAst}
use Rattle.pddl_form.specs.Faults.{first_with, shape}
use Rattle.pddl_form.specs.Judged.{Judged}
use Rattle.pddl_form.specs.Reading.{IsRead, Reads}
use Rattle.pddl_condition.specs.Condition.{condition_form, condition_word, condition_list}
use Rattle.pddl_form.proofs.Loops.{read_bad}
use Rattle.pddl_form.proofs.Trees.{tree_rec-word, tree_rec-list}

pub condition_form-word : (start end : ℕ) (text : List ℕ) → condition_form (tree.Word start end text) ≡ condition_word start end text
unfolding condition_form
condition_form-word start end text = tree_rec-word condition_word condition_list start end text

pub condition_form-list : (start end : ℕ) (items : List Tree) → condition_form (tree.List start end items) ≡ condition_list start end items (map condition_form items)
unfolding condition_form
condition_form-list start end items = tree_rec-list condition_word condition_list start end items

pub reads_word : (t : Tree) (start end : ℕ) (text : List ℕ) (old new : Option Fault) → t ≡ tree.Word start end text → new ≡ Some (first_with old (shape start)) → IsRead (condition_form t) old new None
reads_word t start end text old new is is_new = subst (λ (j : Judged (List CondAst)). IsRead j old new None) (sym (ap condition_form is ∙ condition_form-word start end text)) (read_bad old new (shape start) is_new)

pub reads_list : (t : Tree) (start end : ℕ) (items said : List Tree) (old new : Option Fault) (r : Result (Option (List CondAst)) AllocError) → t ≡ tree.List start end items → said ≡ items → Reads (condition_list start end said (map condition_form said)) old new r → Reads (condition_form t) old new r
reads_list t start end items said old new r is same h = subst (λ (j : Judged (List CondAst)). Reads j old new r) (ap (λ (ts : List Tree). condition_list start end ts (map condition_form ts)) same ∙ sym (ap condition_form is ∙ condition_form-list start end items)) h
