-- What an effect makes of words and lists.
use Rattle.std.proofs.Common.{◌≡◌, ℕ, List, map, subst, sym, ap, ◌∙◌, Option, Some, None, Result}
use Rattle.std.specs.declared.alloc.AllocError.{AllocError}
use Rattle.sexpr.specs.declared.tree.Tree.{Tree}
use Rattle.sexpr.specs.declared.tree.Tree.TheVariants as tree
use Rattle.pddl_form.specs.declared.fault.Fault.{Fault}
use Rattle.pddl_domain.specs.declared.effect.EffAst.{EffAst}
use Rattle.pddl_form.specs.Faults.{first_with, shape}
use Rattle.pddl_form.specs.Judged.{Judged}
use Rattle.pddl_form.specs.Reading.{IsRead, Reads}
use Rattle.pddl_domain.specs.Effect.{effect_form, effect_word, effect_list}
use Rattle.pddl_form.proofs.Loops.{read_bad}
use Rattle.pddl_form.proofs.Trees.{tree_rec-word, tree_rec-list}

pub effect_form-word : (start end : ℕ) (text : List ℕ) → effect_form (tree.Word start end text) ≡ effect_word start end text
unfolding effect_form
effect_form-word start end text = tree_rec-word effect_word effect_list start end text

pub effect_form-list : (start end : ℕ) (items : List Tree) → effect_form (tree.List start end items) ≡ effect_list start end items (map effect_form items)
unfolding effect_form
effect_form-list start end items = tree_rec-list effect_word effect_list start end items

pub reads_word : (t : Tree) (start end : ℕ) (text : List ℕ) (old new : Option Fault) → t ≡ tree.Word start end text → new ≡ Some (first_with old (shape start)) → IsRead (effect_form t) old new None
reads_word t start end text old new is is_new = subst (λ (j : Judged (List EffAst)). IsRead j old new None) (sym (ap effect_form is ∙ effect_form-word start end text)) (read_bad old new (shape start) is_new)

pub reads_list : (t : Tree) (start end : ℕ) (items said : List Tree) (old new : Option Fault) (r : Result (Option (List EffAst)) AllocError) → t ≡ tree.List start end items → said ≡ items → Reads (effect_list start end said (map effect_form said)) old new r → Reads (effect_form t) old new r
reads_list t start end items said old new r is same h = subst (λ (j : Judged (List EffAst)). Reads j old new r) (ap (λ (ts : List Tree). effect_list start end ts (map effect_form ts)) same ∙ sym (ap effect_form is ∙ effect_form-list start end items)) h
