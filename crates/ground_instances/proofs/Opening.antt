-- What the first arguments of a list are, where the list suits, and what a whole list is, where it is open.
use Rattle.std.proofs.Common.{◌≡◌, ℕ, ◌<◌, Bool, true, false, not, ◌&&◌, ◌||◌, ◌==◌, nat_lt, List, [], ◌∷◌, ◌++◌, length, refl, sym, ap, subst, ◌∙◌, arith}
use Rattle.std.proofs.lemmas.Bool.Decides.{nat_tests}
use Rattle.std.proofs.lemmas.List.{get_or_append_left}
use Rattle.std.specs.List.{list_all}
use Rattle.pddl_task.specs.declared.action.Action.{Action}
use Rattle.pddl_task.specs.declared.condition.Cond.{Cond}
use Rattle.pddl_task.specs.declared.condition.Cond.TheVariants as cond_
use Rattle.pddl_task.specs.declared.expression.Term.{Term}
use Rattle.pddl_task.specs.declared.expression.Term.TheVariants as term
use Rattle.pddl_task.specs.declared.parts.TaskParts.{TaskParts}
use Rattle.pddl_task.specs.Task.{is_changing_pred}
use Rattle.pddl_task.specs.Numbers.{Counts, counts_of, is_term, is_condition, is_action, are_types}
use Rattle.plan_step.specs.State.{initial}
use Rattle.plan_step.specs.Meaning.{object_of, objects_of, signed, all_fit, fits}
use Rattle.ground_instances.specs.ArgumentLists.{static_met, suits}
use Rattle.ground_instances.specs.inside.Open.{is_bound, terms_of, met_so_far, is_open}

pub both_parts : (s t : Bool) → (s && t) ≡ true → (s ≡ true) × (t ≡ true)
both_parts true t e = (refl, e)
both_parts false t e = cc

both : (s t : Bool) → s ≡ true → t ≡ true → (s && t) ≡ true
both s t e f = ap (λ b. b && t) e ∙ f

list_all_along : {A : Type 0} (p q : A → Bool) → ((x : A) → p x ≡ true → q x ≡ true) → (xs : List A) → list_all p xs ≡ true → list_all q xs ≡ true
list_all_along p q along [] e = refl
list_all_along p q along (x ∷ xs) e =
    let parts = both_parts (p x) (list_all p xs) e in
    both (q x) (list_all q xs) (along x parts.0) (list_all_along p q along xs parts.1)

list_all_along₂ : {A : Type 0} (p r q : A → Bool) → ((x : A) → p x ≡ true → r x ≡ true → q x ≡ true) → (xs : List A) → list_all p xs ≡ true → list_all r xs ≡ true → list_all q xs ≡ true
list_all_along₂ p r q along [] e f = refl
list_all_along₂ p r q along (x ∷ xs) e f =
    let parts = both_parts (p x) (list_all p xs) e in
    let others = both_parts (r x) (list_all r xs) f in
    both (q x) (list_all q xs) (along x parts.0 others.0) (list_all_along₂ p r q along xs parts.1 others.1)

-- ---- bound terms have their objects by the first arguments
below : (p n : ℕ) → nat_lt p n ≡ true → p < n
below p n e = grind (arith, nat_tests)

pub object_bound : (args more : List ℕ) (t : Term) → is_bound (length args) t ≡ true → object_of (args ++ more) t ≡ object_of args t
object_bound args more (term.Param p) e = get_or_append_left args more 0 p (below p (length args) e)
object_bound args more (term.Object o) e = refl

pub objects_bound : (args more : List ℕ) (terms : List Term) → list_all (is_bound (length args)) terms ≡ true → objects_of (args ++ more) terms ≡ objects_of args terms
objects_bound args more [] e = refl
objects_bound args more (t ∷ terms) e =
    let parts = both_parts (is_bound (length args) t) (list_all (is_bound (length args)) terms) e in
    ap (λ o. o ∷ objects_of (args ++ more) terms) (object_bound args more t parts.0) ∙ ap (λ l. object_of args t ∷ l) (objects_bound args more terms parts.1)

module _ (task : TaskParts) where
  met_bound : (args more : List ℕ) (c : Cond) → list_all (is_bound (length args)) (terms_of c) ≡ true → static_met task (args ++ more) c ≡ static_met task args c
  met_bound args more (cond_.Lit sign pred terms) e =
      ap (λ l. is_changing_pred task.actions pred || signed sign ((initial task).truth pred l)) (objects_bound args more terms e)
  met_bound args more (cond_.Same sign left right) e =
      let one = both_parts (is_bound (length args) left) (is_bound (length args) right && true) e in
      let two = both_parts (is_bound (length args) right) true one.1 in
      ap (λ o. signed sign (o == object_of (args ++ more) right)) (object_bound args more left one.0) ∙ ap (λ o. signed sign (object_of args left == o)) (object_bound args more right two.0)
  met_bound args more (cond_.Compare rel left right) e = refl

  by_bound : (b m n : Bool) → (b ≡ true → m ≡ n) → m ≡ true → (not b || n) ≡ true
  by_bound true m n f e = sym (f refl) ∙ e
  by_bound false m n f e = refl

  met_first : (args more : List ℕ) (c : Cond) → static_met task (args ++ more) c ≡ true → met_so_far task args c ≡ true
  met_first args more c e =
      by_bound (list_all (is_bound (length args)) (terms_of c)) (static_met task (args ++ more) c) (static_met task args c) (met_bound args more c) e

  fit_first : (params : List (List ℕ)) (args more : List ℕ) → all_fit task params (args ++ more) ≡ true → all_fit task params args ≡ true
  fit_first [] args more e = refl
  fit_first (types ∷ params) [] more e = refl
  fit_first (types ∷ params) (o ∷ args) more e =
      let parts = both_parts (fits task types o) (all_fit task params (args ++ more)) e in
      both (fits task types o) (all_fit task params args) parts.0 (fit_first params args more parts.1)

  -- the first arguments of a list that suits are open
  pub need : (a : Action) (args more : List ℕ) → suits task a (args ++ more) ≡ true → is_open task a args ≡ true
  unfolding is_open
  need a args more e =
      let parts = both_parts (all_fit task a.params (args ++ more)) (list_all (static_met task (args ++ more)) a.conds) e in
      both (all_fit task a.params args) (list_all (met_so_far task args) a.conds) (fit_first a.params args more parts.0)
      (list_all_along (static_met task (args ++ more)) (met_so_far task args) (met_first args more) a.conds parts.1)

  -- ---- all terms of an action are bound by a whole list
  terms_bound : (counts : Counts) (n : ℕ) (terms : List Term) → list_all (is_term counts n) terms ≡ true → list_all (is_bound n) terms ≡ true
  terms_bound counts n terms e = list_all_along (is_term counts n) (is_bound n) term_bound terms e
    where
      term_bound : (t : Term) → is_term counts n t ≡ true → is_bound n t ≡ true
      term_bound (term.Param p) h = h
      term_bound (term.Object o) h = refl

  all_bound : (counts : Counts) (n : ℕ) (c : Cond) → is_condition counts n c ≡ true → list_all (is_bound n) (terms_of c) ≡ true
  all_bound counts n (cond_.Lit sign pred terms) e = terms_bound counts n terms ((both_parts (nat_lt pred counts.preds) (list_all (is_term counts n) terms) e).1)
  all_bound counts n (cond_.Same sign left right) e =
      let parts = both_parts (is_term counts n left) (is_term counts n right) e in
      terms_bound counts n (left ∷ right ∷ []) (both (is_term counts n left) (is_term counts n right && true) parts.0 (both (is_term counts n right) true parts.1 refl))
  all_bound counts n (cond_.Compare rel left right) e = refl

  pub conditions_of : (a : Action) → is_action (counts_of task) a ≡ true → (are_types (counts_of task) a.params ≡ true) × (list_all (is_condition (counts_of task) (length a.params)) a.conds ≡ true)
  conditions_of a e =
      let parts = both_parts _ _ e in
      (parts.0, (both_parts _ _ parts.1).0)

  met_whole : (args : List ℕ) (c : Cond) → is_condition (counts_of task) (length args) c ≡ true → met_so_far task args c ≡ true → static_met task args c ≡ true
  met_whole args c numbered e = ap (λ b. not b || static_met task args c) (sym (all_bound (counts_of task) (length args) c numbered)) ∙ e

  -- a whole list that is open suits
  pub enough : (a : Action) (args : List ℕ) → is_action (counts_of task) a ≡ true → length args ≡ length a.params → is_open task a args ≡ true → suits task a args ≡ true
  unfolding is_open
  enough a args numbered whole e =
      let parts = both_parts (all_fit task a.params args) (list_all (met_so_far task args) a.conds) e in
      let conds = subst (λ n. list_all (is_condition (counts_of task) n) a.conds ≡ true) (sym whole) (conditions_of a numbered).1 in
      both (all_fit task a.params args) (list_all (static_met task args) a.conds) parts.0
      (list_all_along₂ (is_condition (counts_of task) (length args)) (met_so_far task args) (static_met task args) (met_whole args) a.conds conds parts.1)
