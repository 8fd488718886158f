-- The goal holds in a fitting state exactly where the ground goal does in a ground state that agrees.
use Rattle.std.proofs.Common.{◌≡◌, ℕ, Bool, true, false, not, ◌&&◌, List, [], ◌∷◌, map, refl, sym, ap, ◌∙◌}
use Rattle.std.specs.Prelude.{is_some}
use Rattle.std.specs.List.{list_all, flat_map}
use Rattle.std.proofs.lemmas.Bool.{and_parts, and_from}
use Rattle.std.proofs.lemmas.List.Folds.{list_all-append}
use lib.IntN.{pos}
use lib.Signed.{lt_z}
use Rattle.rational.specs.Fraction.{Fraction, whole}
use Rattle.pddl_task.specs.declared.condition.Cond.{Cond}
use Rattle.ground_action.proofs.LeafLaws.{LeafMeans, leaf_means, minus_nothing}
use Rattle.ground_action.proofs.ListLaws.{passes}
use Rattle.ground_action.proofs.StepLaws.{keyed, all_left_by, value_lits, lits_value, ready_is}
use Rattle.lin.specs.Linear.{value_of, fixed}
use Rattle.plan_step.specs.State.{PlanState}
use Rattle.plan_step.specs.Meaning.{holds, all_hold}
use Rattle.plan_step.specs.Order.{is_less}
use Rattle.task_core.specs.State.{State}
use Rattle.ground_action.proofs.Tests.{zero_q, against, lit_holds, cmp_holds, ready, known}
use Rattle.lin.specs.declared.comparison.Cmp.TheVariants as cmp
use Rattle.ground_numbers.specs.declared.named.Named.{Named}
use Rattle.ground_numbers.specs.Numbers.{same, is_listed}
use Rattle.ground_action.specs.Setting.{valued, same_proposition, Setting, value_in}
use Rattle.ground_action.specs.Agrees.{Fits, Agrees}
use Rattle.ground_action.specs.Leaves.{Leaf, fails, unclear, nothing, literal, compared, leaf_of, leaf_reads}
use Rattle.ground_action.specs.GroundAction.{numbers_where, literal_row, comparison_row, all_reads, is_read, goal_leaf, goal_leaves, ground_goal, may_hold, is_numbered}
use Rattle.ground_action.proofs.Groundable.{is_clear}
use Rattle.lin.proofs.ValueLaws.{value_fixed}

one_above : is_less zero_q (whole (pos 1)) ≡ true
one_above = sym (ap (λ (x : Fraction). lt_z (pos 0) x.num) (minus_nothing (whole (pos 1))))

never : (at : ℕ → Fraction) → against cmp.Le (value_of at (fixed (whole (pos 1)))) ≡ false
never at = ap (against cmp.Le) (value_fixed at (whole (pos 1))) ∙ ap not one_above

pub same_tests : (a b : Bool) → (a ≡ true → b ≡ true) → (b ≡ true → a ≡ true) → a ≡ b
same_tests true b f g = sym (f refl)
same_tests false true f g = g refl
same_tests false false f g = refl

regroup : (k l c v : Bool) → k ≡ v → (k && (l && c)) ≡ ((l && v) && c)
regroup k l c true e = ap (λ t. t && (l && c)) e ∙ by_lits l
  where
    by_lits : (l : Bool) → (l && c) ≡ ((l && true) && c)
    by_lits true = refl
    by_lits false = refl
regroup k l c false e = ap (λ t. t && (l && c)) e ∙ by_lits l
  where
    by_lits : (l : Bool) → false ≡ ((l && false) && c)
    by_lits true = refl
    by_lits false = refl

module _ (set : Setting) (s : PlanState) (g : State) (fits : Fits set s) (agrees : Agrees set s g) (goal : List Cond)
    (clear : list_all is_clear (map (leaf_of set []) goal) ≡ true) (numbered : is_numbered set (goal_leaves set goal) [] ≡ true)
    (valued : (it : Named) → is_listed same set.funcs it ≡ true → is_some (value_in set.start it) ≡ false → is_listed same_proposition set.propositions (valued it) ≡ true) where
  goal_means : (l : Leaf) (b : Bool) → LeafMeans s g.value set l b → LeafMeans s g.value set (goal_leaf l) b
  goal_means fails b h = λ n. h ∙ sym (never g.value)
  goal_means unclear b h = tt
  goal_means nothing b h = h
  goal_means (literal x sign) b h = h
  goal_means (compared r l c) b h = h

  clear_may : (l : Leaf) → is_clear l ≡ true → may_hold (goal_leaf l) ≡ true
  clear_may fails h = refl
  clear_may unclear h = h
  clear_may nothing h = refl
  clear_may (literal x sign) h = refl
  clear_may (compared r l c) h = refl

  all_clear : (cs : List Cond) → list_all is_clear (map (leaf_of set []) cs) ≡ true → list_all may_hold (map (λ c. goal_leaf (leaf_of set [] c)) cs) ≡ true
  all_clear [] h = refl
  all_clear (c ∷ cs) h = and_from _ _ (clear_may (leaf_of set [] c) (and_parts _ _ h).0) (all_clear cs (and_parts _ _ h).1)

  pub goal_grounded : all_hold s [] goal ≡ ready (ground_goal set goal) g
  unfolding ground_goal
  goal_grounded =
      let leaves = goal_leaves set goal in
      let ns = and_parts _ _ numbered in
      let rs = and_parts _ _ (sym (list_all-append (is_listed same set.funcs) (flat_map leaf_reads leaves) []) ∙ ns.0) in
      let valued_is : known s (flat_map leaf_reads leaves) ≡ list_all g.truth (numbers_where (is_read (all_reads leaves [])) 0 set.propositions) = same_tests _ _
      (λ h. value_lits set s g fits agrees (all_reads leaves []) (list_all-append (λ k. is_some (value_in s k)) (flat_map leaf_reads leaves) [] ∙ and_from _ _ h refl))
      (λ h. (and_parts _ _ (sym (list_all-append (λ k. is_some (value_in s k)) (flat_map leaf_reads leaves) []) ∙ lits_value set s g fits agrees (all_reads leaves []) ns.0 valued h)).0) in
      all_left_by set s g fits agrees [] (λ c. goal_leaf (leaf_of set [] c)) (λ c. goal_means (leaf_of set [] c) (holds s [] c) (leaf_means s g.value set fits (keyed set s g fits agrees) [] c)) goal (all_clear goal clear) rs.0 (and_parts _ _ ns.1).0
      ∙ regroup (known s (flat_map leaf_reads leaves)) (list_all (λ l. passes (lit_holds g) (literal_row set l)) leaves) (list_all (λ l. passes (cmp_holds g) (comparison_row l)) leaves) _ valued_is
      ∙ sym (ready_is set s g fits agrees leaves [])
