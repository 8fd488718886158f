-- What one condition says of the next object, each list has to meet.
use Rattle.std.proofs.Common.{◌≡◌, ℕ, zero, suc, ◌<◌, Bool, true, false, List, [], ◌∷◌, ◌++◌, length, get_or, refl, sym, ap, subst, ◌∙◌, arith}
use Rattle.std.specs.List.{list_all}
use Rattle.pddl_task.specs.declared.action.Action.{Action}
use Rattle.pddl_task.specs.declared.condition.Cond.{Cond}
use Rattle.pddl_task.specs.declared.parts.TaskParts.{TaskParts}
use Rattle.plan_step.specs.Meaning.{all_fit}
use Rattle.ground_instances.specs.declared.choosing.Choice.{Choice}
use Rattle.ground_instances.specs.declared.choosing.Choice.TheVariants.{Next, Nothing}
use Rattle.ground_instances.specs.inside.Open.{met_so_far, is_open}
use Rattle.ground_instances.specs.inside.Places.{IsChoice}
use Rattle.ground_instances.specs.inside.Search.{NoneOpen, IsNextObject}
use Rattle.ground_instances.proofs.Opening.{both_parts}

one_of_all : (p : Cond → Bool) (conds : List Cond) (k : ℕ) (c : Cond) → k < length conds → c ≡ get_or conds k c → list_all p conds ≡ true → p c ≡ true
one_of_all p [] k c h is e = absurd (omega arith)
one_of_all p (d ∷ conds) zero c h is e = ap p is ∙ (both_parts (p d) (list_all p conds) e).0
one_of_all p (d ∷ conds) (suc k) c h is e = one_of_all p conds k c (omega (arith, h)) is (both_parts (p d) (list_all p conds) e).1

shut_by : (a b : Bool) → (b ≡ true → a ≡ true) → a ≡ false → b ≡ false
shut_by a true h e = let never : false ≡ true = sym e ∙ h refl in cc
shut_by a false h e = refl

module _ (task : TaskParts) (a : Action) (conds : List Cond) (same : conds ≡ a.conds) (k : ℕ) (c : Cond) (within : k < length conds) (is : c ≡ get_or conds k c) where
  meets_one : (args : List ℕ) → is_open task a args ≡ true → met_so_far task args c ≡ true
  unfolding is_open
  meets_one args e =
      one_of_all (met_so_far task args) conds k c within is
      (subst (λ l. list_all (met_so_far task args) l ≡ true) (sym same) ((both_parts (all_fit task a.params args) (list_all (met_so_far task args) a.conds) e).1))

  none_open : (n : ℕ) (args : List ℕ) (low high : ℕ) → NoneOpen n (λ more. met_so_far task more c) args low high → NoneOpen n (is_open task a) args low high
  none_open n args low high none = record { none = λ o x y. shut_by (met_so_far task (args ++ o ∷ []) c) (is_open task a (args ++ o ∷ [])) (meets_one (args ++ o ∷ [])) (none.none o x y) }

  pub chosen_next : (n : ℕ) (args : List ℕ) (low : ℕ) (choice : Choice) (object : ℕ) → IsChoice n (λ more. met_so_far task more c) args low choice → choice ≡ Next object
      → IsNextObject n (is_open task a) args low object
  chosen_next n args low choice object h e =
      let next : IsNextObject n (λ more. met_so_far task more c) args low object = subst (λ (d : Choice). IsChoice n (λ more. met_so_far task more c) args low d) e h in
      record { above = next.above; below = next.below; skipped = none_open n args low object next.skipped }

  pub chosen_none : (n : ℕ) (args : List ℕ) (low : ℕ) (choice : Choice) → IsChoice n (λ more. met_so_far task more c) args low choice → choice ≡ Nothing → NoneOpen n (is_open task a) args low n
  chosen_none n args low choice h e = none_open n args low n (subst (λ (d : Choice). IsChoice n (λ more. met_so_far task more c) args low d) e h)
