-- The literals of an instance are atoms of the tables, and its targets stand there.
use Rattle.std.proofs.Common.{◌≡◌, ℕ, Bool, true, false, cond, ◌||◌, List, [], ◌∷◌, map, refl, sym, ap, ◌∙◌}
use Rattle.std.specs.List.{list_all}
use Rattle.std.proofs.lemmas.Bool.{and_parts, and_from}
use Rattle.std.proofs.lemmas.List.Folds.{list_any-append}
use Rattle.pddl_task.specs.declared.condition.Cond.{Cond}
use Rattle.pddl_task.specs.declared.condition.Cond.TheVariants as cond_
use Rattle.pddl_task.specs.declared.condition.Rel.{Rel}
use Rattle.pddl_task.specs.declared.parts.TaskParts.{TaskParts}
use Rattle.plan_step.specs.State.{PlanState}
use Rattle.plan_step.specs.Meaning.{objects_of}
use Rattle.ground_numbers.specs.declared.named.Named.{Named}
use Rattle.ground_numbers.specs.Numbers.{named, same, is_listed}
use Rattle.ground_action.specs.Setting.{Setting, atom, valued, same_proposition, setting_from, missing}
use Rattle.ground_action.specs.Parts.{Part, constant, linear, Outcome, ends, bent, part}
use Rattle.ground_action.specs.Leaves.{Leaf, fails, unclear, nothing, literal, compared, settled, compared_parts, compared_outcomes, leaf_of, Move, puts_atom, acts}
use Rattle.ground_action.specs.GroundAction.{is_literal_numbered, is_target_numbered}
use Rattle.ground_laws.proofs.ActionGrowth.{is_plain, is_aimed}

-- no literal says that a function has a value
is_written : Leaf → Bool
is_written fails = true
is_written unclear = true
is_written nothing = true
is_written (literal (atom k) sign) = true
is_written (literal (valued k) sign) = false
is_written (compared r l c) = true

module _ (set : Setting) (args : List ℕ) where
  settled_written : (b : Bool) → is_written (settled b) ≡ true
  unfolding is_written
  settled_written true = refl
  settled_written false = refl

  parts_written : (r : Rel) (p q : Part) → is_written (compared_parts r p q) ≡ true
  unfolding is_written
  parts_written r (constant a) (constant b) = settled_written _
  parts_written r (constant a) (linear q m) = refl
  parts_written r (linear p l) q = refl

  outcomes_written : (r : Rel) (a b : Outcome) → is_written (compared_outcomes r a b) ≡ true
  unfolding is_written
  outcomes_written r ends b = refl
  outcomes_written r bent b = refl
  outcomes_written r (part p) ends = refl
  outcomes_written r (part p) bent = refl
  outcomes_written r (part p) (part q) = parts_written r p q

  by_test : (b sign c : Bool) (k : Named) → is_written (cond b (literal (atom k) sign) (settled c)) ≡ true
  unfolding is_written
  by_test true sign c k = refl
  by_test false sign c k = settled_written c

  leaf_written : (c : Cond) → is_written (leaf_of set args c) ≡ true
  leaf_written (cond_.Lit sign pred terms) = by_test (set.changing_pred pred) sign _ (named pred (objects_of args terms))
  leaf_written (cond_.Same sign left right) = settled_written _
  leaf_written (cond_.Compare r left right) = outcomes_written r _ _

atom_listed : (xs : List Named) (k : Named) → is_listed same_proposition (map atom xs) (atom k) ≡ is_listed same xs k
atom_listed [] k = refl
atom_listed (x ∷ xs) k = ap (λ t. same x k || t) (atom_listed xs k)

none_valued : (xs : List Named) (k : Named) → is_listed same_proposition (map valued xs) (atom k) ≡ false
none_valued [] k = refl
none_valued (x ∷ xs) k = none_valued xs k

module _ (task : TaskParts) (begin : PlanState) (atoms funcs : List Named) where
  abbrev set : Setting
  set = setting_from task begin atoms funcs

  in_atoms : (k : Named) → is_listed same_proposition set.propositions (atom k) ≡ is_listed same atoms k
  in_atoms k =
      list_any-append (λ y. same_proposition y (atom k)) (map atom atoms) (map valued (missing begin funcs))
      ∙ ap (λ b. is_listed same_proposition (map atom atoms) (atom k) || b) (none_valued (missing begin funcs) k)
      ∙ last (is_listed same_proposition (map atom atoms) (atom k)) ∙ atom_listed atoms k
    where
      last : (b : Bool) → (b || false) ≡ b
      last true = refl
      last false = refl

  plain : (l : Leaf) → is_written l ≡ true → is_literal_numbered set l ≡ true → is_plain atoms l ≡ true
  unfolding is_written
  plain fails w h = refl
  plain unclear w h = refl
  plain nothing w h = refl
  plain (literal (atom k) sign) w h = sym (in_atoms k) ∙ h
  plain (literal (valued k) sign) w h = absurd (cc)
  plain (compared r l c) w h = refl

  pub all_plain : (args : List ℕ) (cs : List Cond) → list_all (is_literal_numbered set) (map (leaf_of set args) cs) ≡ true → list_all (is_plain atoms) (map (leaf_of set args) cs) ≡ true
  all_plain args [] h = refl
  all_plain args (c ∷ cs) h =
      let hs = and_parts (is_literal_numbered set (leaf_of set args c)) (list_all (is_literal_numbered set) (map (leaf_of set args) cs)) h in
      and_from _ _ (plain (leaf_of set args c) (leaf_written set args c) hs.0) (all_plain args cs hs.1)

  pub all_aimed : (ms : List Move) → list_all (is_target_numbered set) ms ≡ true → list_all (is_aimed atoms funcs) ms ≡ true
  all_aimed [] h = refl
  all_aimed (puts_atom sign k ∷ ms) h =
      let hs = and_parts (is_target_numbered set (puts_atom sign k)) (list_all (is_target_numbered set) ms) h in and_from _ _ (sym (in_atoms k) ∙ hs.0) (all_aimed ms hs.1)
  all_aimed (acts k a ∷ ms) h =
      let hs = and_parts (is_target_numbered set (acts k a)) (list_all (is_target_numbered set) ms) h in and_from _ _ hs.0 (all_aimed ms hs.1)
