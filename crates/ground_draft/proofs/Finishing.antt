-- A finished draft is the ground action.
use Rattle.std.proofs.Common.{◌≡◌, ℕ, suc, ◌+◌, Bool, true, false, not, cond, ◌&&◌, ◌||◌, List, [], ◌∷◌, ◌++◌, map, length, take, Some, refl, sym, ap, ap₂, ◌∙◌, arith}
use Rattle.std.specs.Prelude.{is_some}
use Rattle.std.specs.List.{list_all, filter_map, cons_option}
use Rattle.std.proofs.lemmas.Bool.{and_parts}
use Rattle.std.proofs.lemmas.List.Folds.{list_any-append}
use Rattle.rational.specs.Fraction.{Fraction}
use Rattle.lin.specs.Linear.{Linear}
use Rattle.lin.specs.declared.comparison.Cmp.{Cmp}
use Rattle.task_core.specs.declared.action.GAction.{GAction}
use Rattle.pddl_task.specs.declared.action.Action.{Action}
use Rattle.pddl_task.specs.declared.condition.Cond.{Cond}
use Rattle.pddl_task.specs.declared.condition.Cond.TheVariants as cond_
use Rattle.pddl_task.specs.declared.condition.Rel.{Rel}
use Rattle.pddl_task.specs.declared.parts.TaskParts.{TaskParts}
use Rattle.plan_step.specs.State.{PlanState}
use Rattle.plan_step.specs.Meaning.{objects_of}
use Rattle.ground_numbers.specs.declared.named.Named.{Named}
use Rattle.ground_numbers.specs.Numbers.{named, is_listed, once}
use Rattle.ground_action.specs.Setting.{Setting, Proposition, atom, valued, same_proposition, setting_from, value_in, missing, proposition_number}
use Rattle.ground_action.specs.Parts.{Part, constant, linear, Outcome, ends, bent, part}
use Rattle.ground_action.specs.Leaves.{Leaf, fails, unclear, nothing, literal, compared, settled, compared_parts, compared_outcomes, leaf_of, Move}
use Rattle.ground_action.specs.GroundAction.{numbers_where, is_added, is_deleted, is_read, all_reads, same_literal, literal_row, comparison_row, increment_of, new_value_of, rows_of, action_from, leaves_of, moves_of, ground_action, is_literal_numbered, is_numbered, goal_leaf, goal_leaves, ground_goal}
use Rattle.ground_action.proofs.WorkLaws.{same_number}
use Rattle.ground_draft.specs.Drafts.{over_atoms, is_missing, draft_from, draft_of, goal_draft_of, rank_in, finished}

-- ---- numbers of those that pass, of two lists
module _ {A : Type 0} (test : A → Bool) where
  where_append : (n : ℕ) (xs ys : List A) → numbers_where test n (xs ++ ys) ≡ numbers_where test n xs ++ numbers_where test (n + length xs) ys
  where_append n [] ys = let e : n ≡ n + 0 = omega arith in ap (λ m. numbers_where test m ys) e
  where_append n (x ∷ xs) ys = by_test (test x) (where_append (suc n) xs ys ∙ ap (λ m. numbers_where test (suc n) xs ++ numbers_where test m ys) shifted)
    where
      shifted : suc n + length xs ≡ n + length (x ∷ xs)
      shifted = omega arith

      by_test : (b : Bool) → numbers_where test (suc n) (xs ++ ys) ≡ numbers_where test (suc n) xs ++ numbers_where test (n + length (x ∷ xs)) ys
          → cond b (n ∷ numbers_where test (suc n) (xs ++ ys)) (numbers_where test (suc n) (xs ++ ys)) ≡ cond b (n ∷ numbers_where test (suc n) xs) (numbers_where test (suc n) xs) ++ numbers_where test (n + length (x ∷ xs)) ys
      by_test true ih = ap (λ l. n ∷ l) ih
      by_test false ih = ih

module _ {A B : Type 0} (test : B → Bool) (f : A → B) where
  -- where none of them passes
  pub where_none : ((x : A) → test (f x) ≡ false) → (n : ℕ) (xs : List A) → numbers_where test n (map f xs) ≡ []
  where_none h n [] = refl
  where_none h n (x ∷ xs) = ap (λ b. cond b (n ∷ numbers_where test (suc n) (map f xs)) (numbers_where test (suc n) (map f xs))) (h x) ∙ where_none h (suc n) xs

length_map : {A B : Type 0} (f : A → B) (xs : List A) → length (map f xs) ≡ length xs
length_map f [] = refl
length_map f (x ∷ xs) = ap suc (length_map f xs)

end : {A : Type 0} (xs : List A) → xs ++ [] ≡ xs
end [] = refl
end (x ∷ xs) = ap (λ l. x ∷ l) (end xs)

-- the functions without a value that pass, numbered among them, are those functions by their ranks
module _ (start : PlanState) (test : Proposition → Bool) (r : ℕ → ℕ) where
  abbrev lacks : Named → Bool
  lacks k = not (is_some (value_in start k))

  ranked : (m n : ℕ) (ks : List Named) → ((i : ℕ) → r (m + i) ≡ n + length (missing start (take i ks)))
      → numbers_where test n (map valued (missing start ks)) ≡ map r (numbers_where (λ k. lacks k && test (valued k)) m ks)
  ranked m n [] h = refl
  ranked m n (k ∷ ks) h = by_lack (λ g. ranked (suc m) (suc n) ks g) (λ g. ranked (suc m) n ks g) (lacks k) refl
    where
      own : r m ≡ n
      own = let e : m ≡ m + 0 = omega arith in let z : n + 0 ≡ n = omega arith in ap r e ∙ h 0 ∙ z

      later : (b : Bool) → lacks k ≡ b → (i : ℕ) → r (suc m + i) ≡ n + length (cond b (k ∷ missing start (take i ks)) (missing start (take i ks)))
      later b e i = let s : suc m + i ≡ m + suc i = omega arith in ap r s ∙ h (suc i) ∙ ap (λ c. n + length (cond c (k ∷ missing start (take i ks)) (missing start (take i ks)))) e

      by_test : (t : Bool) → numbers_where test (suc n) (map valued (missing start ks)) ≡ map r (numbers_where (λ k. lacks k && test (valued k)) (suc m) ks)
          → cond t (n ∷ numbers_where test (suc n) (map valued (missing start ks))) (numbers_where test (suc n) (map valued (missing start ks)))
          ≡ map r (cond t (m ∷ numbers_where (λ k. lacks k && test (valued k)) (suc m) ks) (numbers_where (λ k. lacks k && test (valued k)) (suc m) ks))
      by_test true ih = ap₂ ◌∷◌ (sym own) ih
      by_test false ih = ih

      by_lack : (((i : ℕ) → r (suc m + i) ≡ suc n + length (missing start (take i ks))) → numbers_where test (suc n) (map valued (missing start ks)) ≡ map r (numbers_where (λ k. lacks k && test (valued k)) (suc m) ks))
          → (((i : ℕ) → r (suc m + i) ≡ n + length (missing start (take i ks))) → numbers_where test n (map valued (missing start ks)) ≡ map r (numbers_where (λ k. lacks k && test (valued k)) (suc m) ks))
          → (b : Bool) → lacks k ≡ b → numbers_where test n (map valued (cond b (k ∷ missing start ks) (missing start ks)))
          ≡ map r (cond (b && test (valued k)) (m ∷ numbers_where (λ k. lacks k && test (valued k)) (suc m) ks) (numbers_where (λ k. lacks k && test (valued k)) (suc m) ks))
      by_lack one other true e = by_test (test (valued k)) (one (λ i. let s : n + suc (length (missing start (take i ks))) ≡ suc n + length (missing start (take i ks)) = omega arith in later true e i ∙ s))
      by_lack one other false e = other (later false e)

-- ---- literals keep their numbers
no_atom : (k : Named) (ks : List Named) → is_listed same_proposition (map valued ks) (atom k) ≡ false
no_atom k [] = refl
no_atom k (j ∷ ks) = no_atom k ks

or_false : (a b : Bool) → (a || b) ≡ true → b ≡ false → a ≡ true
or_false true b h e = refl
or_false false b h e = sym (sym h ∙ e) ∙ cc

module _ (task : TaskParts) (start : PlanState) (atoms funcs : List Named) where
  abbrev set : Setting
  set = setting_from task start atoms funcs

  abbrev over : Setting
  over = over_atoms set atoms

  atom_number : (k : Named) → is_listed same_proposition set.propositions (atom k) ≡ true → proposition_number over (atom k) ≡ proposition_number set (atom k)
  atom_number k h = sym (same_number same_proposition (map atom atoms) (map valued (missing start funcs)) (atom k)
      (or_false _ _ (sym (list_any-append (λ y. same_proposition y (atom k)) (map atom atoms) (map valued (missing start funcs))) ∙ h) (no_atom k (missing start funcs))))

  settled_row : (b : Bool) → literal_row over (settled b) ≡ literal_row set (settled b)
  settled_row true = refl
  settled_row false = refl

  parts_row : (r : Rel) (p q : Part) → literal_row over (compared_parts r p q) ≡ literal_row set (compared_parts r p q)
  parts_row r (constant a) (constant b) = settled_row _
  parts_row r (constant a) (linear q m) = refl
  parts_row r (linear p l) q = refl

  outcomes_row : (r : Rel) (a b : Outcome) → literal_row over (compared_outcomes r a b) ≡ literal_row set (compared_outcomes r a b)
  outcomes_row r ends b = refl
  outcomes_row r bent b = refl
  outcomes_row r (part p) ends = refl
  outcomes_row r (part p) bent = refl
  outcomes_row r (part p) (part q) = parts_row r p q

  atom_row : (b sign c : Bool) (k : Named) → is_literal_numbered set (cond b (literal (atom k) sign) (settled c)) ≡ true
      → literal_row over (cond b (literal (atom k) sign) (settled c)) ≡ literal_row set (cond b (literal (atom k) sign) (settled c))
  atom_row true sign c k h = ap (λ n. Some (n, sign)) (atom_number k h)
  atom_row false sign c k h = settled_row c

  module _ (args : List ℕ) where
    row : (c : Cond) → is_literal_numbered set (leaf_of set args c) ≡ true → literal_row over (leaf_of set args c) ≡ literal_row set (leaf_of set args c)
    row (cond_.Lit sign pred terms) h = atom_row (set.changing_pred pred) sign _ (named pred (objects_of args terms)) h
    row (cond_.Same sign left right) h = settled_row _
    row (cond_.Compare r left right) h = outcomes_row r _ _

    goal_row : (l : Leaf) → (is_literal_numbered set l ≡ true → literal_row over l ≡ literal_row set l) → is_literal_numbered set (goal_leaf l) ≡ true → literal_row over (goal_leaf l) ≡ literal_row set (goal_leaf l)
    goal_row fails f h = refl
    goal_row unclear f h = refl
    goal_row nothing f h = refl
    goal_row (literal x sign) f h = f h
    goal_row (compared r l c) f h = refl

  rows : (leaf : Cond → Leaf) → ((c : Cond) → is_literal_numbered set (leaf c) ≡ true → literal_row over (leaf c) ≡ literal_row set (leaf c)) → (cs : List Cond)
      → list_all (is_literal_numbered set) (map leaf cs) ≡ true → filter_map (literal_row over) (map leaf cs) ≡ filter_map (literal_row set) (map leaf cs)
  rows leaf f [] h = refl
  rows leaf f (c ∷ cs) h = let hs = and_parts _ _ h in ap₂ cons_option (f c hs.0) (rows leaf f cs hs.1)

  -- ---- the whole
  ranks : (i : ℕ) → length atoms + rank_in start funcs (0 + i) ≡ (0 + length (map atom atoms)) + length (missing start (take i funcs))
  ranks i =
      let z : 0 + i ≡ i = omega arith in
      let e : length (map atom atoms) ≡ length atoms = length_map atom atoms in
      let s : length atoms ≡ 0 + length (map atom atoms) = omega (arith, e) in
      ap (λ j. length atoms + rank_in start funcs j) z ∙ ap (λ n. n + length (missing start (take i funcs))) s

  valued_where : (test : Proposition → Bool) → numbers_where test (0 + length (map atom atoms)) (map valued (missing start funcs))
      ≡ map (λ f. length atoms + rank_in start funcs f) (numbers_where (λ k. is_missing set k && test (valued k)) 0 funcs)
  valued_where test = ranked start test (λ f. length atoms + rank_in start funcs f) 0 (0 + length (map atom atoms)) funcs ranks

  map_map : (f : ℕ → ℕ) (ns : List ℕ) → map {B = ℕ × Bool} (λ n. (n, true)) (map f ns) ≡ map {B = ℕ × Bool} (λ n. (f n, true)) ns
  map_map f [] = refl
  map_map f (n ∷ ns) = ap (λ l. (f n, true) ∷ l) (map_map f ns)

  abbrev made : List (ℕ × Bool) → List (Linear × Cmp) → List ℕ → List ℕ → List (ℕ × Fraction) → List (ℕ × Linear) → GAction
  made lits cmps adds dels incs sets = record { lits = lits; cmps = cmps; adds = adds; dels = dels; incs = incs; sets = sets }

  module _ (leaves : List Leaf) (moves : List Move) where
    reads_are : map {B = ℕ × Bool} (λ n. (n, true)) (numbers_where (is_read (all_reads leaves moves)) 0 set.propositions)
        ≡ map {B = ℕ × Bool} (λ f. (length atoms + rank_in start funcs f, true)) (draft_from set atoms leaves moves).reads
    reads_are =
        ap (map {B = ℕ × Bool} (λ n. (n, true))) (where_append (is_read (all_reads leaves moves)) 0 (map atom atoms) (map valued (missing start funcs))
        ∙ ap₂ ◌++◌ (where_none (is_read (all_reads leaves moves)) atom (λ k. refl) 0 atoms) (valued_where (is_read (all_reads leaves moves))))
        ∙ map_map (λ f. length atoms + rank_in start funcs f) _

    pub no_reads : map {B = ℕ × Bool} (λ n. (n, true)) (numbers_where (is_read (all_reads leaves moves)) 0 (map atom atoms)) ≡ []
    no_reads = ap (map {B = ℕ × Bool} (λ n. (n, true))) (where_none (is_read (all_reads leaves moves)) atom (λ k. refl) 0 atoms)

    adds_are : numbers_where (is_added moves) 0 (map atom atoms) ++ map (λ f. length atoms + rank_in start funcs f) (draft_from set atoms leaves moves).assigns
        ≡ numbers_where (is_added moves) 0 set.propositions
    adds_are = sym (where_append (is_added moves) 0 (map atom atoms) (map valued (missing start funcs)) ∙ ap (λ l. numbers_where (is_added moves) 0 (map atom atoms) ++ l) (valued_where (is_added moves)))

    dels_are : numbers_where (is_deleted moves) 0 (map atom atoms) ≡ numbers_where (is_deleted moves) 0 set.propositions
    dels_are = sym (where_append (is_deleted moves) 0 (map atom atoms) (map valued (missing start funcs))
        ∙ ap (λ l. numbers_where (is_deleted moves) 0 (map atom atoms) ++ l) (where_none (is_deleted moves) valued (λ k. refl) (0 + length (map atom atoms)) (missing start funcs))
        ∙ end _)

    pub from_finished : filter_map (literal_row over) leaves ≡ filter_map (literal_row set) leaves → finished (length atoms) (rank_in start funcs) (draft_from set atoms leaves moves) ≡ action_from set leaves moves
    from_finished e =
        ap (λ l. made l (filter_map comparison_row leaves) (numbers_where (is_added moves) 0 (map atom atoms) ++ map (λ f. length atoms + rank_in start funcs f) (draft_from set atoms leaves moves).assigns) (numbers_where (is_deleted moves) 0 (map atom atoms)) (rows_of (increment_of moves) 0 funcs) (rows_of (new_value_of set moves) 0 funcs))
        (ap₂ ◌++◌ (ap₂ ◌++◌ (ap (once same_literal) e) no_reads ∙ end _) (sym reads_are))
        ∙ ap₂ (λ adds dels. made (once same_literal (filter_map (literal_row set) leaves) ++ map {B = ℕ × Bool} (λ n. (n, true)) (numbers_where (is_read (all_reads leaves moves)) 0 set.propositions)) (filter_map comparison_row leaves) adds dels (rows_of (increment_of moves) 0 funcs) (rows_of (new_value_of set moves) 0 funcs))
        adds_are dels_are

pub action_finished : (task : TaskParts) (start : PlanState) (atoms funcs : List Named) (a : Action) (args : List ℕ)
    → is_numbered (setting_from task start atoms funcs) (leaves_of (setting_from task start atoms funcs) a args) (moves_of (setting_from task start atoms funcs) a args) ≡ true
    → finished (length atoms) (rank_in start funcs) (draft_of (setting_from task start atoms funcs) atoms a args) ≡ ground_action (setting_from task start atoms funcs) a args
unfolding draft_of ground_action
action_finished task start atoms funcs a args h =
    let set = setting_from task start atoms funcs in
    from_finished task start atoms funcs (leaves_of set a args) (moves_of set a args)
    (rows task start atoms funcs (leaf_of set args) (row task start atoms funcs args) a.conds (and_parts _ _ (and_parts _ _ h).1).0)

pub goal_finished : (task : TaskParts) (start : PlanState) (atoms funcs : List Named) (goal : List Cond)
    → is_numbered (setting_from task start atoms funcs) (goal_leaves (setting_from task start atoms funcs) goal) [] ≡ true
    → finished (length atoms) (rank_in start funcs) (goal_draft_of (setting_from task start atoms funcs) atoms goal) ≡ ground_goal (setting_from task start atoms funcs) goal
unfolding goal_draft_of ground_goal
goal_finished task start atoms funcs goal h =
    let set = setting_from task start atoms funcs in
    from_finished task start atoms funcs (goal_leaves set goal) []
    (rows task start atoms funcs (λ c. goal_leaf (leaf_of set [] c)) (λ c. goal_row task start atoms funcs [] (leaf_of set [] c) (row task start atoms funcs [] c)) goal (and_parts _ _ (and_parts _ _ h).1).0)
