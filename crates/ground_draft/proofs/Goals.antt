-- The goal, leaf by leaf, is what the specification says of it.
use Rattle.std.proofs.Common.{◌≡◌, ℕ, suc, Bool, true, false, cond, ◌&&◌, ◌||◌, List, [], ◌∷◌, ◌++◌, map, pos, Option, Some, None, Result, refl, sym, ap, ap₂, subst, ◌∙◌, append_assoc}
use Rattle.std.specs.Prelude.{is_some}
use Rattle.std.specs.List.{list_all, list_any, flat_map, filter_map, cons_option}
use Rattle.std.proofs.lemmas.Bool.{and_parts}
use Rattle.std.proofs.lemmas.List.{append-nil}
use Rattle.rational.specs.Fraction.{Fraction, whole}
use Rattle.frac128.specs.declared.operations.Wide.{Wide}
use Rattle.lin.specs.Linear.{Linear, var}
use Rattle.lin.specs.declared.comparison.Cmp.{Cmp}
use Rattle.lin.specs.declared.failure.LinFail.{LinFail}
use Rattle.lin.specs.Operations.{AnswersInMemory}
use Rattle.task_core.specs.Step.{is_in}
use Rattle.pddl_task.specs.Calls.{call_step, all_calls}
use Rattle.pddl_task.specs.Linear.{is_linear_condition}
use Rattle.pddl_task.specs.declared.condition.Cond.{Cond}
use Rattle.pddl_task.specs.declared.condition.Cond.TheVariants as cond_
use Rattle.pddl_task.specs.declared.condition.Rel.{Rel}
use Rattle.pddl_task.specs.declared.condition.Rel.TheVariants as rel
use Rattle.pddl_task.specs.declared.expression.Expr.{Expr}
use Rattle.pddl_task.specs.declared.expression.Expr.TheOpen.{Expr-F}
use Rattle.pddl_task.specs.declared.expression.Term.{Term}
use Rattle.pddl_task.specs.declared.parts.TaskParts.{TaskParts}
use Rattle.plan_step.specs.State.{PlanState}
use Rattle.plan_step.specs.Meaning.{objects_of}
use Rattle.ground_numbers.specs.declared.named.Named.{Named}
use Rattle.ground_numbers.specs.Numbers.{named, same, is_listed, number_in, once, with_seen, AreDistinct}
use Rattle.ground_action.specs.Setting.{Setting, atom, value_in, func_number, setting_from, are_numbered}
use Rattle.ground_action.specs.Parts.{Part, constant, linear, Outcome, ends, bent, part, with_part, with_parts, negated, divided, multiplied, folded_from, folded, given_part, plus_part, minus_part, part_step, part_of}
use Rattle.ground_action.specs.Leaves as spec
use Rattle.ground_action.specs.Leaves.{fails, unclear, nothing, literal, leaf_reads, settled, compared_parts, compared_outcomes, leaf_of}
use Rattle.ground_action.specs.GroundAction as action
use Rattle.ground_action.specs.GroundAction.{numbers_where, rows_of, increment_of, new_value_of, is_added, is_deleted, is_read, assigns_it, all_reads, same_literal, literal_row, comparison_row, goal_leaf, goal_leaves, is_numbered}
use Rattle.ground_action.specs.Work.{work_of, is_part, outcomes_ops, sides_ops, has_values, cond_has_values, goal_leaf_ops, goal_ops}
use Rattle.ground_action.proofs.FoldLaws.{fold_related, AreSteps}
use Rattle.ground_action.proofs.Groundable.{is_clear}
use Rattle.ground_action.proofs.LinearLaws.{goal_clear}
use Rattle.ground_action.proofs.StepLaws.{lit_sound}
use Rattle.ground_action.proofs.WorkLaws.{work_is}
use Rattle.ground_parts.specs.Forms.{form_of, part_made, comparison_made}
use Rattle.ground_draft.specs.declared.draft.Draft.{Draft}
use Rattle.ground_draft.specs.declared.goal.Target.{Target}
use Rattle.ground_draft.specs.declared.goal.Target.TheVariants as target
use Rattle.ground_draft.specs.declared.goal.Targets.{Targets}
use Rattle.ground_draft.specs.Drafts.{over_atoms, is_missing, goal_draft_of}
use Rattle.ground_draft.specs.inside.Running.{run, ops_run}
use Rattle.ground_draft.specs.inside.Rising.{rising}
use Rattle.ground_draft.specs.inside.Made.{sides_made}
use Rattle.ground_draft.specs.inside.Lists.{if_missing, part_from, condition_reads}
use Rattle.ground_draft.specs.inside.Goal as goal
use Rattle.ground_draft.specs.inside.Goal.{target_of, target_ops, never, no_targets, with_target, next_target, targets_of, targets_ops, targets_draft}
use Rattle.ground_draft.proofs.Finishing.{where_none, no_reads}
use Rattle.ground_draft.proofs.Places.{rising_where}
use Rattle.ground_draft.proofs.Lits.{once_run, same_lit, place_is, parts_ops_are, cons_front}
use Rattle.ground_draft.proofs.Reading.{Reads, flat-append, missing_of, missing_in, missing_above, reads_are, compared_read, in_append}
use Rattle.ground_draft.proofs.Whole.{same_draft}

-- ---- a part has the values of its static functions
abbrev Has : Outcome → Bool → Type 0
Has o b = is_part o ≡ true → b ≡ true

with_part_is : (g : Part → Outcome) (o : Outcome) → is_part (with_part g o) ≡ true → is_part o ≡ true
with_part_is g ends h = absurd (cc)
with_part_is g bent h = absurd (cc)
with_part_is g (part p) h = refl

with_parts_are : (f : Part → Part → Outcome) (a b : Outcome) → is_part (with_parts f a b) ≡ true → (is_part a ≡ true) × (is_part b ≡ true)
with_parts_are f ends b h = absurd (cc)
with_parts_are f bent b h = absurd (cc)
with_parts_are f (part p) b h = (refl, with_part_is (f p) b h)

module _ {E : Type 0} (f : Part → Part → Outcome) (o : E → Outcome) (has : E → Bool) where
  folded_has_from : (a : Outcome) (parts : List ((e : E) × Has (o e) (has e))) → is_part (folded_from f a (map o (map (λ p. p.0) parts))) ≡ true → (is_part a ≡ true) × (list_all (λ b. b) (map has (map (λ p. p.0) parts)) ≡ true)
  folded_has_from a [] h = (h, refl)
  folded_has_from a (p ∷ parts) h =
      let rest = folded_has_from (with_parts f a (o p.0)) parts h in
      let both = with_parts_are f a (o p.0) rest.0 in
      (both.0, ap₂ ◌&&◌ (p.1 both.1) rest.1)

  folded_has : (unit : Fraction) (parts : List ((e : E) × Has (o e) (has e))) → is_part (folded f unit (map o (map (λ p. p.0) parts))) ≡ true → list_all (λ b. b) (map has (map (λ p. p.0) parts)) ≡ true
  folded_has unit [] h = refl
  folded_has unit (p ∷ parts) h = let rest = folded_has_from (o p.0) parts h in ap₂ ◌&&◌ (p.1 rest.0) rest.1

module _ (set : Setting) (args : List ℕ) where
  abbrev test : ℕ → List Term → Bool
  test func terms = set.changing_func func || is_some (value_in set.start (named func (objects_of args terms)))

  call_has : (k : Named) (b : Bool) (v : Option Fraction) → is_part (cond b (part (linear (k ∷ []) (var (func_number set k)))) (given_part v)) ≡ true → (b || is_some v) ≡ true
  call_has k true v h = refl
  call_has k false None h = absurd (cc)
  call_has k false (Some x) h = refl

  has_steps : AreSteps (part_step set args) (call_step test) Has
  has_steps (Expr-F.Num n) = λ h. refl
  has_steps (Expr-F.Call func terms) = λ h. call_has (named func (objects_of args terms)) (set.changing_func func) (value_in set.start (named func (objects_of args terms))) h
  has_steps (Expr-F.Add parts) = λ h. folded_has plus_part _ _ (whole (pos 0)) parts h
  has_steps (Expr-F.Mul parts) = λ h. folded_has multiplied _ _ (whole (pos 1)) parts h
  has_steps (Expr-F.Neg a) = λ h. a.1 (with_part_is (λ p. part (negated p)) _ h)
  has_steps (Expr-F.Sub a b) = λ h. let both = with_parts_are minus_part _ _ h in ap₂ ◌&&◌ (a.1 both.0) (b.1 both.1)
  has_steps (Expr-F.Div a b) = λ h. let both = with_parts_are divided _ _ h in ap₂ ◌&&◌ (a.1 both.0) (b.1 both.1)

  pub part_has : (e : Expr) → is_part (part_of set args e) ≡ true → has_values set args e ≡ true
  unfolding part_of all_calls
  part_has = fold_related (part_step set args) (call_step test) Has has_steps

-- ---- what a target says
abbrev row_in : Target → Option (ℕ × Bool)
row_in target.Nothing = None
row_in target.Fails = None
row_in (target.Literal n sign) = Some (n, sign)
row_in (target.Compared l c) = None

abbrev cmps_in : Target → List (Linear × Cmp)
cmps_in target.Nothing = []
cmps_in target.Fails = never ∷ []
cmps_in (target.Literal n sign) = []
cmps_in (target.Compared l c) = (l, c) ∷ []

abbrev reads_in : List ℕ → Target → List ℕ
reads_in reads target.Nothing = []
reads_in reads target.Fails = []
reads_in reads (target.Literal n sign) = []
reads_in reads (target.Compared l c) = reads

lits_from : (t : Target) (s : Targets) (reads : List ℕ) (rest : List (ℕ × Bool)) → run (with_seen same_literal) (with_target s reads t).lits rest ≡ run (with_seen same_literal) s.lits (cons_option (row_in t) rest)
lits_from target.Nothing s reads rest = refl
lits_from target.Fails s reads rest = refl
lits_from (target.Literal n sign) s reads rest = refl
lits_from (target.Compared l c) s reads rest = refl

cmps_from : (t : Target) (s : Targets) (reads : List ℕ) → (with_target s reads t).cmps ≡ s.cmps ++ cmps_in t
cmps_from target.Nothing s reads = sym (append-nil s.cmps)
cmps_from target.Fails s reads = refl
cmps_from (target.Literal n sign) s reads = sym (append-nil s.cmps)
cmps_from (target.Compared l c) s reads = refl

reads_from : (t : Target) (s : Targets) (reads : List ℕ) → (with_target s reads t).reads ≡ s.reads ++ reads_in reads t
reads_from target.Nothing s reads = sym (append-nil s.reads)
reads_from target.Fails s reads = sym (append-nil s.reads)
reads_from (target.Literal n sign) s reads = sym (append-nil s.reads)
reads_from (target.Compared l c) s reads = refl

module _ (set : Setting) (atoms : List Named) where
  run_lits : (cs : List Cond) (s : Targets) → (run (next_target set atoms) s cs).lits ≡ run (with_seen same_literal) s.lits (filter_map (λ c. row_in (target_of set atoms c)) cs)
  run_lits [] s = refl
  run_lits (c ∷ cs) s = run_lits cs (next_target set atoms s c) ∙ lits_from (target_of set atoms c) s (condition_reads set [] c) (filter_map (λ c. row_in (target_of set atoms c)) cs)

  run_cmps : (cs : List Cond) (s : Targets) → (run (next_target set atoms) s cs).cmps ≡ s.cmps ++ flat_map (λ c. cmps_in (target_of set atoms c)) cs
  run_cmps [] s = sym (append-nil s.cmps)
  run_cmps (c ∷ cs) s =
      run_cmps cs (next_target set atoms s c) ∙ ap (λ l. l ++ flat_map (λ c. cmps_in (target_of set atoms c)) cs) (cmps_from (target_of set atoms c) s (condition_reads set [] c))
      ∙ append_assoc s.cmps (cmps_in (target_of set atoms c)) (flat_map (λ c. cmps_in (target_of set atoms c)) cs)

  run_reads : (cs : List Cond) (s : Targets) → (run (next_target set atoms) s cs).reads ≡ s.reads ++ flat_map (λ c. reads_in (condition_reads set [] c) (target_of set atoms c)) cs
  run_reads [] s = sym (append-nil s.reads)
  run_reads (c ∷ cs) s =
      run_reads cs (next_target set atoms s c) ∙ ap (λ l. l ++ flat_map (λ c. reads_in (condition_reads set [] c) (target_of set atoms c)) cs) (reads_from (target_of set atoms c) s (condition_reads set [] c))
      ∙ append_assoc s.reads (reads_in (condition_reads set [] c) (target_of set atoms c)) (flat_map (λ c. reads_in (condition_reads set [] c) (target_of set atoms c)) cs)

  run_ops : (cs : List Cond) (s : Targets) → ops_run (next_target set atoms) (λ s c. target_ops set c) s cs ≡ flat_map (target_ops set) cs
  run_ops [] s = refl
  run_ops (c ∷ cs) s = ap (λ os. target_ops set c ++ os) (run_ops cs (next_target set atoms s c))

  -- ---- a leaf of the goal, and its target
  pub record Tells (c : Cond) (l : spec.Leaf) (t : Target) (reads : List ℕ) : Type 0 where
    pub row : literal_row (over_atoms set atoms) l ≡ row_in t
    pub comparison : cons_option (comparison_row l) [] ≡ cmps_in t
    pub reads_are : (i : ℕ) → is_in i (reads_in reads t) ≡ is_in i (missing_of set (leaf_reads l))

  settled_tells : (c : Cond) (b : Bool) (reads : List ℕ) → Tells c (goal_leaf (settled b)) (goal.settled b) reads
  settled_tells c true reads = record { row = refl; comparison = refl; reads_are = λ i. refl }
  settled_tells c false reads = record { row = refl; comparison = refl; reads_are = λ i. refl }

  fails_tells : (c : Cond) (reads : List ℕ) → Tells c (goal_leaf fails) target.Fails reads
  fails_tells c reads = record { row = refl; comparison = refl; reads_are = λ i. refl }

  atom_tells : (c : Cond) (b sign t : Bool) (k : Named) (reads : List ℕ) → Tells c (goal_leaf (cond b (literal (atom k) sign) (settled t))) (cond b (target.Literal (number_in same atoms k) sign) (goal.settled t)) reads
  atom_tells c true sign t k reads = record { row = ap (λ n. Some (n, sign)) (place_is set atoms [] atoms k); comparison = refl; reads_are = λ i. refl }
  atom_tells c false sign t k reads = settled_tells c t reads

  both_settled : (c : Cond) (b : Bool) (reads : List ℕ) → Tells c (goal_leaf (settled b)) (goal.compared (comparison_made (settled b))) reads
  both_settled c true reads = settled_tells c true reads
  both_settled c false reads = settled_tells c false reads

  parts_tell : (c : Cond) (r : Rel) (p q : Part) (reads : List ℕ) → ((i : ℕ) → is_in i reads ≡ is_in i (missing_of set (leaf_reads (compared_parts r p q))))
      → Tells c (goal_leaf (compared_parts r p q)) (goal.compared (comparison_made (compared_parts r (part_from (form_of p)) (part_from (form_of q))))) reads
  parts_tell c r (constant a) (constant b) reads h = both_settled c _ reads
  parts_tell c rel.Lt (constant a) (linear s m) reads h = record { row = refl; comparison = refl; reads_are = h }
  parts_tell c rel.Le (constant a) (linear s m) reads h = record { row = refl; comparison = refl; reads_are = h }
  parts_tell c rel.Eq (constant a) (linear s m) reads h = record { row = refl; comparison = refl; reads_are = h }
  parts_tell c rel.Ge (constant a) (linear s m) reads h = record { row = refl; comparison = refl; reads_are = h }
  parts_tell c rel.Gt (constant a) (linear s m) reads h = record { row = refl; comparison = refl; reads_are = h }
  parts_tell c rel.Lt (linear s l) (constant b) reads h = record { row = refl; comparison = refl; reads_are = h }
  parts_tell c rel.Le (linear s l) (constant b) reads h = record { row = refl; comparison = refl; reads_are = h }
  parts_tell c rel.Eq (linear s l) (constant b) reads h = record { row = refl; comparison = refl; reads_are = h }
  parts_tell c rel.Ge (linear s l) (constant b) reads h = record { row = refl; comparison = refl; reads_are = h }
  parts_tell c rel.Gt (linear s l) (constant b) reads h = record { row = refl; comparison = refl; reads_are = h }
  parts_tell c rel.Lt (linear s l) (linear u m) reads h = record { row = refl; comparison = refl; reads_are = h }
  parts_tell c rel.Le (linear s l) (linear u m) reads h = record { row = refl; comparison = refl; reads_are = h }
  parts_tell c rel.Eq (linear s l) (linear u m) reads h = record { row = refl; comparison = refl; reads_are = h }
  parts_tell c rel.Ge (linear s l) (linear u m) reads h = record { row = refl; comparison = refl; reads_are = h }
  parts_tell c rel.Gt (linear s l) (linear u m) reads h = record { row = refl; comparison = refl; reads_are = h }

  outcomes_tell : (c : Cond) (r : Rel) (a b : Outcome) (m n : List ℕ) → Reads set a m → Reads set b n → is_clear (compared_outcomes r a b) ≡ true
      → Tells c (goal_leaf (compared_outcomes r a b)) (goal.sides_target (sides_made r (part_made a) (part_made b))) (m ++ n)
  outcomes_tell c r ends b m n h i t = fails_tells c (m ++ n)
  outcomes_tell c r bent b m n h i t = absurd (cc)
  outcomes_tell c r (part p) ends m n h i t = fails_tells c (m ++ n)
  outcomes_tell c r (part p) bent m n h i t = absurd (cc)
  outcomes_tell c r (part p) (part q) m n h i t = parts_tell c r p q (m ++ n) (λ j. ap (is_in j) (ap₂ ◌++◌ (h.reads p refl) (i.reads q refl)) ∙ compared_read set [] r p q j)

  -- where a value isn't there, no comparison is
  no_value : (r : Rel) (a b : Outcome) → (is_part a && is_part b) ≡ false → is_clear (compared_outcomes r a b) ≡ true → compared_outcomes r a b ≡ fails
  no_value r ends b h t = refl
  no_value r bent b h t = absurd (cc)
  no_value r (part p) ends h t = refl
  no_value r (part p) bent h t = absurd (cc)
  no_value r (part p) (part q) h t = absurd (cc)

  not_both : (a b c d : Bool) → (a ≡ true → c ≡ true) → (b ≡ true → d ≡ true) → (c && d) ≡ false → (a && b) ≡ false
  not_both false b c d f g h = refl
  not_both true false c d f g h = refl
  not_both true true c d f g h = absurd (let e : (c && d) ≡ true = ap₂ ◌&&◌ (f refl) (g refl) in cc)

  abbrev reads_of_cond : Cond → List ℕ
  reads_of_cond c = condition_reads set [] c

  compare_tells : (r : Rel) (left right : Expr) → is_clear (leaf_of set [] (cond_.Compare r left right)) ≡ true → (b : Bool) → cond_has_values set [] (cond_.Compare r left right) ≡ b
      → Tells (cond_.Compare r left right) (goal_leaf (leaf_of set [] (cond_.Compare r left right)))
      (cond b (goal.sides_target (sides_made r (part_made (work_of set [] left).outcome) (part_made (work_of set [] right).outcome))) target.Fails) (condition_reads set [] (cond_.Compare r left right))
  compare_tells r left right t true e =
      let P : Target → Type 0 = λ x. Tells (cond_.Compare r left right) (goal_leaf (leaf_of set [] (cond_.Compare r left right))) x (condition_reads set [] (cond_.Compare r left right)) in
      subst P (ap₂ (λ a b. goal.sides_target (sides_made r (part_made a) (part_made b))) (sym (work_is set [] left)) (sym (work_is set [] right)))
      (outcomes_tell (cond_.Compare r left right) r (part_of set [] left) (part_of set [] right) _ _ (reads_are set [] left) (reads_are set [] right) t)
  compare_tells r left right t false e =
      let n = no_value r (part_of set [] left) (part_of set [] right)
      (not_both (is_part (part_of set [] left)) (is_part (part_of set [] right)) (has_values set [] left) (has_values set [] right) (part_has set [] left) (part_has set [] right) e) t in
      let P : spec.Leaf → Type 0 = λ l. Tells (cond_.Compare r left right) (goal_leaf l) target.Fails (condition_reads set [] (cond_.Compare r left right)) in
      subst P (sym n) (fails_tells (cond_.Compare r left right) (condition_reads set [] (cond_.Compare r left right)))

  tells : (c : Cond) → is_clear (leaf_of set [] c) ≡ true → Tells c (goal_leaf (leaf_of set [] c)) (target_of set atoms c) (condition_reads set [] c)
  tells (cond_.Lit sign pred terms) t = atom_tells (cond_.Lit sign pred terms) (set.changing_pred pred) sign _ (named pred (objects_of [] terms)) []
  tells (cond_.Same sign left right) t = settled_tells (cond_.Same sign left right) _ []
  tells (cond_.Compare r left right) t = compare_tells r left right t (cond_has_values set [] (cond_.Compare r left right)) refl

  outcomes_ops_are : (r : Rel) (a b : Outcome) → outcomes_ops r a b ≡ goal.sides_target_ops (sides_made r (part_made a) (part_made b))
  outcomes_ops_are r ends b = refl
  outcomes_ops_are r bent b = refl
  outcomes_ops_are r (part p) ends = refl
  outcomes_ops_are r (part p) bent = refl
  outcomes_ops_are r (part p) (part q) = parts_ops_are set atoms [] r p q

  leaf_ops_are : (c : Cond) → target_ops set c ≡ goal_leaf_ops set c
  leaf_ops_are (cond_.Lit sign pred terms) = refl
  leaf_ops_are (cond_.Same sign left right) = refl
  leaf_ops_are (cond_.Compare r left right) =
      ap (λ os. cond (cond_has_values set [] (cond_.Compare r left right)) (sides_ops set [] left right ++ os) [])
      (ap₂ (λ a b. goal.sides_target_ops (sides_made r (part_made a) (part_made b))) (work_is set [] left) (work_is set [] right) ∙ sym (outcomes_ops_are r (part_of set [] left) (part_of set [] right)))

  pub ops_are : (cs : List Cond) → targets_ops set atoms cs ≡ goal_ops set cs
  ops_are cs = run_ops cs no_targets ∙ each cs
    where
      each : (cs : List Cond) → flat_map (target_ops set) cs ≡ flat_map (goal_leaf_ops set) cs
      each [] = refl
      each (c ∷ cs) = ap₂ ◌++◌ (leaf_ops_are c) (each cs)

  -- ---- the lists
  rows_are : (cs : List Cond) → list_all is_clear (map (leaf_of set []) cs) ≡ true → filter_map (λ c. row_in (target_of set atoms c)) cs ≡ filter_map (literal_row (over_atoms set atoms)) (goal_leaves set cs)
  rows_are [] h = refl
  rows_are (c ∷ cs) h = let hs = and_parts (is_clear (leaf_of set [] c)) (list_all is_clear (map (leaf_of set []) cs)) h in ap₂ cons_option (sym (tells c hs.0).row) (rows_are cs hs.1)

  lits_are : (cs : List Cond) → list_all is_clear (map (leaf_of set []) cs) ≡ true → (targets_of set atoms cs).lits ≡ once same_literal (filter_map (literal_row (over_atoms set atoms)) (goal_leaves set cs))
  lits_are cs h = run_lits cs no_targets ∙ once_run same_literal lit_sound same_lit [] (filter_map (λ c. row_in (target_of set atoms c)) cs) ∙ ap (once same_literal) (rows_are cs h)

  cmps_are : (cs : List Cond) → list_all is_clear (map (leaf_of set []) cs) ≡ true → flat_map (λ c. cmps_in (target_of set atoms c)) cs ≡ filter_map comparison_row (goal_leaves set cs)
  cmps_are [] h = refl
  cmps_are (c ∷ cs) h =
      let hs = and_parts (is_clear (leaf_of set [] c)) (list_all is_clear (map (leaf_of set []) cs)) h in
      ap₂ ◌++◌ (sym (tells c hs.0).comparison) (cmps_are cs hs.1) ∙ cons_front set atoms [] (comparison_row (goal_leaf (leaf_of set [] c))) (filter_map comparison_row (goal_leaves set cs))

  reads_same : (cs : List Cond) → list_all is_clear (map (leaf_of set []) cs) ≡ true → (i : ℕ) → is_in i (flat_map (λ c. reads_in (condition_reads set [] c) (target_of set atoms c)) cs) ≡ is_in i (missing_of set (flat_map leaf_reads (goal_leaves set cs)))
  reads_same [] h i = refl
  reads_same (c ∷ cs) h i =
      let hs = and_parts (is_clear (leaf_of set [] c)) (list_all is_clear (map (leaf_of set []) cs)) h in
      in_append set [] i (reads_in (condition_reads set [] c) (target_of set atoms c)) (flat_map (λ c. reads_in (condition_reads set [] c) (target_of set atoms c)) cs)
      ∙ ap₂ ◌||◌ ((tells c hs.0).reads_are i) (reads_same cs hs.1 i)
      ∙ sym (ap (is_in i) (flat-append (if_missing set) (leaf_reads (goal_leaf (leaf_of set [] c))) (flat_map leaf_reads (goal_leaves set cs)))
      ∙ in_append set [] i (missing_of set (leaf_reads (goal_leaf (leaf_of set [] c)))) (missing_of set (flat_map leaf_reads (goal_leaves set cs))))

-- ---- the whole
no_rows : {A B : Type 0} (f : A → Option B) → ((x : A) → f x ≡ None) → (n : ℕ) (xs : List A) → [] ≡ rows_of f n xs
no_rows f h n [] = refl
no_rows f h n (x ∷ xs) = no_rows f h (suc n) xs ∙ ap (λ o. action.with_row n o (rows_of f (suc n) xs)) (sym (h x))

no_numbers : {A : Type 0} (test : A → Bool) → ((x : A) → test x ≡ false) → (n : ℕ) (xs : List A) → [] ≡ numbers_where test n xs
no_numbers test h n [] = refl
no_numbers test h n (x ∷ xs) = no_numbers test h (suc n) xs ∙ ap (λ b. cond b (n ∷ numbers_where test (suc n) xs) (numbers_where test (suc n) xs)) (sym (h x))

module _ (task : TaskParts) (start : PlanState) (atoms funcs : List Named) (own_funcs : AreDistinct funcs) (wanted : List Cond) where
  abbrev the : Setting
  the = setting_from task start atoms funcs

  module _ (numbered : is_numbered the (goal_leaves the wanted) [] ≡ true) (straight : list_all (is_linear_condition the.changing_func) wanted ≡ true) where
    clear : list_all is_clear (map (leaf_of the []) wanted) ≡ true
    clear = goal_clear the [] wanted straight

    reads_numbered : are_numbered the (all_reads (goal_leaves the wanted) []) ≡ true
    reads_numbered = (and_parts _ _ numbered).0

    reads_where : rising (targets_of the atoms wanted).reads ≡ numbers_where (λ k. is_missing the k && is_listed same (all_reads (goal_leaves the wanted) []) k) 0 funcs
    reads_where =
        ap rising (run_reads the atoms wanted no_targets)
        ∙ rising_where (λ k. is_missing the k && is_listed same (all_reads (goal_leaves the wanted) []) k) funcs ns
        (λ k l. same_in k ∙ missing_above the (all_reads (goal_leaves the wanted) []) reads_numbered k l)
        (λ i k e. same_in i ∙ missing_in the own_funcs (all_reads (goal_leaves the wanted) []) reads_numbered i k e)
      where
        ns : List ℕ
        ns = flat_map (λ c. reads_in (condition_reads the [] c) (target_of the atoms c)) wanted

        same_in : (i : ℕ) → is_in i ns ≡ is_in i (missing_of the (all_reads (goal_leaves the wanted) []))
        same_in i = reads_same the atoms wanted clear i ∙ ap (λ l. is_in i (missing_of the l)) (sym (append-nil (flat_map leaf_reads (goal_leaves the wanted))))

    and_none : (b : Bool) → (b && false) ≡ false
    and_none true = refl
    and_none false = refl

    draft_is : targets_draft (targets_of the atoms wanted) ≡ goal_draft_of the atoms wanted
    unfolding goal_draft_of
    draft_is =
        same_draft _ _ _ _ _ _ _ _ _ _ _ _ _ _ _ _
        (lits_are the atoms wanted clear ∙ sym (append-nil (once same_literal (filter_map (literal_row (over_atoms the atoms)) (goal_leaves the wanted))))
        ∙ ap (λ l. once same_literal (filter_map (literal_row (over_atoms the atoms)) (goal_leaves the wanted)) ++ l) (sym (no_reads task start atoms funcs (goal_leaves the wanted) [])))
        (run_cmps the atoms wanted no_targets ∙ cmps_are the atoms wanted clear)
        (sym (where_none (is_added []) atom (λ k. refl) 0 atoms)) (sym (where_none (is_deleted []) atom (λ k. refl) 0 atoms))
        (no_rows (increment_of []) (λ k. refl) 0 funcs) (no_rows (new_value_of the []) (λ k. refl) 0 funcs)
        reads_where (no_numbers (λ k. is_missing the k && list_any (assigns_it k) []) (λ k. and_none (is_missing the k)) 0 funcs)
        (λ lits cmps adds dels incs sets reads assigns. record { action = record { lits = lits; cmps = cmps; adds = adds; dels = dels; incs = incs; sets = sets }; reads = reads; assigns = assigns })

    pub answered : (r : Result Draft LinFail) → AnswersInMemory (targets_ops the atoms wanted) (targets_draft (targets_of the atoms wanted)) r → AnswersInMemory (goal_ops the wanted) (goal_draft_of the atoms wanted) r
    answered r h =
        let P : List Wide → Type 0 = λ ops. AnswersInMemory ops (goal_draft_of the atoms wanted) r in
        let Q : Draft → Type 0 = λ d. AnswersInMemory (targets_ops the atoms wanted) d r in
        subst P (ops_are the atoms wanted) (subst Q draft_is h)

    pub answered_said : (r : Result Draft LinFail) (said : List Cond) → said ≡ wanted → AnswersInMemory (targets_ops the atoms said) (targets_draft (targets_of the atoms said)) r → AnswersInMemory (goal_ops the wanted) (goal_draft_of the atoms wanted) r
    answered_said r said e h = let R : List Cond → Type 0 = λ cs. AnswersInMemory (targets_ops the atoms cs) (targets_draft (targets_of the atoms cs)) r in answered r (subst R e h)
