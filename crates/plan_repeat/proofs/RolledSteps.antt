-- The steps of an instance that rolls: the states, its conditions between two of them, and the run.
use Rattle.std.proofs.Common.{◌≡◌, ℕ, zero, suc, ◌+◌, ◌≤◌, ◌==◌, Bool, true, false, not, cond, ◌&&◌, ◌||◌, List, [], ◌∷◌, map, replicate, Option, Some, None, refl, sym, ap, ap₂, subst, ◌∙◌, arith}
use Rattle.std.specs.Prelude.{bytes_eq, is_some, slice_get, option_and_then}
use Rattle.std.specs.List.{list_any, list_all}
use Rattle.std.specs.Option.{option_map}
use Rattle.std.proofs.lemmas.Bool.{and_parts, eqb-true, eq-eqb}
use lib.IntN.{pos}
use Rattle.algebra.proofs.Solve.{v, k, ◌⊕◌, ◌⊗◌, inv, solve, solve_from, eq, done}
use Rattle.rational.specs.Fraction.{Fraction, whole, ◌+ℚ◌}
use Rattle.rational.proofs.FieldLaws.{fraction-ring}
use Rattle.task_core.proofs.GrowthLaws.{whole-suc}
use Rattle.pddl_task.specs.Linear.{linearity_of, is_linear_condition, is_linear_effect, is_linear_action, IsLinear}
use Rattle.pddl_task.specs.Task.{changes_func, is_changing_func}
use Rattle.pddl_task.specs.declared.action.Action.{Action}
use Rattle.pddl_task.specs.declared.condition.Cond.{Cond}
use Rattle.pddl_task.specs.declared.condition.Cond.TheVariants as cond_
use Rattle.pddl_task.specs.declared.effect.Effect.{Effect}
use Rattle.pddl_task.specs.declared.effect.Effect.TheVariants as effect
use Rattle.pddl_task.specs.declared.effect.NumOp.{NumOp}
use Rattle.pddl_task.specs.declared.effect.NumOp.TheVariants.{Assign, Increase, Decrease, ScaleUp, ScaleDown}
use Rattle.pddl_task.specs.declared.instance.Instance.{Instance}
use Rattle.pddl_task.specs.declared.parts.TaskParts.{TaskParts}
use Rattle.plan_step.specs.State.{PlanState}
use Rattle.plan_step.specs.Meaning.{objects_of, Change, put, change, adds_up, has_target, amount, change_of, puts, truth_after, changed_by, value_after, value_of, compares, signed, holds, all_hold, HasStep, Run, ended, stepped}
use Rattle.plan_step.specs.Order.{related}
use Rattle.plan_repeat.specs.Rolling.{is_even, keeps, literal_holds, amount_of, growth, IsRollable, rolled}
use Rattle.plan_repeat.proofs.Even.{moved, OnLine, behaves, not_true}
use Rattle.plan_repeat.proofs.Between.{compares-between}

-- ---- truths: more of the same changes change nothing
again : (a d t : Bool) → (a || ((a || (t && not d)) && not d)) ≡ (a || (t && not d))
again true d t = refl
again false true true = refl
again false true false = refl
again false false true = refl
again false false false = refl

pub truth_again : (changes : List Change) (truth : ℕ → List ℕ → Bool) (p : ℕ) (args : List ℕ) → truth_after changes (truth_after changes truth) p args ≡ truth_after changes truth p args
truth_again changes truth p args = again (list_any (puts true p args) changes) (list_any (puts false p args) changes) (truth p args)

-- ---- changes that are sums, of changing functions
abbrev pub is_sum : Change → Bool
is_sum (put sign p args) = true
is_sum (change op f args by) = adds_up op

abbrev pub is_changed : (ℕ → Bool) → Change → Bool
is_changed changing (put sign p args) = true
is_changed changing (change op f args by) = changing f

changed_sum : (op : NumOp) (by rest : Fraction) (o : Option Fraction) → adds_up op ≡ true
    → option_map (λ x. x +ℚ rest) (changed_by op by o) ≡ option_map (λ x. x +ℚ (amount_of op by +ℚ rest)) o
changed_sum Assign by rest o h = absurd (cc)
changed_sum ScaleUp by rest o h = absurd (cc)
changed_sum ScaleDown by rest o h = absurd (cc)
changed_sum Increase by rest None h = refl
changed_sum Increase by rest (Some x) h = ap Some (solve fraction-ring (v 0 ⊕ v 1 ⊕ v 2) (v 0 ⊕ (v 1 ⊕ v 2)) (x ∷ by ∷ rest ∷ []) refl)
changed_sum Decrease by rest None h = refl
changed_sum Decrease by rest (Some x) h = ap Some (solve fraction-ring (v 0 ⊕ inv (v 1) ⊕ v 2) (v 0 ⊕ (inv (v 1) ⊕ v 2)) (x ∷ by ∷ rest ∷ []) refl)

no_more : (o : Option Fraction) → o ≡ option_map (λ x. x +ℚ whole (pos 0)) o
no_more None = refl
no_more (Some x) = ap Some (solve fraction-ring (v 0) (v 0 ⊕ k (pos 0)) (x ∷ []) refl)

module _ (f : ℕ) (args : List ℕ) where
  after-more : (b : Bool) (op : NumOp) (by rest : Fraction) (more : List Change) (o : Option Fraction) → adds_up op ≡ true → rest ≡ growth more f args
      → ((u : Option Fraction) → value_after more f args u ≡ option_map (λ x. x +ℚ growth more f args) u)
      → cond b (value_after more f args (changed_by op by o)) (value_after more f args o) ≡ option_map (λ x. x +ℚ cond b (amount_of op by +ℚ growth more f args) (growth more f args)) o
  after-more true op by rest more o h e ih = ih (changed_by op by o) ∙ changed_sum op by (growth more f args) o h
  after-more false op by rest more o h e ih = ih o

  -- sums add up
  pub after-is : (changes : List Change) (o : Option Fraction) → list_all is_sum changes ≡ true → value_after changes f args o ≡ option_map (λ x. x +ℚ growth changes f args) o
  after-is [] o h = no_more o
  after-is (put sign p others ∷ more) o h = after-is more o (and_parts true (list_all is_sum more) h).1
  after-is (change op g others by ∷ more) o h =
      let b = and_parts (adds_up op) (list_all is_sum more) h in
      after-more (g == f && bytes_eq others args) op by (growth more f args) more o b.0 refl (λ u. after-is more u b.1)

  unchanged : (changing : ℕ → Bool) (g : ℕ) (b rest : Bool) (x y : Fraction) → (g == f) ≡ b → changing g ≡ true → changing f ≡ false → y ≡ whole (pos 0) → cond (b && rest) x y ≡ whole (pos 0)
  unchanged changing g true rest x y e h n z = let same : g ≡ f = eqb-true g f e in let never : true ≡ false = sym h ∙ ap changing same ∙ n in absurd (cc)
  unchanged changing g false rest x y e h n z = z

  -- a function that doesn't change doesn't grow
  pub growth-none : (changing : ℕ → Bool) (changes : List Change) → list_all (is_changed changing) changes ≡ true → changing f ≡ false → growth changes f args ≡ whole (pos 0)
  growth-none changing [] h n = refl
  growth-none changing (put sign p others ∷ more) h n = growth-none changing more (and_parts true (list_all (is_changed changing) more) h).1 n
  growth-none changing (change op g others by ∷ more) h n =
      let b = and_parts (changing g) (list_all (is_changed changing) more) h in
      unchanged changing g (g == f) (bytes_eq others args) (amount_of op by +ℚ growth more f args) (growth more f args) refl b.0 n (growth-none changing more b.1 n)

-- ---- the changes of leaves
some_of : {A : Type 0} (a b : A) → Some a ≡ Some b → a ≡ b
some_of a b e = cc

change_is : (op : NumOp) (f : ℕ) (args : List ℕ) (b : Bool) (o : Option Fraction) (c : Change) → cond b (option_map (change op f args) o) None ≡ Some c → (x : Fraction) × (c ≡ change op f args x)
change_is op f args true None c e = absurd (cc)
change_is op f args true (Some x) c e = (x, sym (some_of (change op f args x) c e))
change_is op f args false o c e = absurd (cc)

module _ (changing : ℕ → Bool) (s : PlanState) (args : List ℕ) where
  leaf-sum : (e : Effect) (c : Change) → change_of s args e ≡ Some c → is_even changing e ≡ true → is_sum c ≡ true
  leaf-sum (effect.Put sign p terms) c is h = ap is_sum (sym (some_of (put sign p (objects_of args terms)) c is))
  leaf-sum (effect.Change op f terms by) c is h =
      let x = change_is op f (objects_of args terms) (has_target op (s.value f (objects_of args terms))) (option_and_then (amount op) (value_of s args by)) c is in
      ap is_sum x.1 ∙ (and_parts (adds_up op) (not (linearity_of changing by).reads) h).0

  abbrev is_target : Effect → Bool
  is_target (effect.Put sign p terms) = true
  is_target (effect.Change op f terms by) = changing f

  leaf-changed : (e : Effect) (c : Change) → change_of s args e ≡ Some c → is_target e ≡ true → is_changed changing c ≡ true
  leaf-changed (effect.Put sign p terms) c is h = ap (is_changed changing) (sym (some_of (put sign p (objects_of args terms)) c is))
  leaf-changed (effect.Change op f terms by) c is h =
      let x = change_is op f (objects_of args terms) (has_target op (s.value f (objects_of args terms))) (option_and_then (amount op) (value_of s args by)) c is in
      ap (is_changed changing) x.1 ∙ h

  head-tail : {A : Type 0} (a b : A) (us ws : List A) → a ∷ us ≡ b ∷ ws → (a ≡ b) × (us ≡ ws)
  head-tail a b us ws e = (cc, cc)

  both_true : (a b : Bool) → a ≡ true → b ≡ true → (a && b) ≡ true
  both_true true b h e = e
  both_true false b h e = absurd (cc)

  pub all-sums : (effs : List Effect) (changes : List Change) → map (change_of s args) effs ≡ map Some changes → list_all (is_even changing) effs ≡ true → list_all is_sum changes ≡ true
  all-sums [] [] is h = refl
  all-sums [] (c ∷ changes) is h = absurd (cc)
  all-sums (e ∷ effs) [] is h = absurd (cc)
  all-sums (e ∷ effs) (c ∷ changes) is h =
      let p = head-tail (change_of s args e) (Some c) (map (change_of s args) effs) (map Some changes) is in
      let b = and_parts (is_even changing e) (list_all (is_even changing) effs) h in
      both_true (is_sum c) (list_all is_sum changes) (leaf-sum e c p.0 b.0) (all-sums effs changes p.1 b.1)

  pub all-changed : (effs : List Effect) (changes : List Change) → map (change_of s args) effs ≡ map Some changes → list_all is_target effs ≡ true → list_all (is_changed changing) changes ≡ true
  all-changed [] [] is h = refl
  all-changed [] (c ∷ changes) is h = absurd (cc)
  all-changed (e ∷ effs) [] is h = absurd (cc)
  all-changed (e ∷ effs) (c ∷ changes) is h =
      let p = head-tail (change_of s args e) (Some c) (map (change_of s args) effs) (map Some changes) is in
      let b = and_parts (is_target e) (list_all is_target effs) h in
      both_true (is_changed changing c) (list_all (is_changed changing) changes) (leaf-changed e c p.0 b.0) (all-changed effs changes p.1 b.1)

-- ---- the states
whole-zero : (o : Option Fraction) (d : Fraction) → o ≡ moved 0 d o
whole-zero None d = refl
whole-zero (Some x) d = ap Some (solve fraction-ring (v 0) (v 0 ⊕ k (pos 0) ⊗ v 1) (x ∷ d ∷ []) refl)

pub none-moved : (n : ℕ) (o : Option Fraction) (d : Fraction) → d ≡ whole (pos 0) → moved n d o ≡ o
none-moved n None d e = refl
none-moved n (Some x) d e = ap Some (solve_from fraction-ring (v 0 ⊕ v 1 ⊗ v 2) (v 0) (x ∷ whole (pos n) ∷ d ∷ []) (eq (v 1) (v 2) (k (pos 0)) e done) refl)

next-moved : (n : ℕ) (d : Fraction) (o : Option Fraction) → moved (suc n) d o ≡ option_map (λ x. x +ℚ d) (moved n d o)
next-moved n d None = refl
next-moved n d (Some x) =
    ap Some (solve_from fraction-ring (v 0 ⊕ v 3 ⊗ v 1) (v 0 ⊕ v 2 ⊗ v 1 ⊕ v 1) (x ∷ d ∷ whole (pos n) ∷ whole (pos (suc n)) ∷ [])
    (eq (v 1) (v 3) (v 2 ⊕ k (pos 1)) (whole-suc n) done) refl)

moved-some : (n : ℕ) (d : Fraction) (o : Option Fraction) → is_some (moved n d o) ≡ is_some o
moved-some n d None = refl
moved-some n d (Some x) = refl

module _ (changes : List Change) (s : PlanState) where
  pub value-is : (n f : ℕ) (args : List ℕ) → (rolled changes s n).value f args ≡ moved n (growth changes f args) (s.value f args)
  value-is zero f args = whole-zero (s.value f args) (growth changes f args)
  value-is (suc n) f args = refl

  pub grows : (f : ℕ) (args : List ℕ) → OnLine (s.value f args) (λ n. (rolled changes s n).value f args)
  grows f args = record { by = growth changes f args; is = λ n. value-is n f args }

  pub next-truth : (n p : ℕ) (args : List ℕ) → (rolled changes s (suc n)).truth p args ≡ truth_after changes (rolled changes s n).truth p args
  next-truth zero p args = refl
  next-truth (suc n) p args = sym (truth_again changes s.truth p args)

  pub next-value : list_all is_sum changes ≡ true → (n f : ℕ) (args : List ℕ) → (rolled changes s (suc n)).value f args ≡ value_after changes f args ((rolled changes s n).value f args)
  next-value sums n f args =
      next-moved n (growth changes f args) (s.value f args)
      ∙ sym (ap (option_map (λ x. x +ℚ growth changes f args)) (value-is n f args))
      ∙ sym (after-is f args changes ((rolled changes s n).value f args) sums)

-- ---- a literal that holds before the changes holds after them
kept : (sign : Bool) (a d t : Bool) → signed sign t ≡ true → signed sign (a || (sign && not d)) ≡ true → signed sign (a || (t && not d)) ≡ true
kept true a d true h g = g
kept true a d false h g = absurd (cc)
kept false a d true h g = absurd (cc)
kept false a d false h g = g

module _ (task : TaskParts) (s t : PlanState) (by : Instance) (h : HasStep task s by t) (linear : IsLinear task) (r : IsRollable task h.action by.args h.changes) where
  abbrev changing : ℕ → Bool
  changing f = is_changing_func task.actions f

  abbrev at : ℕ → PlanState
  at n = rolled h.changes s n

  -- every function that an action of the task changes is a changing one
  in_any : (f : ℕ) (e : Effect) (effs : List Effect) → list_any (changes_func f) (e ∷ effs) ≡ (changes_func f e || list_any (changes_func f) effs)
  in_any f e effs = refl

  any-left : (a b : Bool) → a ≡ true → (a || b) ≡ true
  any-left true b e = refl
  any-left false b e = absurd (cc)

  any-right : (a b : Bool) → b ≡ true → (a || b) ≡ true
  any-right true b e = refl
  any-right false b e = e

  any_of : (f : ℕ) (actions : List Action) (i : ℕ) (a : Action) → slice_get actions i ≡ Some a → list_any (changes_func f) a.effs ≡ true → is_changing_func actions f ≡ true
  any_of f [] i a is e = absurd (cc)
  any_of f (b ∷ actions) zero a is e =
      let same : b ≡ a = some_of b a is in
      any-left (list_any (changes_func f) b.effs) (is_changing_func actions f) (ap (λ (c : Action). list_any (changes_func f) c.effs) same ∙ e)
  any_of f (b ∷ actions) (suc i) a is e = any-right (list_any (changes_func f) b.effs) (is_changing_func actions f) (any_of f actions i a is e)

  own : (f : ℕ) → list_any (changes_func f) h.action.effs ≡ true → changing f ≡ true
  own f e = any_of f task.actions by.action h.action h.of_action.is_action e

  targets : (effs : List Effect) → ((f : ℕ) → list_any (changes_func f) effs ≡ true → changing f ≡ true) → list_all (is_target changing s by.args) effs ≡ true
  targets [] all = refl
  targets (effect.Put sign p terms ∷ effs) all = targets effs (λ f e. all f (any-right false (list_any (changes_func f) effs) e))
  targets (effect.Change op g terms amount ∷ effs) all =
      both_true changing s by.args (changing g) (list_all (is_target changing s by.args) effs)
      (all g (any-left (g == g) (list_any (changes_func g) effs) (eq-eqb g g refl)))
      (targets effs (λ f e. all f (any-right (g == f) (list_any (changes_func f) effs) e)))

  sums : list_all is_sum h.changes ≡ true
  sums = all-sums changing s by.args h.action.effs h.changes h.values r.even

  changed : list_all (is_changed changing) h.changes ≡ true
  changed = all-changed changing s by.args h.action.effs h.changes h.values (targets h.action.effs own)

  stays : (f : ℕ) (others : List ℕ) → changing f ≡ false → (n : ℕ) → (at n).value f others ≡ s.value f others
  stays f others none n =
      value-is h.changes s n f others
      ∙ none-moved n (s.value f others) (growth h.changes f others) (growth-none f others changing h.changes changed none)

  -- ---- the changes are those of the first step
  target-stays : (op : NumOp) (o u : Option Fraction) → is_some o ≡ is_some u → has_target op o ≡ has_target op u
  target-stays Assign o u e = refl
  target-stays Increase o u e = e
  target-stays Decrease o u e = e
  target-stays ScaleUp o u e = e
  target-stays ScaleDown o u e = e

  leaf-stays : (n : ℕ) (e : Effect) → is_even changing e ≡ true → change_of (at n) by.args e ≡ change_of s by.args e
  leaf-stays n (effect.Put sign p terms) even = refl
  leaf-stays n (effect.Change op f terms amount_) even =
      let objs = objects_of by.args terms in
      let none = not_true (linearity_of changing amount_).reads (and_parts (adds_up op) (not (linearity_of changing amount_).reads) even).1 in
      ap₂ (λ (b : Bool) (o : Option Fraction). cond b (option_map (change op f objs) (option_and_then (amount op) o)) None)
      (target-stays op ((at n).value f objs) (s.value f objs) (ap is_some (value-is h.changes s n f objs) ∙ moved-some n (growth h.changes f objs) (s.value f objs)))
      ((behaves changing by.args s at (grows h.changes s) stays amount_).fixed none n)

  leaves-stay : (n : ℕ) (effs : List Effect) → list_all (is_even changing) effs ≡ true → map (change_of (at n) by.args) effs ≡ map (change_of s by.args) effs
  leaves-stay n [] even = refl
  leaves-stay n (e ∷ effs) even =
      let b = and_parts (is_even changing e) (list_all (is_even changing) effs) even in
      ap₂ (λ (c : Option Change) (cs : List (Option Change)). c ∷ cs) (leaf-stays n e b.0) (leaves-stay n effs b.1)

  -- where the conditions hold after n steps, there is one more
  pub next-step : (n : ℕ) → all_hold (at n) by.args h.action.conds ≡ true → HasStep task (at n) by (at (suc n))
  next-step n conditions = record {
    action = h.action;
    of_action = h.of_action;
    conditions = conditions;
    changes = h.changes;
    values = leaves-stay n h.action.effs r.even ∙ h.values;
    clean = h.clean;
    truth = next-truth h.changes s n;
    value = next-value h.changes s sums n;
  }

  -- ---- conditions between
  linear-conds : (conds : List Cond) → Type 0
  linear-conds conds = list_all (is_linear_condition changing) conds ≡ true

  leaf-between : (m n : ℕ) → m ≤ n → (c : Cond) → is_linear_condition changing c ≡ true → keeps h.changes by.args c ≡ true
      → holds s by.args c ≡ true → holds (at n) by.args c ≡ true → holds (at m) by.args c ≡ true
  leaf-between zero n l (cond_.Lit sign p terms) lin kp first last = first
  leaf-between (suc m) n l (cond_.Lit sign p terms) lin kp first last =
      kept sign (list_any (puts true p (objects_of by.args terms)) h.changes) (list_any (puts false p (objects_of by.args terms)) h.changes) (s.truth p (objects_of by.args terms)) first kp
  leaf-between m n l (cond_.Same sign left right) lin kp first last = first
  leaf-between m n l (cond_.Compare rel left right) lin kp first last =
      let both = and_parts (linearity_of changing left).linear (linearity_of changing right).linear lin in
      let x = (behaves changing by.args s at (grows h.changes s) stays left).line both.0 in
      let y = (behaves changing by.args s at (grows h.changes s) stays right).line both.1 in
      let o = value_of s by.args left in
      let u = value_of s by.args right in
      ap₂ (compares (related rel)) (x.is m) (y.is m)
      ∙ compares-between rel o u x.by y.by m n l first (sym (ap₂ (compares (related rel)) (x.is n) (y.is n)) ∙ last)

  leaves-between : (m n : ℕ) → m ≤ n → (conds : List Cond) → list_all (is_linear_condition changing) conds ≡ true → list_all (keeps h.changes by.args) conds ≡ true
      → all_hold s by.args conds ≡ true → all_hold (at n) by.args conds ≡ true → all_hold (at m) by.args conds ≡ true
  leaves-between m n l [] lin kp first last = refl
  leaves-between m n l (c ∷ conds) lin kp first last =
      let a = and_parts (is_linear_condition changing c) (list_all (is_linear_condition changing) conds) lin in
      let b = and_parts (keeps h.changes by.args c) (list_all (keeps h.changes by.args) conds) kp in
      let f = and_parts (holds s by.args c) (all_hold s by.args conds) first in
      let g = and_parts (holds (at n) by.args c) (all_hold (at n) by.args conds) last in
      both_true changing s by.args (holds (at m) by.args c) (all_hold (at m) by.args conds) (leaf-between m n l c a.0 b.0 f.0 g.0) (leaves-between m n l conds a.1 b.1 f.1 g.1)

  action_of : (actions : List Action) (i : ℕ) (a : Action) → slice_get actions i ≡ Some a → list_all (is_linear_action changing) actions ≡ true → is_linear_action changing a ≡ true
  action_of [] i a is e = absurd (cc)
  action_of (b ∷ actions) zero a is e =
      let same : b ≡ a = some_of b a is in
      sym (ap (is_linear_action changing) same) ∙ (and_parts (is_linear_action changing b) (list_all (is_linear_action changing) actions) e).0
  action_of (b ∷ actions) (suc i) a is e = action_of actions i a is (and_parts (is_linear_action changing b) (list_all (is_linear_action changing) actions) e).1

  own-linear : list_all (is_linear_condition changing) h.action.conds ≡ true
  own-linear =
      (and_parts (list_all (is_linear_condition changing) h.action.conds) (list_all (is_linear_effect changing) h.action.effs)
      (action_of task.actions by.action h.action h.of_action.is_action linear.actions)).0

  -- what holds at the first and after n steps holds between
  pub hold-between : (m n : ℕ) → m ≤ n → all_hold (at n) by.args h.action.conds ≡ true → all_hold (at m) by.args h.action.conds ≡ true
  hold-between m n l last = leaves-between m n l h.action.conds own-linear r.keeps_literals h.conditions last

  -- ---- the run
  runs-from : (j i n : ℕ) → i + j ≡ n → ((m : ℕ) → suc m ≤ n → HasStep task (at m) by (at (suc m))) → Run task (at i) (replicate j by) (at n)
  runs-from zero i n e steps =
      let same : i ≡ n = omega arith in
      subst (λ (m : ℕ). Run task (at i) [] (at m)) same (ended (record { truth = λ p args. refl; value = λ f args. refl }))
  runs-from (suc j) i n e steps = stepped (steps i (omega arith)) (runs-from j (suc i) n (omega arith) steps)

  -- so many steps where the conditions hold before the last
  pub rolled-run : (n : ℕ) → all_hold (at n) by.args h.action.conds ≡ true → Run task s (replicate (suc n) by) (at (suc n))
  rolled-run n last = runs-from (suc n) 0 (suc n) (omega arith) (λ m l. next-step m (hold-between m n (omega arith) last))

-- ---- the state after a step tells whether literals stay
told : (sign a d x y : Bool) → signed sign x ≡ true → y ≡ (a || (x && not d)) → signed sign y ≡ signed sign (a || (sign && not d))
told true a d true y h e = e
told true a d false y h e = absurd (cc)
told false a d true y h e = absurd (cc)
told false a d false y h e = ap not e

module _ (task : TaskParts) (s t : PlanState) (by : Instance) (h : HasStep task s by t) where
  leaf-told : (c : Cond) → holds s by.args c ≡ true → literal_holds t by.args c ≡ keeps h.changes by.args c
  leaf-told (cond_.Lit sign p terms) first =
      told sign (list_any (puts true p (objects_of by.args terms)) h.changes) (list_any (puts false p (objects_of by.args terms)) h.changes) (s.truth p (objects_of by.args terms)) (t.truth p (objects_of by.args terms)) first
      (h.truth p (objects_of by.args terms))
  leaf-told (cond_.Same sign left right) first = refl
  leaf-told (cond_.Compare rel left right) first = refl

  leaves-told : (conds : List Cond) → all_hold s by.args conds ≡ true → list_all (literal_holds t by.args) conds ≡ list_all (keeps h.changes by.args) conds
  leaves-told [] first = refl
  leaves-told (c ∷ conds) first =
      let b = and_parts (holds s by.args c) (all_hold s by.args conds) first in
      ap₂ (λ (x y : Bool). x && y) (leaf-told c b.0) (leaves-told conds b.1)

  pub literals-told : list_all (literal_holds t by.args) h.action.conds ≡ list_all (keeps h.changes by.args) h.action.conds
  literals-told = leaves-told h.action.conds h.conditions
