-- An instance rolls by its effects and changes exactly where its moves and leaves say so; and that is where its ground action does.
use Rattle.std.proofs.Common.{◌≡◌, ℕ, Bool, true, false, not, cond, ◌&&◌, ◌||◌, List, [], ◌∷◌, map, Option, Some, None, slice_get, refl, sym, ap, ap₂, subst, ◌∙◌}
use Rattle.std.specs.Prelude.{◌↔◌, bytes_eq}
use Rattle.std.specs.Option.{option_map}
use Rattle.std.specs.List.{list_all, list_any, filter_map, flat_map}
use Rattle.std.proofs.lemmas.Bool.{and_parts, and_from}
use Rattle.std.proofs.lemmas.Option.{slice_get-map, get_or_from_slice_get}
use Rattle.std.proofs.lemmas.List.Folds.{list_all-append}
use lib.IntN.{pos}
use Rattle.rational.specs.Fraction.{Fraction, whole}
use Rattle.pddl_task.specs.Linear.{IsLinear, linearity_of}
use Rattle.pddl_task.specs.Task.{changes_pred, is_changing_pred, is_changing_func}
use Rattle.pddl_task.specs.declared.action.Action.{Action}
use Rattle.pddl_task.specs.declared.condition.Cond.{Cond}
use Rattle.pddl_task.specs.declared.condition.Cond.TheVariants as cond_
use Rattle.pddl_task.specs.declared.effect.Effect.{Effect}
use Rattle.pddl_task.specs.declared.effect.Effect.TheVariants as effect
use Rattle.pddl_task.specs.declared.effect.NumOp.{NumOp}
use Rattle.pddl_task.specs.declared.effect.NumOp.TheVariants.{Assign, Increase, Decrease, ScaleUp, ScaleDown}
use Rattle.pddl_task.specs.declared.parts.TaskParts.{TaskParts}
use Rattle.plan_step.specs.State.{PlanState}
use Rattle.plan_step.specs.Meaning.{objects_of, Change, put, change, puts, adds_up, has_target, amount, change_of, signed, value_of as expression_value, HasStep}
use Rattle.std.specs.Prelude.{option_and_then}
use Rattle.plan_repeat.specs.Rolling.{is_even, keeps, growth, IsRollable}
use Rattle.task_core.specs.State.{State}
use Rattle.task_core.specs.Step.{is_rollable}
use Rattle.task_core.specs.Task.{action_at}
use Rattle.ground_numbers.specs.declared.named.Named.{Named}
use Rattle.ground_numbers.specs.Numbers.{named, same, is_listed}
use Rattle.ground_action.specs.Setting.{Setting, atom, are_numbered}
use Rattle.ground_action.specs.Agrees.{Fits, Agrees}
use Rattle.ground_action.specs.Parts.{Part, constant, linear, Outcome, ends, bent, part, part_of, is_zero}
use Rattle.ground_action.specs.Leaves.{literal, settled, compared_outcomes, compared_parts, leaf_of, leaf_reads, scale_down, Move, acts, MoveOutcome, move_ends, move_bent, move, moved, moved_by, move_of, move_reads}
use Rattle.ground_action.specs.GroundAction.{fold_acts, sum_act, is_constant, puts_it, move_in, leaves_of, moves_of, ground_action, is_kept, may_move}
use Rattle.ground_action.specs.Rolls.{steps_only, leaf_stays, rolls}
use Rattle.ground_action.proofs.Tests.{zero_true, zero_q, known}
use Rattle.ground_action.proofs.ListLaws.{all-filter_map, passes}
use Rattle.ground_action.proofs.LinearLaws.{Fitting, fits_line}
use Rattle.ground_action.proofs.LeafLaws.{change_in, MoveMeans, move_means}
use Rattle.ground_action.proofs.EffectLaws.{puts-any}
use Rattle.ground_action.proofs.StepLaws.{keyed}
use Rattle.ground_action.proofs.FitsLaws.{none_at}
use Rattle.ground_action.proofs.TaskLaws.{kept_unnumbered, rollable_is}
use Rattle.ground_walk.specs.Walk.{Kept, kept_instances, atoms_of, funcs_of}
use Rattle.ground_walk.proofs.NumberLaws.{kept_numbered}
use Rattle.ground_laws.specs.Result.{numbered, action_in, task_from}
use Rattle.ground_laws.specs.Laws.{instance_of, IsSeenAs}
use Rattle.ground_laws.proofs.Standing.{kept_is, kept_instance}
use Rattle.ground_exact.proofs.Amounts.{growth_is, some_sum, sum_of}

if_some : (b : Bool) (c d : Change) → Some c ≡ cond b (Some d) None → c ≡ d
if_some true c d e = cc
if_some false c d e = absurd (cc)

-- ---- what a change that isn't of an atom puts
not_of_atom : (w : Bool) (pred : ℕ) (objects : List ℕ) (op : NumOp) (f : ℕ) (others : List ℕ) (b : Bool) (o : Option Fraction) (c : Change) → cond b (option_map (change op f others) o) None ≡ Some c → puts w pred objects c ≡ false
not_of_atom w pred objects op f others true (Some x) c e = let is : change op f others x ≡ c = cc in ap (puts w pred objects) (sym is)
not_of_atom w pred objects op f others true None c e = absurd (cc)
not_of_atom w pred objects op f others false o c e = absurd (cc)

and_false : (b : Bool) → (b && false) ≡ false
and_false true = refl
and_false false = refl

or_parts : (a b : Bool) → (a || b) ≡ false → (a ≡ false) × (b ≡ false)
or_parts true b h = absurd (cc)
or_parts false b h = (refl, h)

-- an atom that no effect names isn't put
none_put : (s : PlanState) (args : List ℕ) (w : Bool) (pred : ℕ) (objects : List ℕ) (es : List Effect) (cs : List Change) → map (change_of s args) es ≡ map Some cs → list_any (changes_pred pred) es ≡ false
    → list_any (puts w pred objects) cs ≡ false
none_put s args w pred objects [] [] values static = refl
none_put s args w pred objects [] (c ∷ cs) values static = absurd (cc)
none_put s args w pred objects (e ∷ es) [] values static = absurd (cc)
none_put s args w pred objects (e ∷ es) (c ∷ cs) values static =
    let first : change_of s args e ≡ Some c = cc in
    let rest : map (change_of s args) es ≡ map Some cs = cc in
    let parts = or_parts (changes_pred pred e) (list_any (changes_pred pred) es) static in
    ap₂ ◌||◌ (here e first parts.0) (none_put s args w pred objects es cs rest parts.1)
  where
    here : (e : Effect) → change_of s args e ≡ Some c → changes_pred pred e ≡ false → puts w pred objects c ≡ false
    here (effect.Put sign q terms) first other =
        let is : put sign q (objects_of args terms) ≡ c = cc in
        ap (puts w pred objects) (sym is) ∙ ap (λ t. cond w sign (not sign) && (t && bytes_eq (objects_of args terms) objects)) other ∙ and_false (cond w sign (not sign))
    here (effect.Change op f terms by) first other =
        not_of_atom w pred objects op f (objects_of args terms) (has_target op (s.value f (objects_of args terms))) (option_and_then (amount op) (expression_value s args by)) c first

-- ---- an act is a step where the effect is even
module _ (set : Setting) (args : List ℕ) where
  stepped_by : (op : NumOp) (it : Named) (p : Part) → may_move (moved op it p) ≡ true → (adds_up op && is_constant p) ≡ passes steps_only (move_in (moved op it p))
  stepped_by Assign it p h = refl
  stepped_by Increase it p h = refl
  stepped_by Decrease it p h = refl
  stepped_by ScaleUp it (constant a) h = refl
  stepped_by ScaleUp it (linear r l) h = absurd (cc)
  stepped_by ScaleDown it (constant a) h = by (is_zero a) h
    where
      by : (b : Bool) → may_move (cond b move_ends (move (acts it (scale_down a)))) ≡ true → false ≡ passes steps_only (move_in (cond b move_ends (move (acts it (scale_down a)))))
      by true g = absurd (cc)
      by false g = refl
  stepped_by ScaleDown it (linear r l) h = absurd (cc)

  not_not : (b : Bool) → not (not b) ≡ b
  not_not true = refl
  not_not false = refl

  even_by : (op : NumOp) (it : Named) (o : Outcome) (by : _) → Fitting o (linearity_of set.changing_func by) → may_move (moved_by op it o) ≡ true
      → (adds_up op && not (linearity_of set.changing_func by).reads) ≡ passes steps_only (move_in (moved_by op it o))
  even_by op it ends by fit h = absurd (cc)
  even_by op it bent by fit h = absurd (cc)
  even_by op it (part p) by fit h = ap (λ t. adds_up op && t) (ap not fit ∙ not_not (is_constant p)) ∙ stepped_by op it p h

  even_is : (e : Effect) → may_move (move_of set args e) ≡ true → is_even set.changing_func e ≡ passes steps_only (move_in (move_of set args e))
  even_is (effect.Put sign pred terms) h = refl
  even_is (effect.Change op f terms by) h = even_by op (named f (objects_of args terms)) (part_of set args by) by (fits_line set args by) h

  each_even : (es : List Effect) → list_all may_move (map (move_of set args) es) ≡ true → list_all (is_even set.changing_func) es ≡ list_all (λ x. passes steps_only (move_in x)) (map (move_of set args) es)
  each_even [] h = refl
  each_even (e ∷ es) h = let hs = and_parts (may_move (move_of set args e)) (list_all may_move (map (move_of set args) es)) h in ap₂ ◌&&◌ (even_is e hs.0) (each_even es hs.1)

  -- each effect is even where each move is a step
  all_even : (es : List Effect) → list_all may_move (map (move_of set args) es) ≡ true → list_all (is_even set.changing_func) es ≡ list_all steps_only (filter_map move_in (map (move_of set args) es))
  all_even es h = each_even es h ∙ sym (all-filter_map steps_only move_in (map (move_of set args) es))

  -- ---- the changes are those of the moves
  module _ (s : PlanState) (g : State) (fits : Fits set s) (agrees : Agrees set s g) where
    changes_are : (es : List Effect) (cs : List Change) → list_all may_move (map (move_of set args) es) ≡ true → are_numbered set (flat_map move_reads (filter_map move_in (map (move_of set args) es))) ≡ true
        → map (change_of s args) es ≡ map Some cs → cs ≡ map (change_in g.value) (filter_map move_in (map (move_of set args) es))
    changes_are [] [] may n h = refl
    changes_are [] (c ∷ cs) may n h = absurd (cc)
    changes_are (e ∷ es) [] may n h = absurd (cc)
    changes_are (e ∷ es) (c ∷ cs) may n h =
        let first : change_of s args e ≡ Some c = cc in
        let rest : map (change_of s args) es ≡ map Some cs = cc in
        let ms = and_parts (may_move (move_of set args e)) (list_all may_move (map (move_of set args) es)) may in
        by_move (move_of set args e) ms.0 (subst (λ (o : Option Change). MoveMeans s g.value set (move_of set args e) o) first (move_means s g.value set fits (keyed set s g fits agrees) args e)) n
        (λ m. changes_are es cs ms.1 m rest)
      where
        by_move : (m : MoveOutcome) → may_move m ≡ true → MoveMeans s g.value set m (Some c) → are_numbered set (flat_map move_reads (filter_map move_in (m ∷ map (move_of set args) es))) ≡ true
            → (are_numbered set (flat_map move_reads (filter_map move_in (map (move_of set args) es))) ≡ true → cs ≡ map (change_in g.value) (filter_map move_in (map (move_of set args) es)))
            → c ∷ cs ≡ map (change_in g.value) (filter_map move_in (m ∷ map (move_of set args) es))
        by_move move_ends may means n ih = absurd (cc)
        by_move move_bent may means n ih = absurd (cc)
        by_move (move x) may means n ih =
            let later = flat_map move_reads (filter_map move_in (map (move_of set args) es)) in
            let ns = and_parts _ _ (sym (list_all-append (is_listed same set.funcs) (move_reads x) later) ∙ n) in
            ap₂ (λ (a : Change) (b : List Change). a ∷ b) (if_some (known s (move_reads x)) c (change_in g.value x) (means ns.0)) (ih ns.1)

-- ---- a literal stays where its leaf does
stays_true : (a d : Bool) → (a || (true && not d)) ≡ not (d && not a)
stays_true true true = refl
stays_true true false = refl
stays_true false true = refl
stays_true false false = refl

stays_false : (a d : Bool) → not (a || (false && not d)) ≡ not a
stays_false true d = refl
stays_false false d = refl

itself : (sign : Bool) → signed sign (false || (sign && not false)) ≡ true
itself true = refl
itself false = refl

module _ (set : Setting) (args : List ℕ) (cs : List Change) (moves : List Move) (at : ℕ → Fraction) (are : cs ≡ map (change_in at) moves)
    (none : (w : Bool) (pred : ℕ) (objects : List ℕ) → set.changing_pred pred ≡ false → list_any (puts w pred objects) cs ≡ false) where
  put_is : (w : Bool) (pred : ℕ) (objects : List ℕ) → list_any (puts w pred objects) cs ≡ list_any (puts_it w (named pred objects)) moves
  put_is w pred objects = ap (list_any (puts w pred objects)) are ∙ puts-any at w pred objects moves

  literal_stays : (sign : Bool) (pred : ℕ) (objects : List ℕ)
      → signed sign (list_any (puts true pred objects) cs || (sign && not (list_any (puts false pred objects) cs))) ≡ leaf_stays moves (literal (atom (named pred objects)) sign)
  literal_stays true pred objects = ap₂ (λ a d. a || (true && not d)) (put_is true pred objects) (put_is false pred objects) ∙ stays_true (list_any (puts_it true (named pred objects)) moves) (list_any (puts_it false (named pred objects)) moves)
  literal_stays false pred objects = ap₂ (λ a d. not (a || (false && not d))) (put_is true pred objects) (put_is false pred objects) ∙ stays_false (list_any (puts_it true (named pred objects)) moves) (list_any (puts_it false (named pred objects)) moves)

  settled_stays : (b : Bool) → true ≡ leaf_stays moves (settled b)
  settled_stays true = refl
  settled_stays false = refl

  lit_keeps : (sign : Bool) (pred : ℕ) (objects : List ℕ) (b t : Bool) → set.changing_pred pred ≡ b
      → signed sign (list_any (puts true pred objects) cs || (sign && not (list_any (puts false pred objects) cs))) ≡ leaf_stays moves (cond b (literal (atom (named pred objects)) sign) (settled t))
  lit_keeps sign pred objects true t e = literal_stays sign pred objects
  lit_keeps sign pred objects false t e =
      ap₂ (λ a d. signed sign (a || (sign && not d))) (none true pred objects e) (none false pred objects e) ∙ itself sign ∙ settled_stays t

  parts_stay : (r : _) (p q : Part) → true ≡ leaf_stays moves (compared_parts r p q)
  parts_stay r (constant a) (constant b) = settled_stays _
  parts_stay r (constant a) (linear q m) = refl
  parts_stay r (linear p l) q = refl

  outcomes_stay : (r : _) (a b : Outcome) → true ≡ leaf_stays moves (compared_outcomes r a b)
  outcomes_stay r ends b = refl
  outcomes_stay r bent b = refl
  outcomes_stay r (part p) ends = refl
  outcomes_stay r (part p) bent = refl
  outcomes_stay r (part p) (part q) = parts_stay r p q

  keeps_is : (c : Cond) → keeps cs args c ≡ leaf_stays moves (leaf_of set args c)
  keeps_is (cond_.Lit sign pred terms) = lit_keeps sign pred (objects_of args terms) (set.changing_pred pred) (signed sign (set.start.truth pred (objects_of args terms))) refl
  keeps_is (cond_.Same sign left right) = settled_stays _
  keeps_is (cond_.Compare r left right) = outcomes_stay r (part_of set args left) (part_of set args right)

  all_keep : (conds : List Cond) → list_all (keeps cs args) conds ≡ list_all (leaf_stays moves) (map (leaf_of set args) conds)
  all_keep [] = refl
  all_keep (c ∷ conds) = ap₂ ◌&&◌ (keeps_is c) (all_keep conds)

-- ---- the law
not_zero : (x : Fraction) → (x ≡ whole (pos 0) → ⊥) → is_zero x ≡ false
not_zero x other = by (is_zero x) refl
  where
    by : (b : Bool) → is_zero x ≡ b → b ≡ false
    by true e = absurd (other (zero_true x e))
    by false e = refl

is_not_zero : (x : Fraction) → is_zero x ≡ false → x ≡ whole (pos 0) → ⊥
is_not_zero x e is = never (sym (ap is_zero is) ∙ e)
  where
    never : true ≡ false → ⊥
    never f = cc

module _ (task : TaskParts) (line : IsLinear task) (n : ℕ) (k : Kept) (e : slice_get (kept_instances task) n ≡ Some k) (s t : PlanState) (g : State) (seen : IsSeenAs task s g) where
  set : Setting
  set = numbered task

  action_is : action_at (task_from task) n ≡ ground_action (numbered task) k.action k.args
  action_is = get_or_from_slice_get (map (action_in (numbered task)) (kept_instances task)) n (action_in (numbered task) k) _ (slice_get-map (action_in (numbered task)) (kept_instances task) n ∙ ap (option_map (action_in (numbered task))) e)

  kept : is_kept (numbered task) k.action k.args ≡ true
  kept = sym (kept_unnumbered task (atoms_of task) (funcs_of task) k.action k.args) ∙ (kept_is task n k e).kept

  may : list_all may_move (map (move_of (numbered task) k.args) k.action.effs) ≡ true
  may = (and_parts _ _ (and_parts _ _ kept).1).1

  moves : List Move
  moves = moves_of (numbered task) k.action k.args

  module _ (cs : List Change) (values : map (change_of s k.args) k.action.effs ≡ map Some cs) where
    are : cs ≡ map (change_in g.value) (moves_of (numbered task) k.action k.args)
    are =
        let ns = and_parts _ _ (kept_numbered task n k e) in
        let rs = and_parts _ _ (sym (list_all-append (is_listed same (numbered task).funcs) (flat_map leaf_reads (leaves_of (numbered task) k.action k.args)) (flat_map move_reads (moves_of (numbered task) k.action k.args))) ∙ ns.0) in
        changes_are (numbered task) k.args s g seen.fits seen.agrees k.action.effs cs may rs.1 values

    static : (pred : ℕ) → is_changing_pred task.actions pred ≡ false → list_any (changes_pred pred) k.action.effs ≡ false
    static pred h = none_at (λ (b : Action). list_any (changes_pred pred) b.effs) task.actions k.number k.action h (kept_instance task n k e).is_action

    even_is_steps : list_all (is_even (is_changing_func task.actions)) k.action.effs ≡ list_all steps_only (moves_of (numbered task) k.action k.args)
    even_is_steps = all_even (numbered task) k.args k.action.effs may

    keeps_is_stays : list_all (keeps cs k.args) k.action.conds ≡ list_all (leaf_stays (moves_of (numbered task) k.action k.args)) (leaves_of (numbered task) k.action k.args)
    keeps_is_stays =
        all_keep (numbered task) k.args cs (moves_of (numbered task) k.action k.args) g.value are
        (λ w pred objects h. none_put s k.args w pred objects k.action.effs cs values (static pred h)) k.action.conds

    sum_is : list_all steps_only (moves_of (numbered task) k.action k.args) ≡ true → (it : Named) → fold_acts sum_act it (moves_of (numbered task) k.action k.args) zero_q ≡ growth cs it.symbol it.args
    sum_is steps it = growth_is g.value it (moves_of (numbered task) k.action k.args) steps ∙ ap (λ (c : List Change). growth c it.symbol it.args) (sym are)

    ground_is : rolls (leaves_of (numbered task) k.action k.args) (moves_of (numbered task) k.action k.args) ≡ is_rollable (action_at (task_from task) n)
    ground_is = rollable_is (numbered task) k.action k.args (kept_numbered task n k e) ∙ ap is_rollable (sym action_is)

    to_ground : IsRollable task k.action k.args cs → is_rollable (action_at (task_from task) n) ≡ true
    to_ground r =
        let steps : list_all steps_only (moves_of (numbered task) k.action k.args) ≡ true = sym even_is_steps ∙ r.even in
        let it : Named = named r.func r.objects in
        let other : is_zero (fold_acts sum_act it (moves_of (numbered task) k.action k.args) zero_q) ≡ false = not_zero (fold_acts sum_act it (moves_of (numbered task) k.action k.args) zero_q) (λ is. r.grows (sym (sum_is steps it) ∙ is)) in
        let sum = some_sum (moves_of (numbered task) k.action k.args) it other (moves_of (numbered task) k.action k.args) zero_q (is_not_zero (fold_acts sum_act it (moves_of (numbered task) k.action k.args) zero_q) other) in
        sym ground_is ∙ and_from _ _ steps (and_from _ _ sum (sym keeps_is_stays ∙ r.keeps_literals))

    from_ground : is_rollable (action_at (task_from task) n) ≡ true → IsRollable task k.action k.args cs
    from_ground h =
        let parts = and_parts _ _ (ground_is ∙ h) in
        let more = and_parts _ _ parts.1 in
        let sum = sum_of (moves_of (numbered task) k.action k.args) (moves_of (numbered task) k.action k.args) more.0 in
        record {
          even = even_is_steps ∙ parts.0;
          keeps_literals = keeps_is_stays ∙ more.1;
          func = sum.0.symbol;
          objects = sum.0.args;
          grows = λ is. is_not_zero (fold_acts sum_act sum.0 (moves_of (numbered task) k.action k.args) zero_q) sum.1 (sum_is parts.0 sum.0 ∙ is);
        }

  pub rollable_as : (h : HasStep task s (instance_of k) t) → IsRollable task h.action k.args h.changes ↔ (is_rollable (action_at (task_from task) n) ≡ true)
  rollable_as h =
      let own : Some h.action ≡ Some k.action = sym h.of_action.is_action ∙ (kept_instance task n k e).is_action in
      let is : h.action ≡ k.action = cc in
      let values : map (change_of s k.args) k.action.effs ≡ map Some h.changes = subst (λ (a : Action). map (change_of s k.args) a.effs ≡ map Some h.changes) is h.values in (
        (λ r. to_ground h.changes values (subst (λ (a : Action). IsRollable task a k.args h.changes) is r)),
        (λ r. subst (λ (a : Action). IsRollable task a k.args h.changes) (sym is) (from_ground h.changes values r)),
      )
