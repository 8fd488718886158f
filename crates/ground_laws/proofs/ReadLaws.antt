-- What an action reads is named by its leaves and its moves.
use Rattle.std.proofs.Common.{◌≡◌, ℕ, ◌+◌, Bool, true, false, cond, ◌&&◌, ◌||◌, List, [], ◌∷◌, ◌++◌, Option, Some, None, refl, sym, ap, subst, ◌∙◌, zero-add}
use Rattle.std.specs.Prelude.{slice_get, pos}
use Rattle.std.specs.List.{list_all, list_any, flat_map, filter_map}
use Rattle.std.proofs.lemmas.Bool.{and_parts, and_from}
use Rattle.std.proofs.lemmas.List.Folds.{list_all-append, list_all-map}
use lib.IntN.{negsuc}
use Rattle.rational.specs.Fraction.{Fraction, whole, inv_ℚ}
use Rattle.lin.specs.Linear.{Linear, var}
use Rattle.lin.specs.Negative.{negative}
use Rattle.lin.specs.declared.comparison.Cmp.{Cmp}
use Rattle.task_core.specs.Task.{numbers, variables, read_by}
use Rattle.ground_numbers.specs.declared.named.Named.{Named}
use Rattle.ground_numbers.specs.Numbers.{same}
use Rattle.ground_numbers.specs.inside.Same.{same_sound}
use Rattle.ground_action.specs.Setting.{Setting, func_number}
use Rattle.ground_action.specs.Parts.{linear_of}
use Rattle.ground_action.specs.Leaves.{Leaf, fails, unclear, nothing, literal, compared, leaf_reads, Act, assign, increase, decrease, scale_up, scale_down, Move, puts_atom, acts, act_reads, move_reads}
use Rattle.ground_action.specs.GroundAction.{rows_of, fold_acts, linear_act, sum_act, is_step, is_stepped, nonzero, increment_of, new_value_of, comparison_row, all_reads, action_from}
use Rattle.ground_laws.proofs.Lists.{all_rows, flat_all}
use Rattle.ground_laws.proofs.VariableLaws.{vars_pass, leaf_passes, act_passes, move_passes, reads_pass, pass_add, pass_scale, pass_var}

-- an act on the function
abbrev pub acts_it : Named → Move → Bool
acts_it k (puts_atom sign j) = false
acts_it k (acts j a) = same j k

pub not_acted : {A : Type 0} (f : Act → A → A) (k : Named) (ms : List Move) (q : A) → list_any (acts_it k) ms ≡ false → fold_acts f k ms q ≡ q
not_acted f k [] q h = refl
not_acted f k (puts_atom sign j ∷ ms) q h = not_acted f k ms q h
not_acted f k (acts j a ∷ ms) q h = by (same j k) (not_acted f k ms q) h
  where
    by : (b : Bool) → (list_any (acts_it k) ms ≡ false → fold_acts f k ms q ≡ q) → (b || list_any (acts_it k) ms) ≡ false → cond b (fold_acts f k ms (f a q)) (fold_acts f k ms q) ≡ q
    by true ih h = absurd (cc)
    by false ih h = ih h

-- where no act is on it each is a step
pub stepped_alone : (k : Named) (ms : List Move) → list_any (acts_it k) ms ≡ false → is_stepped ms k ≡ true
stepped_alone k [] h = refl
stepped_alone k (puts_atom sign j ∷ ms) h = stepped_alone k ms h
stepped_alone k (acts j a ∷ ms) h = by (same j k) (stepped_alone k ms) h
  where
    by : (b : Bool) → (list_any (acts_it k) ms ≡ false → is_stepped ms k ≡ true) → (b || list_any (acts_it k) ms) ≡ false → (cond b (is_step a) true && is_stepped ms k) ≡ true
    by true ih h = absurd (cc)
    by false ih h = ih h

pub no_increment : (k : Named) (ms : List Move) → list_any (acts_it k) ms ≡ false → increment_of ms k ≡ None
no_increment k ms h = ap (λ q. cond (is_stepped ms k) (nonzero q) None) (not_acted sum_act k ms (whole (pos 0)) h) ∙ either (is_stepped ms k)
  where
    either : (b : Bool) → cond b (nonzero (whole (pos 0))) None ≡ None
    either true = refl
    either false = refl

pub no_new_value : (set : Setting) (k : Named) (ms : List Move) → list_any (acts_it k) ms ≡ false → new_value_of set ms k ≡ None
no_new_value set k ms h = ap (λ b. cond b None (Some (fold_acts linear_act k ms (var (func_number set k))))) (stepped_alone k ms h)

some_none : {A : Type 0} (o : Option A) (x : A) → o ≡ None → o ≡ Some x → ⊥
some_none o x e f = cc

true_false : (b : Bool) → b ≡ true → b ≡ false → ⊥
true_false b e f = cc

module _ (test : ℕ → Bool) (set : Setting) where
  front_read : (a b : List Named) → reads_pass test set (a ++ b) ≡ true → (reads_pass test set a ≡ true) × (reads_pass test set b ≡ true)
  front_read a b h = and_parts (reads_pass test set a) (reads_pass test set b) (sym (list_all-append (λ k. test (func_number set k)) a b) ∙ h)

  -- ---- comparisons
  comparisons_pass : (ls : List Leaf) → list_all (leaf_passes test) ls ≡ true → list_all (λ (c : Linear × Cmp). list_all test (variables c.0)) (filter_map comparison_row ls) ≡ true
  comparisons_pass [] h = refl
  comparisons_pass (fails ∷ ls) h = comparisons_pass ls h
  comparisons_pass (unclear ∷ ls) h = comparisons_pass ls h
  comparisons_pass (nothing ∷ ls) h = comparisons_pass ls h
  comparisons_pass (literal x sign ∷ ls) h = comparisons_pass ls h
  comparisons_pass (compared r l c ∷ ls) h = let hs = and_parts (vars_pass test l.terms) _ h in and_from _ _ (list_all-map test (λ t. t.0) l.terms ∙ hs.0) (comparisons_pass ls hs.1)

  -- ---- new values
  act_passed : (a : Act) (l : Linear) → act_passes test a ≡ true → vars_pass test l.terms ≡ true → vars_pass test (linear_act a l).terms ≡ true
  act_passed (assign p) l h g = h
  act_passed (increase p) l h g = pass_add test l (linear_of p) g h
  act_passed (decrease p) l h g = pass_add test l (negative (linear_of p)) g (pass_scale test (whole (negsuc 0)) (linear_of p) h)
  act_passed (scale_up a) l h g = pass_scale test a l g
  act_passed (scale_down a) l h g = pass_scale test (inv_ℚ a) l g

  fold_passed : (k : Named) (ms : List Move) (l : Linear) → list_all (move_passes test) ms ≡ true → vars_pass test l.terms ≡ true → vars_pass test (fold_acts linear_act k ms l).terms ≡ true
  fold_passed k [] l h g = g
  fold_passed k (puts_atom sign j ∷ ms) l h g = fold_passed k ms l h g
  fold_passed k (acts j a ∷ ms) l h g =
      let hs = and_parts (act_passes test a) (list_all (move_passes test) ms) h in
      by (same j k) (fold_passed k ms (linear_act a l) hs.1 (act_passed a l hs.0 g)) (fold_passed k ms l hs.1 g)
    where
      by : (b : Bool) → vars_pass test (fold_acts linear_act k ms (linear_act a l)).terms ≡ true → vars_pass test (fold_acts linear_act k ms l).terms ≡ true
          → vars_pass test (cond b (fold_acts linear_act k ms (linear_act a l)) (fold_acts linear_act k ms l)).terms ≡ true
      by true x y = x
      by false x y = y

  -- an assignment doesn't need what was there, and any other act reads its function
  first_passed : (j : Named) (a : Act) → reads_pass test set (act_reads j a) ≡ true → act_passes test a ≡ true → vars_pass test (linear_act a (var (func_number set j))).terms ≡ true
  first_passed j (assign p) r h = h
  first_passed j (increase p) r h = act_passed (increase p) _ h (pass_var test _ (and_parts _ _ r).0)
  first_passed j (decrease p) r h = act_passed (decrease p) _ h (pass_var test _ (and_parts _ _ r).0)
  first_passed j (scale_up a) r h = act_passed (scale_up a) _ h (pass_var test _ (and_parts _ _ r).0)
  first_passed j (scale_down a) r h = act_passed (scale_down a) _ h (pass_var test _ (and_parts _ _ r).0)

  value_passed : (k : Named) (ms : List Move) → list_any (acts_it k) ms ≡ true → list_all (move_passes test) ms ≡ true → reads_pass test set (flat_map move_reads ms) ≡ true
      → vars_pass test (fold_acts linear_act k ms (var (func_number set k))).terms ≡ true
  value_passed k [] t h r = absurd (cc)
  value_passed k (puts_atom sign j ∷ ms) t h r = value_passed k ms t h r
  value_passed k (acts j a ∷ ms) t h r =
      let hs = and_parts (act_passes test a) (list_all (move_passes test) ms) h in
      let rs = front_read (act_reads j a) (flat_map move_reads ms) r in
      by (same j k) refl t hs.0 hs.1 rs.0 (λ t. value_passed k ms t hs.1 rs.1)
    where
      by : (b : Bool) → same j k ≡ b → (b || list_any (acts_it k) ms) ≡ true → act_passes test a ≡ true → list_all (move_passes test) ms ≡ true → reads_pass test set (act_reads j a) ≡ true
          → (list_any (acts_it k) ms ≡ true → vars_pass test (fold_acts linear_act k ms (var (func_number set k))).terms ≡ true)
          → vars_pass test (cond b (fold_acts linear_act k ms (linear_act a (var (func_number set k)))) (fold_acts linear_act k ms (var (func_number set k)))).terms ≡ true
      by true e t h hs r ih =
          let first = subst (λ i. vars_pass test (linear_act a (var (func_number set i))).terms ≡ true) (same_sound j k e) (first_passed j a r h) in
          fold_passed k ms (linear_act a (var (func_number set k))) hs first
      by false e t h hs r ih = ih t

  -- ---- increments
  step_read : (j : Named) (a : Act) → is_step a ≡ true → reads_pass test set (act_reads j a) ≡ true → test (func_number set j) ≡ true
  step_read j (assign p) s r = absurd (cc)
  step_read j (increase p) s r = (and_parts _ _ r).0
  step_read j (decrease p) s r = (and_parts _ _ r).0
  step_read j (scale_up a) s r = absurd (cc)
  step_read j (scale_down a) s r = absurd (cc)

  stepped_read : (k : Named) (ms : List Move) → is_stepped ms k ≡ true → list_any (acts_it k) ms ≡ true → reads_pass test set (flat_map move_reads ms) ≡ true → test (func_number set k) ≡ true
  stepped_read k [] s t r = absurd (cc)
  stepped_read k (puts_atom sign j ∷ ms) s t r = stepped_read k ms s t r
  stepped_read k (acts j a ∷ ms) s t r =
      let ss = and_parts (cond (same j k) (is_step a) true) (is_stepped ms k) s in
      let rs = front_read (act_reads j a) (flat_map move_reads ms) r in
      by (same j k) refl ss.0 t rs.0 (λ t. stepped_read k ms ss.1 t rs.1)
    where
      by : (b : Bool) → same j k ≡ b → cond b (is_step a) true ≡ true → (b || list_any (acts_it k) ms) ≡ true → reads_pass test set (act_reads j a) ≡ true
          → (list_any (acts_it k) ms ≡ true → test (func_number set k) ≡ true) → test (func_number set k) ≡ true
      by true e s t r ih = ap (λ i. test (func_number set i)) (sym (same_sound j k e)) ∙ step_read j a s r
      by false e s t r ih = ih t

  module _ (leaves : List Leaf) (moves : List Move) (own : (n : ℕ) (k : Named) → slice_get set.funcs n ≡ Some k → func_number set k ≡ n)
      (leaves_ok : list_all (leaf_passes test) leaves ≡ true) (moves_ok : list_all (move_passes test) moves ≡ true) (reads_ok : reads_pass test set (all_reads leaves moves) ≡ true) where
    moves_read : reads_pass test set (flat_map move_reads moves) ≡ true
    moves_read = (front_read (flat_map leaf_reads leaves) (flat_map move_reads moves) reads_ok).1

    set_passed : (k : Named) (l : Linear) → new_value_of set moves k ≡ Some l → list_all test (variables l) ≡ true
    set_passed k l e = by (list_any (acts_it k) moves) refl (is_stepped moves k) refl
      where
        by : (b : Bool) → list_any (acts_it k) moves ≡ b → (s : Bool) → is_stepped moves k ≡ s → list_all test (variables l) ≡ true
        by false t s i = absurd (some_none (new_value_of set moves k) l (no_new_value set k moves t) e)
        by true t true i = absurd (some_none (new_value_of set moves k) l (ap (λ b. cond b None (Some (fold_acts linear_act k moves (var (func_number set k))))) i) e)
        by true t false i =
            let some : Some (fold_acts linear_act k moves (var (func_number set k))) ≡ Some l = sym (ap (λ b. cond b None (Some (fold_acts linear_act k moves (var (func_number set k))))) i) ∙ e in
            let is : fold_acts linear_act k moves (var (func_number set k)) ≡ l = cc in
            list_all-map test (λ t. t.0) l.terms ∙ subst (λ (m : Linear). vars_pass test m.terms ≡ true) is (value_passed k moves t moves_ok moves_read)

    inc_passed : (n : ℕ) (k : Named) (q : Fraction) → slice_get set.funcs n ≡ Some k → increment_of moves k ≡ Some q → test n ≡ true
    inc_passed n k q g e = by (list_any (acts_it k) moves) refl (is_stepped moves k) refl
      where
        by : (b : Bool) → list_any (acts_it k) moves ≡ b → (s : Bool) → is_stepped moves k ≡ s → test n ≡ true
        by false t s i = absurd (some_none (increment_of moves k) q (no_increment k moves t) e)
        by true t false i = absurd (some_none (increment_of moves k) q (ap (λ b. cond b (nonzero (fold_acts sum_act k moves (whole (pos 0)))) None) i) e)
        by true t true i = ap test (sym (own n k g)) ∙ stepped_read k moves i t moves_read

    -- a test that the numbers of all names pass is passed by all numbers that are read
    pub reads_covered : list_all test (read_by (action_from set leaves moves)) ≡ true
    reads_covered =
        let cmps = filter_map comparison_row leaves in
        let sets = rows_of (new_value_of set moves) 0 set.funcs in
        let incs = rows_of (increment_of moves) 0 set.funcs in
        list_all-append test (flat_map (λ (c : Linear × Cmp). variables c.0) cmps) (flat_map (λ (s : ℕ × Linear). variables s.1) sets ++ numbers incs)
        ∙ and_from _ _ (flat_all test (λ (c : Linear × Cmp). variables c.0) cmps (comparisons_pass leaves leaves_ok))
        (list_all-append test (flat_map (λ (s : ℕ × Linear). variables s.1) sets) (numbers incs)
        ∙ and_from _ _
        (flat_all test (λ (s : ℕ × Linear). variables s.1) sets (all_rows (new_value_of set moves) (λ s. list_all test (variables s.1)) set.funcs 0 (λ i k l g e. set_passed k l e)))
        (list_all-map test (λ i. i.0) incs ∙ all_rows (increment_of moves) (λ i. test i.0) set.funcs 0 (λ i k q g e. ap test (zero_front i) ∙ inc_passed i k q g e)))
      where
        zero_front : (i : ℕ) → 0 + i ≡ i
        zero_front i = zero-add i
