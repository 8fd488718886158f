-- What becomes of atoms and functions: the state behind an instance's changes, as its moves say it.
use Rattle.std.proofs.Common.{◌≡◌, ℕ, zero, suc, ◌+◌, Bool, true, false, not, cond, ◌&&◌, ◌||◌, List, [], ◌∷◌, map, Option, Some, None, refl, sym, ap, ap₂, ◌∙◌, arith}
use Rattle.std.specs.Prelude.{is_some, unwrap_or, slice_get}
use Rattle.std.specs.Option.{option_map}
use Rattle.std.specs.List.{list_all, list_any, flat_map}
use Rattle.std.proofs.lemmas.Bool.{and_parts, and_from}
use Rattle.std.proofs.lemmas.List.Folds.{list_all-append}
use lib.IntN.{negsuc}
use Rattle.rational.specs.Fraction.{Fraction, whole, neg_ℚ, ◌+ℚ◌, ◌*ℚ◌, inv_ℚ, ◌/ℚ◌}
use Rattle.rational.specs.Linear.{coefficient_of}
use Rattle.rational.proofs.FieldLaws.{add_assoc_q, mul_comm_q}
use Rattle.ground_action.proofs.PartLaws.{minus_one}
use Rattle.ground_action.proofs.LeafLaws.{act_amount, change_in}
use Rattle.ground_action.proofs.ListLaws.{number_gets, is_in_where, set_at, coefficient_at, plus_zero}
use Rattle.ground_action.specs.Parts.{is_zero, Part, constant, linear, linear_of}
use Rattle.ground_action.proofs.Tests.{op_of, zero_true, zero_q, known}
use Rattle.lin.specs.Linear.{Linear, value_of, var, scale}
use Rattle.plan_step.specs.State.{PlanState}
use Rattle.plan_step.specs.Meaning.{Change, puts, truth_after, changed_by, value_after}
use Rattle.task_core.specs.State.{State}
use Rattle.task_core.specs.Step.{is_in, set_of, new_value}
use Rattle.ground_numbers.specs.declared.named.Named.{Named}
use Rattle.ground_numbers.specs.Numbers.{named, same, is_listed}
use Rattle.ground_action.specs.Setting.{Proposition, atom, valued, same_proposition, Setting, func_number, value_in, truth_in}
use Rattle.ground_action.specs.Agrees.{Agrees}
use Rattle.ground_action.specs.Leaves.{Act, assign, increase, decrease, scale_up, scale_down, Move, puts_atom, acts, act_reads, move_reads}
use Rattle.ground_action.specs.GroundAction.{numbers_where, rows_of, puts_it, is_assign, assigns_it, is_added, is_deleted, fold_acts, linear_act, is_constant, constant_of, is_step, sum_act, passes_on, is_stepped, nonzero, increment_of, new_value_of}
use Rattle.lin.proofs.ValueLaws.{value_add, value_scale, value_var, value_fixed}
pub use Rattle.ground_numbers.specs.inside.Same.{same_sound, same_itself}

-- ---- names
from_zero : (n : ℕ) → n ≡ 0 + n
from_zero n = omega arith

pub proposition_sound : (a b : Proposition) → same_proposition a b ≡ true → a ≡ b
proposition_sound (atom a) (atom b) h = ap atom (same_sound a b h)
proposition_sound (atom a) (valued b) h = absurd (cc)
proposition_sound (valued a) (atom b) h = absurd (cc)
proposition_sound (valued a) (valued b) h = ap valued (same_sound a b h)

pub listed_from : {A : Type 0} (alike : A → A → Bool) (x : A) → alike x x ≡ true → (xs : List A) (n : ℕ) → slice_get xs n ≡ Some x → is_listed alike xs x ≡ true
listed_from alike x h [] n g = absurd (cc)
listed_from alike x h (y ∷ ys) zero g = let e : y ≡ x = cc in ap (λ t. alike t x || is_listed alike ys x) e ∙ ap (λ t. t || is_listed alike ys x) h
listed_from alike x h (y ∷ ys) (suc n) g = or_later (alike y x) (listed_from alike x h ys n g)
  where
    or_later : (b : Bool) → is_listed alike ys x ≡ true → (b || is_listed alike ys x) ≡ true
    or_later true e = refl
    or_later false e = e

module _ (at : ℕ → Fraction) where
  changes_in : List Move → List Change
  changes_in moves = map (change_in at) moves

  -- ---- atoms
  pub puts-any : (want : Bool) (p : ℕ) (args : List ℕ) (moves : List Move) → list_any (puts want p args) (map (change_in at) moves) ≡ list_any (puts_it want (named p args)) moves
  puts-any want p args [] = refl
  puts-any want p args (puts_atom sign it ∷ ms) = ap (λ t. ((cond want sign (not sign)) && same it (named p args)) || t) (puts-any want p args ms)
  puts-any want p args (acts it a ∷ ms) = puts-any want p args ms

  by_truth : (a d t : Bool) → cond a true (cond (d && not a) false t) ≡ (a || (t && not d))
  by_truth true d t = refl
  by_truth false true true = refl
  by_truth false true false = refl
  by_truth false false true = refl
  by_truth false false false = refl

  -- ---- whether a function has a value
  some_map : (g : Fraction → Fraction) (o : Option Fraction) → is_some (option_map g o) ≡ is_some o
  some_map g None = refl
  some_map g (Some x) = refl

  or_true : (b : Bool) → (b || true) ≡ true
  or_true true = refl
  or_true false = refl

  some_act : (a : Act) (o : Option Fraction) → is_some (changed_by (op_of a) (act_amount at a) o) ≡ (is_assign a || is_some o)
  some_act (assign p) o = refl
  some_act (increase p) o = some_map (λ x. x +ℚ value_of at (linear_of p)) o
  some_act (decrease p) o = some_map (λ x. x +ℚ neg_ℚ (value_of at (linear_of p))) o
  some_act (scale_up a) o = some_map (λ x. x *ℚ a) o
  some_act (scale_down a) o = some_map (λ x. x /ℚ a) o

  swap_or : (a b c : Bool) → (a || (b || c)) ≡ ((b || a) || c)
  swap_or true true c = refl
  swap_or true false c = refl
  swap_or false true c = refl
  swap_or false false c = refl

  pub some_behind : (it : Named) (moves : List Move) (o : Option Fraction) → is_some (value_after (map (change_in at) moves) it.symbol it.args o) ≡ (list_any (assigns_it it) moves || is_some o)
  some_behind it [] o = refl
  some_behind it (puts_atom sign j ∷ ms) o = some_behind it ms o
  some_behind it (acts j a ∷ ms) o = by_test (same j it) (some_behind it ms)
    where
      by_test : (b : Bool) → ((o : Option Fraction) → is_some (value_after (map (change_in at) ms) it.symbol it.args o) ≡ (list_any (assigns_it it) ms || is_some o))
          → is_some (cond b (value_after (map (change_in at) ms) it.symbol it.args (changed_by (op_of a) (act_amount at a) o)) (value_after (map (change_in at) ms) it.symbol it.args o)) ≡ (((b && is_assign a) || list_any (assigns_it it) ms) || is_some o)
      by_test true ih = ih (changed_by (op_of a) (act_amount at a) o) ∙ ap (λ t. list_any (assigns_it it) ms || t) (some_act a o) ∙ swap_or (list_any (assigns_it it) ms) (is_assign a) (is_some o)
      by_test false ih = ih o

  -- ---- the value of a function
  act_on : Act → Fraction → Fraction
  act_on (assign p) x = value_of at (linear_of p)
  act_on (increase p) x = x +ℚ value_of at (linear_of p)
  act_on (decrease p) x = x +ℚ neg_ℚ (value_of at (linear_of p))
  act_on (scale_up a) x = x *ℚ a
  act_on (scale_down a) x = x /ℚ a

  some_on : (a : Act) (o : Option Fraction) → (is_some o || is_assign a) ≡ true → changed_by (op_of a) (act_amount at a) o ≡ Some (act_on a (unwrap_or o zero_q))
  unfolding act_on
  some_on (assign p) o h = refl
  some_on (increase p) None h = absurd (cc)
  some_on (increase p) (Some x) h = refl
  some_on (decrease p) None h = absurd (cc)
  some_on (decrease p) (Some x) h = refl
  some_on (scale_up a) None h = absurd (cc)
  some_on (scale_up a) (Some x) h = refl
  some_on (scale_down a) None h = absurd (cc)
  some_on (scale_down a) (Some x) h = refl

  first_own : (b c d : Bool) → (b || (c && d)) ≡ true → (b || c) ≡ true
  first_own true c d h = refl
  first_own false true d h = refl
  first_own false false d h = h

  later_own : (b c d : Bool) → (b || (c && d)) ≡ true → (b || d) ≡ true
  later_own true c d h = refl
  later_own false true d h = h
  later_own false false d h = absurd (cc)

  module _ {A : Type 0} (f : Act → A → A) (mean : A → Fraction) (allowed : Act → Bool) (each : (a : Act) (x : Fraction) (z : A) → allowed a ≡ true → x ≡ mean z → act_on a x ≡ mean (f a z)) (it : Named) where
    -- the function's value after the changes is what the acts on it make
    value_is : (moves : List Move) (o : Option Fraction) (z : A) → list_all (passes_on allowed it) moves ≡ true → (is_some o || list_all (passes_on is_assign it) moves) ≡ true → unwrap_or o zero_q ≡ mean z
        → unwrap_or (value_after (map (change_in at) moves) it.symbol it.args o) zero_q ≡ mean (fold_acts f it moves z)
    value_is [] o z al rd e = e
    value_is (puts_atom sign j ∷ ms) o z al rd e = value_is ms o z al rd e
    value_is (acts j a ∷ ms) o z al rd e = by_test (same j it) al rd (λ o z al rd e. value_is ms o z al rd e)
      where
        rest : Option Fraction → Option Fraction
        rest o = value_after (map (change_in at) ms) it.symbol it.args o

        by_test : (b : Bool) → (cond b (allowed a) true && list_all (passes_on allowed it) ms) ≡ true → (is_some o || (cond b (is_assign a) true && list_all (passes_on is_assign it) ms)) ≡ true
            → ((o : Option Fraction) (z : A) → list_all (passes_on allowed it) ms ≡ true → (is_some o || list_all (passes_on is_assign it) ms) ≡ true → unwrap_or o zero_q ≡ mean z → unwrap_or (value_after (map (change_in at) ms) it.symbol it.args o) zero_q ≡ mean (fold_acts f it ms z))
            → unwrap_or (cond b (value_after (map (change_in at) ms) it.symbol it.args (changed_by (op_of a) (act_amount at a) o)) (value_after (map (change_in at) ms) it.symbol it.args o)) zero_q ≡ mean (cond b (fold_acts f it ms (f a z)) (fold_acts f it ms z))
        by_test true al rd ih =
            let new : changed_by (op_of a) (act_amount at a) o ≡ Some (act_on a (unwrap_or o zero_q)) = some_on a o (first_own (is_some o) (is_assign a) _ rd) in
            ap (λ w. unwrap_or (value_after (map (change_in at) ms) it.symbol it.args w) zero_q) new
            ∙ ih (Some (act_on a (unwrap_or o zero_q))) (f a z) (and_parts _ _ al).1 refl (each a (unwrap_or o zero_q) z (and_parts _ _ al).0 e)
        by_test false al rd ih = ih o z al rd e

  any_own : (it : Named) (moves : List Move) → list_all (passes_on (λ a. true) it) moves ≡ true
  any_own it [] = refl
  any_own it (puts_atom sign j ∷ ms) = any_own it ms
  any_own it (acts j a ∷ ms) = by_test (same j it) (any_own it ms)
    where
      by_test : (b : Bool) → list_all (passes_on (λ a. true) it) ms ≡ true → (cond b true true && list_all (passes_on (λ a. true) it) ms) ≡ true
      by_test true ih = ih
      by_test false ih = ih

  each_lin : (a : Act) (x : Fraction) (l : Linear) → true ≡ true → x ≡ value_of at l → act_on a x ≡ value_of at (linear_act a l)
  unfolding act_on
  each_lin (assign p) x l t e = refl
  each_lin (increase p) x l t e = ap (λ w. w +ℚ value_of at (linear_of p)) e ∙ sym (value_add at l (linear_of p))
  each_lin (decrease p) x l t e = ap₂ (λ w y. w +ℚ y) e (sym (value_scale at (whole (negsuc 0)) (linear_of p) ∙ minus_one (value_of at (linear_of p)))) ∙ sym (value_add at l (scale (whole (negsuc 0)) (linear_of p)))
  each_lin (scale_up a) x l t e = ap (λ w. w *ℚ a) e ∙ mul_comm_q (value_of at l) a ∙ sym (value_scale at a l)
  each_lin (scale_down a) x l t e = ap (λ w. w *ℚ inv_ℚ a) e ∙ mul_comm_q (value_of at l) (inv_ℚ a) ∙ sym (value_scale at (inv_ℚ a) l)

  constant_is : (p : Part) → is_constant p ≡ true → value_of at (linear_of p) ≡ constant_of p
  constant_is (constant a) h = value_fixed at a
  constant_is (linear r l) h = absurd (cc)

  each_sum : (start : Fraction) (a : Act) (x : Fraction) (q : Fraction) → is_step a ≡ true → x ≡ start +ℚ q → act_on a x ≡ start +ℚ sum_act a q
  unfolding act_on
  each_sum start (assign p) x q t e = absurd (cc)
  each_sum start (increase p) x q t e = ap₂ (λ w y. w +ℚ y) e (constant_is p t) ∙ add_assoc_q start q (constant_of p)
  each_sum start (decrease p) x q t e = ap₂ (λ w y. w +ℚ neg_ℚ y) e (constant_is p t) ∙ add_assoc_q start q (neg_ℚ (constant_of p))
  each_sum start (scale_up a) x q t e = absurd (cc)
  each_sum start (scale_down a) x q t e = absurd (cc)

  -- a function that is read has a value, so acts on one without are assignments
  pub ready_own : (s : PlanState) (it : Named) (moves : List Move) → known s (flat_map move_reads moves) ≡ true → (is_some (value_in s it) || list_all (passes_on is_assign it) moves) ≡ true
  ready_own s it moves h = by_value (is_some (value_in s it)) refl
    where
      contradiction : (j : Named) → same j it ≡ true → is_some (value_in s it) ≡ false → is_some (value_in s j) ≡ true → false ≡ true
      contradiction j e n h = sym n ∙ ap (λ t. is_some (value_in s t)) (sym (same_sound j it e)) ∙ h

      by_act : (j : Named) (a : Act) → same j it ≡ true → is_some (value_in s it) ≡ false → known s (act_reads j a) ≡ true → is_assign a ≡ true
      by_act j (assign p) e n h = refl
      by_act j (increase p) e n h = contradiction j e n (and_parts _ _ h).0
      by_act j (decrease p) e n h = contradiction j e n (and_parts _ _ h).0
      by_act j (scale_up a) e n h = contradiction j e n (and_parts _ _ h).0
      by_act j (scale_down a) e n h = contradiction j e n (and_parts _ _ h).0

      by_test : (j : Named) (a : Act) (b : Bool) → same j it ≡ b → is_some (value_in s it) ≡ false → known s (act_reads j a) ≡ true → cond b (is_assign a) true ≡ true
      by_test j a true e n h = by_act j a e n h
      by_test j a false e n h = refl

      all_assign : is_some (value_in s it) ≡ false → (ms : List Move) → known s (flat_map move_reads ms) ≡ true → list_all (passes_on is_assign it) ms ≡ true
      all_assign n [] h = refl
      all_assign n (puts_atom sign j ∷ ms) h = all_assign n ms h
      all_assign n (acts j a ∷ ms) h =
          let hs = and_parts _ _ (sym (list_all-append (λ k. is_some (value_in s k)) (act_reads j a) (flat_map move_reads ms)) ∙ h) in
          and_from _ _ (by_test j a (same j it) refl n hs.0) (all_assign n ms hs.1)

      by_value : (b : Bool) → is_some (value_in s it) ≡ b → (b || list_all (passes_on is_assign it) moves) ≡ true
      by_value true e = refl
      by_value false e = all_assign e moves h

  nonzero_is : (q : Fraction) → unwrap_or (nonzero q) zero_q ≡ q
  nonzero_is q = by_test (is_zero q) refl
    where
      by_test : (b : Bool) → is_zero q ≡ b → unwrap_or (cond b None (Some q)) zero_q ≡ q
      by_test true e = sym (zero_true q e)
      by_test false e = refl

-- ---- both, at a numbered atom and a numbered function
module _ (set : Setting) (s : PlanState) (g : State) (agrees : Agrees set s g) (moves : List Move) (reads : known s (flat_map move_reads moves) ≡ true) where
  pub proposition_after : (n : ℕ) (x : Proposition) → slice_get set.propositions n ≡ Some x → (p : PlanState)
      → ((q : ℕ) (args : List ℕ) → p.truth q args ≡ truth_after (map (change_in g.value) moves) s.truth q args)
      → ((f : ℕ) (args : List ℕ) → p.value f args ≡ value_after (map (change_in g.value) moves) f args (s.value f args))
      → cond (is_in n (numbers_where (is_added moves) 0 set.propositions)) true (cond (is_in n (numbers_where (is_deleted moves) 0 set.propositions)) false (g.truth n)) ≡ truth_in p x
  proposition_after n x e p truth value =
      ap₂ (λ a d. cond a true (cond d false (g.truth n))) (is_in_where (is_added moves) set.propositions 0 n n x (from_zero n) e) (is_in_where (is_deleted moves) set.propositions 0 n n x (from_zero n) e)
      ∙ ap (λ t. cond (is_added moves x) true (cond (is_deleted moves x) false t)) (agrees.truths n x e) ∙ by_proposition x
    where
      by_proposition : (x : Proposition) → cond (is_added moves x) true (cond (is_deleted moves x) false (truth_in s x)) ≡ truth_in p x
      by_proposition (atom it) = by_truth g.value (list_any (puts_it true it) moves) (list_any (puts_it false it) moves) (s.truth it.symbol it.args)
          ∙ ap₂ (λ a d. a || (s.truth it.symbol it.args && not d)) (sym (puts-any g.value true it.symbol it.args moves)) (sym (puts-any g.value false it.symbol it.args moves))
          ∙ sym (truth it.symbol it.args)
      by_proposition (valued it) = or_cond (list_any (assigns_it it) moves) (is_some (value_in s it)) ∙ sym (some_behind g.value it moves (value_in s it)) ∙ ap is_some (sym (value it.symbol it.args))
        where
          or_cond : (a b : Bool) → cond a true b ≡ (a || b)
          or_cond true b = refl
          or_cond false b = refl

  pub func_after : (n : ℕ) (it : Named) → slice_get set.funcs n ≡ Some it
      → new_value g (rows_of (increment_of moves) 0 set.funcs) n (set_of (rows_of (new_value_of set moves) 0 set.funcs) n) ≡ unwrap_or (value_after (map (change_in g.value) moves) it.symbol it.args (value_in s it)) zero_q
  func_after n it e =
      ap (new_value g (rows_of (increment_of moves) 0 set.funcs) n) (set_at (new_value_of set moves) set.funcs 0 n n it (from_zero n) e)
      ∙ by_test (is_stepped moves it) refl (coefficient_at (increment_of moves) set.funcs 0 n n it (from_zero n) e)
    where
      there : g.value (func_number set it) ≡ unwrap_or (value_in s it) zero_q
      there = agrees.values (func_number set it) it (number_gets same same_sound set.funcs it (listed_from same it (same_itself it) set.funcs n e))

      by_test : (b : Bool) → is_stepped moves it ≡ b
          → coefficient_of n (rows_of (increment_of moves) 0 set.funcs) ≡ unwrap_or (cond b (nonzero (fold_acts sum_act it moves zero_q)) None) zero_q
          → new_value g (rows_of (increment_of moves) 0 set.funcs) n (cond b None (Some (fold_acts linear_act it moves (var (func_number set it))))) ≡ unwrap_or (value_after (map (change_in g.value) moves) it.symbol it.args (value_in s it)) zero_q
      by_test true h c = ap₂ (λ x y. x +ℚ y) (agrees.values n it e) (c ∙ nonzero_is g.value (fold_acts sum_act it moves zero_q))
          ∙ sym (value_is g.value sum_act (λ q. unwrap_or (value_in s it) zero_q +ℚ q) is_step (each_sum g.value (unwrap_or (value_in s it) zero_q)) it moves (value_in s it) zero_q h (ready_own g.value s it moves reads) (sym (plus_zero (unwrap_or (value_in s it) zero_q))))
      by_test false h c = sym (value_is g.value linear_act (value_of g.value) (λ a. true) (each_lin g.value) it moves (value_in s it) (var (func_number set it)) (any_own g.value it moves) (ready_own g.value s it moves reads) (sym (value_var g.value (func_number set it) ∙ there)))
