-- A kept instance is rollable exactly where its ground action is.
use Rattle.std.proofs.Common.{◌≡◌, ℕ, suc, ◌+◌, Bool, true, false, not, cond, ◌&&◌, ◌||◌, List, [], ◌∷◌, map, Option, Some, None, refl, sym, ap, ap₂, ◌∙◌, arith}
use Rattle.std.specs.Prelude.{is_some}
use Rattle.std.specs.List.{list_all, list_any, filter_map}
use Rattle.std.proofs.lemmas.Bool.{and_parts, and_from}
use Rattle.std.proofs.lemmas.List.Folds.{list_all-append, list_all-map}
use Rattle.rational.specs.Fraction.{Fraction}
use Rattle.ground_action.proofs.ListLaws.{number_gets, all-once, is_in_where, all_where, all-filter_map, passes}
use Rattle.ground_action.proofs.EffectLaws.{same_sound, same_itself, proposition_sound}
use Rattle.ground_action.proofs.StepLaws.{all_listed, listed_all, lit_sound}
use Rattle.ground_action.proofs.GoalLaws.{same_tests}
use Rattle.ground_action.specs.Parts.{is_zero}
use Rattle.lin.specs.Linear.{Linear, var}
use Rattle.ground_action.proofs.Tests.{zero_q}
use Rattle.task_core.specs.Step.{is_in}
use Rattle.task_core.specs.Step.{is_empty, keeps, is_rollable}
use Rattle.ground_numbers.specs.declared.named.Named.{Named}
use Rattle.ground_numbers.specs.Numbers.{same, is_listed, once}
use Rattle.ground_action.specs.Setting.{Proposition, atom, valued, same_proposition, Setting, func_number, proposition_number}
use Rattle.ground_action.specs.Leaves.{Leaf, fails, unclear, nothing, literal, compared, Move, puts_atom, acts}
use Rattle.ground_action.specs.GroundAction.{numbers_where, with_row, rows_of, is_added, is_deleted, fold_acts, linear_act, sum_act, is_step, is_stepped, nonzero, increment_of, new_value_of, literal_row, all_reads, is_read, same_literal, action_from, is_literal_numbered}
use Rattle.ground_action.specs.Rolls.{steps_only, has_sum, leaf_stays, rolls}

abbrev has_incs : List (ℕ × Fraction) → Bool
has_incs xs = not (is_empty xs)

is_none : {A : Type 0} → Option A → Bool
is_none None = true
is_none (Some x) = false

no_sets_rows : {A : Type 0} (f : A → Option Linear) (n : ℕ) (xs : List A) → is_empty (rows_of f n xs) ≡ list_all (λ x. is_none (f x)) xs
unfolding is_none
no_sets_rows f n [] = refl
no_sets_rows f n (x ∷ xs) = by_row (f x) (no_sets_rows f (suc n) xs)
  where
    by_row : (o : Option Linear) → is_empty (rows_of f (suc n) xs) ≡ list_all (λ x. is_none (f x)) xs → is_empty (with_row n o (rows_of f (suc n) xs)) ≡ (is_none o && list_all (λ x. is_none (f x)) xs)
    by_row None ih = ih
    by_row (Some l) ih = refl

some_incs_rows : {A : Type 0} (f : A → Option Fraction) (n : ℕ) (xs : List A) → has_incs (rows_of f n xs) ≡ list_any (λ x. is_some (f x)) xs
some_incs_rows f n [] = refl
some_incs_rows f n (x ∷ xs) = by_row (f x) (some_incs_rows f (suc n) xs)
  where
    by_row : (o : Option Fraction) → has_incs (rows_of f (suc n) xs) ≡ list_any (λ x. is_some (f x)) xs → has_incs (with_row n o (rows_of f (suc n) xs)) ≡ (is_some o || list_any (λ x. is_some (f x)) xs)
    by_row None ih = ih
    by_row (Some l) ih = refl

none_set : (b : Bool) (l : Linear) → is_none (cond b None (Some l)) ≡ b
unfolding is_none
none_set true l = refl
none_set false l = refl

-- the target of each act is numbered
abbrev pub acts_on : (Named → Bool) → Move → Bool
acts_on p (puts_atom sign k) = true
acts_on p (acts k a) = p k

own_steps : (it : Named) (ms : List Move) → list_all steps_only ms ≡ true → is_stepped ms it ≡ true
own_steps it [] h = refl
own_steps it (puts_atom sign k ∷ ms) h = own_steps it ms h
own_steps it (acts k a ∷ ms) h = and_from _ _ (by_test (same k it) (and_parts _ _ h).0) (own_steps it ms (and_parts _ _ h).1)
  where
    by_test : (b : Bool) → is_step a ≡ true → cond b (is_step a) true ≡ true
    by_test true e = e
    by_test false e = refl

all_steps : (p : Named → Bool) (ms : List Move) → ((it : Named) → p it ≡ true → is_stepped ms it ≡ true) → list_all (acts_on p) ms ≡ true → list_all steps_only ms ≡ true
all_steps p [] h t = refl
all_steps p (puts_atom sign k ∷ ms) h t = all_steps p ms h t
all_steps p (acts k a ∷ ms) h t = let ts = and_parts _ _ t in
    and_from _ _ (sym (ap (λ b. cond b (is_step a) true) (same_itself k)) ∙ (and_parts _ _ (h k ts.0)).0) (all_steps p ms (λ it e. (and_parts _ _ (h it e)).1) ts.1)

-- a function that no act is on has the sum 0, so where it has another, some act is on it
acted : (sums : Named → Bool) (it : Named) (ms : List Move) → sums it ≡ true → (q : Fraction) → is_zero q ≡ true → is_zero (fold_acts sum_act it ms q) ≡ false → list_any (λ m. not (acts_on (λ k. not (sums k)) m)) ms ≡ true
acted sums it [] h q z n = absurd (cc)
acted sums it (puts_atom sign k ∷ ms) h q z n = acted sums it ms h q z n
acted sums it (acts k a ∷ ms) h q z n = by_test (same k it) refl n (λ n. acted sums it ms h q z n)
  where
    or_later : (b c : Bool) → c ≡ true → (b || c) ≡ true
    or_later true c e = refl
    or_later false c e = e

    not_not : (b : Bool) → b ≡ true → not (not b) ≡ true
    not_not true e = refl
    not_not false e = e

    by_test : (b : Bool) → same k it ≡ b → is_zero (cond b (fold_acts sum_act it ms (sum_act a q)) (fold_acts sum_act it ms q)) ≡ false → (is_zero (fold_acts sum_act it ms q) ≡ false → list_any (λ m. not (acts_on (λ k. not (sums k)) m)) ms ≡ true)
        → (not (not (sums k)) || list_any (λ m. not (acts_on (λ k. not (sums k)) m)) ms) ≡ true
    by_test true e n ih = ap (λ t. t || list_any (λ m. not (acts_on (λ k. not (sums k)) m)) ms) (not_not (sums k) (ap sums (same_sound k it e) ∙ h))
    by_test false e n ih = or_later (not (not (sums k))) _ (ih n)

sum_is : (moves : List Move) (m : Move) → not (acts_on (λ k. not (not (is_zero (fold_acts sum_act k moves zero_q)))) m) ≡ has_sum moves m
sum_is moves (puts_atom sign k) = refl
sum_is moves (acts k a) = by_test (is_zero (fold_acts sum_act k moves zero_q))
  where
    by_test : (b : Bool) → not (not (not b)) ≡ not b
    by_test true = refl
    by_test false = refl

any_same : {A : Type 0} (p q : A → Bool) → ((x : A) → p x ≡ q x) → (xs : List A) → list_any p xs ≡ list_any q xs
any_same p q h [] = refl
any_same p q h (x ∷ xs) = ap₂ ◌||◌ (h x) (any_same p q h xs)

all_same : {A : Type 0} (p q : A → Bool) → ((x : A) → p x ≡ q x) → (xs : List A) → list_all p xs ≡ list_all q xs
all_same p q h [] = refl
all_same p q h (x ∷ xs) = ap₂ ◌&&◌ (h x) (all_same p q h xs)

-- one of a list that passes
from_any : {A : Type 0} (p : A → Bool) (xs : List A) (b : Bool) → ((x : A) → p x ≡ true → b ≡ true) → list_any p xs ≡ true → b ≡ true
from_any p [] b f h = absurd (cc)
from_any p (x ∷ xs) b f h = by_test (p x) refl h (λ h. from_any p xs b f h)
  where
    by_test : (c : Bool) → p x ≡ c → (c || list_any p xs) ≡ true → (list_any p xs ≡ true → b ≡ true) → b ≡ true
    by_test true e h ih = f x e
    by_test false e h ih = ih h

any_listed : (p : Named → Bool) (xs : List Named) (it : Named) → is_listed same xs it ≡ true → p it ≡ true → list_any p xs ≡ true
any_listed p [] it h t = absurd (cc)
any_listed p (x ∷ xs) it h t = by_test (same x it) refl h (λ h. any_listed p xs it h t)
  where
    or_later : (b c : Bool) → c ≡ true → (b || c) ≡ true
    or_later true c e = refl
    or_later false c e = e

    by_test : (b : Bool) → same x it ≡ b → (b || is_listed same xs it) ≡ true → (is_listed same xs it ≡ true → list_any p xs ≡ true) → (p x || list_any p xs) ≡ true
    by_test true e h ih = ap (λ b. b || list_any p xs) (ap p (same_sound x it e) ∙ t)
    by_test false e h ih = or_later (p x) _ (ih h)

nonzero_some : (q : Fraction) → is_some (nonzero q) ≡ not (is_zero q)
nonzero_some q = by_test (is_zero q)
  where
    by_test : (b : Bool) → is_some (cond b None (Some q)) ≡ not b
    by_test true = refl
    by_test false = refl

inc_some : (moves : List Move) → list_all steps_only moves ≡ true → (it : Named) → is_some (increment_of moves it) ≡ not (is_zero (fold_acts sum_act it moves zero_q))
inc_some moves h it = ap (λ b. is_some (cond b (nonzero (fold_acts sum_act it moves zero_q)) None)) (own_steps it moves h) ∙ nonzero_some (fold_acts sum_act it moves zero_q)

not_false : (b : Bool) → not b ≡ true → b ≡ false
not_false true e = absurd (cc)
not_false false e = refl

if_first : (a b c : Bool) → (a ≡ true → b ≡ c) → (a && b) ≡ (a && c)
if_first true b c h = h refl
if_first false b c h = refl

module _ (set : Setting) (leaves : List Leaf) (moves : List Move) (targets : list_all (acts_on (λ k. is_listed same set.funcs k)) moves ≡ true) (literals : list_all (is_literal_numbered set) leaves ≡ true) where
  no_sets_is : list_all steps_only moves ≡ is_empty (rows_of (new_value_of set moves) 0 set.funcs)
  no_sets_is = same_tests _ _
      (λ h. rows ∙ all_listed (is_stepped moves) set.funcs (λ it l. own_steps it moves h))
      (λ h. all_steps (λ k. is_listed same set.funcs k) moves (λ it l. listed_all (is_stepped moves) set.funcs it (sym rows ∙ h) l) targets)
    where
      rows : is_empty (rows_of (new_value_of set moves) 0 set.funcs) ≡ list_all (is_stepped moves) set.funcs
      rows = no_sets_rows (new_value_of set moves) 0 set.funcs ∙ all_same _ (is_stepped moves) (λ it. none_set (is_stepped moves it) (fold_acts linear_act it moves (var (func_number set it)))) set.funcs

  some_sum_is : list_all steps_only moves ≡ true → list_any (has_sum moves) moves ≡ has_incs (rows_of (increment_of moves) 0 set.funcs)
  some_sum_is all = same_tests _ _
      (λ h. rows ∙ there moves targets h)
      (λ h. from_any (λ it. not (is_zero (fold_acts sum_act it moves zero_q))) set.funcs _ (λ it e. sym (any_same _ (has_sum moves) (sum_is moves) moves) ∙ acted (λ k. not (is_zero (fold_acts sum_act k moves zero_q))) it moves e zero_q refl (not_false _ e)) (sym rows ∙ h))
    where
      rows : has_incs (rows_of (increment_of moves) 0 set.funcs) ≡ list_any (λ it. not (is_zero (fold_acts sum_act it moves zero_q))) set.funcs
      rows = some_incs_rows (increment_of moves) 0 set.funcs ∙ any_same _ _ (inc_some moves all) set.funcs

      there : (ms : List Move) → list_all (acts_on (λ k. is_listed same set.funcs k)) ms ≡ true → list_any (has_sum moves) ms ≡ true → list_any (λ it. not (is_zero (fold_acts sum_act it moves zero_q))) set.funcs ≡ true
      there [] t h = absurd (cc)
      there (puts_atom sign k ∷ ms) t h = there ms t h
      there (acts k a ∷ ms) t h = by_test (not (is_zero (fold_acts sum_act k moves zero_q))) refl h (λ h. there ms (and_parts _ _ t).1 h)
        where
          by_test : (b : Bool) → not (is_zero (fold_acts sum_act k moves zero_q)) ≡ b → (b || list_any (has_sum moves) ms) ≡ true → (list_any (has_sum moves) ms ≡ true → list_any (λ it. not (is_zero (fold_acts sum_act it moves zero_q))) set.funcs ≡ true) → list_any (λ it. not (is_zero (fold_acts sum_act it moves zero_q))) set.funcs ≡ true
          by_test true e h ih = any_listed (λ it. not (is_zero (fold_acts sum_act it moves zero_q))) set.funcs k (and_parts _ _ t).0 e
          by_test false e h ih = ih h

  -- ---- literals
  in_numbers : (test : Proposition → Bool) (x : Proposition) → is_listed same_proposition set.propositions x ≡ true → is_in (proposition_number set x) (numbers_where test 0 set.propositions) ≡ test x
  in_numbers test x l = let n = proposition_number set x in is_in_where test set.propositions 0 n n x (from_zero n) (number_gets same_proposition proposition_sound set.propositions x l)
    where
      from_zero : (n : ℕ) → n ≡ 0 + n
      from_zero n = omega arith

  leaf_kept : (l : Leaf) → is_literal_numbered set l ≡ true → leaf_stays moves l ≡ passes (keeps (action_from set leaves moves)) (literal_row set l)
  leaf_kept fails h = refl
  leaf_kept unclear h = refl
  leaf_kept nothing h = refl
  leaf_kept (literal x true) h = ap not (sym (in_numbers (is_deleted moves) x h))
  leaf_kept (literal x false) h = ap not (sym (in_numbers (is_added moves) x h))
  leaf_kept (compared r l c) h = refl

  leaves_kept : (ls : List Leaf) → list_all (is_literal_numbered set) ls ≡ true → list_all (leaf_stays moves) ls ≡ list_all (λ l. passes (keeps (action_from set leaves moves)) (literal_row set l)) ls
  leaves_kept [] h = refl
  leaves_kept (l ∷ ls) h = ap₂ ◌&&◌ (leaf_kept l (and_parts _ _ h).0) (leaves_kept ls (and_parts _ _ h).1)

  -- the literals 'has a value' stay
  values_stay : list_all (λ n. not (is_in n (numbers_where (is_deleted moves) 0 set.propositions))) (numbers_where (is_read (all_reads leaves moves)) 0 set.propositions) ≡ true
  values_stay = all_where (is_read (all_reads leaves moves)) (λ n. not (is_in n (numbers_where (is_deleted moves) 0 set.propositions))) set.propositions 0 (λ i x e t. ap not (is_in_where (is_deleted moves) set.propositions 0 i (0 + i) x refl e) ∙ by_proposition x t)
    where
      by_proposition : (x : Proposition) → is_read (all_reads leaves moves) x ≡ true → not (is_deleted moves x) ≡ true
      by_proposition (atom it) t = absurd (cc)
      by_proposition (valued it) t = refl

  keeps_is : list_all (leaf_stays moves) leaves ≡ list_all (keeps (action_from set leaves moves)) (action_from set leaves moves).lits
  keeps_is =
      let a = action_from set leaves moves in
      let lits = filter_map (literal_row set) leaves in
      let numbers = numbers_where (is_read (all_reads leaves moves)) 0 set.propositions in
      let mark : ℕ → ℕ × Bool = λ n. (n, true) in
      leaves_kept leaves literals ∙ and_true (list_all (λ l. passes (keeps a) (literal_row set l)) leaves) ∙ sym (list_all-append (keeps a) (once same_literal lits) (map mark numbers)
      ∙ ap₂ ◌&&◌ (all-once same_literal lit_sound (keeps a) lits ∙ all-filter_map (keeps a) (literal_row set) leaves) (list_all-map (keeps a) mark numbers ∙ values_stay))
    where
      and_true : (b : Bool) → b ≡ (b && true)
      and_true true = refl
      and_true false = refl

  pub rolls_is : rolls leaves moves ≡ is_rollable (action_from set leaves moves)
  rolls_is = if_first _ _ _ (λ h. ap₂ ◌&&◌ (some_sum_is h) keeps_is) ∙ ap (λ b. b && (has_incs (action_from set leaves moves).incs && list_all (keeps (action_from set leaves moves)) (action_from set leaves moves).lits)) no_sets_is
