-- What is made of moves, by the numbers of atoms and functions.
use Rattle.std.proofs.Common.{◌≡◌, ℕ, Bool, true, false, not, cond, ◌&&◌, ◌||◌, List, [], ◌∷◌, ◌++◌, map, Some, None, refl, ap, ap₂, ◌∙◌, nat_eq, pos}
use Rattle.std.specs.Prelude.{slice_get}
use Rattle.std.specs.List.{list_all, list_any}
use Rattle.std.proofs.lemmas.Bool.{and_parts}
use Rattle.rational.specs.Fraction.{Fraction, whole}
use Rattle.lin.specs.Linear.{Linear, var}
use Rattle.ground_numbers.specs.declared.named.Named.{Named}
use Rattle.ground_numbers.specs.Numbers.{same, is_listed, number_in, AreDistinct}
use Rattle.ground_action.specs.Setting.{Setting}
use Rattle.ground_action.specs.Parts as spec
use Rattle.ground_action.specs.Leaves as spec_leaves
use Rattle.ground_action.specs.Leaves.{puts_atom, acts, assign, increase, decrease, scale_up, scale_down}
use Rattle.ground_action.specs.GroundAction as action
use Rattle.ground_action.specs.GroundAction.{numbers_where, rows_of, puts_it, is_added, is_deleted, fold_acts, linear_act, sum_act, passes_on, is_stepped, increment_of, nonzero, new_value_of}
use Rattle.ground_action.specs.Work.{fold_ops, sum_ops, act_ops, func_ops}
use Rattle.ground_parts.specs.Forms.{form_of}
use Rattle.ground_draft.specs.declared.moves.Act.{Act}
use Rattle.ground_draft.specs.declared.moves.Act.TheVariants.{Assign, Increase, Decrease, ScaleUp, ScaleDown}
use Rattle.ground_draft.specs.declared.moves.Move.{Move}
use Rattle.ground_draft.specs.declared.moves.Move.TheVariants.{Put, Change}
use Rattle.ground_draft.specs.inside.Running.{run, ops_run}
use Rattle.ground_draft.specs.inside.Acts.{is_step, grow, grow_ops, become, become_ops, step_by, grow_by, grow_ops_by, become_by, become_ops_by}
use Rattle.ground_draft.proofs.Places.{same_place}

-- ---- an act and a move, by number
abbrev pub form_act : spec_leaves.Act → Act
form_act (assign p) = Assign (form_of p)
form_act (increase p) = Increase (form_of p)
form_act (decrease p) = Decrease (form_of p)
form_act (scale_up a) = ScaleUp a
form_act (scale_down a) = ScaleDown a

abbrev pub form_move : List Named → List Named → spec_leaves.Move → Move
form_move atoms funcs (puts_atom sign k) = Put sign (number_in same atoms k)
form_move atoms funcs (acts k a) = Change (number_in same funcs k) (form_act a)

-- it doesn't divide by 0
abbrev pub act_divides : spec_leaves.Act → Bool
act_divides (assign p) = true
act_divides (increase p) = true
act_divides (decrease p) = true
act_divides (scale_up a) = true
act_divides (scale_down a) = not (spec.is_zero a)

abbrev pub divides : spec_leaves.Move → Bool
divides (puts_atom sign k) = true
divides (acts k a) = act_divides a

abbrev pub target_listed : List Named → List Named → spec_leaves.Move → Bool
target_listed atoms funcs (puts_atom sign k) = is_listed same atoms k
target_listed atoms funcs (acts k a) = is_listed same funcs k

abbrev pub acts_it : Named → spec_leaves.Move → Bool
acts_it k (puts_atom sign j) = false
acts_it k (acts j a) = same j k

-- ---- one act
step_is : (a : spec_leaves.Act) → is_step (form_act a) ≡ action.is_step a
step_is (assign p) = refl
step_is (increase (spec.constant a)) = refl
step_is (increase (spec.linear r l)) = refl
step_is (decrease (spec.constant a)) = refl
step_is (decrease (spec.linear r l)) = refl
step_is (scale_up a) = refl
step_is (scale_down a) = refl

grow_is : (a : spec_leaves.Act) (q : Fraction) → grow (form_act a) q ≡ sum_act a q
grow_is (assign p) q = refl
grow_is (increase (spec.constant a)) q = refl
grow_is (increase (spec.linear r l)) q = refl
grow_is (decrease (spec.constant a)) q = refl
grow_is (decrease (spec.linear r l)) q = refl
grow_is (scale_up a) q = refl
grow_is (scale_down a) q = refl

grow_ops_are : (a : spec_leaves.Act) (q : Fraction) → grow_ops (form_act a) q ≡ sum_ops a q
grow_ops_are (assign p) q = refl
grow_ops_are (increase (spec.constant a)) q = refl
grow_ops_are (increase (spec.linear r l)) q = refl
grow_ops_are (decrease (spec.constant a)) q = refl
grow_ops_are (decrease (spec.linear r l)) q = refl
grow_ops_are (scale_up a) q = refl
grow_ops_are (scale_down a) q = refl

not_true : (b : Bool) → not b ≡ true → b ≡ false
not_true true h = absurd (cc)
not_true false h = refl

become_is : (a : spec_leaves.Act) → act_divides a ≡ true → (l : Linear) → become (form_act a) l ≡ linear_act a l
become_is (assign (spec.constant a)) h l = refl
become_is (assign (spec.linear r m)) h l = refl
become_is (increase (spec.constant a)) h l = refl
become_is (increase (spec.linear r m)) h l = refl
become_is (decrease (spec.constant a)) h l = refl
become_is (decrease (spec.linear r m)) h l = refl
become_is (scale_up a) h l = refl
become_is (scale_down a) h l = ap (λ b. cond b l (linear_act (scale_down a) l)) (not_true _ h)

become_ops_are : (a : spec_leaves.Act) → act_divides a ≡ true → (l : Linear) → become_ops (form_act a) l ≡ act_ops a l
become_ops_are (assign (spec.constant a)) h l = refl
become_ops_are (assign (spec.linear r m)) h l = refl
become_ops_are (increase (spec.constant a)) h l = refl
become_ops_are (increase (spec.linear r m)) h l = refl
become_ops_are (decrease (spec.constant a)) h l = refl
become_ops_are (decrease (spec.linear r m)) h l = refl
become_ops_are (scale_up a) h l = refl
become_ops_are (scale_down a) h l = ap (λ b. cond b [] (act_ops (scale_down a) l)) (not_true _ h)

-- ---- of a list, those on one function
module _ (atoms funcs : List Named) (distinct : AreDistinct funcs) (i : ℕ) (k : Named) (at : slice_get funcs i ≡ Some k) where
  abbrev form : spec_leaves.Move → Move
  form = form_move atoms funcs

  listed_head : (j : Named) (a : spec_leaves.Act) (more : List spec_leaves.Move) → list_all (target_listed atoms funcs) (acts j a ∷ more) ≡ true → nat_eq (number_in same funcs j) i ≡ same j k
  listed_head j a more h = same_place funcs distinct i k j at (and_parts (is_listed same funcs j) (list_all (target_listed atoms funcs) more) h).0

  tail : (p : spec_leaves.Move → Bool) (m : spec_leaves.Move) (more : List spec_leaves.Move) → list_all p (m ∷ more) ≡ true → list_all p more ≡ true
  tail p m more h = (and_parts (p m) (list_all p more) h).1

  pub stepped_is : (moves : List spec_leaves.Move) → list_all (target_listed atoms funcs) moves ≡ true → list_all (step_by i) (map form moves) ≡ is_stepped moves k
  stepped_is [] h = refl
  stepped_is (puts_atom sign j ∷ more) h = stepped_is more (tail (target_listed atoms funcs) (puts_atom sign j) more h)
  stepped_is (acts j a ∷ more) h =
      ap₂ (λ b t. cond b (is_step (form_act a)) true && t) (listed_head j a more h) (stepped_is more (tail (target_listed atoms funcs) (acts j a) more h))
      ∙ ap (λ s. cond (same j k) s true && is_stepped more k) (step_is a)

  pub sum_is : (moves : List spec_leaves.Move) → list_all (target_listed atoms funcs) moves ≡ true → (q : Fraction) → run (grow_by i) q (map form moves) ≡ fold_acts sum_act k moves q
  sum_is [] h q = refl
  sum_is (puts_atom sign j ∷ more) h q = sum_is more (tail (target_listed atoms funcs) (puts_atom sign j) more h) q
  sum_is (acts j a ∷ more) h q = ap (λ b. run (grow_by i) (cond b (grow (form_act a) q) q) (map form more)) (listed_head j a more h) ∙ by_test (sum_is more (tail (target_listed atoms funcs) (acts j a) more h)) (same j k)
    where
      by_test : ((x : Fraction) → run (grow_by i) x (map form more) ≡ fold_acts sum_act k more x) → (b : Bool)
          → run (grow_by i) (cond b (grow (form_act a) q) q) (map form more) ≡ cond b (fold_acts sum_act k more (sum_act a q)) (fold_acts sum_act k more q)
      by_test ih true = ap (λ x. run (grow_by i) x (map form more)) (grow_is a q) ∙ ih (sum_act a q)
      by_test ih false = ih q

  pub sum_ops_are : (moves : List spec_leaves.Move) → list_all (target_listed atoms funcs) moves ≡ true → (q : Fraction) → ops_run (grow_by i) (grow_ops_by i) q (map form moves) ≡ fold_ops sum_act sum_ops k moves q
  sum_ops_are [] h q = refl
  sum_ops_are (puts_atom sign j ∷ more) h q = sum_ops_are more (tail (target_listed atoms funcs) (puts_atom sign j) more h) q
  sum_ops_are (acts j a ∷ more) h q =
      ap (λ b. cond b (grow_ops (form_act a) q) [] ++ ops_run (grow_by i) (grow_ops_by i) (cond b (grow (form_act a) q) q) (map form more)) (listed_head j a more h) ∙ by_test (sum_ops_are more (tail (target_listed atoms funcs) (acts j a) more h)) (same j k)
    where
      by_test : ((x : Fraction) → ops_run (grow_by i) (grow_ops_by i) x (map form more) ≡ fold_ops sum_act sum_ops k more x) → (b : Bool) → cond b (grow_ops (form_act a) q) [] ++ ops_run (grow_by i) (grow_ops_by i) (cond b (grow (form_act a) q) q) (map form more)
          ≡ cond b (sum_ops a q ++ fold_ops sum_act sum_ops k more (sum_act a q)) (fold_ops sum_act sum_ops k more q)
      by_test ih true = ap₂ ◌++◌ (grow_ops_are a q) (ap (λ x. ops_run (grow_by i) (grow_ops_by i) x (map form more)) (grow_is a q) ∙ ih (sum_act a q))
      by_test ih false = ih q

  pub value_is : (moves : List spec_leaves.Move) → list_all (target_listed atoms funcs) moves ≡ true → list_all divides moves ≡ true → (l : Linear) → run (become_by i) l (map form moves) ≡ fold_acts linear_act k moves l
  value_is [] h d l = refl
  value_is (puts_atom sign j ∷ more) h d l = value_is more (tail (target_listed atoms funcs) (puts_atom sign j) more h) (tail divides (puts_atom sign j) more d) l
  value_is (acts j a ∷ more) h d l = ap (λ b. run (become_by i) (cond b (become (form_act a) l) l) (map form more)) (listed_head j a more h) ∙ by_test (value_is more (tail (target_listed atoms funcs) (acts j a) more h) (tail divides (acts j a) more d)) (same j k)
    where
      by_test : ((x : Linear) → run (become_by i) x (map form more) ≡ fold_acts linear_act k more x) → (b : Bool) → run (become_by i) (cond b (become (form_act a) l) l) (map form more) ≡ cond b (fold_acts linear_act k more (linear_act a l)) (fold_acts linear_act k more l)
      by_test ih true = ap (λ x. run (become_by i) x (map form more)) (become_is a (and_parts (act_divides a) (list_all divides more) d).0 l) ∙ ih (linear_act a l)
      by_test ih false = ih l

  pub value_ops_are : (moves : List spec_leaves.Move) → list_all (target_listed atoms funcs) moves ≡ true → list_all divides moves ≡ true → (l : Linear)
      → ops_run (become_by i) (become_ops_by i) l (map form moves) ≡ fold_ops linear_act act_ops k moves l
  value_ops_are [] h d l = refl
  value_ops_are (puts_atom sign j ∷ more) h d l = value_ops_are more (tail (target_listed atoms funcs) (puts_atom sign j) more h) (tail divides (puts_atom sign j) more d) l
  value_ops_are (acts j a ∷ more) h d l =
      ap (λ b. cond b (become_ops (form_act a) l) [] ++ ops_run (become_by i) (become_ops_by i) (cond b (become (form_act a) l) l) (map form more)) (listed_head j a more h) ∙ by_test (value_ops_are more (tail (target_listed atoms funcs) (acts j a) more h) (tail divides (acts j a) more d)) (same j k)
    where
      own : act_divides a ≡ true
      own = (and_parts (act_divides a) (list_all divides more) d).0

      by_test : ((x : Linear) → ops_run (become_by i) (become_ops_by i) x (map form more) ≡ fold_ops linear_act act_ops k more x) → (b : Bool) → cond b (become_ops (form_act a) l) [] ++ ops_run (become_by i) (become_ops_by i) (cond b (become (form_act a) l) l) (map form more)
          ≡ cond b (act_ops a l ++ fold_ops linear_act act_ops k more (linear_act a l)) (fold_ops linear_act act_ops k more l)
      by_test ih true = ap₂ ◌++◌ (become_ops_are a own l) (ap (λ x. ops_run (become_by i) (become_ops_by i) x (map form more)) (become_is a own l) ∙ ih (linear_act a l))
      by_test ih false = ih l

-- ---- a function that no move acts on
module _ (k : Named) where
  or_none : (a b : Bool) → (a || b) ≡ false → (a ≡ false) × (b ≡ false)
  or_none true b h = absurd (cc)
  or_none false b h = (refl, h)

  untouched_step : (moves : List spec_leaves.Move) → list_any (acts_it k) moves ≡ false → is_stepped moves k ≡ true
  untouched_step [] h = refl
  untouched_step (puts_atom sign j ∷ more) h = untouched_step more h
  untouched_step (acts j a ∷ more) h =
      let hs = or_none (same j k) (list_any (acts_it k) more) h in
      ap₂ (λ b t. cond b (action.is_step a) true && t) hs.0 (untouched_step more hs.1)

  untouched_sum : (moves : List spec_leaves.Move) → list_any (acts_it k) moves ≡ false → (q : Fraction) → fold_acts sum_act k moves q ≡ q
  untouched_sum [] h q = refl
  untouched_sum (puts_atom sign j ∷ more) h q = untouched_sum more h q
  untouched_sum (acts j a ∷ more) h q =
      let hs = or_none (same j k) (list_any (acts_it k) more) h in
      ap (λ b. cond b (fold_acts sum_act k more (sum_act a q)) (fold_acts sum_act k more q)) hs.0 ∙ untouched_sum more hs.1 q

  untouched_ops : (moves : List spec_leaves.Move) → list_any (acts_it k) moves ≡ false → (q : Fraction) → fold_ops sum_act sum_ops k moves q ≡ []
  untouched_ops [] h q = refl
  untouched_ops (puts_atom sign j ∷ more) h q = untouched_ops more h q
  untouched_ops (acts j a ∷ more) h q =
      let hs = or_none (same j k) (list_any (acts_it k) more) h in
      ap (λ b. cond b (sum_ops a q ++ fold_ops sum_act sum_ops k more (sum_act a q)) (fold_ops sum_act sum_ops k more q)) hs.0 ∙ untouched_ops more hs.1 q

  pub no_increment : (moves : List spec_leaves.Move) → list_any (acts_it k) moves ≡ false → increment_of moves k ≡ None
  no_increment moves h = ap₂ (λ b q. cond b (nonzero q) None) (untouched_step moves h) (untouched_sum moves h (whole (pos 0)))

  pub no_new_value : (set : Setting) (moves : List spec_leaves.Move) → list_any (acts_it k) moves ≡ false → new_value_of set moves k ≡ None
  no_new_value set moves h = ap (λ b. cond b None (Some (fold_acts linear_act k moves (var (number_in same set.funcs k))))) (untouched_step moves h)

  pub no_ops : (set : Setting) (moves : List spec_leaves.Move) → list_any (acts_it k) moves ≡ false → func_ops set moves k ≡ []
  no_ops set moves h =
      ap (λ b. cond b (fold_ops sum_act sum_ops k moves (whole (pos 0))) (fold_ops linear_act act_ops k moves (var (number_in same set.funcs k)))) (untouched_step moves h) ∙ untouched_ops moves h (whole (pos 0))
