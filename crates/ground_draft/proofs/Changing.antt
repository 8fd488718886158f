-- The lists of atoms and the rows of functions, as the specification has them.
use Rattle.std.proofs.Common.{◌≡◌, ℕ, suc, ◌+◌, Bool, true, false, not, cond, ◌&&◌, ◌||◌, List, [], ◌∷◌, ◌++◌, map, length, Option, Some, None, refl, sym, ap, ap₂, ◌∙◌, nat_eq, nat_lt, arith, append_assoc, pos}
use Rattle.std.specs.Prelude.{slice_get}
use Rattle.std.specs.List.{list_all, list_any, filter_map, flat_map, cons_option}
use Rattle.std.proofs.lemmas.Bool.{eqb-true, and_parts}
use Rattle.std.proofs.lemmas.List.{append-nil}
use Rattle.rational.specs.Fraction.{Fraction, whole}
use Rattle.lin.specs.Linear.{Linear, var}
use Rattle.task_core.specs.Step.{is_in}
use Rattle.ground_numbers.specs.declared.named.Named.{Named}
use Rattle.ground_numbers.specs.Numbers.{same, is_listed, number_in, AreDistinct}
use Rattle.ground_action.specs.Setting.{Setting, atom}
use Rattle.ground_action.specs.Parts as spec
use Rattle.ground_action.specs.Leaves as spec_leaves
use Rattle.ground_action.specs.Leaves.{puts_atom, acts}
use Rattle.ground_action.specs.GroundAction as action
use Rattle.ground_action.specs.GroundAction.{numbers_where, rows_of, puts_it, is_added, is_deleted, fold_acts, linear_act, sum_act, is_stepped, increment_of, nonzero, new_value_of}
use Rattle.ground_action.specs.Work.{fold_ops, sum_ops, act_ops, func_ops}
use Rattle.ground_draft.specs.declared.moves.Move.{Move}
use Rattle.ground_draft.specs.declared.rows.Row.{Row}
use Rattle.ground_draft.specs.declared.rows.Row.TheVariants.{Same, Grows, Becomes}
use Rattle.ground_draft.specs.declared.rows.Rows.{Rows}
use Rattle.ground_draft.specs.inside.Running.{run, ops_run}
use Rattle.ground_draft.specs.inside.Acts.{sum_at, value_at, value_ops_at, sum_row, row_at, row_ops_at, with_row, next_row, rows_at, rows_ops_at, no_rows}
use Rattle.ground_draft.specs.inside.Lists.{put_at, added_in, unless_in, deleted_in, changed_at, changed_in}
use Rattle.ground_draft.proofs.Places.{rising_where, not_below, number_below, same_place, own_place, rising_is_in}
use Rattle.ground_draft.proofs.Acting.{form_move, divides, target_listed, acts_it, stepped_is, sum_is, sum_ops_are, value_is, value_ops_are, no_increment, no_new_value, no_ops}

-- ---- lists through an option
in_cons : (b : Bool) (n i : ℕ) (ns : List ℕ) → is_in i (cons_option (cond b (Some n) None) ns) ≡ (b && nat_eq n i || is_in i ns)
in_cons true n i ns = refl
in_cons false n i ns = refl

below_cons : (b : Bool) (n top : ℕ) (ns : List ℕ) → nat_lt n top ≡ true → list_all (λ m. nat_lt m top) ns ≡ true → list_all (λ m. nat_lt m top) (cons_option (cond b (Some n) None) ns) ≡ true
below_cons true n top ns h g = ap₂ ◌&&◌ h g
below_cons false n top ns h g = g

tail : {A : Type 0} (p : A → Bool) (m : A) (more : List A) → list_all p (m ∷ more) ≡ true → list_all p more ≡ true
tail p m more h = (and_parts (p m) (list_all p more) h).1

where_map : {A B : Type 0} (test : B → Bool) (f : A → B) (n : ℕ) (xs : List A) → numbers_where test n (map f xs) ≡ numbers_where (λ x. test (f x)) n xs
where_map test f n [] = refl
where_map test f n (x ∷ xs) = ap (λ ns. cond (test (f x)) (n ∷ ns) ns) (where_map test f (suc n) xs)

-- ---- atoms
module _ (atoms funcs : List Named) (distinct : AreDistinct atoms) where
  abbrev forms : List spec_leaves.Move → List Move
  forms moves = map (form_move atoms funcs) moves

  module _ (want : Bool) where
    wanted : Bool → Bool
    wanted sign = cond want sign (not sign)

    put_in_is : (moves : List spec_leaves.Move) → list_all (target_listed atoms funcs) moves ≡ true → (i : ℕ) (j : Named) → slice_get atoms i ≡ Some j
        → is_in i (filter_map (put_at want) (forms moves)) ≡ list_any (puts_it want j) moves
    put_in_is [] h i j e = refl
    put_in_is (puts_atom sign k ∷ more) h i j e =
        in_cons (cond want sign (not sign)) (number_in same atoms k) i (filter_map (put_at want) (forms more))
        ∙ ap₂ (λ s t. cond want sign (not sign) && s || t) (same_place atoms distinct i j k e (and_parts (is_listed same atoms k) (list_all (target_listed atoms funcs) more) h).0)
        (put_in_is more (tail (target_listed atoms funcs) (puts_atom sign k) more h) i j e)
    put_in_is (acts k a ∷ more) h i j e = put_in_is more (tail (target_listed atoms funcs) (acts k a) more h) i j e

    put_below : (moves : List spec_leaves.Move) → list_all (target_listed atoms funcs) moves ≡ true → list_all (λ m. nat_lt m (length atoms)) (filter_map (put_at want) (forms moves)) ≡ true
    put_below [] h = refl
    put_below (puts_atom sign k ∷ more) h =
        below_cons (cond want sign (not sign)) (number_in same atoms k) (length atoms) (filter_map (put_at want) (forms more))
        (number_below same atoms k (and_parts (is_listed same atoms k) (list_all (target_listed atoms funcs) more) h).0) (put_below more (tail (target_listed atoms funcs) (puts_atom sign k) more h))
    put_below (acts k a ∷ more) h = put_below more (tail (target_listed atoms funcs) (acts k a) more h)

  module _ (moves : List spec_leaves.Move) (listed : list_all (target_listed atoms funcs) moves ≡ true) where
    pub added_is : added_in (forms moves) ≡ numbers_where (is_added moves) 0 (map atom atoms)
    added_is =
        rising_where (λ j. list_any (puts_it true j) moves) atoms (filter_map (put_at true) (forms moves)) (λ k l. not_below (filter_map (put_at true) (forms moves)) (length atoms) k (put_below true moves listed) l) (put_in_is true moves listed)
        ∙ sym (where_map (is_added moves) atom 0 atoms)

    in_added : (i : ℕ) (j : Named) → slice_get atoms i ≡ Some j → is_in i (added_in (forms moves)) ≡ list_any (puts_it true j) moves
    in_added i j e = rising_is_in i (filter_map (put_at true) (forms moves)) ∙ put_in_is true moves listed i j e

    unless_is : (others ns : List ℕ) (i : ℕ) → is_in i (filter_map (unless_in others) ns) ≡ (is_in i ns && not (is_in i others))
    unless_is others [] i = refl
    unless_is others (n ∷ ns) i = by_other (is_in n others) refl (nat_eq n i) refl (unless_is others ns i)
      where
        or_and : (a b c : Bool) → (a ≡ true → c ≡ true) → (b && not c) ≡ ((a || b) && not c)
        or_and true b c f = let t : c ≡ true = f refl in and_false b ∙ refl
          where
            and_false : (b : Bool) → (b && not c) ≡ not c
            and_false true = refl
            and_false false = sym (ap not (f refl))
        or_and false b c f = refl

        front : (a b c : Bool) → (a ≡ true → c ≡ false) → (a || (b && not c)) ≡ ((a || b) && not c)
        front true b c f = sym (ap not (f refl))
        front false b c f = refl

        by_other : (s : Bool) → is_in n others ≡ s → (a : Bool) → nat_eq n i ≡ a → is_in i (filter_map (unless_in others) ns) ≡ (is_in i ns && not (is_in i others))
            → is_in i (cons_option (cond s None (Some n)) (filter_map (unless_in others) ns)) ≡ ((nat_eq n i || is_in i ns) && not (is_in i others))
        by_other true e a g ih = ih ∙ or_and (nat_eq n i) (is_in i ns) (is_in i others) (λ t. sym (ap (λ m. is_in m others) (eqb-true n i t)) ∙ e)
        by_other false e a g ih = ap (λ t. nat_eq n i || t) ih ∙ front (nat_eq n i) (is_in i ns) (is_in i others) (λ t. sym (ap (λ m. is_in m others) (eqb-true n i t)) ∙ e)

    unless_below : (others ns : List ℕ) (top : ℕ) → list_all (λ m. nat_lt m top) ns ≡ true → list_all (λ m. nat_lt m top) (filter_map (unless_in others) ns) ≡ true
    unless_below others [] top h = refl
    unless_below others (n ∷ ns) top h = by_other (is_in n others) (unless_below others ns top (tail (λ m. nat_lt m top) n ns h))
      where
        by_other : (s : Bool) → list_all (λ m. nat_lt m top) (filter_map (unless_in others) ns) ≡ true → list_all (λ m. nat_lt m top) (cons_option (cond s None (Some n)) (filter_map (unless_in others) ns)) ≡ true
        by_other true ih = ih
        by_other false ih = ap₂ ◌&&◌ (and_parts (nat_lt n top) (list_all (λ m. nat_lt m top) ns) h).0 ih

    pub deleted_is : deleted_in (forms moves) ≡ numbers_where (is_deleted moves) 0 (map atom atoms)
    deleted_is =
        rising_where (λ j. list_any (puts_it false j) moves && not (list_any (puts_it true j) moves)) atoms (filter_map (unless_in (added_in (forms moves))) (filter_map (put_at false) (forms moves)))
        (λ k l. not_below (filter_map (unless_in (added_in (forms moves))) (filter_map (put_at false) (forms moves))) (length atoms) k (unless_below (added_in (forms moves)) (filter_map (put_at false) (forms moves)) (length atoms) (put_below false moves listed)) l)
        (λ i j e. unless_is (added_in (forms moves)) (filter_map (put_at false) (forms moves)) i ∙ ap₂ (λ a b. a && not b) (put_in_is false moves listed i j e) (in_added i j e))
        ∙ sym (where_map (is_deleted moves) atom 0 atoms)

-- ---- functions
abbrev growth_in : Row → Option Fraction
growth_in Same = None
growth_in (Grows q) = Some q
growth_in (Becomes l) = None

abbrev value_in : Row → Option Linear
value_in Same = None
value_in (Grows q) = None
value_in (Becomes l) = Some l

module _ (forms : List Move) where
  incs_from : (ns : List ℕ) (rows : Rows) → (run (next_row forms) rows ns).incs ≡ rows.incs ++ flat_map (λ n. action.with_row n (growth_in (row_at forms n)) []) ns
  incs_from [] rows = sym (append-nil rows.incs)
  incs_from (n ∷ ns) rows = incs_from ns (next_row forms rows n) ∙ by_row (row_at forms n) ∙ append_assoc rows.incs (action.with_row n (growth_in (row_at forms n)) []) (flat_map (λ n. action.with_row n (growth_in (row_at forms n)) []) ns)
    where
      by_row : (r : Row) → (with_row rows n r).incs ++ flat_map (λ n. action.with_row n (growth_in (row_at forms n)) []) ns ≡ (rows.incs ++ action.with_row n (growth_in r) []) ++ flat_map (λ n. action.with_row n (growth_in (row_at forms n)) []) ns
      by_row Same = ap (λ xs. xs ++ flat_map (λ n. action.with_row n (growth_in (row_at forms n)) []) ns) (sym (append-nil rows.incs))
      by_row (Grows q) = refl
      by_row (Becomes l) = ap (λ xs. xs ++ flat_map (λ n. action.with_row n (growth_in (row_at forms n)) []) ns) (sym (append-nil rows.incs))

  sets_from : (ns : List ℕ) (rows : Rows) → (run (next_row forms) rows ns).sets ≡ rows.sets ++ flat_map (λ n. action.with_row n (value_in (row_at forms n)) []) ns
  sets_from [] rows = sym (append-nil rows.sets)
  sets_from (n ∷ ns) rows = sets_from ns (next_row forms rows n) ∙ by_row (row_at forms n) ∙ append_assoc rows.sets (action.with_row n (value_in (row_at forms n)) []) (flat_map (λ n. action.with_row n (value_in (row_at forms n)) []) ns)
    where
      by_row : (r : Row) → (with_row rows n r).sets ++ flat_map (λ n. action.with_row n (value_in (row_at forms n)) []) ns ≡ (rows.sets ++ action.with_row n (value_in r) []) ++ flat_map (λ n. action.with_row n (value_in (row_at forms n)) []) ns
      by_row Same = ap (λ xs. xs ++ flat_map (λ n. action.with_row n (value_in (row_at forms n)) []) ns) (sym (append-nil rows.sets))
      by_row (Grows q) = ap (λ xs. xs ++ flat_map (λ n. action.with_row n (value_in (row_at forms n)) []) ns) (sym (append-nil rows.sets))
      by_row (Becomes l) = refl

  row_ops_from : (ns : List ℕ) (rows : Rows) → ops_run (next_row forms) (λ rows n. row_ops_at forms n) rows ns ≡ flat_map (row_ops_at forms) ns
  row_ops_from [] rows = refl
  row_ops_from (n ∷ ns) rows = ap (λ os. row_ops_at forms n ++ os) (row_ops_from ns (next_row forms rows n))

-- over those numbers alone whose things pass, where nothing comes of the others
module _ {A B : Type 0} (test : A → Bool) (g : A → List B) (h : ℕ → List B) where
  flat_where : (n : ℕ) (xs : List A) → ((i : ℕ) (x : A) → slice_get xs i ≡ Some x → h (n + i) ≡ g x) → ((x : A) → test x ≡ false → g x ≡ []) → flat_map h (numbers_where test n xs) ≡ flat_map g xs
  flat_where n [] e f = refl
  flat_where n (x ∷ xs) e f = by_test (flat_where (suc n) xs (λ i y at. let s : suc n + i ≡ n + suc i = omega arith in ap h s ∙ e (suc i) y at) f) (test x) refl
    where
      own : h n ≡ g x
      own = let z : n ≡ n + 0 = omega arith in ap h z ∙ e 0 x refl

      by_test : flat_map h (numbers_where test (suc n) xs) ≡ flat_map g xs → (b : Bool) → test x ≡ b → flat_map h (cond b (n ∷ numbers_where test (suc n) xs) (numbers_where test (suc n) xs)) ≡ g x ++ flat_map g xs
      by_test rest true t = ap₂ ◌++◌ own rest
      by_test rest false t = rest ∙ ap (λ ys. ys ++ flat_map g xs) (sym (f x t))

module _ {A B : Type 0} (test : A → Bool) (g : A → Option B) (h : ℕ → Option B) where
  rows_where : (n : ℕ) (xs : List A) → ((i : ℕ) (x : A) → slice_get xs i ≡ Some x → h (n + i) ≡ g x) → ((x : A) → test x ≡ false → g x ≡ None)
      → flat_map (λ m. action.with_row m (h m) []) (numbers_where test n xs) ≡ rows_of g n xs
  rows_where n [] e f = refl
  rows_where n (x ∷ xs) e f = by_test (rows_where (suc n) xs (λ i y at. let s : suc n + i ≡ n + suc i = omega arith in ap h s ∙ e (suc i) y at) f) (test x) refl
    where
      own : h n ≡ g x
      own = let z : n ≡ n + 0 = omega arith in ap h z ∙ e 0 x refl

      front : (o : Option B) → action.with_row n o [] ++ rows_of g (suc n) xs ≡ action.with_row n o (rows_of g (suc n) xs)
      front None = refl
      front (Some b) = refl

      by_test : flat_map (λ m. action.with_row m (h m) []) (numbers_where test (suc n) xs) ≡ rows_of g (suc n) xs → (b : Bool) → test x ≡ b → flat_map (λ m. action.with_row m (h m) []) (cond b (n ∷ numbers_where test (suc n) xs) (numbers_where test (suc n) xs)) ≡ action.with_row n (g x) (rows_of g (suc n) xs)
      by_test rest true t = ap₂ (λ o ys. action.with_row n o [] ++ ys) own rest ∙ front (g x)
      by_test rest false t = rest ∙ ap (λ o. action.with_row n o (rows_of g (suc n) xs)) (sym (f x t))

module _ (set : Setting) (atoms : List Named) (distinct : AreDistinct set.funcs) (moves : List spec_leaves.Move)
    (listed : list_all (target_listed atoms set.funcs) moves ≡ true) (sound : list_all divides moves ≡ true) where
  abbrev made : List Move
  made = map (form_move atoms set.funcs) moves

  -- which are changed
  changed_in_is : (ms : List spec_leaves.Move) → list_all (target_listed atoms set.funcs) ms ≡ true → (i : ℕ) (k : Named) → slice_get set.funcs i ≡ Some k
      → is_in i (filter_map changed_at (map (form_move atoms set.funcs) ms)) ≡ list_any (acts_it k) ms
  changed_in_is [] h i k e = refl
  changed_in_is (puts_atom sign j ∷ more) h i k e = changed_in_is more (tail (target_listed atoms set.funcs) (puts_atom sign j) more h) i k e
  changed_in_is (acts j a ∷ more) h i k e =
      ap₂ ◌||◌ (same_place set.funcs distinct i k j e (and_parts (is_listed same set.funcs j) (list_all (target_listed atoms set.funcs) more) h).0)
      (changed_in_is more (tail (target_listed atoms set.funcs) (acts j a) more h) i k e)

  changed_below : (ms : List spec_leaves.Move) → list_all (target_listed atoms set.funcs) ms ≡ true → list_all (λ m. nat_lt m (length set.funcs)) (filter_map changed_at (map (form_move atoms set.funcs) ms)) ≡ true
  changed_below [] h = refl
  changed_below (puts_atom sign j ∷ more) h = changed_below more (tail (target_listed atoms set.funcs) (puts_atom sign j) more h)
  changed_below (acts j a ∷ more) h =
      ap₂ ◌&&◌ (number_below same set.funcs j (and_parts (is_listed same set.funcs j) (list_all (target_listed atoms set.funcs) more) h).0) (changed_below more (tail (target_listed atoms set.funcs) (acts j a) more h))

  changed_is : changed_in made ≡ numbers_where (λ k. list_any (acts_it k) moves) 0 set.funcs
  changed_is = rising_where (λ k. list_any (acts_it k) moves) set.funcs (filter_map changed_at made) (λ k l. not_below (filter_map changed_at made) (length set.funcs) k (changed_below moves listed) l) (changed_in_is moves listed)

  -- what becomes of each
  growth_row : (q : Fraction) → growth_in (sum_row q) ≡ nonzero q
  growth_row q = by_zero (spec.is_zero q)
    where
      by_zero : (b : Bool) → growth_in (cond b Same (Grows q)) ≡ cond b None (Some q)
      by_zero true = refl
      by_zero false = refl

  no_value_row : (q : Fraction) → value_in (sum_row q) ≡ None
  no_value_row q = by_zero (spec.is_zero q)
    where
      by_zero : (b : Bool) → value_in (cond b Same (Grows q)) ≡ None
      by_zero true = refl
      by_zero false = refl

  growth_is : (i : ℕ) (k : Named) → slice_get set.funcs i ≡ Some k → growth_in (row_at made i) ≡ increment_of moves k
  growth_is i k e =
      ap₂ (λ b q. growth_in (cond b (sum_row q) (Becomes (value_at made i)))) (stepped_is atoms set.funcs distinct i k e moves listed) (sum_is atoms set.funcs distinct i k e moves listed (whole (pos 0)))
      ∙ by_step (is_stepped moves k)
    where
      by_step : (b : Bool) → growth_in (cond b (sum_row (fold_acts sum_act k moves (whole (pos 0)))) (Becomes (value_at made i))) ≡ cond b (nonzero (fold_acts sum_act k moves (whole (pos 0)))) None
      by_step true = growth_row (fold_acts sum_act k moves (whole (pos 0)))
      by_step false = refl

  value_row : (i : ℕ) (k : Named) → slice_get set.funcs i ≡ Some k → value_at made i ≡ fold_acts linear_act k moves (var (number_in same set.funcs k))
  value_row i k e = value_is atoms set.funcs distinct i k e moves listed sound (var i) ∙ ap (λ n. fold_acts linear_act k moves (var n)) (sym (own_place set.funcs distinct i k e))

  value_in_is : (i : ℕ) (k : Named) → slice_get set.funcs i ≡ Some k → value_in (row_at made i) ≡ new_value_of set moves k
  value_in_is i k e =
      ap₂ (λ b l. value_in (cond b (sum_row (sum_at made i)) (Becomes l))) (stepped_is atoms set.funcs distinct i k e moves listed) (value_row i k e) ∙ by_step (is_stepped moves k)
    where
      by_step : (b : Bool) → value_in (cond b (sum_row (sum_at made i)) (Becomes (fold_acts linear_act k moves (var (number_in same set.funcs k))))) ≡ cond b None (Some (fold_acts linear_act k moves (var (number_in same set.funcs k))))
      by_step true = no_value_row (sum_at made i)
      by_step false = refl

  ops_are : (i : ℕ) (k : Named) → slice_get set.funcs i ≡ Some k → row_ops_at made i ≡ func_ops set moves k
  ops_are i k e =
      ap₂ (λ b os. cond b os (value_ops_at made i)) (stepped_is atoms set.funcs distinct i k e moves listed) (sum_ops_are atoms set.funcs distinct i k e moves listed (whole (pos 0)))
      ∙ ap (λ os. cond (is_stepped moves k) (fold_ops sum_act sum_ops k moves (whole (pos 0))) os)
      (value_ops_are atoms set.funcs distinct i k e moves listed sound (var i) ∙ ap (λ n. fold_ops linear_act act_ops k moves (var n)) (sym (own_place set.funcs distinct i k e)))

  pub incs_are : (rows_at made (changed_in made)).incs ≡ rows_of (increment_of moves) 0 set.funcs
  incs_are =
      incs_from made (changed_in made) no_rows ∙ ap (flat_map (λ n. action.with_row n (growth_in (row_at made n)) [])) changed_is
      ∙ rows_where (λ k. list_any (acts_it k) moves) (increment_of moves) (λ n. growth_in (row_at made n)) 0 set.funcs (λ i k e. let z : 0 + i ≡ i = omega arith in ap (λ n. growth_in (row_at made n)) z ∙ growth_is i k e) (λ k h. no_increment k moves h)

  pub sets_are : (rows_at made (changed_in made)).sets ≡ rows_of (new_value_of set moves) 0 set.funcs
  sets_are =
      sets_from made (changed_in made) no_rows ∙ ap (flat_map (λ n. action.with_row n (value_in (row_at made n)) [])) changed_is
      ∙ rows_where (λ k. list_any (acts_it k) moves) (new_value_of set moves) (λ n. value_in (row_at made n)) 0 set.funcs (λ i k e. let z : 0 + i ≡ i = omega arith in ap (λ n. value_in (row_at made n)) z ∙ value_in_is i k e) (λ k h. no_new_value k set moves h)

  pub row_ops_are : rows_ops_at made (changed_in made) ≡ flat_map (func_ops set moves) set.funcs
  row_ops_are =
      row_ops_from made (changed_in made) no_rows ∙ ap (flat_map (row_ops_at made)) changed_is
      ∙ flat_where (λ k. list_any (acts_it k) moves) (func_ops set moves) (row_ops_at made) 0 set.funcs (λ i k e. let z : 0 + i ≡ i = omega arith in ap (row_ops_at made) z ∙ ops_are i k e) (λ k h. no_ops k set moves h)
