-- What an instance whose names are numbered is made of is an action of the ground task.
use Rattle.std.proofs.Common.{◌≡◌, ◌≢◌, ℕ, zero, suc, ◌+◌, ◌<◌, Bool, true, false, not, cond, ◌&&◌, ◌||◌, List, [], ◌∷◌, map, length, Option, Some, None, refl, sym, ap, subst, ◌∙◌, nat_eq, nat_lt, eq-eqb, arith}
use Rattle.std.specs.Prelude.{slice_get, is_some, pos}
use Rattle.std.specs.List.{All, list_all, list_any, filter_map}
use Rattle.std.proofs.lemmas.Bool.{and_parts, and_from, or_right, eqb-true}
use Rattle.std.proofs.lemmas.List.Folds.{list_all-append, list_all-map, list_any-append}
use Rattle.std.proofs.lemmas.List.Elements.{All-weaker}
use Rattle.std.proofs.lemmas.List.{length-map}
use Rattle.rational.specs.Fraction.{Fraction, whole}
use Rattle.lin.specs.Linear.{Linear, var}
use Rattle.pddl_task.specs.declared.parts.TaskParts.{TaskParts}
use Rattle.plan_step.specs.State.{PlanState}
use Rattle.task_core.specs.declared.action.GAction.{GAction}
use Rattle.task_core.specs.Step.{is_in}
use Rattle.task_core.specs.Task.{GroundParts, IsNumbered, IsOrderly, TellsOf, IsActionOf, numbers, read_by, asks}
use Rattle.ground_numbers.specs.declared.named.Named.{Named}
use Rattle.ground_numbers.specs.Numbers.{same, is_listed, number_in, once}
use Rattle.ground_numbers.specs.inside.Same.{same_sound}
use Rattle.ground_action.specs.Setting.{Setting, Proposition, atom, valued, same_proposition, setting_from, func_number, are_numbered, value_in, truth_in}
use Rattle.ground_action.specs.Parts.{is_zero}
use Rattle.ground_action.specs.Leaves.{Leaf, fails, unclear, nothing, literal, compared, Act, assign, increase, decrease, scale_up, scale_down, Move, puts_atom, acts}
use Rattle.ground_action.specs.GroundAction.{numbers_where, puts_it, is_assign, assigns_it, is_added, is_deleted, fold_acts, linear_act, sum_act, is_step, is_stepped, nonzero, increment_of, new_value_of, literal_row, all_reads, is_read, same_literal, action_from, is_literal_numbered, is_numbered}
use Rattle.ground_action.proofs.ListLaws.{number_gets, all-once, is_in_where, all_where, all-filter_map, passes}
use Rattle.ground_action.proofs.StepLaws.{all_listed, listed_all, lit_sound}
use Rattle.ground_laws.specs.Result.{parts_in}
use Rattle.ground_laws.proofs.Lists.{at_front, lt_true, rising, where_rises, rows_rise, all_rows, row_is, all_in, all_less, where_less, rows_less, from_all}
use Rattle.ground_laws.proofs.VariableLaws.{leaf_passes, move_passes, reads_pass}
use Rattle.ground_laws.proofs.ReadLaws.{reads_covered}
use Rattle.ground_laws.proofs.TellLaws.{IsValueAtom, value_atom_is}

number_less : {A : Type 0} (alike : A → A → Bool) (xs : List A) (x : A) → is_listed alike xs x ≡ true → number_in alike xs x < length xs
number_less alike [] x h = absurd (cc)
number_less alike (y ∷ ys) x h = by (alike y x) h (λ h. number_less alike ys x h)
  where
    by : (b : Bool) → (b || is_listed alike ys x) ≡ true → (is_listed alike ys x ≡ true → number_in alike ys x < length ys) → cond b zero (suc (number_in alike ys x)) < suc (length ys)
    by true h ih = omega arith
    by false h ih = let l : number_in alike ys x < length ys = ih h in omega arith

turned : (b : Bool) → not b ≡ true → b ≡ false
turned true h = absurd (cc)
turned false h = refl

any_marked : (p : ℕ) (ns : List ℕ) → is_in p ns ≡ true → list_any (λ (l : ℕ × Bool). nat_eq l.0 p && l.1) (map (λ n. (n, true)) ns) ≡ true
any_marked p [] h = absurd (cc)
any_marked p (n ∷ ns) h = by (nat_eq n p) h (λ h. any_marked p ns h)
  where
    by : (b : Bool) → (b || is_in p ns) ≡ true → (is_in p ns ≡ true → list_any (λ (l : ℕ × Bool). nat_eq l.0 p && l.1) (map (λ n. (n, true)) ns) ≡ true)
        → ((b && true) || list_any (λ (l : ℕ × Bool). nat_eq l.0 p && l.1) (map (λ n. (n, true)) ns)) ≡ true
    by true h ih = refl
    by false h ih = ih h

-- a step is no assignment
not_both : (k : Named) (ms : List Move) → list_any (assigns_it k) ms ≡ true → is_stepped ms k ≡ false
not_both k [] h = absurd (cc)
not_both k (puts_atom sign j ∷ ms) h = not_both k ms h
not_both k (acts j a ∷ ms) h = by (same j k) (is_assign a) refl h (λ h. not_both k ms h)
  where
    step_false : is_assign a ≡ true → is_step a ≡ false
    step_false e = by_act a e
      where
        by_act : (a : Act) → is_assign a ≡ true → is_step a ≡ false
        by_act (assign p) e = refl
        by_act (increase p) e = absurd (cc)
        by_act (decrease p) e = absurd (cc)
        by_act (scale_up x) e = absurd (cc)
        by_act (scale_down x) e = absurd (cc)

    either : (s : Bool) → s ≡ false → (s && is_stepped ms k) ≡ false
    either s e = ap (λ b. b && is_stepped ms k) e

    second : (s t : Bool) → t ≡ false → (s && t) ≡ false
    second true t e = e
    second false t e = refl

    by : (b c : Bool) → is_assign a ≡ c → ((b && c) || list_any (assigns_it k) ms) ≡ true → (list_any (assigns_it k) ms ≡ true → is_stepped ms k ≡ false) → (cond b (is_step a) true && is_stepped ms k) ≡ false
    by true true e h ih = either (is_step a) (step_false e)
    by true false e h ih = second (is_step a) (is_stepped ms k) (ih h)
    by false c e h ih = ih h

module _ (task : TaskParts) (begin : PlanState) (atoms funcs : List Named) (actions : List GAction) (goal : GAction)
    (own : (n : ℕ) (k : Named) → slice_get funcs n ≡ Some k → number_in same funcs k ≡ n) (leaves : List Leaf) (moves : List Move) where
  abbrev set : Setting
  set = setting_from task begin atoms funcs

  abbrev parts : GroundParts
  parts = parts_in (setting_from task begin atoms funcs) actions goal

  abbrev made : GAction
  made = action_from (setting_from task begin atoms funcs) leaves moves

  module _ (leaves_ok : (test : ℕ → Bool) → reads_pass test set (all_reads leaves moves) ≡ true → list_all (leaf_passes test) leaves ≡ true)
      (moves_ok : (test : ℕ → Bool) → reads_pass test set (all_reads leaves moves) ≡ true → list_all (move_passes test) moves ≡ true)
      (numbered : is_numbered set leaves moves ≡ true) where
    reads_listed : are_numbered set (all_reads leaves moves) ≡ true
    reads_listed = (and_parts _ _ numbered).0

    literals_listed : list_all (is_literal_numbered set) leaves ≡ true
    literals_listed = (and_parts _ _ (and_parts _ _ numbered).1).0

    covered : (test : ℕ → Bool) → reads_pass test set (all_reads leaves moves) ≡ true → list_all test (read_by made) ≡ true
    covered test h = reads_covered test set leaves moves own (leaves_ok test h) (moves_ok test h) h

    -- ---- numbered
    size : ℕ
    size = length set.propositions

    funcs_size : length parts.funcs ≡ length funcs
    funcs_size = length-map funcs (value_in begin)

    literal_less : (l : Leaf) → is_literal_numbered set l ≡ true → passes (λ (r : ℕ × Bool). nat_lt r.0 (length set.propositions)) (literal_row set l) ≡ true
    literal_less fails h = refl
    literal_less unclear h = refl
    literal_less nothing h = refl
    literal_less (literal x sign) h = lt_true _ _ (number_less same_proposition set.propositions x h)
    literal_less (compared r l c) h = refl

    literals_less : (ls : List Leaf) → list_all (is_literal_numbered set) ls ≡ true → list_all (λ l. passes (λ (r : ℕ × Bool). nat_lt r.0 (length set.propositions)) (literal_row set l)) ls ≡ true
    literals_less [] h = refl
    literals_less (l ∷ ls) h = let hs = and_parts _ _ h in and_from _ _ (literal_less l hs.0) (literals_less ls hs.1)

    lits_less : list_all (λ n. nat_lt n (length set.propositions)) (numbers made.lits) ≡ true
    lits_less =
        let less : ℕ × Bool → Bool = λ r. nat_lt r.0 (length set.propositions) in
        let written = filter_map (literal_row set) leaves in
        let values = numbers_where (is_read (all_reads leaves moves)) 0 set.propositions in
        list_all-map (λ n. nat_lt n (length set.propositions)) (λ (r : ℕ × Bool). r.0) made.lits
        ∙ list_all-append less (once same_literal written) (map (λ n. (n, true)) values)
        ∙ and_from _ _
        (all-once same_literal lit_sound less written ∙ all-filter_map less (literal_row set) leaves ∙ literals_less leaves literals_listed)
        (list_all-map less (λ n. (n, true)) values ∙ where_less (is_read (all_reads leaves moves)) set.propositions)

    reads_less : list_all (λ n. nat_lt n (length funcs)) (read_by made) ≡ true
    reads_less = covered (λ n. nat_lt n (length funcs)) (listed_less (all_reads leaves moves) reads_listed)
      where
        listed_less : (ks : List Named) → are_numbered set ks ≡ true → reads_pass (λ n. nat_lt n (length funcs)) set ks ≡ true
        listed_less [] h = refl
        listed_less (k ∷ ks) h = let hs = and_parts _ _ h in and_from _ _ (lt_true _ _ (number_less same funcs k hs.0)) (listed_less ks hs.1)

    atoms_size : length parts.atoms ≡ length set.propositions
    atoms_size = length-map set.propositions (truth_in begin)

    in_atoms : (xs : List ℕ) → list_all (λ n. nat_lt n (length set.propositions)) xs ≡ true → All (λ p. p < length parts.atoms) xs
    in_atoms xs h = all_less (length parts.atoms) xs (ap (λ m. list_all (λ n. nat_lt n m) xs) atoms_size ∙ h)

    in_funcs : (xs : List ℕ) → list_all (λ n. nat_lt n (length funcs)) xs ≡ true → All (λ f. f < length parts.funcs) xs
    in_funcs xs h = all_less (length parts.funcs) xs (ap (λ m. list_all (λ n. nat_lt n m) xs) funcs_size ∙ h)

    is_numbered_action : IsNumbered parts made
    is_numbered_action = record {
      lits = in_atoms (numbers made.lits) lits_less;
      adds = in_atoms made.adds (where_less (is_added moves) set.propositions);
      dels = in_atoms made.dels (where_less (is_deleted moves) set.propositions);
      reads = in_funcs (read_by made) reads_less;
      sets = in_funcs (numbers made.sets) (rows_less (new_value_of set moves) funcs);
    }

    -- ---- orderly
    nonzero_is : (q r : Fraction) → nonzero q ≡ Some r → is_zero r ≡ false
    nonzero_is q r e = by (is_zero q) refl e
      where
        by : (b : Bool) → is_zero q ≡ b → cond b None (Some q) ≡ Some r → is_zero r ≡ false
        by true z e = absurd (cc)
        by false z e = let is : q ≡ r = cc in sym (ap is_zero is) ∙ z

    amount_nonzero : (k : Named) (q : Fraction) → increment_of moves k ≡ Some q → not (is_zero q) ≡ true
    amount_nonzero k q e = by (is_stepped moves k) e
      where
        by : (b : Bool) → cond b (nonzero (fold_acts sum_act k moves (whole (pos 0)))) None ≡ Some q → not (is_zero q) ≡ true
        by true e = ap not (nonzero_is (fold_acts sum_act k moves (whole (pos 0))) q e)
        by false e = absurd (cc)

    amounts : All (λ i. i.1 ≢ whole (pos 0)) made.incs
    amounts =
        All-weaker (λ (i : ℕ × Fraction). not (is_zero i.1) ≡ true) (λ i. i.1 ≢ whole (pos 0)) (λ i h z. differs i.1 h z) made.incs
        (from_all (λ (i : ℕ × Fraction). not (is_zero i.1)) made.incs (all_rows (increment_of moves) (λ i. not (is_zero i.1)) funcs 0 (λ i k q g e. amount_nonzero k q e)))
      where
        differs : (q : Fraction) → not (is_zero q) ≡ true → q ≡ whole (pos 0) → ⊥
        differs q h z = let t : not (is_zero (whole (pos 0))) ≡ true = sym (ap (λ x. not (is_zero x)) z) ∙ h in never t
          where
            never : false ≡ true → ⊥
            never e = cc

    put_apart : (x : Proposition) → is_added moves x ≡ true → is_deleted moves x ≡ false
    put_apart (atom k) h = ap (λ b. list_any (puts_it false k) moves && not b) h ∙ second (list_any (puts_it false k) moves)
      where
        second : (b : Bool) → (b && not true) ≡ false
        second true = refl
        second false = refl
    put_apart (valued k) h = refl

    atoms_apart : All (λ p. is_in p made.dels ≡ false) made.adds
    atoms_apart =
        All-weaker (λ p. not (is_in p made.dels) ≡ true) (λ p. is_in p made.dels ≡ false) (λ p h. turned (is_in p made.dels) h) made.adds
        (from_all (λ p. not (is_in p made.dels)) made.adds
        (all_where (is_added moves) (λ p. not (is_in p made.dels)) set.propositions 0
        (λ i x g t. ap not (is_in_where (is_deleted moves) set.propositions 0 i (0 + i) x refl g ∙ put_apart x t))))

    row_none : (k : Named) (l : Linear) → new_value_of set moves k ≡ Some l → increment_of moves k ≡ None
    row_none k l e = by (is_stepped moves k) refl
      where
        by : (b : Bool) → is_stepped moves k ≡ b → increment_of moves k ≡ None
        by true s = absurd (gone (ap (λ b. cond b None (Some (fold_acts linear_act k moves (var (func_number set k))))) s) e)
          where
            gone : {A : Type 0} {o : Option A} {x : A} → o ≡ None → o ≡ Some x → ⊥
            gone f g = cc
        by false s = ap (λ b. cond b (nonzero (fold_acts sum_act k moves (whole (pos 0)))) None) s

    funcs_apart : All (λ f. is_in f (numbers made.incs) ≡ false) (numbers made.sets)
    funcs_apart =
        All-weaker (λ f. not (is_in f (numbers made.incs)) ≡ true) (λ f. is_in f (numbers made.incs) ≡ false) (λ f h. turned (is_in f (numbers made.incs)) h) (numbers made.sets)
        (from_all (λ f. not (is_in f (numbers made.incs))) (numbers made.sets)
        (list_all-map (λ f. not (is_in f (numbers made.incs))) (λ (s : ℕ × Linear). s.0) made.sets
        ∙ all_rows (new_value_of set moves) (λ s. not (is_in s.0 (numbers made.incs))) funcs 0
        (λ i k l g e. ap not (row_is (increment_of moves) funcs 0 i k g ∙ ap is_some (row_none k l e)))))

    is_orderly_action : IsOrderly made
    is_orderly_action = record {
      adds = rising 0 made.adds (where_rises (is_added moves) 0 0 set.propositions (omega arith));
      dels = rising 0 made.dels (where_rises (is_deleted moves) 0 0 set.propositions (omega arith));
      incs = rising 0 (numbers made.incs) (rows_rise (increment_of moves) 0 0 funcs (omega arith));
      sets = rising 0 (numbers made.sets) (rows_rise (new_value_of set moves) 0 0 funcs (omega arith));
      amounts = amounts;
      atoms_apart = atoms_apart;
      funcs_apart = funcs_apart;
    }

    -- ---- it tells which functions have a value
    module _ (f p : ℕ) (is : IsValueAtom task begin atoms funcs actions goal f p) where
      asks_read : is_listed same (all_reads leaves moves) is.func ≡ true → asks p made ≡ true
      asks_read h =
          let marked : ℕ × Bool → Bool = λ l. nat_eq l.0 p && l.1 in
          let values = numbers_where (is_read (all_reads leaves moves)) 0 set.propositions in
          list_any-append marked (once same_literal (filter_map (literal_row set) leaves)) (map (λ n. (n, true)) values)
          ∙ or_right _ _ (any_marked p values (is_in_where (is_read (all_reads leaves moves)) set.propositions 0 p p (valued is.func) (at_front p) is.proposition ∙ h))

      -- the function with this number is read
      listed_in : (ks : List Named) (j : Named) → is_listed same ks j ≡ true → number_in same funcs j ≡ f → is_listed same funcs j ≡ true → is_listed same ks is.func ≡ true
      listed_in ks j l n i =
          let there : slice_get funcs f ≡ Some j = ap (slice_get funcs) (sym n) ∙ number_gets same same_sound funcs j i in
          let same_func : j ≡ is.func = one_some j is.func (sym there ∙ is.at) in
          subst (λ k. is_listed same ks k ≡ true) same_func l
        where
          one_some : (a b : Named) → Some a ≡ Some b → a ≡ b
          one_some a b e = cc

      asked : is_in f (read_by made) ≡ true → asks p made ≡ true
      asked h = open_test (all_in (λ n. not (nat_eq n f) || asks p made) (read_by made) f (covered (λ n. not (nat_eq n f) || asks p made) (all_listed (λ k. not (nat_eq (func_number set k) f) || asks p made) (all_reads leaves moves) each)) h)
        where
          open_test : (not (nat_eq f f) || asks p made) ≡ true → asks p made ≡ true
          open_test t = sym (ap (λ b. not b || asks p made) (eq-eqb f f refl)) ∙ t

          each : (k : Named) → is_listed same (all_reads leaves moves) k ≡ true → (not (nat_eq (func_number set k) f) || asks p made) ≡ true
          each k l = by (nat_eq (func_number set k) f) refl
            where
              by : (b : Bool) → nat_eq (func_number set k) f ≡ b → (not b || asks p made) ≡ true
              by true e = asks_read (listed_in (all_reads leaves moves) k l (eqb-true (func_number set k) f e) (listed_all (is_listed same funcs) (all_reads leaves moves) k reads_listed l))
              by false e = refl

      added_set : is_in p made.adds ≡ true → is_in f (numbers made.sets) ≡ true
      added_set h =
          let assigned : list_any (assigns_it is.func) moves ≡ true = sym (is_in_where (is_added moves) set.propositions 0 p p (valued is.func) (at_front p) is.proposition) ∙ h in
          ap (λ n. is_in n (numbers made.sets)) (at_front f) ∙ row_is (new_value_of set moves) funcs 0 f is.func is.at
          ∙ ap (λ b. is_some (cond b None (Some (fold_acts linear_act is.func moves (var (func_number set is.func)))))) (not_both is.func moves assigned)

      tells : TellsOf f p made
      tells = record {
        asked = asked;
        kept = is_in_where (is_deleted moves) set.propositions 0 p p (valued is.func) (at_front p) is.proposition;
        added = added_set;
      }

    pub is_action : IsActionOf parts made
    is_action = record {
      numbered = is_numbered_action;
      orderly = is_orderly_action;
      tells = λ f p e. tells f p (value_atom_is task begin atoms funcs actions goal f p e);
    }
