-- One occurrence: its rows say that its repetitions have their steps, and lead to the symbolic state behind it.
use Rattle.std.proofs.Common.{◌≡◌, ℕ, zero, suc, Bool, true, false, not, cond, List, [], ◌∷◌, ◌++◌, replicate, Option, Some, None, refl, sym, ap, subst, ◌∙◌, inl, inr, nat_lt, arith}
use Rattle.std.proofs.lemmas.Bool.{lt-ltb}
use lib.IntN.{pos, negsuc}
use Rattle.algebra.proofs.Solve.{v, k, ◌⊕◌, ◌⊗◌, solve, solve_from, eq, done}
use Rattle.rational.specs.Fraction.{Fraction, whole, ◌+ℚ◌, ◌*ℚ◌}
use Rattle.rational.specs.Linear.{Terms, coefficient_of}
use Rattle.rational.proofs.FieldLaws.{fraction-ring}
use Rattle.lin.specs.Linear.{Linear}
use Rattle.task_core.specs.declared.action.GAction.{GAction}
use Rattle.task_core.specs.State.{State}
use Rattle.task_core.specs.Step.{Holds, ComparisonsHold, is_in, is_empty, set_of, new_value, after, is_rollable}
use Rattle.task_core.specs.Plan.{Run}
use Rattle.task_core.specs.Rolling.{repeated}
use Rattle.task_core.proofs.GrowthLaws.{whole-suc}
use Rattle.task_core.proofs.RollingLaws.{rollable-no_sets, rollable-counts, rollable-value, rollable-expression, truth-repeated}
use Rattle.task_core.proofs.RunLaws.{run_last, run_rolling}
use Rattle.encode_laws.specs.Rows.{Assignment, behind, Literal, true_at, row_at, Item, needs, MeetsAll}
use Rattle.encode_laws.specs.Symbolic.{Symbolic, is_counted, on_of, on_front, first_items, literal_rows, comparison_rows, last_rows, changes_of, truth_rows, set_rows, grown_ops, first_set, symbolic_after, occurrence}
use Rattle.encode_laws.proofs.RowLaws.{meets-left, meets-right, meets-append}
use Rattle.encode_laws.proofs.TruthRows.{truth-down, truth-up}
use Rattle.encode_laws.proofs.SetRows.{front-on, on-front, value_behind, TellsSets, sets-down, sets-up}
use Rattle.encode_laws.proofs.ComparisonRows.{Agrees, lits-down, lits-up, cmps-down, cmps-up, rolled-down, rolled-up}
use Rattle.encode_laws.proofs.Counts.{IsCountOf, Says, on-says, first-down, first-up}

no_incs : (qs : Terms) (f : ℕ) → not (is_empty qs) ≡ false → coefficient_of f qs ≡ whole (pos 0)
no_incs [] f h = refl
no_incs (q ∷ qs) f h = absurd (cc)

module _ (pt : Assignment) (i : ℕ) (a : GAction) (y : Symbolic) (s : State) (agree : Agrees pt y s) where
  on : Literal
  on = on_of i a y

  -- the rows of what it changes carry the agreement over the repetitions
  new_truth : (n : ℕ) (p : ℕ) → cond (nat_lt 0 n) ((after a s).truth p) (s.truth p) ≡ (repeated n a s).truth p
  new_truth zero p = refl
  new_truth (suc n) p = ap (λ (b : Bool). cond b ((after a s).truth p) (s.truth p)) (lt-ltb 0 (suc n) (omega arith)) ∙ sym (truth-repeated n a s p)

  -- what is added to a function: its increment times the count
  module _ (f : ℕ) where
    q : Fraction
    q = coefficient_of f a.incs

    growth : (n : ℕ) (b : Bool) → is_counted a ≡ b → Says pt i b y.next n → q *ℚ pt.value y.next ≡ cond (is_counted a) (q *ℚ whole (pos n)) (whole (pos 0))
    unfolding q
    growth n true e h = ap (λ w. q *ℚ w) h ∙ sym (ap (λ (b : Bool). cond b (q *ℚ whole (pos n)) (whole (pos 0))) e)
    growth n false e h = solve_from fraction-ring (v 0 ⊗ v 1) (k (pos 0)) (q ∷ pt.value y.next ∷ []) (eq (v 1) (v 0) (k (pos 0)) (no_incs a.incs f e) done) refl
        ∙ sym (ap (λ (b : Bool). cond b (q *ℚ whole (pos n)) (whole (pos 0))) e)

    -- the value after the repetitions, by the count
    behind-value : (n : ℕ) → IsCountOf a n → Says pt i (is_counted a) y.next n → value_behind s (nat_lt 0 n) f (q *ℚ pt.value y.next) (set_of a.sets f) ≡ (repeated n a s).value f
    unfolding q growth
    behind-value zero m h = by_set (set_of a.sets f)
      where
        by_kind : (b : Bool) → s.value f +ℚ cond b (q *ℚ whole (pos 0)) (whole (pos 0)) ≡ s.value f
        by_kind true = solve fraction-ring (v 0 ⊕ v 1 ⊗ k (pos 0)) (v 0) (s.value f ∷ q ∷ []) refl
        by_kind false = solve fraction-ring (v 0 ⊕ k (pos 0)) (v 0) (s.value f ∷ []) refl

        by_set : (o : Option Linear) → value_behind s (nat_lt 0 zero) f (q *ℚ pt.value y.next) o ≡ s.value f
        by_set None = ap (λ w. s.value f +ℚ w) (growth zero (is_counted a) refl h) ∙ by_kind (is_counted a)
        by_set (Some l) = refl
    behind-value (suc n) m h = ap (λ (b : Bool). value_behind s b f (q *ℚ pt.value y.next) (set_of a.sets f)) (lt-ltb 0 (suc n) (omega arith))
        ∙ ap (λ w. value_behind s true f w (set_of a.sets f)) (growth (suc n) (is_counted a) refl h) ∙ by_count m
      where
        once : (o : Option Linear) (b : Bool) → is_counted a ≡ b → value_behind s true f (cond b (q *ℚ whole (pos 1)) (whole (pos 0))) o ≡ new_value s a.incs f o
        once None true e = solve fraction-ring (v 0 ⊕ v 1 ⊗ k (pos 1)) (v 0 ⊕ v 1) (s.value f ∷ q ∷ []) refl
        once None false e = solve_from fraction-ring (v 0 ⊕ k (pos 0)) (v 0 ⊕ v 1) (s.value f ∷ q ∷ []) (eq (k (negsuc 0)) (v 1) (k (pos 0)) (no_incs a.incs f e) done) refl
        once (Some l) b e = refl

        by_count : IsCountOf a (suc n) → value_behind s true f (cond (is_counted a) (q *ℚ whole (pos (suc n))) (whole (pos 0))) (set_of a.sets f) ≡ (repeated (suc n) a s).value f
        by_count (inl r) = ap (λ (b : Bool). value_behind s true f (cond b (q *ℚ whole (pos (suc n))) (whole (pos 0))) (set_of a.sets f)) (rollable-counts a r)
            ∙ ap (λ (ss : List (ℕ × Linear)). value_behind s true f (q *ℚ whole (pos (suc n))) (set_of ss f)) (rollable-no_sets a r)
            ∙ solve fraction-ring (v 0 ⊕ v 1 ⊗ v 2) (v 0 ⊕ v 2 ⊗ v 1) (s.value f ∷ q ∷ whole (pos (suc n)) ∷ []) refl ∙ sym (rollable-value a r (suc n) s f)
        by_count (inr l) =
            let z : n ≡ 0 = omega arith in
            ap (λ (j : ℕ). value_behind s true f (cond (is_counted a) (q *ℚ whole (pos (suc j))) (whole (pos 0))) (set_of a.sets f)) z
            ∙ once (set_of a.sets f) (is_counted a) refl ∙ sym (ap (λ (j : ℕ). (repeated (suc j) a s).value f) z)

  agrees-after : (n : ℕ) → IsCountOf a n → Says pt i (is_counted a) y.next n → MeetsAll pt (truth_rows i (on_of i a y) y (changes_of a)) → MeetsAll pt (set_rows (on_of i a y) y (first_set a y.next) a.sets)
      → Agrees pt (symbolic_after i a y) (repeated n a s)
  unfolding q
  agrees-after n m h t g = record {
    truth = λ p. truth-down pt i (on_of i a y) y a s agree.truth t p ∙ ap (λ (b : Bool). cond b ((after a s).truth p) (s.truth p)) (on-says pt i a y n h) ∙ new_truth n p;
    value = λ f. sets-down pt (on_of i a y) y s agree.value y.next a.incs (first_set a y.next) a.sets f g
        ∙ ap (λ (b : Bool). value_behind s b f (coefficient_of f a.incs *ℚ pt.value y.next) (set_of a.sets f)) (on-says pt i a y n h)
        ∙ behind-value f n m h;
  }

  -- ---- the parts of an occurrence's rows
  front : List Literal
  front = on_front i a y

  r_lits : List Item
  r_lits = literal_rows (on_front i a y) y a.lits

  r_cmps : List Item
  r_cmps = comparison_rows (on_front i a y) y a.cmps

  r_roll : List Item
  r_roll = cond (is_rollable a) (last_rows (on_front i a y) a.incs y a.cmps) []

  r_truth : List Item
  r_truth = truth_rows i (on_of i a y) y (changes_of a)

  r_sets : List Item
  r_sets = set_rows (on_of i a y) y (first_set a y.next) a.sets

  r_ops : List Item
  r_ops = needs (grown_ops y.next y.value a.incs) ∷ []

  record Parts : Type 0 where
    firsts : MeetsAll pt (first_items i a y)
    lits : MeetsAll pt (literal_rows (on_front i a y) y a.lits)
    cmps : MeetsAll pt (comparison_rows (on_front i a y) y a.cmps)
    roll : MeetsAll pt (cond (is_rollable a) (last_rows (on_front i a y) a.incs y a.cmps) [])
    truths : MeetsAll pt (truth_rows i (on_of i a y) y (changes_of a))
    sets : MeetsAll pt (set_rows (on_of i a y) y (first_set a y.next) a.sets)

  parts-down : MeetsAll pt (occurrence i a y) → Parts
  unfolding r_lits r_cmps r_roll r_truth r_sets r_ops
  parts-down h =
      let h1 = meets-right pt (first_items i a y) (r_lits ++ (r_cmps ++ (r_roll ++ (r_truth ++ (r_sets ++ r_ops))))) h in
      let h2 = meets-right pt r_lits (r_cmps ++ (r_roll ++ (r_truth ++ (r_sets ++ r_ops)))) h1 in
      let h3 = meets-right pt r_cmps (r_roll ++ (r_truth ++ (r_sets ++ r_ops))) h2 in
      let h4 = meets-right pt r_roll (r_truth ++ (r_sets ++ r_ops)) h3 in
      record {
        firsts = meets-left pt (first_items i a y) (r_lits ++ (r_cmps ++ (r_roll ++ (r_truth ++ (r_sets ++ r_ops))))) h;
        lits = meets-left pt r_lits (r_cmps ++ (r_roll ++ (r_truth ++ (r_sets ++ r_ops)))) h1;
        cmps = meets-left pt r_cmps (r_roll ++ (r_truth ++ (r_sets ++ r_ops))) h2;
        roll = meets-left pt r_roll (r_truth ++ (r_sets ++ r_ops)) h3;
        truths = meets-left pt r_truth (r_sets ++ r_ops) h4;
        sets = meets-left pt r_sets r_ops (meets-right pt r_truth (r_sets ++ r_ops) h4);
      }

  parts-up : Parts → MeetsAll pt (occurrence i a y)
  unfolding r_lits r_cmps r_roll r_truth r_sets r_ops
  parts-up h = meets-append pt (first_items i a y) (r_lits ++ (r_cmps ++ (r_roll ++ (r_truth ++ (r_sets ++ r_ops))))) h.firsts
      (meets-append pt r_lits (r_cmps ++ (r_roll ++ (r_truth ++ (r_sets ++ r_ops)))) h.lits
      (meets-append pt r_cmps (r_roll ++ (r_truth ++ (r_sets ++ r_ops))) h.cmps
      (meets-append pt r_roll (r_truth ++ (r_sets ++ r_ops)) h.roll (meets-append pt r_truth (r_sets ++ r_ops) h.truths (meets-append pt r_sets r_ops h.sets (tt, tt))))))

  -- ---- from the assignment to the word
  -- what the rows of an occurrence say: a count whose repetitions have their steps
  pub record Happens : Type 0 where
    pub count : ℕ
    pub is_count : IsCountOf a count
    pub says : Says pt i (is_counted a) y.next count
    pub runs : Run s (replicate count a) (repeated count a s)
    pub agrees : Agrees pt (symbolic_after i a y) (repeated count a s)

  counted_is : (n : ℕ) → Says pt i true y.next (suc n) → pt.value y.next ≡ whole (pos n) +ℚ whole (pos 1)
  counted_is n h = h ∙ whole-suc n

  says_counted : (n : ℕ) → is_rollable a ≡ true → Says pt i (is_counted a) y.next n → Says pt i true y.next n
  says_counted n r h = subst (λ (b : Bool). Says pt i b y.next n) (rollable-counts a r) h

  runs-down : Parts → (n : ℕ) → IsCountOf a n → Says pt i (is_counted a) y.next n → Run s (replicate n a) (repeated n a s)
  runs-down h zero m c = refl
  runs-down h (suc n) m c = by_kind m
    where
      off : row_at pt (on_front i a y) ≡ false
      off = front-on pt (on_of i a y) (on-says pt i a y (suc n) c ∙ lt-ltb 0 (suc n) (omega arith))

      holds : Holds a s
      holds = record {
        literals = lits-down pt (on_front i a y) y s agree a.lits off h.lits;
        comparisons = cmps-down pt (on_front i a y) y s agree a.cmps off h.cmps;
      }

      rolled : (b : Bool) → is_rollable a ≡ b → b ≡ true → MeetsAll pt (cond b (last_rows (on_front i a y) a.incs y a.cmps) []) → ComparisonsHold (repeated n a s) a.cmps
      rolled true r e g = rolled-down pt (on_front i a y) y s agree a.incs n (repeated n a s) (rollable-expression a r n s) (counted_is n (says_counted (suc n) r c)) a.cmps off holds.comparisons g
      rolled false r e g = absurd (cc)

      by_kind : IsCountOf a (suc n) → Run s (replicate (suc n) a) (repeated (suc n) a s)
      by_kind (inl r) = run_rolling a n s r holds (rolled (is_rollable a) refl r h.roll)
      by_kind (inr l) = let z : n ≡ 0 = omega arith in subst (λ (j : ℕ). Run s (replicate (suc j) a) (repeated (suc j) a s)) (sym z) (holds, refl)

  pub occurrence-down : MeetsAll pt (occurrence i a y) → Happens
  occurrence-down h =
      let g = parts-down h in
      let c = first-down pt i a y g.firsts in
      record {
        count = c.0;
        is_count = c.1;
        says = c.2;
        runs = runs-down g c.0 c.1 c.2;
        agrees = agrees-after c.0 c.1 c.2 g.truths g.sets;
      }

  -- ---- from the word to the assignment
  -- the assignment tells of n repetitions
  pub record Tells (n : ℕ) : Type 0 where
    pub says : Says pt i (is_counted a) y.next n
    pub truths : (p : ℕ) → pt.truth (behind i p) ≡ (repeated n a s).truth p
    pub sets : TellsSets pt s (nat_lt 0 n) (first_set a y.next) a.sets

  pub occurrence-up : (n : ℕ) → IsCountOf a n → ((p : ℕ) → is_in p a.adds ≡ true → is_in p a.dels ≡ false) → Tells n → Run s (replicate n a) (repeated n a s)
      → MeetsAll pt (occurrence i a y) × Agrees pt (symbolic_after i a y) (repeated n a s)
  occurrence-up n m apart tells runs = (
    parts-up (record {
      firsts = first-up pt i a y n m tells.says;
      lits = lits-up pt (on_front i a y) y s agree a.lits (λ f. (first_holds n is_on f runs).literals);
      cmps = cmps-up pt (on_front i a y) y s agree a.cmps (λ f. (first_holds n is_on f runs).comparisons);
      roll = roll_up (is_rollable a) refl;
      truths = truth_met;
      sets = sets_met;
    }),
    agrees-after n m tells.says truth_met sets_met,
  )
    where
      is_on : true_at pt (on_of i a y) ≡ nat_lt 0 n
      is_on = on-says pt i a y n tells.says

      first_holds : (n : ℕ) → true_at pt (on_of i a y) ≡ nat_lt 0 n → row_at pt (on_front i a y) ≡ false → Run s (replicate n a) (repeated n a s) → Holds a s
      first_holds zero e f g = absurd (let h = on-front pt (on_of i a y) f in cc)
      first_holds (suc n) e f g = g.0

      truth_met : MeetsAll pt (truth_rows i (on_of i a y) y (changes_of a))
      truth_met = truth-up pt i (on_of i a y) y a s agree.truth apart
          (λ p. tells.truths p ∙ sym (new_truth n p) ∙ sym (ap (λ (b : Bool). cond b ((after a s).truth p) (s.truth p)) is_on))

      sets_met : MeetsAll pt (set_rows (on_of i a y) y (first_set a y.next) a.sets)
      sets_met = sets-up pt (on_of i a y) y s agree.value (first_set a y.next) a.sets (subst (λ (b : Bool). TellsSets pt s b (first_set a y.next) a.sets) (sym is_on) tells.sets)

      roll_by : (n : ℕ) → is_rollable a ≡ true → Says pt i (is_counted a) y.next n → true_at pt (on_of i a y) ≡ nat_lt 0 n → Run s (replicate n a) (repeated n a s)
          → MeetsAll pt (last_rows (on_front i a y) a.incs y a.cmps)
      roll_by zero r c e g = rolled-up pt (on_front i a y) y s agree a.incs 0 s (λ l. rollable-expression a r 0 s l) a.cmps
          (λ f. absurd (let h = on-front pt (on_of i a y) f in cc)) (λ f. absurd (let h = on-front pt (on_of i a y) f in cc))
      roll_by (suc n) r c e g = rolled-up pt (on_front i a y) y s agree a.incs n (repeated n a s) (rollable-expression a r n s) a.cmps
          (λ f. counted_is n (says_counted (suc n) r c)) (λ f. (run_last a n s (repeated (suc n) a s) g).comparisons)

      roll_up : (b : Bool) → is_rollable a ≡ b → MeetsAll pt (cond b (last_rows (on_front i a y) a.incs y a.cmps) [])
      roll_up true r = roll_by n r tells.says is_on runs
      roll_up false r = tt
