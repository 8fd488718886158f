-- Runs: they end in one state, and those of one action many times are those of its repetition.
use Rattle.std.proofs.Common.{◌≡◌, ℕ, zero, suc, true, List, [], ◌∷◌, ◌++◌, replicate, refl, sym, subst, ◌∙◌, arith}
use Rattle.task_core.specs.declared.action.GAction.{GAction}
use Rattle.task_core.specs.State.{State}
use Rattle.task_core.specs.Step.{ComparisonsHold, Holds, after, is_rollable}
use Rattle.task_core.specs.Plan.{Run}
use Rattle.task_core.specs.Rolling.{repeated, rolled}
use Rattle.task_core.proofs.RollingLaws.{literals_hold_on, comparisons_between, rolling-state}

pub one_run : (actions : List GAction) (s t u : State) → Run s actions t → Run s actions u → t ≡ u
one_run [] s t u h j = sym h ∙ j
one_run (a ∷ more) s t u h j = one_run more (after a s) t u h.1 j.1

-- a run of two lists in a row
pub run-append : (xs ys : List GAction) (s u t : State) → Run s xs u → Run u ys t → Run s (xs ++ ys) t
run-append [] ys s u t h j = subst (λ (w : State). Run w ys t) (sym h) j
run-append (x ∷ xs) ys s u t h j = (h.0, run-append xs ys (after x s) u t h.1 j)

-- ---- one action many times, and what runs behind it

pub run_repeated : (a : GAction) (n : ℕ) (more : List GAction) (s t : State) → Run s (replicate n a ++ more) t → Run s (replicate n a) (repeated n a s)
run_repeated a zero more s t h = refl
run_repeated a (suc n) more s t h = (h.0, run_repeated a n more (after a s) t h.1)

pub run_behind : (a : GAction) (n : ℕ) (more : List GAction) (s t : State) → Run s (replicate n a ++ more) t → Run (repeated n a s) more t
run_behind a zero more s t h = h
run_behind a (suc n) more s t h = run_behind a n more (after a s) t h.1

pub run_end : (a : GAction) (n : ℕ) (s t : State) → Run s (replicate n a) t → repeated n a s ≡ t
run_end a zero s t h = h
run_end a (suc n) s t h = run_end a n (after a s) t h.1

pub run_last : (a : GAction) (n : ℕ) (s t : State) → Run s (replicate (suc n) a) t → Holds a (repeated n a s)
run_last a zero s t h = h.0
run_last a (suc n) s t h = run_last a n (after a s) t h.1

-- ---- a rollable action

pub run_rolling : (a : GAction) (n : ℕ) (s : State) → is_rollable a ≡ true → Holds a s → ComparisonsHold (repeated n a s) a.cmps
    → Run s (replicate (suc n) a) (repeated (suc n) a s)
run_rolling a zero s r h last = (h, refl)
run_rolling a (suc n) s r h last = (
  h,
  run_rolling a n (after a s) r (record {
    literals = literals_hold_on a s 1 r h.literals;
    comparisons = comparisons_between a s 1 (suc n) a.cmps r (omega arith) h.comparisons last;
  }) last,
)

pub run_rolled : (a : GAction) (s : State) (n : ℕ) → is_rollable a ≡ true → Holds a s → ComparisonsHold (rolled n a s) a.cmps
    → Run s (replicate (suc n) a) (rolled (suc n) a s)
run_rolled a s n r h last =
    subst (Run s (replicate (suc n) a)) (rolling-state a s (suc n) r)
    (run_rolling a n s r h (subst (λ (w : State). ComparisonsHold w a.cmps) (sym (rolling-state a s n r)) last))

pub rolled_run : (a : GAction) (s t : State) (n : ℕ) → is_rollable a ≡ true → Run s (replicate (suc n) a) t
    → Holds a s × ComparisonsHold (rolled n a s) a.cmps × (rolled (suc n) a s ≡ t)
rolled_run a s t n r h = (
  h.0,
  subst (λ (w : State). ComparisonsHold w a.cmps) (rolling-state a s n r) (run_last a n s t h).comparisons,
  sym (rolling-state a s (suc n) r) ∙ run_end a (suc n) s t h,
)
