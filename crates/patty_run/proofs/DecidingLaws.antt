-- What the files of a run come to has its cause.
use Rattle.std.proofs.Common.{◌≡◌, ℕ, ◌<◌, ◌≤◌, List, [], ◌∷◌, length, get_or, Some, Result, Ok, Err, Vec, Global, refl, sym, ap, ap₂, ◌∙◌, subst, arith}
use Rattle.patty_run.specs.declared.stop.Stop.{Stop}
use Rattle.patty_run.specs.declared.stop.Stop.TheVariants as stop
use Rattle.patty_run.specs.Inputs.{InputFile}
use Rattle.patty_run.specs.Outside.{Files}
use Rattle.patty_run.specs.Files.{AreHeld}
use Rattle.patty_run.specs.Taken.{AreNotTaken, contents_of}
use Rattle.patty_run.specs.Programs.{Program}
use Rattle.patty_run.specs.Causes.{StopCauses, Causes}
use Rattle.patty_run.specs.inside.Runs.{TextsDecide}

module _ (files : Files) (names : List InputFile) where
  -- a file that isn't taken stops the run
  pub stopped : (why : Stop) → AreNotTaken files names why → StopCauses files (Some names) why
  stopped stop.Usage is = absurd is
  stopped (stop.ReadFault input) is = record { names = names; right = refl; fails = is }
  stopped (stop.Long input) is = record { names = names; right = refl; long = is }
  stopped (stop.Fault fault) is = absurd is
  stopped stop.Memory is = tt

  module _ {A : Type 0} (program : Program A) where
    -- files that are held decide a verdict
    decided : (domain problem : List ℕ) (more : List (List ℕ)) (v : Result A Stop) → AreHeld files.content names (domain ∷ problem ∷ more)
        → TextsDecide program domain problem more v → Causes files (Some names) program v
    decided domain problem more (Ok a) held is = record {
      domain = domain;
      problem = problem;
      more = more;
      held = record { names = names; right = refl; held = held };
      task = is.task;
      is_task = is.is_task;
      allowed = is.allowed;
    }
    decided domain problem more (Err stop.Usage) held is = absurd is
    decided domain problem more (Err (stop.ReadFault input)) held is = absurd is
    decided domain problem more (Err (stop.Long input)) held is = absurd is
    decided domain problem more (Err (stop.Fault fault)) held is = record {
      domain = domain;
      problem = problem;
      more = more;
      held = record { names = names; right = refl; held = held };
      first = is;
    }
    decided domain problem more (Err stop.Memory) held is = tt

    -- the same of vectors that are taken
    pub decided_by : (slice vecs expected : List (Vec ℕ Global)) (domain problem : List ℕ) (more : List (List ℕ)) (v : Result A Stop) → slice ≡ vecs → slice ≡ expected
        → contents_of expected ≡ domain ∷ problem ∷ more → AreHeld files.content names (contents_of vecs) → TextsDecide program domain problem more v → Causes files (Some names) program v
    decided_by slice vecs expected domain problem more v is_vecs is_expected are held is =
        let same : contents_of vecs ≡ domain ∷ problem ∷ more = ap contents_of (sym is_vecs ∙ is_expected) ∙ are in
        decided domain problem more v (subst (λ (l : List (List ℕ)). AreHeld files.content names l) same held) is

-- ---- the contents of a slice of so many files

module _ {V : Type 0} where
  pub two_are : (slice : List V) (d p : V) → 2 ≤ length slice → length slice < 3 → d ≡ get_or slice 0 d → p ≡ get_or slice 1 p → slice ≡ d ∷ p ∷ []
  two_are [] d p low high d_is p_is = absurd (omega (arith, low))
  two_are (a ∷ []) d p low high d_is p_is = absurd (omega (arith, low))
  two_are (a ∷ b ∷ []) d p low high d_is p_is = ap₂ (λ (x y : V). x ∷ y ∷ []) (sym d_is) (sym p_is)
  two_are (a ∷ b ∷ c ∷ more) d p low high d_is p_is = absurd (omega (arith, high))

  pub three_are : (slice : List V) (d p q : V) → 3 ≤ length slice → length slice < 4 → d ≡ get_or slice 0 d → p ≡ get_or slice 1 p → q ≡ get_or slice 2 q → slice ≡ d ∷ p ∷ q ∷ []
  three_are [] d p q low high d_is p_is q_is = absurd (omega (arith, low))
  three_are (a ∷ []) d p q low high d_is p_is q_is = absurd (omega (arith, low))
  three_are (a ∷ b ∷ []) d p q low high d_is p_is q_is = absurd (omega (arith, low))
  three_are (a ∷ b ∷ c ∷ []) d p q low high d_is p_is q_is =
      ap₂ (λ (x y : V). x ∷ y ∷ c ∷ []) (sym d_is) (sym p_is) ∙ ap (λ (z : V). d ∷ p ∷ z ∷ []) (sym q_is)
  three_are (a ∷ b ∷ c ∷ e ∷ more) d p q low high d_is p_is q_is = absurd (omega (arith, high))
