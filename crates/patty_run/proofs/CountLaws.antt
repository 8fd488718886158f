-- Counts of faults: what the calls of a shelf say of them, one behind another.
use Rattle.std.proofs.Common.{◌≡◌, ℕ, Bool, true, false, List, Ok, Err, Result, refl, sym, ◌∙◌, subst}
use Rattle.std.specs.Prelude.{bytes_eq}
use Rattle.std.proofs.lemmas.Slice.Eq.{bytes_eq-Decides}
use Rattle.patty_run.specs.declared.stop.Stop.{Stop}
use Rattle.patty_run.specs.declared.stop.Stop.TheVariants as stop
use Rattle.patty_run.specs.Outside.{Files, NoneFails}
use Rattle.patty_run.specs.Causes.{StopCounts, Counts}

-- the count of one name is as before, and so are all others
pub all_same : (files : Files) (name : List ℕ) → files.failed name ≡ files.failed_before name
    → ((other : List ℕ) → (other ≡ name → ⊥) → files.failed other ≡ files.failed_before other) → NoneFails files
all_same files name same others of = by_test (bytes_eq of name) refl
  where
    by_test : (b : Bool) → bytes_eq of name ≡ b → files.failed of ≡ files.failed_before of
    by_test true is = let here = (bytes_eq-Decides of name).0 is in subst (λ (w : List ℕ). files.failed w ≡ files.failed_before w) (sym here) same
    by_test false is = others of (λ same. absurd (cc (sym is ∙ (bytes_eq-Decides of name).1 same)))

-- where nothing changed, any verdict has its counts
stop_counts : (files : Files) (why : Stop) → NoneFails files → StopCounts files why
stop_counts files stop.Usage same = same
stop_counts files (stop.ReadFault input) same = tt
stop_counts files (stop.Long input) same = same
stop_counts files (stop.Fault fault) same = same
stop_counts files stop.Memory same = same

pub same_counts : {A : Type 0} (files : Files) (r : Result A Stop) → NoneFails files → Counts files r
same_counts files (Ok a) same = same
same_counts files (Err why) same = stop_counts files why same

-- nothing changed, and then what a stop says
pub counts_behind : (files : Files) (mid : List ℕ → ℕ) (why : Stop) → ((of : List ℕ) → mid of ≡ files.failed_before of)
    → StopCounts (record files { failed_before = mid }) why → StopCounts files why
counts_behind files mid stop.Usage same kept = λ of. kept of ∙ same of
counts_behind files mid (stop.ReadFault input) same kept = tt
counts_behind files mid (stop.Long input) same kept = λ of. kept of ∙ same of
counts_behind files mid (stop.Fault fault) same kept = λ of. kept of ∙ same of
counts_behind files mid stop.Memory same kept = λ of. kept of ∙ same of
