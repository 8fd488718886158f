-- What a run meets outside (this project): its words, the files of a shelf and the output, before the run and behind it.
use Rattle.std.specs.Prelude.{◌≡◌, ℕ, List, Option, String}
use Rattle.std.specs.declared.alloc.Global.{Global}
use Rattle.patty_io.specs.Faults.{Rose}

-- files by their names: what each holds, where the shelf tells it, and how often taking it failed, up to the run and up to its end
pub record Files : Type 0 where
  pub content : List ℕ → Option (List ℕ)
  pub failed_before : List ℕ → ℕ
  pub failed : List ℕ → ℕ

-- all that was written, where the sink tells it, and how often a write failed, up to the run and up to its end
pub record Output : Type 0 where
  pub written_before : Option (List ℕ)
  pub written : Option (List ℕ)
  pub failed_before : ℕ
  pub failed : ℕ

pub record Outside : Type 0 where
  pub words : List (String Global)
  pub files : Files
  pub output : Output

-- ---- what a call sees, by the meanings of its shelf and its sink

module _ {S : Type 0} where
  abbrev pub files_seen : (S → List ℕ → Option (List ℕ)) → (S → List ℕ → ℕ) → S → S → Files
  files_seen content faults old new = record { content = content old; failed_before = faults old; failed = faults new }

  abbrev pub output_seen : (S → Option (List ℕ)) → (S → ℕ) → S → S → Output
  output_seen written faults old new = record { written_before = written old; written = written new; failed_before = faults old; failed = faults new }

abbrev pub outside_seen : List (String Global) → Files → Output → Outside
outside_seen words files output = record { words = words; files = files; output = output }

-- ---- failures

-- no count of a file's faults changed
abbrev pub NoneFails : Files → Type 0
NoneFails files = (name : List ℕ) → files.failed name ≡ files.failed_before name

-- taking this file failed once, and no other failed
pub record FailsAlone (files : Files) (name : List ℕ) : Type 0 where
  pub rose : Rose (files.failed_before name) (files.failed name)
  pub others : (other : List ℕ) → (other ≡ name → ⊥) → files.failed other ≡ files.failed_before other

-- a write failed
abbrev pub WriteFails : Output → Type 0
WriteFails output = Rose output.failed_before output.failed

-- no write failed
abbrev pub NoWriteFails : Output → Type 0
NoWriteFails output = output.failed ≡ output.failed_before
