-- Each status of a run has its cause.
use Rattle.std.proofs.Common.{◌≡◌, ◌⊎◌, inl, inr, ℕ, ◌<◌, [], Result, Ok, Err, sym, ◌∙◌, arith}
use Rattle.std.proofs.lemmas.List.{append-nil}
use Rattle.patty_run.specs.declared.input.Input.{Input}
use Rattle.patty_run.specs.declared.stop.Stop.{Stop}
use Rattle.patty_run.specs.declared.stop.Stop.TheVariants as stop
use Rattle.patty_run.specs.Outside.{Files, Outside, NoneFails, WriteFails, NoWriteFails}
use Rattle.patty_run.specs.Printed.{joined}
use Rattle.patty_run.specs.Programs.{Program, lines_of, status_of}
use Rattle.patty_run.specs.Causes.{Counts}
use Rattle.patty_run.specs.Statuses.{Says, SaysRefused, IsStarted}
use Rattle.patty_run.specs.inside.Runs.{Runs}

-- the statuses from 4 to 7 are those of runs without an answer
abbrev pub IsFree : {A : Type 0} → Program A → Type 0
IsFree program = (a : _) → (program.status a < 4) ⊎ (7 < program.status a)

-- an answer with this status is said; a program says by its own words which one it is
pub record SaysAnswer {A : Type 0} (program : Program A) (outside : Outside) (status : ℕ) : Type 0 where
  pub answer : A
  pub status_is : program.status answer ≡ status
  pub says : Says program outside (Ok answer)

module _ {A : Type 0} (program : Program A) (free : IsFree program) (outside : Outside) where
  -- no answer has this status
  not_free : (a : A) (k : ℕ) → 3 < k → k < 8 → program.status a ≡ k → ⊥
  not_free a k low high is = elim (free a) [
    | inl small ↦ omega (arith, small, low, is)
    | inr large ↦ omega (arith, large, high, is)
  ]

  -- ---- a verdict that is printed whole, by its status

  answer_at : (k : ℕ) → k < 3 → (v : Result A Stop) → Says program outside v → status_of program v ≡ k → SaysAnswer program outside k
  answer_at k low (Ok a) says is = record { answer = a; status_is = is; says = says }
  answer_at k low (Err stop.Usage) says is = absurd (omega (arith, is, low))
  answer_at k low (Err (stop.ReadFault input)) says is = absurd (omega (arith, is, low))
  answer_at k low (Err (stop.Long input)) says is = absurd (omega (arith, is, low))
  answer_at k low (Err (stop.Fault fault)) says is = absurd (omega (arith, is, low))
  answer_at k low (Err stop.Memory) says is = absurd (omega (arith, is, low))

  refused_at : (v : Result A Stop) → Says program outside v → status_of program v ≡ 3 → SaysRefused program outside ⊎ SaysAnswer program outside 3
  refused_at (Ok a) says is = inr (record { answer = a; status_is = is; says = says })
  refused_at (Err stop.Usage) says is = absurd (omega (arith, is))
  refused_at (Err (stop.ReadFault input)) says is = absurd (omega (arith, is))
  refused_at (Err (stop.Long input)) says is = inl (inr (input, says))
  refused_at (Err (stop.Fault fault)) says is = inl (inl (fault, says))
  refused_at (Err stop.Memory) says is = absurd (omega (arith, is))

  usage_at : (v : Result A Stop) → Says program outside v → status_of program v ≡ 4 → Says program outside (Err stop.Usage)
  usage_at (Ok a) says is = absurd (not_free a 4 (omega arith) (omega arith) is)
  usage_at (Err stop.Usage) says is = says
  usage_at (Err (stop.ReadFault input)) says is = absurd (omega (arith, is))
  usage_at (Err (stop.Long input)) says is = absurd (omega (arith, is))
  usage_at (Err (stop.Fault fault)) says is = absurd (omega (arith, is))
  usage_at (Err stop.Memory) says is = absurd (omega (arith, is))

  unread_at : (v : Result A Stop) → Says program outside v → status_of program v ≡ 5 → (input : Input) × Says program outside (Err (stop.ReadFault input))
  unread_at (Ok a) says is = absurd (not_free a 5 (omega arith) (omega arith) is)
  unread_at (Err stop.Usage) says is = absurd (omega (arith, is))
  unread_at (Err (stop.ReadFault input)) says is = (input, says)
  unread_at (Err (stop.Long input)) says is = absurd (omega (arith, is))
  unread_at (Err (stop.Fault fault)) says is = absurd (omega (arith, is))
  unread_at (Err stop.Memory) says is = absurd (omega (arith, is))

  no_six : (v : Result A Stop) → status_of program v ≡ 6 → ⊥
  no_six (Ok a) is = not_free a 6 (omega arith) (omega arith) is
  no_six (Err stop.Usage) is = omega (arith, is)
  no_six (Err (stop.ReadFault input)) is = omega (arith, is)
  no_six (Err (stop.Long input)) is = omega (arith, is)
  no_six (Err (stop.Fault fault)) is = omega (arith, is)
  no_six (Err stop.Memory) is = omega (arith, is)

  -- where a verdict isn't that a file can't be read, no file failed
  read_at : (files : Files) (v : Result A Stop) (code : ℕ) → Counts files v → code ≡ status_of program v → (code ≡ 5 → ⊥) → NoneFails files
  read_at files (Ok a) code counts is five = counts
  read_at files (Err stop.Usage) code counts is five = counts
  read_at files (Err (stop.ReadFault input)) code counts is five = absurd (five is)
  read_at files (Err (stop.Long input)) code counts is five = counts
  read_at files (Err (stop.Fault fault)) code counts is five = counts
  read_at files (Err stop.Memory) code counts is five = counts

  -- ---- a run, by its status

  module _ (code : ℕ) (run : Runs program outside code) where
    -- for a status that no failed write has, the verdict is printed whole
    record Whole (k : ℕ) : Type 0 where
      status : status_of program run.verdict ≡ k
      says : Says program outside run.verdict

    whole_at : (k : ℕ) → (k ≡ 6 → ⊥) → (k ≡ 7 → ⊥) → code ≡ k → Whole k
    whole_at k six seven is = elim run.printed [
      | inl whole ↦ record { status = sym whole.0 ∙ is; says = record { caused = run.caused; printed = whole.1 } }
      | inr (front, inl failed) ↦ absurd (six (sym is ∙ failed.0))
      | inr (front, inr memory) ↦ absurd (seven (sym is ∙ memory.0))
    ]

    pub answered : (k : ℕ) → k < 3 → code ≡ k → SaysAnswer program outside k
    answered k low is = let w = whole_at k (λ e. omega (arith, e, low)) (λ e. omega (arith, e, low)) is in answer_at k low run.verdict w.says w.status

    pub refused : code ≡ 3 → SaysRefused program outside ⊎ SaysAnswer program outside 3
    refused is = let w = whole_at 3 (λ e. omega (arith, e)) (λ e. omega (arith, e)) is in refused_at run.verdict w.says w.status

    pub usage : code ≡ 4 → Says program outside (Err stop.Usage)
    usage is = let w = whole_at 4 (λ e. omega (arith, e)) (λ e. omega (arith, e)) is in usage_at run.verdict w.says w.status

    pub unread : code ≡ 5 → (input : Input) × Says program outside (Err (stop.ReadFault input))
    unread is = let w = whole_at 5 (λ e. omega (arith, e)) (λ e. omega (arith, e)) is in unread_at run.verdict w.says w.status

    pub unwritten : code ≡ 6 → WriteFails outside.output
    unwritten is = elim run.printed [
      | inl whole ↦ absurd (no_six run.verdict (sym whole.0 ∙ is))
      | inr (front, inl failed) ↦ failed.1
      | inr (front, inr memory) ↦ absurd (omega (arith, memory.0, is))
    ]

    pub written : (code ≡ 6 → ⊥) → NoWriteFails outside.output
    written six = elim run.printed [
      | inl whole ↦ whole.2
      | inr (front, inl failed) ↦ absurd (six failed.0)
      | inr (front, inr memory) ↦ memory.1
    ]

    pub read : (code ≡ 5 → ⊥) → (code ≡ 6 → ⊥) → (code ≡ 7 → ⊥) → NoneFails outside.files
    read five six seven = elim run.printed [
      | inl whole ↦ read_at outside.files run.verdict code run.counts whole.0 five
      | inr (front, inl failed) ↦ absurd (six failed.0)
      | inr (front, inr memory) ↦ absurd (seven memory.0)
    ]

    -- what was written is a front of the lines of a verdict that has its cause
    pub started : IsStarted program outside
    started = record {
      verdict = run.verdict;
      caused = run.caused;
      counts = run.counts;
      front = elim run.printed [
        | inl whole ↦ record { front = joined (lines_of program run.verdict); rest = []; split = sym (append-nil (joined (lines_of program run.verdict))); added = whole.1 }
        | inr (front, stopped) ↦ front
      ];
    }

    -- the statuses are those of answers, and 3 to 7
    pub at_most : ((a : A) → program.status a < 8) → code < 8
    at_most low = elim run.printed [
      | inl whole ↦ status_low run.verdict whole.0
      | inr (front, inl failed) ↦ omega (arith, failed.0)
      | inr (front, inr memory) ↦ omega (arith, memory.0)
    ]
      where
        status_low : (v : Result A Stop) → code ≡ status_of program v → code < 8
        status_low (Ok a) is = let small = low a in omega (arith, is, small)
        status_low (Err stop.Usage) is = omega (arith, is)
        status_low (Err (stop.ReadFault input)) is = omega (arith, is)
        status_low (Err (stop.Long input)) is = omega (arith, is)
        status_low (Err (stop.Fault fault)) is = omega (arith, is)
        status_low (Err stop.Memory) is = omega (arith, is)
