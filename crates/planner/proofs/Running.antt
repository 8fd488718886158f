-- A run on two files, and on its words: a verdict has its cause.
use Rattle.std.proofs.Common.{◌≡◌, ℕ, suc, ◌-◌, ◌<◌, ◌≤◌, List, [], ◌∷◌, length, take, drop, get_or, Option, Some, None, String, Global, Result, Ok, Err, refl, sym, ◌∙◌, ap, ap₂, subst, arith}
use Rattle.std.specs.Prelude.{string_bytes, unwrap_or}
use Rattle.patty_run.specs.declared.input.Input.TheVariants as input
use Rattle.pddl_task.specs.declared.parts.TaskParts.{TaskParts}
use Rattle.patty_run.specs.declared.stop.Stop.{Stop}
use Rattle.patty_run.specs.declared.stop.Stop.TheVariants as stop
use Rattle.patty_run.specs.Inputs.{InputFile, input_file}
use Rattle.patty_run.specs.Outside.{Files, Output, NoneFails}
use Rattle.patty_run.specs.Printed.{stop_lines, stop_status}
use Rattle.patty_run.specs.Causes.{Causes, Counts}
use Rattle.patty_run.specs.inside.Runs.{PrintsAs}
use Rattle.patty_run.proofs.CountLaws.{same_counts}
use Rattle.planner_text.specs.declared.limits.Limits.{Limits}
use Rattle.planner.specs.Words.{limits_of, limits_with, nothing_given, limits_in, files_of, named_where}
use Rattle.planner.specs.Planner.{Answer, Allows, planner, usage_line}
use Rattle.planner.specs.inside.Answering.{reader, AllowsVerdict, IsAnswered, RunsOn}

module _ (files : Files) (named : Option (List InputFile)) (limits : Limits) (task : TaskParts) (read : Causes files named reader (Ok task)) where
  -- what is answered for the task that was read
  cause : (v : Result Answer Stop) → AllowsVerdict limits task v → Causes files named (planner limits) v
  cause (Ok a) allowed = record {
    domain = read.domain;
    problem = read.problem;
    more = read.more;
    held = read.held;
    task = read.task;
    is_task = read.is_task;
    allowed = subst (λ (t : TaskParts). Allows limits t a) read.allowed allowed;
  }
  cause (Err stop.Usage) allowed = absurd allowed
  cause (Err (stop.ReadFault input)) allowed = absurd allowed
  cause (Err (stop.Long input)) allowed = absurd allowed
  cause (Err (stop.Fault fault)) allowed = absurd allowed
  cause (Err stop.Memory) allowed = tt

  pub runs_answered : (output : Output) (code : ℕ) → NoneFails files → IsAnswered output limits task code → RunsOn files output named limits code
  runs_answered output code none is = record {
    verdict = is.verdict;
    caused = cause is.verdict is.allowed;
    counts = same_counts files is.verdict none;
    truly = is.truly;
    printed_is = is.printed_is;
  }

-- a run that comes to no task
pub runs_stopped : (files : Files) (output : Output) (named : Option (List InputFile)) (limits : Limits) (why : Stop) (code : ℕ)
    → Causes files named reader (Err why) → Counts {A = TaskParts} files (Err why) → PrintsAs output (stop_lines usage_line why) (stop_status why) code → RunsOn files output named limits code
runs_stopped files output named limits why code caused counts printed = record {
  verdict = Err why;
  caused = caused;
  counts = counts;
  truly = λ low. tt;
  printed_is = printed;
}

-- words that aren't right
pub runs_misused : (files : Files) (output : Output) (named : Option (List InputFile)) (limits : Limits) (code : ℕ) → named ≡ None → NoneFails files
    → PrintsAs output (stop_lines usage_line stop.Usage) 4 code → RunsOn files output named limits code
runs_misused files output named limits code misused none printed = record {
  verdict = Err stop.Usage;
  caused = misused;
  counts = none;
  truly = λ low. tt;
  printed_is = printed;
}

pub few_words : (words : List (String Global)) → length words < 2 → files_of words ≡ None
few_words [] few = refl
few_words (w ∷ []) few = refl
few_words (w ∷ v ∷ more) few = absurd (omega (arith, few))

-- two names, with options behind them

take_whole : {X : Type 0} (xs : List X) → take (length xs) xs ≡ xs
take_whole [] = refl
take_whole (x ∷ xs) = ap (λ (l : List _). x ∷ l) (take_whole xs)

two_less : (n : ℕ) → suc (suc n) - 2 ≡ n
two_less n = omega arith

behind_two : {X : Type 0} (x y : X) (more : List X) → take (length (x ∷ y ∷ more) - 2) more ≡ more
behind_two x y more = ap (λ (n : ℕ). take n more) (two_less (length more)) ∙ take_whole more

pub no_limits : (words : List (String Global)) → 2 ≤ length words → limits_of (take (length words - 2) (drop 2 words)) ≡ None → files_of words ≡ None
no_limits [] two none = absurd (omega (arith, two))
no_limits (w ∷ []) two none = absurd (omega (arith, two))
no_limits (w ∷ v ∷ more) two none = ap (λ (l : Option Limits). named_where l w v) (ap limits_of (sym (behind_two w v more)) ∙ none)

abbrev files_named : String Global → String Global → Option (List InputFile)
files_named domain problem = Some (input_file input.Domain (string_bytes domain) ∷ input_file input.Problem (string_bytes problem) ∷ [])

pub with_limits : (words : List (String Global)) (domain problem : String Global) (limits : Limits) → 2 ≤ length words → domain ≡ get_or words 0 domain → problem ≡ get_or words 1 problem
    → limits_of (take (length words - 2) (drop 2 words)) ≡ Some limits → (files_of words ≡ files_named domain problem) × (limits_in words ≡ limits)
with_limits [] domain problem limits two d p some = absurd (omega (arith, two))
with_limits (w ∷ []) domain problem limits two d p some = absurd (omega (arith, two))
with_limits (w ∷ v ∷ more) domain problem limits two d p some =
    let is = ap limits_of (sym (behind_two w v more)) ∙ some in (
      ap (λ (l : Option Limits). named_where l w v) is ∙ ap₂ files_named (sym d) (sym p),
      ap (λ (l : Option Limits). unwrap_or l (limits_with nothing_given)) is,
    )
