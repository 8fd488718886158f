-- A search that goes on: all blocks so far are refuted, and their lines are written behind those of the pattern.
use Rattle.std.specs.Prelude.{◌≡◌, ℕ, suc, ◌≤◌, ◌++◌, List, length, Option, Some, None, Ok, Err, Result}
use Rattle.patty_run.specs.Outside.{Output, WriteFails, NoWriteFails}
use Rattle.patty_run.specs.Printed.{Prints}
use Rattle.pddl_task.specs.declared.parts.TaskParts.{TaskParts}
use Rattle.patty_io.specs.declared.sink.SinkFail.{SinkFail}
use Rattle.patty_io.specs.declared.sink.SinkFail.TheVariants as fail
use Rattle.planner_text.specs.declared.limits.Limits.{Limits}
use Rattle.planner_text.specs.Text.{Log, AreRefuted, AreLicensed}
use Rattle.planner_text.specs.Lines.{pattern_lines, refuted_lines}
use Rattle.search.specs.declared.found.Found.{Found}
use Rattle.search.specs.declared.found.SearchFail.{SearchFail}
use Rattle.search.specs.declared.found.SearchFail.TheVariants.{Ground, NotBuilt, Sink, Memory}
use Rattle.search.specs.Searching.{IsFound, IsStarted, SearchFails}

-- the blocks below n
pub record IsGoing (output : Output) (task : TaskParts) (limits : Limits) (places : List ℕ) (n : ℕ) : Type 0 where
  pub before : List Log
  pub count : length before ≡ n
  pub refuted_before : AreRefuted task limits places 0 before
  pub licensed : AreLicensed task places 0 before
  pub printed : Prints output (pattern_lines task places ++ refuted_lines task 0 before)
  pub no_fault : NoWriteFails output

-- a text is left in its midst
abbrev pub Leaves : Output → TaskParts → Limits → SearchFail → Type 0
Leaves output task limits (Ground fail) = ⊥
Leaves output task limits NotBuilt = ⊥
Leaves output task limits Sink = IsStarted output task limits × WriteFails output
Leaves output task limits Memory = IsStarted output task limits × NoWriteFails output

abbrev pub Heads : Output → TaskParts → Limits → List ℕ → Result (Unit {0}) SearchFail → Type 0
Heads output task limits places (Ok done) = IsGoing output task limits places 0
Heads output task limits places (Err e) = SearchFails output task limits e

abbrev pub GoesOn : Output → TaskParts → Limits → List ℕ → ℕ → Result (Unit {0}) SearchFail → Type 0
GoesOn output task limits places n (Ok done) = IsGoing output task limits places (suc n)
GoesOn output task limits places n (Err e) = Leaves output task limits e

-- block n is printed: it is refuted, and more copies are allowed, or the text ends with it
abbrev pub Advances : Output → TaskParts → Limits → List ℕ → ℕ → Result (Option Found) SearchFail → Type 0
Advances output task limits places n (Ok None) = (suc n ≤ limits.max_n) × IsGoing output task limits places (suc n)
Advances output task limits places n (Ok (Some f)) = IsFound output task limits f
Advances output task limits places n (Err e) = Leaves output task limits e

abbrev pub Finishes : Output → TaskParts → Limits → Result Found SearchFail → Type 0
Finishes output task limits (Ok f) = IsFound output task limits f
Finishes output task limits (Err e) = Leaves output task limits e

-- an output from a call before on
abbrev pub seen_since : Option (List ℕ) → ℕ → Option (List ℕ) → ℕ → Output
seen_since first fails now failed = record { written_before = first; written = now; failed_before = fails; failed = failed }

abbrev pub search_fail : SinkFail → SearchFail
search_fail fail.Failed = Sink
search_fail fail.Memory = Memory
