-- What is printed: lines, one behind another, or a front of them where a write fails (this project).
use Rattle.std.specs.Prelude.{◌≡◌, ℕ, List, [], ◌∷◌, ◌++◌, Option, Ok, Err, Result, codes}
use Rattle.std.specs.Io.KnownBytes.{Appends}
use Rattle.std.specs.Fmt.{decimal}
use Rattle.sexpr.specs.declared.fault.Source.{Source}
use Rattle.sexpr.specs.declared.fault.Source.TheVariants as source
use Rattle.sexpr.specs.declared.fault.TextFault.{TextFault}
use Rattle.patty_io.specs.declared.sink.SinkFail.{SinkFail}
use Rattle.patty_io.specs.declared.sink.SinkFail.TheVariants as fail
use Rattle.patty_run.specs.declared.input.Input.{Input}
use Rattle.patty_run.specs.declared.stop.Stop.{Stop}
use Rattle.patty_run.specs.declared.stop.Stop.TheVariants as stop
use Rattle.patty_run.specs.Inputs.{word_of}
use Rattle.patty_run.specs.Outside.{Output, WriteFails, NoWriteFails}

abbrev pub line : List ℕ → List ℕ
line bytes = bytes ++ 10 ∷ []

-- lines one behind another
abbrev pub joined : List (List ℕ) → List ℕ
joined [] = []
joined (l ∷ lines) = l ++ joined lines

-- ---- the lines of a run that comes to no answer

abbrev pub source_word : Source → List ℕ
source_word source.Domain = codes "domain"
source_word source.Problem = codes "problem"

-- the line of a fault, without its word
abbrev pub fault_front : TextFault → List ℕ
fault_front fault = codes "fault " ++ source_word fault.file ++ 32 ∷ decimal fault.kind ++ 32 ∷ decimal fault.place

-- a word behind a space, where there is one
abbrev pub word_behind : List ℕ → List ℕ
word_behind [] = []
word_behind (b ∷ bytes) = 32 ∷ b ∷ bytes

-- the line of a fault: the file, the kind, the place and for some kinds a word
abbrev pub fault_line : TextFault → List ℕ
fault_line fault = line (fault_front fault ++ word_behind fault.word)

abbrev pub read_fault_line : Input → List ℕ
read_fault_line input = line (codes "fault read " ++ word_of input)

abbrev pub long_line : Input → List ℕ
long_line input = line (codes "fault " ++ (word_of input ++ codes " long"))

-- the lines of a program with this usage line
abbrev pub stop_lines : List ℕ → Stop → List (List ℕ)
stop_lines usage stop.Usage = usage ∷ []
stop_lines usage (stop.ReadFault input) = read_fault_line input ∷ []
stop_lines usage (stop.Long input) = long_line input ∷ []
stop_lines usage (stop.Fault fault) = fault_line fault ∷ []
stop_lines usage stop.Memory = []

abbrev pub stop_status : Stop → ℕ
stop_status stop.Usage = 4
stop_status (stop.ReadFault input) = 5
stop_status (stop.Long input) = 3
stop_status (stop.Fault fault) = 3
stop_status stop.Memory = 7

-- ---- writing

-- these lines were written
abbrev pub Prints : Output → List (List ℕ) → Type 0
Prints output lines = Appends output.written_before output.written (joined lines)

-- some front of these bytes was added
pub record AppendsFront (old new : Option (List ℕ)) (bytes : List ℕ) : Type 0 where
  pub front : List ℕ
  pub rest : List ℕ
  pub split : bytes ≡ front ++ rest
  pub added : Appends old new front

-- a front of these lines was written
abbrev pub PrintsFront : Output → List (List ℕ) → Type 0
PrintsFront output lines = AppendsFront output.written_before output.written (joined lines)

abbrev pub StopsPrinting : SinkFail → Output → Type 0
StopsPrinting fail.Failed output = WriteFails output
StopsPrinting fail.Memory output = NoWriteFails output

-- all bytes are written, or a front of them
abbrev pub PutsAll : {T : Type 0} → Output → List ℕ → Result T SinkFail → Type 0
PutsAll output bytes (Ok done) = Appends output.written_before output.written bytes × NoWriteFails output
PutsAll output bytes (Err e) = AppendsFront output.written_before output.written bytes × StopsPrinting e output

-- the status of a run whose lines were written, or weren't
abbrev pub status_behind : {T : Type 0} → ℕ → Result T SinkFail → ℕ
status_behind status (Ok done) = status
status_behind status (Err fail.Failed) = 6
status_behind status (Err fail.Memory) = 7
