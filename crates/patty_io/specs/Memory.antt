-- Files and output in memory (this project).
use Rattle.std.specs.Prelude.{◌≡◌, ℕ, ◌+◌, Bool, true, false, ◌||◌, ◌==◌, List, Option, Result, Ok, Err, min, string_bytes, bytes_eq, find, option_map}
use Rattle.std.specs.Option.{is_none}
use Rattle.std.specs.List.{list_any}
use Rattle.patty_io.specs.Faults.{last_count}
use Rattle.patty_io.specs.declared.memory.NamedBytes.{NamedBytes}
use Rattle.patty_io.specs.declared.memory.MemShelf.{MemShelf}
use Rattle.patty_io.specs.declared.memory.MemSink.{MemSink}
use Rattle.patty_io.specs.declared.shelf.ShelfFail.{ShelfFail}
use Rattle.patty_io.specs.declared.shelf.ShelfFail.TheVariants.{Failed, Long, Memory}
use Rattle.patty_io.specs.declared.sink.SinkFail.{SinkFail}
use Rattle.patty_io.specs.declared.sink.SinkFail.TheVariants as sink

-- the bytes of the first file of a name
abbrev pub file_of : List NamedBytes → List ℕ → Option (List ℕ)
file_of files name = option_map (λ f. f.bytes.items) (find (λ f. bytes_eq (string_bytes f.name) name) files)

-- the call behind this many has a number, from 1, that is listed
abbrev pub is_due : List ℕ → ℕ → Bool
is_due fails calls = list_any (λ n. n == min (calls + 1) last_count) fails

-- the next call of a sink is one that fails
abbrev pub sink_is_due : MemSink → Bool
sink_is_due s = is_due s.fails.items s.calls

-- a sink whose next call is its first, and whose listed calls fail
pub record IsNewSink (sink : MemSink) (fails : List ℕ) : Type 0 where
  pub fails_are : sink.fails.items ≡ fails
  pub no_call : sink.calls ≡ 0

-- a call answers `Failed` exactly where it is due
abbrev pub FailsExactly : {T : Type 0} → Bool → Result T SinkFail → Type 0
FailsExactly due (Ok done) = due ≡ false
FailsExactly due (Err sink.Failed) = due ≡ true
FailsExactly due (Err sink.Memory) = due ≡ false

-- the listed calls stay, and one more call was made
pub record SinkWentOn (old new : MemSink) : Type 0 where
  pub fails : new.fails.items ≡ old.fails.items
  pub calls : new.calls ≡ min (old.calls + 1) last_count

-- the next call of a shelf is one that fails, or has no file of this name
abbrev pub is_missed : MemShelf → List ℕ → Bool
is_missed shelf name = is_due shelf.fails.items shelf.calls || is_none (file_of shelf.files.items name)

-- a shelf whose next call is its first, and whose listed calls fail
pub record IsNewShelf (shelf : MemShelf) (fails : List ℕ) : Type 0 where
  pub fails_are : shelf.fails.items ≡ fails
  pub no_call : shelf.calls ≡ 0

-- a call answers `Failed` exactly where it is missed, unless memory ran out
abbrev pub FailsExactlyOrMemory : {T : Type 0} → Bool → Result T ShelfFail → Type 0
FailsExactlyOrMemory missed (Ok done) = missed ≡ false
FailsExactlyOrMemory missed (Err Failed) = missed ≡ true
FailsExactlyOrMemory missed (Err Long) = missed ≡ false
FailsExactlyOrMemory missed (Err Memory) = Unit {0}

-- the listed calls stay, and one more call was made
pub record ShelfWentOn (old new : MemShelf) : Type 0 where
  pub fails : new.fails.items ≡ old.fails.items
  pub calls : new.calls ≡ min (old.calls + 1) last_count
