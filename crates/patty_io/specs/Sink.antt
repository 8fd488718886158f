-- What writing a piece leaves (this project).
use Rattle.std.specs.Prelude.{◌≡◌, ℕ, List, take, Ok, Err, Option, Result}
use Rattle.std.specs.Io.KnownBytes.{Appends}
use Rattle.patty_io.specs.declared.sink.SinkFail.{SinkFail}
use Rattle.patty_io.specs.declared.sink.SinkFail.TheVariants.{Failed, Memory}
use Rattle.patty_io.specs.Faults.{Rose}

-- a failed call wrote the first n bytes for some n, and one that met want of memory wrote nothing
abbrev pub PutFails : SinkFail → Option (List ℕ) → Option (List ℕ) → List ℕ → Type 0
PutFails Failed old new bytes = (n : ℕ) × Appends old new (take n bytes)
PutFails Memory old new bytes = new ≡ old

-- what a call of `put` added to what was written
abbrev pub Puts : {T : Type 0} → Option (List ℕ) → Option (List ℕ) → Result T SinkFail → List ℕ → Type 0
Puts old new (Ok done) bytes = Appends old new bytes
Puts old new (Err fail) bytes = PutFails fail old new bytes

-- the count of faults rose where the call failed, and else stays
abbrev pub PutCounts : {T : Type 0} → ℕ → ℕ → Result T SinkFail → Type 0
PutCounts before now (Ok done) = now ≡ before
PutCounts before now (Err Failed) = Rose before now
PutCounts before now (Err Memory) = now ≡ before
