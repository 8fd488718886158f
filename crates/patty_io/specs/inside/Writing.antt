-- What writing a piece to a writer of the system leaves.
use Rattle.std.specs.Prelude.{ℕ, Bool, true, false, List, take, Option}
use Rattle.std.specs.Io.KnownBytes.{Appends}

-- the bytes are appended, or a front of them
abbrev pub WritesWhole : Option (List ℕ) → Option (List ℕ) → List ℕ → Bool → Type 0
WritesWhole old new bytes true = Appends old new bytes
WritesWhole old new bytes false = (n : ℕ) × Appends old new (take n bytes)
