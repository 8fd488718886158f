-- Counts of faults of the outside (this project): they never fall, and stand at their last value once they reach it.
use Rattle.std.specs.Prelude.{◌≡◌, ℕ, ◌+◌, ◌-◌, ◌^◌, ◌≤◌, min}

-- the last value of a count
abbrev pub last_count : ℕ
last_count = 2 ^ 64 - 1

-- a count that stands at its last value where it would grow beyond it
abbrev pub capped : ℕ → ℕ
capped n = min n last_count

-- a count rose: one more fault was counted, unless it stands at its last value
abbrev pub Rose : ℕ → ℕ → Type 0
Rose before now = (before ≤ now) × (now ≡ min (before + 1) last_count)
