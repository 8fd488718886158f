-- The names whose taking failed.
use Rattle.std.specs.Prelude.{ℕ, ◌+◌, cond, List, [], ◌∷◌, String, string_bytes, bytes_eq}
use Rattle.std.specs.declared.alloc.Global.{Global}
use Rattle.patty_io.specs.Faults.{capped}
use Rattle.patty_io.specs.declared.failures.Failures.{Failures}

-- how often a name stands in a list
abbrev pub count_of : List (String Global) → List ℕ → ℕ
count_of [] name = 0
count_of (s ∷ names) name = count_of names name + cond (bytes_eq (string_bytes s) name) 1 0

-- how often taking a name failed
abbrev pub failures_of : Failures → List ℕ → ℕ
failures_of failures name = capped (count_of failures.names.items name)
