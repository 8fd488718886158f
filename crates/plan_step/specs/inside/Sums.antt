-- A table of changed functions, by the function with its arguments after it: whether all its changes are sums. The clauses of
-- private functions cite it.
use Rattle.std.specs.Prelude.{◌≡◌, ℕ, Bool, false, not, ◌&&◌, List, ◌∷◌, Option, Some, None}
use Rattle.ground_map.specs.GroundMap.{value_at, IsPut}
use Rattle.plan_step.specs.Meaning.{Change, put, change, adds_up}

abbrev pub Table : Type 0
Table = List (List (List ℕ × Bool))

-- whether a change clashes with those of its function
abbrev pub clash_with : Bool → Option Bool → Bool
clash_with adds None = false
clash_with adds (Some sums) = not (adds && sums)

abbrev pub clash_told : Change → Table → Bool
clash_told (put sign p args) table = false
clash_told (change op f args by) table = clash_with (adds_up op) (value_at table 0 (f ∷ args))

-- the change is added, where it doesn't clash
abbrev pub IsAdded : Change → Table → Table → Type 0
IsAdded (put sign p args) old new = new ≡ old
IsAdded (change op f args by) old new = IsPut old new 0 (f ∷ args) (adds_up op)
