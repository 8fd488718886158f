-- A run of configurations, each the next one by Bland's rule.
use Rattle.std.specs.Prelude.{◌≡◌, ℕ, suc, ◌<◌, false, List, [], ◌∷◌, ◌++◌}
use Rattle.tableau.specs.Table.{Table, is_basic, IsTidy, width}
use Rattle.simplex_law.specs.Config.{Limits, IsPlaced, IsConsistent, IsNext}
use Rattle.simplex_law.specs.declared.pair.Pair.{Pair}

-- pivots by Bland's rule, each the variable that leaves and the one that enters, lead from one configuration to another
pub data Reaches (l : Limits) (t : Table) (place : ℕ → Pair) : List (ℕ × ℕ) → Table → (ℕ → Pair) → Type 0 where
  start : Reaches l t place [] t place
  pivot : {swaps : List (ℕ × ℕ)} {u : Table} {q : ℕ → Pair} {after : Table} {q' : ℕ → Pair} (r e : ℕ) → Reaches l t place swaps u q → IsNext l u q r e after q' → Reaches l t place (swaps ++ (r, e) ∷ []) after q'

-- from the first configuration m pivots lead to the last; at i the variable `leave i` leaves and `enter i` enters
pub record IsRun (l : Limits) (m : ℕ) (table : ℕ → Table) (place : ℕ → ℕ → Pair) (leave enter : ℕ → ℕ) : Type 0 where
  pub tidy : IsTidy (table 0)
  pub placed : IsPlaced l (table 0) (place 0)
  pub consistent : IsConsistent l (width (table 0))
  pub next : (i : ℕ) → i < m → IsNext l (table i) (place i) (leave i) (enter i) (table (suc i)) (place (suc i))

-- one basis, and the non-basic variables stand at the same pairs
pub record IsSameConfiguration (t : Table) (place : ℕ → Pair) (t' : Table) (place' : ℕ → Pair) : Type 0 where
  pub basis : (i : ℕ) → is_basic t i ≡ is_basic t' i
  pub places : (i : ℕ) → is_basic t i ≡ false → place i ≡ place' i
