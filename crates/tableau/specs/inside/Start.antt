-- The rows of the first tableau, as far as they are made.
use Rattle.std.specs.Prelude.{◌≡◌, ℕ, ◌+◌, ◌<◌, ◌≤◌, Bool, true, false, List, [], length, slice_index_or}
use Rattle.rational.specs.Fraction.{Fraction}
use Rattle.rational.specs.Linear.{Terms, coefficient_of}
use Rattle.lin.specs.Linear.{Linear}
use Rattle.tableau.specs.Table.{at, terms_at}

-- the coefficients of the terms, for each variable below n
pub record IsDense (n : ℕ) (ts : Terms) (row : List Fraction) : Type 0 where
  pub long : length row ≡ n
  pub cells : (j : ℕ) → j < n → at row j ≡ coefficient_of j ts

-- `vars` empty rows, and the first k of the given rows behind them, each over n variables
pub record IsBegun (vars n : ℕ) (rows : List Linear) (k : ℕ) (all : List (List Fraction)) : Type 0 where
  pub long : length all ≡ vars + k
  pub blank : (i : ℕ) → i < vars → length (slice_index_or all i []) ≡ 0
  pub given : (i : ℕ) → i < k → IsDense n (terms_at rows i) (slice_index_or all (vars + i) [])

-- the variables from `vars` on are basic
pub record IsMarked (vars k : ℕ) (basic : List Bool) : Type 0 where
  pub long : length basic ≡ k
  pub before : (i : ℕ) → i < k → i < vars → slice_index_or basic i false ≡ false
  pub behind : (i : ℕ) → i < k → vars ≤ i → slice_index_or basic i false ≡ true
