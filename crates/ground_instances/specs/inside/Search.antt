-- The lists that a search finds, by the arguments that are chosen so far. `n` is how many objects there are, and `allowed` tells
-- whether some first arguments can belong to a list.
use Rattle.std.specs.Prelude.{◌≡◌, ℕ, zero, suc, ◌+◌, ◌-◌, ◌<◌, ◌≤◌, Bool, false, List, [], ◌∷◌, ◌++◌, length, take, drop, Option, MatchOption, if◌then◌else◌}
use Rattle.std.specs.List.{flat_map}
use Rattle.ground_instances.specs.ArgumentLists.{count_from}

module _ (n : ℕ) (allowed : List ℕ → Bool) where
  -- the lists with k more arguments, the next of which is `low` or above it
  unfoldable pub lists_from : ℕ → List ℕ → ℕ → List (List ℕ)
  lists_from zero args low = args ∷ []
  lists_from (suc k) args low = flat_map (λ o. if allowed (args ++ o ∷ []) then lists_from k (args ++ o ∷ []) 0 else []) (count_from low (n - low))

  -- of the lists with the same first arguments those after one, by its last arguments
  unfoldable pub lists_after : List ℕ → List ℕ → List (List ℕ)
  lists_after args [] = []
  lists_after args (o ∷ more) = lists_after (args ++ o ∷ []) more ++ lists_from (suc (length more)) args (o + 1)

  -- a list is found or none is there; the first arguments stay
  pub record IsCompleted (old : List ℕ) (at low : ℕ) (found : Bool) (new : List ℕ) : Type 0 where
    pub front : take at new ≡ take at old
    pub lists : lists_from (length old - at) (take at old) low ≡ (if found then new ∷ lists_after (take at new) (drop at new) else [])

  pub record IsFollowed (old : List ℕ) (at : ℕ) (found : Bool) (new : List ℕ) : Type 0 where
    pub front : take at new ≡ take at old
    pub lists : lists_after (take at old) (drop at old) ≡ (if found then new ∷ lists_after (take at new) (drop at new) else [])

  -- no object from one up to another can follow
  pub record NoneOpen (args : List ℕ) (low high : ℕ) : Type 0 where
    pub none : (o : ℕ) → low ≤ o → o < high → allowed (args ++ o ∷ []) ≡ false

  pub record IsNextObject (args : List ℕ) (low object : ℕ) : Type 0 where
    pub above : low ≤ object
    pub below : object < n
    pub skipped : NoneOpen args low object

  abbrev pub IsCandidate : List ℕ → ℕ → Option ℕ → Type 0
  IsCandidate args low object = MatchOption object (NoneOpen args low n) (IsNextObject args low)
