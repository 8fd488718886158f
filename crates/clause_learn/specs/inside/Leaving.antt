-- What is left of what was marked, so that a learned clause contains no earlier one.
use Rattle.std.specs.Prelude.{◌≡◌, ℕ, ◌<◌, ◌≤◌, Bool, true, false, List, Some, slice_get}

-- marked, and not resolved
pub record IsLeft (marks resolves : List Bool) (p : ℕ) : Type 0 where
  pub marked : slice_get marks p ≡ Some true
  pub unresolved : slice_get resolves p ≡ Some false

-- of the places from `i` on: at most one in the last level is left, and then none below it is marked there; and none below the first decision is left
pub record HasOneLeft (base from i : ℕ) (marks resolves : List Bool) : Type 0 where
  pub one : (p q : ℕ) → i ≤ p → i ≤ q → from ≤ p → from ≤ q → IsLeft marks resolves p → IsLeft marks resolves q → p ≡ q
  pub top : (p : ℕ) → i ≤ p → from ≤ p → IsLeft marks resolves p → (k : ℕ) → from ≤ k → k < i → slice_get marks k ≡ Some true → ⊥
  pub low : (p : ℕ) → i ≤ p → p < base → IsLeft marks resolves p → ⊥
