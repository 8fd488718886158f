-- Two places of a list exchanged, after one of them was overwritten.
use Rattle.std.specs.Prelude.{◌≡◌, ◌≢◌, ℕ, List, length, slice_index_or}

-- x stands at e, what stood at e stands at r, and the rest stays
pub record IsExchanged {V : Type 0} (before : List V) (x : V) (r e : ℕ) (after : List V) : Type 0 where
  pub long : length after ≡ length before
  pub at_e : (d : V) → slice_index_or after e d ≡ x
  pub at_r : (d : V) → slice_index_or after r d ≡ slice_index_or before e d
  pub others : (i : ℕ) (d : V) → i ≢ r → i ≢ e → slice_index_or after i d ≡ slice_index_or before i d
