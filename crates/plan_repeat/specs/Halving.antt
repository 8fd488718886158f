-- Looking for the first of some numbered things that fails, by halving (this project): the things hold from 0 up to some
-- number, and from there on to the last they fail.
use Rattle.std.specs.Prelude.{◌≡◌, ℕ, ◌+◌, ◌-◌, ◌/◌, ◌<◌, Bool, true, false}

-- halfway between two numbers, the lower of two
abbrev pub middle : ℕ → ℕ → ℕ
middle l h = l + (h - l) / 2

-- between these two numbers the first one that fails is looked for: the last fails, and each number halfway is looked at
pub data IsHalved (holds : ℕ → Bool) (last : ℕ) : ℕ → ℕ → Type 0 where
  begun : holds last ≡ false → IsHalved holds last 0 last
  above : (l h : ℕ) → IsHalved holds last l h → l + 1 < h → holds (middle l h) ≡ true → IsHalved holds last (middle l h) h
  below : (l h : ℕ) → IsHalved holds last l h → l + 1 < h → holds (middle l h) ≡ false → IsHalved holds last l (middle l h)

-- the numbers that are looked at: the last one, and where it fails those halfway
pub data IsLookedAt (holds : ℕ → Bool) (last : ℕ) (n : ℕ) : Type 0 where
  at_last : n ≡ last → IsLookedAt holds last n
  halfway : (l h : ℕ) → IsHalved holds last l h → l + 1 < h → n ≡ middle l h → IsLookedAt holds last n
