-- What taking a file gives (this project).
use Rattle.std.specs.Prelude.{◌≡◌, ℕ, ◌+◌, ◌≤◌, List, length, take, ⊤, Some, None, Ok, Err, Option, Result}
use Rattle.patty_io.specs.declared.shelf.ShelfFail.{ShelfFail}
use Rattle.patty_io.specs.declared.shelf.ShelfFail.TheVariants.{Failed, Long, Memory}
use Rattle.patty_io.specs.declared.shelf.TheConstants.{LIMIT}
use Rattle.patty_io.specs.Faults.{Rose}

-- the length of the longest file that is taken, in bytes
abbrev pub limit : ℕ
limit = LIMIT

-- what is told of a file is these bytes
abbrev pub Tells : Option (List ℕ) → List ℕ → Type 0
Tells None bytes = ⊤
Tells (Some told) bytes = bytes ≡ told

-- what is told of a file begins with these bytes, one more than are taken
abbrev pub TellsMore : Option (List ℕ) → List ℕ → Type 0
TellsMore None bytes = ⊤
TellsMore (Some told) bytes = bytes ≡ take (limit + 1) told

-- what a refused call left: one byte past the limit shows that a file is too long
abbrev pub Fails : ShelfFail → Option (List ℕ) → List ℕ → Type 0
Fails Failed told into = ⊤
Fails Long told into = (length into ≡ limit + 1) × TellsMore told into
Fails Memory told into = ⊤

-- what a call of `take` left, where the shelf tells this of the name
abbrev pub Takes : {T : Type 0} → Option (List ℕ) → Result T ShelfFail → List ℕ → Type 0
Takes told (Ok done) into = (length into ≤ limit) × Tells told into
Takes told (Err fail) into = Fails fail told into

-- the count of the name's faults rose where the call failed, and else stays
abbrev pub TakeCounts : {T : Type 0} → ℕ → ℕ → Result T ShelfFail → Type 0
TakeCounts before now (Ok done) = now ≡ before
TakeCounts before now (Err Failed) = Rose before now
TakeCounts before now (Err Long) = now ≡ before
TakeCounts before now (Err Memory) = now ≡ before
