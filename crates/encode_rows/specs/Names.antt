-- The truth variables that facts, literals and items name.
use Rattle.std.specs.Prelude.{ℕ, ⊤}
use Rattle.std.specs.List.{AllByRecursion}
use Rattle.encode_laws.specs.Rows.{Name, is_done, behind, Fact, at_most, below, named, Literal, yes, no, lit, Item, number, boolean, row, needs}

-- the occurrence of a truth variable
abbrev pub occurrence_of : Name → ℕ
occurrence_of (is_done i) = i
occurrence_of (behind i p) = i

abbrev pub FactNames : (Name → Type 0) → Fact → Type 0
FactNames P (at_most l) = ⊤
FactNames P (below l) = ⊤
FactNames P (named n) = P n

abbrev pub LiteralNames : (Name → Type 0) → Literal → Type 0
LiteralNames P yes = ⊤
LiteralNames P no = ⊤
LiteralNames P (lit s f) = FactNames P f

abbrev pub ItemNames : (Name → Type 0) → Item → Type 0
ItemNames P (number v c) = ⊤
ItemNames P (boolean f) = FactNames P f
ItemNames P (needs ops) = ⊤
ItemNames P (row ls) = AllByRecursion (LiteralNames P) ls
