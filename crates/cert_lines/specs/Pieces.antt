-- The lines of a text and the words of a line, each in its place (this project's certificates).
use Rattle.std.specs.Prelude.{ℕ, ◌+◌, ◌==◌, List, [], ◌∷◌, if◌then◌else◌}

-- bytes, and the place of the first of them
pub record Piece : Type 0 where
  pub at : ℕ
  pub bytes : List ℕ

abbrev pub piece_at : ℕ → List ℕ → Piece
piece_at at bytes = record { at = at; bytes = bytes }

-- the first of some pieces begins one byte earlier
abbrev pub longer : ℕ → ℕ → List Piece → List Piece
longer at b [] = []
longer at b (first ∷ more) = piece_at at (b ∷ first.bytes) ∷ more

-- what stands between the bytes that are `mark`, in bytes that begin at a place
abbrev pub pieces : ℕ → ℕ → List ℕ → List Piece
pieces mark at [] = piece_at at [] ∷ []
pieces mark at (b ∷ bytes) = if b == mark then piece_at at [] ∷ pieces mark (at + 1) bytes else longer at b (pieces mark (at + 1) bytes)

-- one space stands between two words of a line
abbrev pub words : ℕ → List ℕ → List Piece
words at line = pieces 32 at line

-- each line is ended by a line feed; the last piece, which may be empty, isn't ended
abbrev pub lines : ℕ → List ℕ → List Piece
lines at text = pieces 10 at text
