-- What a reader of words has left.
use Rattle.std.specs.Prelude.{ℕ, ◌≤◌, Bool, List, [], length, drop, if◌then◌else◌}
use Rattle.cert_lines.specs.Pieces.{Piece, words}

abbrev pub words_left : Bool → ℕ → List ℕ → List Piece
words_left is_done at text = if is_done then [] else words at (drop at text)

pub record IsWithin (at : ℕ) (text : List ℕ) : Type 0 where
  pub begins : at ≤ length text
  pub small : length text ≤ 67108864
