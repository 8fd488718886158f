-- Lists of words that end at a `;`.
use Rattle.std.specs.Prelude.{List, [], ◌∷◌, if◌then◌else◌}
use Rattle.cert_lines.specs.Pieces.{Piece}
use Rattle.cert_lines.specs.Spelled.{is_mark, is_text_word}

-- the words in front of the first `;`, and those behind it
abbrev pub in_front : List Piece → List Piece
in_front [] = []
in_front (p ∷ ps) = if is_mark p.bytes then [] else p ∷ in_front ps

abbrev pub behind : List Piece → List Piece
behind [] = []
behind (p ∷ ps) = if is_mark p.bytes then ps else behind ps

-- the words behind those that may stand in the place of fractions
abbrev pub behind_text_words : List Piece → List Piece
behind_text_words [] = []
behind_text_words (p ∷ ps) = if is_text_word p.bytes then behind_text_words ps else p ∷ ps
