-- The words of a line that are left.
use Rattle.cert_lines.specs.declared.word.Word.{Word}
use Rattle.cert_lines.specs.Pieces.{Piece, piece_at}

abbrev pub piece_of : Word → Piece
piece_of w = piece_at w.at w.bytes.now
