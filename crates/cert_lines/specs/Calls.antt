-- An instance as words, `(NAME ARG ..)`.
use Rattle.std.specs.Prelude.{ℕ, ◌==◌, List, [], ◌∷◌, Option, Some, None, if◌then◌else◌}
use Rattle.cert_lines.specs.Pieces.{Piece}
use Rattle.cert_lines.specs.Spelled.{is_name, is_last_name}

-- the words behind names of which the last has the closing parenthesis
abbrev pub behind_names : List ℕ → List Piece → Option (List Piece)
behind_names word [] = if is_last_name word then Some [] else None
behind_names word (p ∷ ps) = if is_last_name word then Some (p ∷ ps) else (if is_name word then behind_names p.bytes ps else None)

-- the first name has the opening parenthesis
abbrev pub behind_open : List ℕ → List Piece → Option (List Piece)
behind_open [] ps = None
behind_open (c ∷ word) ps = if c == 40 then behind_names word ps else None

-- the words behind an instance
abbrev pub behind_instance : List Piece → Option (List Piece)
behind_instance [] = None
behind_instance (p ∷ ps) = behind_open p.bytes ps
