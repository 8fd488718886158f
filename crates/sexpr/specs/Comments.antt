-- Comments.
use Rattle.std.specs.Prelude.{ℕ, Bool, true, false, ◌==◌, if◌then◌else◌, List, [], ◌∷◌}

-- the bytes with each comment, from its `;` to the byte before the next line feed or to the end, written as spaces;
-- the test says whether a comment is open where the bytes begin
abbrev pub bare_from : Bool → List ℕ → List ℕ
bare_from inside [] = []
bare_from true (b ∷ bytes) = if b == 10 then 10 ∷ bare_from false bytes else 32 ∷ bare_from true bytes
bare_from false (b ∷ bytes) = if b == 59 then 32 ∷ bare_from true bytes else b ∷ bare_from false bytes

-- a text whose comments are written as spaces: each byte keeps its place
abbrev pub bare : List ℕ → List ℕ
bare bytes = bare_from false bytes
