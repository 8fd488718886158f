-- The lines of a plan's text (this project).
use Rattle.std.specs.Prelude.{ℕ, ◌+◌, not, ◌==◌, List, [], ◌∷◌, if◌then◌else◌}
use Rattle.std.specs.List.{list_any, take_while, prefix_len}
use Rattle.sexpr.specs.declared.bytes.Class.{Class}
use Rattle.sexpr.specs.declared.bytes.Class.TheVariants.{White, Foreign}
use Rattle.std.specs.Prelude.{Bool, true, false}
use Rattle.sexpr.specs.Bytes.{class_of}

-- a line without its line feed, and the place where it begins
pub record Line : Type 0 where
  pub at : ℕ
  pub bytes : List ℕ

abbrev pub line_at : ℕ → List ℕ → Line
line_at at bytes = record { at = at; bytes = bytes }

-- the first of some lines begins one byte earlier
abbrev pub longer : ℕ → ℕ → List Line → List Line
longer at b [] = []
longer at b (first ∷ more) = line_at at (b ∷ first.bytes) ∷ more

-- the lines of bytes that begin at a place; the last one ends with the bytes
abbrev pub lines_from : ℕ → List ℕ → List Line
lines_from at [] = line_at at [] ∷ []
lines_from at (b ∷ bytes) = if b == 10 then line_at at [] ∷ lines_from (at + 1) bytes else longer at b (lines_from (at + 1) bytes)

-- what stands in front of a line's comment
abbrev pub code_of : Line → List ℕ
code_of line = take_while (λ b. not (b == 59)) line.bytes

abbrev pub is_white_class : Class → Bool
is_white_class White = true
is_white_class _ = false

abbrev pub is_foreign_class : Class → Bool
is_foreign_class Foreign = true
is_foreign_class _ = false

-- the place of the first byte that isn't white space
abbrev pub first_place : Line → ℕ
first_place line = line.at + prefix_len (λ b. is_white_class (class_of b)) line.bytes

-- a byte in front of the comment isn't allowed
abbrev pub has_foreign : Line → Bool
has_foreign line = list_any (λ b. is_foreign_class (class_of b)) (code_of line)
