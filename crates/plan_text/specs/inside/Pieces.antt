-- The words and parentheses that stand in a text, by their places.
use Rattle.std.specs.Prelude.{◌≡◌, ℕ, ◌<◌, ◌≤◌, Bool, true, false, List, ◌∷◌, drop, length}
use Rattle.sexpr.specs.declared.bytes.Class.{Class}
use Rattle.sexpr.specs.declared.bytes.Class.TheVariants.{White, Opens, Closes, Semicolon, InWord, Foreign}
use Rattle.sexpr.specs.Bytes.{class_of, word_of}
use Rattle.sexpr.specs.Tokens as sexpr
use Rattle.plan_text.specs.declared.piece.Kind.{Kind}
use Rattle.plan_text.specs.declared.piece.Kind.TheVariants.{Open, Close, Word}
use Rattle.plan_text.specs.declared.piece.Piece.{Piece}

-- a byte of neither a word nor a parenthesis
abbrev pub is_gap_class : Class → Bool
is_gap_class White = true
is_gap_class Opens = false
is_gap_class Closes = false
is_gap_class Semicolon = true
is_gap_class InWord = false
is_gap_class Foreign = true

abbrev pub is_gap : ℕ → Bool
is_gap b = is_gap_class (class_of b)

abbrev pub token_by : Kind → List ℕ → ℕ → ℕ → sexpr.Token
token_by Open text start end = sexpr.Open start
token_by Close text start end = sexpr.Close end
token_by Word text start end = sexpr.Word start end (word_of (drop start text))

abbrev pub token_of : List ℕ → Piece → sexpr.Token
token_of text p = token_by p.kind text p.start p.end

-- the first word or parenthesis at or after a place
pub record StandsFirst (text : List ℕ) (from : ℕ) (p : Piece) : Type 0 where
  pub not_before : from ≤ p.start
  pub some : p.start < p.end
  pub within : p.end ≤ length text
  pub is : sexpr.tokens from (drop from text) ≡ token_of text p ∷ sexpr.tokens p.end (drop p.end text)
