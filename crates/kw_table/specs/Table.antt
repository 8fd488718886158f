-- Words in rising byte order, and the search among them.
use Rattle.std.specs.Prelude.{◌≡◌, ◌≢◌, ℕ, Bool, true, IsTrue, ◌&&◌, List, [], ◌∷◌, Option, Some, MatchOption, slice_get}
use Rattle.std.specs.Ordering.{nat_cmp, is_lt}
use Rattle.std.specs.Cmp.Lexicographic.{slice_cmp}
use Rattle.std.specs.declared.cmp.Ordering.{Ordering}

-- byte order: the first byte that differs decides, and else the shorter word is below
abbrev pub byte_order : List ℕ → List ℕ → Ordering
byte_order v w = slice_cmp nat_cmp v w

-- each word is below the next
abbrev pub rises : List (List ℕ) → Bool
rises [] = true
rises (w ∷ []) = true
rises (v ∷ w ∷ words) = is_lt (byte_order v w) && rises (w ∷ words)

abbrev pub Rises : List (List ℕ) → Type 0
Rises words = IsTrue (rises words)

-- each word is another
abbrev pub IsAbsent : List ℕ → List (List ℕ) → Type 0
IsAbsent word [] = Unit {0}
IsAbsent word (w ∷ words) = (w ≢ word) × IsAbsent word words

-- the index of the equal word, and none exactly where there is none
abbrev pub Finds : List (List ℕ) → List ℕ → Option ℕ → Type 0
Finds words word result = MatchOption result (IsAbsent word words) (λ at. slice_get words at ≡ Some word)
