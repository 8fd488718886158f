-- A list of at most n places of a pattern is a word of n copies: a piece for each, in which it alone counts, and once.
use Rattle.std.proofs.Common.{◌≡◌, ℕ, zero, suc, ◌+◌, ◌-◌, ◌<◌, ◌≤◌, Bool, List, [], ◌∷◌, ◌++◌, length, get_or, refl, ap, subst, ◌∙◌, inr, arith}
use Rattle.std.specs.List.{AllByRecursion, Contains, flat_map}
use Rattle.task_core.specs.Words.{written_out, IsPiece, IsWord}
use Rattle.task_core.proofs.WordLaws.{word_of_more}

module _ {X : Type 0} (rolls : X → Bool) where
  -- a piece that writes a list
  record Writes (pattern word : List X) : Type 0 where
    piece : List (ℕ × X)
    is_piece : IsPiece rolls pattern piece
    written : written_out piece ≡ word

  nothing : (xs : List X) → Writes xs []
  nothing [] = record { piece = []; is_piece = record { places = refl; counts = tt }; written = refl }
  nothing (x ∷ xs) =
      let w = nothing xs in
      record {
        piece = (0, x) ∷ w.piece;
        is_piece = record { places = ap (λ (ys : List X). x ∷ ys) w.is_piece.places; counts = (inr (omega arith), w.is_piece.counts) };
        written = w.written;
      }

  one_of : (xs : List X) (k : ℕ) (y : X) → k < length xs → get_or xs k y ≡ y → Writes xs (y ∷ [])
  one_of [] k y l e = absurd (omega arith)
  one_of (x ∷ xs) zero y l e =
      let w = nothing xs in
      record {
        piece = (1, x) ∷ w.piece;
        is_piece = record { places = ap (λ (ys : List X). x ∷ ys) w.is_piece.places; counts = (inr (omega arith), w.is_piece.counts) };
        written = ap (λ (ys : List X). x ∷ ys) w.written ∙ ap (λ (z : X). z ∷ []) e;
      }
  one_of (x ∷ xs) (suc k) y l e =
      let w = one_of xs k y (omega arith) e in
      record {
        piece = (0, x) ∷ w.piece;
        is_piece = record { places = ap (λ (ys : List X). x ∷ ys) w.is_piece.places; counts = (inr (omega arith), w.is_piece.counts) };
        written = w.written;
      }

  module _ (pattern : List X) where
    word_of : (word : List X) → AllByRecursion (λ x. Contains pattern x) word → IsWord rolls pattern (length word) word
    word_of [] h = record { pieces = []; copies = refl; each = tt; spelled = refl }
    word_of (x ∷ word) h =
        let w = one_of pattern h.0.0 x h.0.1 h.0.2 in
        let more = word_of word h.1 in
        record {
          pieces = w.piece ∷ more.pieces;
          copies = ap suc more.copies;
          each = (w.is_piece, more.each);
          spelled = ap (λ (ys : List X). ys ++ flat_map written_out more.pieces) w.written ∙ ap (λ (ys : List X). x ∷ ys) more.spelled;
        }

    more_copies : (word : List X) (m d : ℕ) → IsWord rolls pattern m word → IsWord rolls pattern (d + m) word
    more_copies word m zero w = let same : m ≡ 0 + m = omega arith in subst (λ (n : ℕ). IsWord rolls pattern n word) same w
    more_copies word m (suc d) w =
        let same : suc (d + m) ≡ suc d + m = omega arith in
        subst (λ (n : ℕ). IsWord rolls pattern n word) same (word_of_more rolls pattern word (d + m) (more_copies word m d w))

    pub word-of_places : (word : List X) (n : ℕ) → AllByRecursion (λ x. Contains pattern x) word → length word ≤ n → IsWord rolls pattern n word
    word-of_places word n h l =
        let same : (n - length word) + length word ≡ n = omega arith in
        subst (λ (m : ℕ). IsWord rolls pattern m word) same (more_copies word (length word) (n - length word) (word_of word h))
