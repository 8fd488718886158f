-- What holds of each place of a pattern holds of each place of its words.
use Rattle.std.proofs.Common.{ℕ, zero, suc, Bool, List, [], ◌∷◌, ◌++◌, map, replicate, sym, subst}
use Rattle.std.specs.List.{AllByRecursion, flat_map}
use Rattle.task_core.specs.Words.{written_out, IsPiece, IsWord}

module _ {X : Type 0} (P : X → Type 0) where
  both : (xs ys : List X) → AllByRecursion P xs → AllByRecursion P ys → AllByRecursion P (xs ++ ys)
  both [] ys h g = g
  both (x ∷ xs) ys h g = (h.0, both xs ys h.1 g)

  so_often : (n : ℕ) (x : X) → P x → AllByRecursion P (replicate n x)
  so_often zero x h = tt
  so_often (suc n) x h = (h, so_often n x h)

  in_piece : (piece : List (ℕ × X)) → AllByRecursion P (map (λ p. p.1) piece) → AllByRecursion P (written_out piece)
  in_piece [] h = tt
  in_piece (p ∷ piece) h = both (replicate p.0 p.1) (written_out piece) (so_often p.0 p.1 h.0) (in_piece piece h.1)

  module _ (rolls : X → Bool) (pattern : List X) (here : AllByRecursion P pattern) where
    in_pieces : (pieces : List (List (ℕ × X))) → AllByRecursion (IsPiece rolls pattern) pieces → AllByRecursion P (flat_map written_out pieces)
    in_pieces [] h = tt
    in_pieces (piece ∷ pieces) h =
        both (written_out piece) (flat_map written_out pieces) (in_piece piece (subst (AllByRecursion P) (sym h.0.places) here)) (in_pieces pieces h.1)

    pub in_word : (word : List X) (n : ℕ) → IsWord rolls pattern n word → AllByRecursion P word
    in_word word n w = subst (AllByRecursion P) w.spelled (in_pieces w.pieces w.each)
