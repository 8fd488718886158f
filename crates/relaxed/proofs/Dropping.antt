-- What is left of a list from a place on.
use Rattle.std.proofs.Common.{◌≡◌, ℕ, zero, suc, ◌+◌, ◌<◌, ◌≤◌, slice_index_or, List, [], ◌∷◌, length, drop, refl, ap, ◌∙◌, Some, arith}
use Rattle.std.specs.Prelude.{slice_get}

pub drop_next : {X : Type 0} (xs : List X) (i : ℕ) (x : X) → slice_get xs i ≡ Some x → drop i xs ≡ x ∷ drop (i + 1) xs
drop_next {X = X} xs i x e = at xs i e ∙ (let same : suc i ≡ i + 1 = omega arith in ap (λ n. x ∷ drop n xs) same)
  where
    at : (xs : List X) (i : ℕ) → slice_get xs i ≡ Some x → drop i xs ≡ x ∷ drop (suc i) xs
    at [] i e = absurd (cc)
    at (y ∷ ys) zero e = let same : y ≡ x = cc in ap (λ z. z ∷ ys) same
    at (y ∷ ys) (suc i) e = at ys i e

pub drop_none : {X : Type 0} (xs : List X) (i : ℕ) → length xs ≤ i → drop i xs ≡ []
drop_none [] zero h = refl
drop_none [] (suc i) h = refl
drop_none (x ∷ xs) zero h = absurd (omega arith)
drop_none (x ∷ xs) (suc i) h = drop_none xs i (omega arith)

-- lists that agree at each place are one
pub same_lists : {X : Type 0} (xs ys : List X) → length xs ≡ length ys → ((n : ℕ) (d : X) → n < length xs → slice_index_or xs n d ≡ slice_index_or ys n d) → xs ≡ ys
same_lists [] [] l h = refl
same_lists [] (y ∷ ys) l h = absurd (omega arith)
same_lists (x ∷ xs) [] l h = absurd (omega arith)
same_lists (x ∷ xs) (y ∷ ys) l h =
    ap (λ z. z ∷ xs) (h 0 x (omega arith)) ∙ ap (λ zs. y ∷ zs) (same_lists xs ys (omega arith) (λ n d k. h (suc n) d (omega arith)))
