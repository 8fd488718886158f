-- Fronts of a list.
use Rattle.std.proofs.Common.{◌≡◌, ℕ, zero, suc, ◌<◌, ◌≤◌, ◌+◌, List, [], ◌∷◌, ◌++◌, length, take, Some, refl, sym, ap, arith, ◌∙◌, length-append, suc-add}
use Rattle.std.specs.List.{slice_get}
use Rattle.std.proofs.lemmas.Option.{same_Some}
use Rattle.std.proofs.lemmas.List.{take_at, take-take}

pub get-take : {A : Type 0} (xs : List A) (n i : ℕ) (x : A) → slice_get (take n xs) i ≡ Some x → slice_get xs i ≡ Some x
get-take xs zero i x h = absurd (cc)
get-take [] (suc n) i x h = h
get-take (y ∷ xs) (suc n) zero x h = h
get-take (y ∷ xs) (suc n) (suc i) x h = get-take xs n i x h

pub get-take_in : {A : Type 0} (xs : List A) (n i : ℕ) (x : A) → i < n → slice_get xs i ≡ Some x → slice_get (take n xs) i ≡ Some x
get-take_in xs zero i x lt h = absurd (omega arith)
get-take_in [] (suc n) i x lt h = h
get-take_in (y ∷ xs) (suc n) zero x lt h = h
get-take_in (y ∷ xs) (suc n) (suc i) x lt h = get-take_in xs n i x (omega arith) h

pub take_pop : {A : Type 0} (init now after : List A) (e : A) → now ≡ take (length now) init → now ≡ after ++ e ∷ [] → after ≡ take (length after) init
take_pop init now after e t p =
    let a : take (length after) (after ++ e ∷ []) ≡ after = take_at after (e ∷ []) (length after) refl in
    let le : length after ≤ length now = omega (arith, ap length p, length-append after (e ∷ [])) in
    sym a ∙ ap (take (length after)) (sym p) ∙ ap (take (length after)) t ∙ take-take (length after) (length now) init le

pub at_low : {A : Type 0} (xs : List A) (n i : ℕ) (x : A) → slice_get (take n xs) i ≡ Some x → i < n
at_low xs zero i x h = absurd (cc)
at_low [] (suc n) i x h = absurd (cc)
at_low (y ∷ xs) (suc n) zero x h = omega arith
at_low (y ∷ xs) (suc n) (suc i) x h = omega (arith, at_low xs n i x h)

pub take_more : {A : Type 0} (xs : List A) (n : ℕ) (x : A) → slice_get xs n ≡ Some x → take (n + 1) xs ≡ take n xs ++ x ∷ []
take_more [] n x h = absurd (cc)
take_more {A = A} (y ∷ xs) zero x h = ap (λ (z : A). z ∷ []) (same_Some _ _ h)
take_more {A = A} (y ∷ xs) (suc n) x h = rw suc-add (ap (λ (l : List A). y ∷ l) (take_more xs n x h))
