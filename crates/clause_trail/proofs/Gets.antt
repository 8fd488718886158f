-- Elements of a list after a write or a push.
use Rattle.std.proofs.Common.{◌≡◌, ◌≢◌, ℕ, zero, suc, ◌<◌, List, [], ◌∷◌, ◌++◌, length, Some, set, get_or, take, drop, refl, sym, ap, arith, inl, inr, subst, ◌∙◌, ◌⊎◌}
use Rattle.std.specs.List.{slice_get}
use Rattle.std.proofs.lemmas.Option.{slice_get-get_or}
use Rattle.std.proofs.lemmas.List.{take_at}

pub get-set_same : {A : Type 0} (xs : List A) (i : ℕ) (v : A) → i < length xs → slice_get (set xs i v) i ≡ Some v
get-set_same [] i v h = absurd (omega arith)
get-set_same (x ∷ xs) zero v h = refl
get-set_same (x ∷ xs) (suc i) v h = get-set_same xs i v (omega arith)

pub get-set_other : {A : Type 0} (xs : List A) (i j : ℕ) (v : A) → j ≢ i → slice_get (set xs i v) j ≡ slice_get xs j
get-set_other [] i j v h = refl
get-set_other (x ∷ xs) zero zero v h = absurd (h refl)
get-set_other (x ∷ xs) zero (suc j) v h = refl
get-set_other (x ∷ xs) (suc i) zero v h = refl
get-set_other (x ∷ xs) (suc i) (suc j) v h = get-set_other xs i j v (λ e. h (ap suc e))

pub get-push_same : {A : Type 0} (xs : List A) (v : A) → slice_get (xs ++ v ∷ []) (length xs) ≡ Some v
get-push_same [] v = refl
get-push_same (x ∷ xs) v = get-push_same xs v

pub get-push_old : {A : Type 0} (xs ys : List A) (i : ℕ) (x : A) → slice_get xs i ≡ Some x → slice_get (xs ++ ys) i ≡ Some x
get-push_old [] ys i x h = cc
get-push_old (y ∷ xs) ys zero x h = h
get-push_old (y ∷ xs) ys (suc i) x h = get-push_old xs ys i x h

pub get-push_cases : {A : Type 0} (xs : List A) (v : A) (i : ℕ) (x : A) → slice_get (xs ++ v ∷ []) i ≡ Some x → (slice_get xs i ≡ Some x) ⊎ ((i ≡ length xs) × (x ≡ v))
get-push_cases [] v zero x h = inr (refl, cc)
get-push_cases [] v (suc i) x h = absurd (cc)
get-push_cases (y ∷ xs) v zero x h = inl h
get-push_cases (y ∷ xs) v (suc i) x h =
    elim (get-push_cases xs v i x h) [ inl a ↦ inl a | inr b ↦ inr (ap suc b.0, b.1) ]

pub get-within : {A : Type 0} (xs : List A) (i : ℕ) (x : A) → slice_get xs i ≡ Some x → i < length xs
get-within [] i x h = absurd (cc)
get-within (y ∷ xs) zero x h = omega arith
get-within (y ∷ xs) (suc i) x h = omega (arith, get-within xs i x h)

pub get-at : {A : Type 0} (xs : List A) (i : ℕ) → i < length xs → (x : A) × (slice_get xs i ≡ Some x)
get-at [] i h = absurd (omega arith)
get-at (x ∷ xs) zero h = (x, refl)
get-at (x ∷ xs) (suc i) h = get-at xs i (omega arith)

pub get-from : {A : Type 0} (xs : List A) (i : ℕ) (d x : A) → i < length xs → get_or xs i d ≡ x → slice_get xs i ≡ Some x
get-from xs i d x lt e = slice_get-get_or xs i d lt ∙ ap Some e

-- what was written back through a slice of a whole list
pub written : {A : Type 0} (P : List A → Type 0) (n : ℕ) (new old : List A) → n ≡ length new → P new → P (take n (new ++ drop (length new) old))
written P n new old e h = subst P (sym (ap (λ (m : ℕ). take m (new ++ drop (length new) old)) e ∙ take_at new (drop (length new) old) (length new) refl)) h
