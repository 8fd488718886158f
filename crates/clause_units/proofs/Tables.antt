-- Tables of truths: what is read behind a write, and a table that lists nothing.
use Rattle.std.proofs.Common.{◌≡◌, ◌≢◌, ◌⊎◌, inl, inr, ℕ, zero, suc, ◌<◌, Option, Some, None, Bool, List, [], ◌∷◌, ◌++◌, length, set, replicate, refl, ap, arith}
use Rattle.std.specs.Prelude.{slice_get}
use Rattle.clause_units.specs.Truth.{AreListed, IsBare}

pub get-set_same : {A : Type 0} (xs : List A) (i : ℕ) (v : A) → i < length xs → slice_get (set xs i v) i ≡ Some v
get-set_same [] i v h = absurd (omega arith)
get-set_same (x ∷ xs) zero v h = refl
get-set_same (x ∷ xs) (suc i) v h = get-set_same xs i v (omega arith)

pub get-set_other : {A : Type 0} (xs : List A) (i j : ℕ) (v : A) → j ≢ i → slice_get (set xs i v) j ≡ slice_get xs j
get-set_other [] i j v h = refl
get-set_other (x ∷ xs) zero zero v h = absurd (h refl)
get-set_other (x ∷ xs) zero (suc j) v h = refl
get-set_other (x ∷ xs) (suc i) zero v h = refl
get-set_other (x ∷ xs) (suc i) (suc j) v h = get-set_other xs i j v (λ e. h (ap suc e))

bare : (table : List (Option Bool)) (n : ℕ) → length table ≡ n → IsBare table → table ≡ replicate n None
bare [] zero e h = refl
bare [] (suc n) e h = absurd (omega (arith, e))
bare (o ∷ table) zero e h = absurd (omega (arith, e))
bare (None ∷ table) (suc n) e h = ap (λ (xs : List (Option Bool)). None ∷ xs) (bare table n (omega (arith, e)) (λ b t g. h (suc b) t g))
bare (Some t ∷ table) (suc n) e h = absurd (h 0 t refl)

-- a table that lists nothing
pub unlisted : (table : List (Option Bool)) (assigned : List ℕ) (n : ℕ) → length table ≡ n → AreListed table assigned → (0 < length assigned → ⊥) → table ≡ replicate n None
unlisted table assigned n e h none = bare table n e (λ b t g. let p = h b t g in absurd (none (omega (arith, p.1))))

replicate_bare : (n b : ℕ) (t : Bool) → slice_get (replicate n None) b ≡ Some (Some t) → ⊥
replicate_bare zero b t h = cc
replicate_bare (suc n) zero t h = cc
replicate_bare (suc n) (suc b) t h = replicate_bare n b t h

pub bare_replicate : (n : ℕ) → IsBare (replicate n None)
bare_replicate n b t h = replicate_bare n b t h

pub get-push_cases : {A : Type 0} (xs : List A) (v : A) (i : ℕ) (x : A) → slice_get (xs ++ v ∷ []) i ≡ Some x → (slice_get xs i ≡ Some x) ⊎ ((i ≡ length xs) × (x ≡ v))
get-push_cases [] v zero x h = inr (refl, cc)
get-push_cases [] v (suc i) x h = absurd (cc)
get-push_cases (y ∷ xs) v zero x h = inl h
get-push_cases (y ∷ xs) v (suc i) x h = elim (get-push_cases xs v i x h) [ inl a ↦ inl a | inr b ↦ inr (ap suc b.0, b.1) ]
