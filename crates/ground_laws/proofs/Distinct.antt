-- What is listed once has its place as its number.
use Rattle.std.proofs.Common.{◌≡◌, ℕ, zero, suc, Bool, true, false, not, cond, ◌&&◌, ◌||◌, List, [], ◌∷◌, filter, Some, refl, ap, ◌∙◌}
use Rattle.std.specs.Prelude.{slice_get}
use Rattle.std.proofs.lemmas.Bool.{or_parts}
use Rattle.ground_numbers.specs.declared.named.Named.{Named}
use Rattle.ground_numbers.specs.Numbers.{same, is_listed, number_in, once}
use Rattle.ground_numbers.specs.inside.Same.{same_sound, same_itself}

-- none of them is the same as one in front of it
abbrev pub are_apart : List Named → Bool
are_apart [] = true
are_apart (x ∷ xs) = not (is_listed same xs x) && are_apart xs

false_twice : (b : Bool) → (b && false) ≡ false
false_twice true = refl
false_twice false = refl

-- a filter drops
filter_listed : (p : Named → Bool) (xs : List Named) (k : Named) → is_listed same xs k ≡ false → is_listed same (filter p xs) k ≡ false
filter_listed p [] k h = refl
filter_listed p (x ∷ xs) k h = let hs = or_parts (same x k) (is_listed same xs k) h in by (p x) (filter_listed p xs k hs.1) hs.0
  where
    by : (b : Bool) → is_listed same (filter p xs) k ≡ false → same x k ≡ false → is_listed same (cond b (x ∷ filter p xs) (filter p xs)) k ≡ false
    by true ih e = ap (λ t. t || is_listed same (filter p xs) k) e ∙ ih
    by false ih e = ih

filter_apart : (p : Named → Bool) (xs : List Named) → are_apart xs ≡ true → are_apart (filter p xs) ≡ true
filter_apart p [] h = refl
filter_apart p (x ∷ xs) h = by (p x) (is_listed same xs x) refl h (λ g. filter_apart p xs g)
  where
    by : (b c : Bool) → is_listed same xs x ≡ c → (not c && are_apart xs) ≡ true → (are_apart xs ≡ true → are_apart (filter p xs) ≡ true) → are_apart (cond b (x ∷ filter p xs) (filter p xs)) ≡ true
    by b true e h ih = absurd (cc)
    by true false e h ih = ap (λ t. not t && are_apart (filter p xs)) (filter_listed p xs x e) ∙ ih h
    by false false e h ih = ih h

gone : (x : Named) (xs : List Named) → is_listed same (filter (λ y. not (same y x)) xs) x ≡ false
gone x [] = refl
gone x (y ∷ ys) = by (same y x) refl (gone x ys)
  where
    by : (b : Bool) → same y x ≡ b → is_listed same (filter (λ y. not (same y x)) ys) x ≡ false → is_listed same (cond (not b) (y ∷ filter (λ y. not (same y x)) ys) (filter (λ y. not (same y x)) ys)) x ≡ false
    by true e ih = ih
    by false e ih = ap (λ t. t || is_listed same (filter (λ y. not (same y x)) ys) x) e ∙ ih

pub once_apart : (xs : List Named) → are_apart (once same xs) ≡ true
once_apart [] = refl
once_apart (x ∷ xs) = ap (λ t. not t && are_apart (filter (λ y. not (same y x)) (once same xs))) (gone x (once same xs)) ∙ filter_apart (λ y. not (same y x)) (once same xs) (once_apart xs)

listed_at : (xs : List Named) (n : ℕ) (k : Named) → slice_get xs n ≡ Some k → is_listed same xs k ≡ true
listed_at [] n k e = absurd (cc)
listed_at (x ∷ xs) zero k e = let is : x ≡ k = cc in ap (λ t. t || is_listed same xs k) (ap (λ y. same y k) is ∙ same_itself k)
listed_at (x ∷ xs) (suc n) k e = later (same x k) (listed_at xs n k e)
  where
    later : (b : Bool) → is_listed same xs k ≡ true → (b || is_listed same xs k) ≡ true
    later true h = refl
    later false h = h

pub own_number : (xs : List Named) → are_apart xs ≡ true → (n : ℕ) (k : Named) → slice_get xs n ≡ Some k → number_in same xs k ≡ n
own_number [] h n k e = absurd (cc)
own_number (x ∷ xs) h zero k e = let is : x ≡ k = cc in ap (λ b. cond b zero (suc (number_in same xs k))) (ap (λ y. same y k) is ∙ same_itself k)
own_number (x ∷ xs) h (suc n) k e = by (is_listed same xs x) refl h (same x k) refl (λ g. own_number xs g n k e)
  where
    apart : is_listed same xs x ≡ false → same x k ≡ true → ⊥
    apart f t = let l : is_listed same xs x ≡ true = ap (is_listed same xs) (same_sound x k t) ∙ listed_at xs n k e in never l f
      where
        never : {b : Bool} → b ≡ true → b ≡ false → ⊥
        never g f = cc

    by : (c : Bool) → is_listed same xs x ≡ c → (not c && are_apart xs) ≡ true → (b : Bool) → same x k ≡ b → (are_apart xs ≡ true → number_in same xs k ≡ n) → cond b zero (suc (number_in same xs k)) ≡ suc n
    by true l h b e ih = absurd (cc)
    by false l h true e ih = absurd (apart l e)
    by false l h false e ih = ap suc (ih h)
