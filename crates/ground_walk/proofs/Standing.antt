-- What stands in a list stands in the lists that are made of it.
use Rattle.std.proofs.Common.{◌≡◌, ℕ, zero, suc, ◌+◌, ◌<◌, ◌≤◌, Bool, true, false, cond, List, [], ◌∷◌, ◌++◌, map, filter, length, Some, slice_get, refl, sym, ap, subst, ◌∙◌, ⊎_elim, arith}
use Rattle.std.proofs.lemmas.Bool.{cases_eq}
use Rattle.std.specs.List.{flat_map}
use Rattle.ground_instances.specs.ArgumentLists.{count_from, lists_below}

pub record Stands {A : Type 0} (xs : List A) (x : A) : Type 0 where
  pub place : ℕ
  pub there : slice_get xs place ≡ Some x

pub stands_first : {A : Type 0} (x : A) (xs : List A) → Stands (x ∷ xs) x
stands_first x xs = record { place = zero; there = refl }

pub stands_later : {A : Type 0} (y : A) (xs : List A) (x : A) → Stands xs x → Stands (y ∷ xs) x
stands_later y xs x s = record { place = suc s.place; there = s.there }

pub stands_back : {A : Type 0} (xs ys : List A) (x : A) → Stands ys x → Stands (xs ++ ys) x
stands_back [] ys x s = s
stands_back (z ∷ xs) ys x s = stands_later z (xs ++ ys) x (stands_back xs ys x s)

front_at : {A : Type 0} (xs ys : List A) (x : A) (n : ℕ) → slice_get xs n ≡ Some x → Stands (xs ++ ys) x
front_at [] ys x n e = cc
front_at (z ∷ xs) ys x zero e = record { place = zero; there = e }
front_at (z ∷ xs) ys x (suc n) e = stands_later z (xs ++ ys) x (front_at xs ys x n e)

pub stands_front : {A : Type 0} (xs ys : List A) (x : A) → Stands xs x → Stands (xs ++ ys) x
stands_front xs ys x s = front_at xs ys x s.place s.there

map_at : {A B : Type 0} (f : A → B) (xs : List A) (x : A) (n : ℕ) → slice_get xs n ≡ Some x → Stands (map f xs) (f x)
map_at f [] x n e = cc
map_at f (z ∷ xs) x zero e = let is : z ≡ x = cc in record { place = zero; there = ap (λ y. Some (f y)) is }
map_at f (z ∷ xs) x (suc n) e = stands_later (f z) (map f xs) (f x) (map_at f xs x n e)

pub stands_map : {A B : Type 0} (f : A → B) (xs : List A) (x : A) → Stands xs x → Stands (map f xs) (f x)
stands_map f xs x s = map_at f xs x s.place s.there

filter_at : {A : Type 0} (p : A → Bool) (xs : List A) (x : A) (n : ℕ) → slice_get xs n ≡ Some x → p x ≡ true → Stands (filter p xs) x
filter_at p [] x n e h = cc
filter_at p (z ∷ xs) x zero e h =
    let is : z ≡ x = cc in
    subst (λ l. Stands l x) (sym (ap (λ b. cond b (z ∷ filter p xs) (filter p xs)) (ap p is ∙ h))) (subst (λ y. Stands (z ∷ filter p xs) y) is (stands_first z (filter p xs)))
filter_at p (z ∷ xs) x (suc n) e h = by (p z) (filter_at p xs x n e h)
  where
    by : (b : Bool) → Stands (filter p xs) x → Stands (cond b (z ∷ filter p xs) (filter p xs)) x
    by true s = stands_later z (filter p xs) x s
    by false s = s

pub stands_filter : {A : Type 0} (p : A → Bool) (xs : List A) (x : A) → p x ≡ true → Stands xs x → Stands (filter p xs) x
stands_filter p xs x h s = filter_at p xs x s.place s.there h

flat_at : {A B : Type 0} (f : A → List B) (xs : List A) (x : A) (y : B) (n : ℕ) → slice_get xs n ≡ Some x → Stands (f x) y → Stands (flat_map f xs) y
flat_at f [] x y n e s = cc
flat_at f (z ∷ xs) x y zero e s = let is : z ≡ x = cc in stands_front (f z) (flat_map f xs) y (subst (λ w. Stands (f w) y) (sym is) s)
flat_at f (z ∷ xs) x y (suc n) e s = stands_back (f z) (flat_map f xs) y (flat_at f xs x y n e s)

pub stands_flat : {A B : Type 0} (f : A → List B) (xs : List A) (x : A) (y : B) → Stands xs x → Stands (f x) y → Stands (flat_map f xs) y
stands_flat f xs x y at s = flat_at f xs x y at.place at.there s

count_stands : (low m o : ℕ) → low ≤ o → o < low + m → Stands (count_from low m) o
count_stands low zero o h i = absurd (omega arith)
count_stands low (suc m) o h i =
    ⊎_elim
    (λ e. subst (λ w. Stands (low ∷ count_from (low + 1) m) w) (sym e) (stands_first low (count_from (low + 1) m)))
    (λ other. stands_later low (count_from (low + 1) m) o (count_stands (low + 1) m o (above o low h other) (omega (arith, i))))
    (cases_eq o low)
  where
    above : (a b : ℕ) → b ≤ a → (a ≡ b → ⊥) → b + 1 ≤ a
    above a b h other = grind arith

-- each of some numbers is below another
pub record AreBelow (n : ℕ) (args : List ℕ) : Type 0 where
  pub each : (k : ℕ) (o : ℕ) → slice_get args k ≡ Some o → o < n

-- a list of so many numbers below n is one of all such lists
pub below_stands : (n : ℕ) (args : List ℕ) → AreBelow n args → Stands (lists_below n (length args)) args
below_stands n [] all = stands_first [] []
below_stands n (o ∷ args) all =
    let rest = below_stands n args (record { each = λ k p e. all.each (suc k) p e }) in
    let within : o < n = all.each zero o refl in
    stands_flat (λ p. map (λ more. p ∷ more) (lists_below n (length args))) (count_from 0 n) o (o ∷ args) (count_stands 0 n o (omega arith) (omega arith))
    (stands_map (λ more. o ∷ more) (lists_below n (length args)) args rest)
