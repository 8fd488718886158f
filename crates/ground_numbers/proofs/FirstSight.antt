-- For callers: things seen in turn are their sightings without repetitions.
use Rattle.std.proofs.Common.{◌≡◌, ℕ, Bool, true, false, not, cond, ◌||◌, List, [], ◌∷◌, ◌++◌, if◌then◌else◌, filter, fold, refl, sym, ap, subst, ◌∙◌}
use Rattle.std.proofs.lemmas.List.{append_assoc}
use Rattle.std.proofs.lemmas.List.Elements.{filter-append}
use Rattle.ground_numbers.specs.Numbers.{Named, named, same, is_listed, once, with_seen}
use Rattle.ground_numbers.specs.inside.Same.{same_sound, same_symm}

abbrev differs : Named → Named → Bool
differs x y = not (same y x)

stays : (k : Named) (p : Named → Bool) (y : Named) (rest : List Named) → p k ≡ true → is_listed same (filter p rest) k ≡ is_listed same rest k
    → is_listed same (cond (p y) (y ∷ filter p rest) (filter p rest)) k ≡ (same y k || is_listed same rest k)
stays k p y rest passes ih = by (p y) (same y k) refl (λ e. ap p (same_sound y k e) ∙ passes)
  where
    by : (b s : Bool) → same y k ≡ s → (s ≡ true → b ≡ true) → is_listed same (cond b (y ∷ filter p rest) (filter p rest)) k ≡ (s || is_listed same rest k)
    by true s e f = ap (λ t. t || is_listed same (filter p rest) k) e ∙ ap (λ t. s || t) ih
    by false true e f = let never : false ≡ true = f refl in cc
    by false false e f = ih

listed_filter : (k : Named) (p : Named → Bool) (xs : List Named) → p k ≡ true → is_listed same (filter p xs) k ≡ is_listed same xs k
listed_filter k p [] passes = refl
listed_filter k p (y ∷ ys) passes = stays k p y ys passes (listed_filter k p ys passes)

added : (p : Named → Bool) (k : Named) (xs : List Named) → p k ≡ false → filter p (with_seen same xs k) ≡ filter p xs
added p k xs fails = by (is_listed same xs k)
  where
    last : filter p (k ∷ []) ≡ []
    last = ap (λ b. cond b (k ∷ []) []) fails

    end : (ys : List Named) → ys ++ [] ≡ ys
    end [] = refl
    end (y ∷ ys) = ap (λ zs. y ∷ zs) (end ys)

    by : (b : Bool) → filter p (if b then xs else xs ++ k ∷ []) ≡ filter p xs
    by true = refl
    by false = filter-append p xs (k ∷ []) ∙ ap (λ l. filter p xs ++ l) last ∙ end (filter p xs)

kept : (p : Named → Bool) (k : Named) (xs : List Named) → p k ≡ true → filter p (with_seen same xs k) ≡ with_seen same (filter p xs) k
kept p k xs passes = ap (λ b. filter p (if b then xs else xs ++ k ∷ [])) (sym (listed_filter k p xs passes)) ∙ by (is_listed same (filter p xs) k)
  where
    last : filter p (k ∷ []) ≡ k ∷ []
    last = ap (λ b. cond b (k ∷ []) []) passes

    by : (b : Bool) → filter p (if b then xs else xs ++ k ∷ []) ≡ (if b then filter p xs else filter p xs ++ k ∷ [])
    by true = refl
    by false = filter-append p xs (k ∷ []) ∙ ap (λ l. filter p xs ++ l) last

step : (x k : Named) (rest : List Named) → x ∷ filter (differs x) (with_seen same rest k) ≡ with_seen same (x ∷ filter (differs x) rest) k
step x k rest = by (same x k) refl
  where
    known : Bool → List Named
    known b = if b || is_listed same (filter (differs x) rest) k then x ∷ filter (differs x) rest else (x ∷ filter (differs x) rest) ++ k ∷ []

    fails : same x k ≡ true → differs x k ≡ false
    fails e = ap (λ z. not (same z x)) (sym (same_sound x k e)) ∙ ap not (ap (λ z. same x z) (same_sound x k e) ∙ e)

    front : (b : Bool) (xs ys : List Named) → x ∷ (if b then xs else ys) ≡ (if b then x ∷ xs else x ∷ ys)
    front true xs ys = refl
    front false xs ys = refl

    by : (b : Bool) → same x k ≡ b → x ∷ filter (differs x) (with_seen same rest k) ≡ with_seen same (x ∷ filter (differs x) rest) k
    by true e = ap (λ l. x ∷ l) (added (differs x) k rest (fails e))
        ∙ sym (ap (λ b. if b || is_listed same (filter (differs x) rest) k then x ∷ filter (differs x) rest else x ∷ (filter (differs x) rest ++ k ∷ [])) e)
    by false e = ap (λ l. x ∷ l) (kept (differs x) k rest (ap not (same_flipped e))) ∙ front (is_listed same (filter (differs x) rest) k) (filter (differs x) rest) (filter (differs x) rest ++ k ∷ [])
        ∙ sym (ap (λ b. if b || is_listed same (filter (differs x) rest) k then x ∷ filter (differs x) rest else x ∷ (filter (differs x) rest ++ k ∷ [])) e)
      where
        same_flipped : same x k ≡ false → same k x ≡ false
        same_flipped f = sym (same_symm x k) ∙ f

-- a sighting more
pub once_last : (xs : List Named) (k : Named) → once same (xs ++ k ∷ []) ≡ with_seen same (once same xs) k
once_last [] k = refl
once_last (x ∷ xs) k = ap (λ l. x ∷ filter (differs x) l) (once_last xs k) ∙ step x k (once same xs)

-- and more of them
pub once_more : (xs ys : List Named) → once same (xs ++ ys) ≡ fold (with_seen same) (once same xs) ys
once_more xs [] = ap (once same) (end xs)
  where
    end : (zs : List Named) → zs ++ [] ≡ zs
    end [] = refl
    end (z ∷ zs) = ap (λ l. z ∷ l) (end zs)
once_more xs (y ∷ ys) =
    ap (once same) (sym (append_assoc xs (y ∷ []) ys)) ∙ once_more (xs ++ y ∷ []) ys ∙ ap (λ l. fold (with_seen same) l ys) (once_last xs y)
