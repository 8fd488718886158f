-- Lists that are made item by item.
use Rattle.std.proofs.Common.{◌≡◌, ℕ, zero, suc, ◌+◌, ◌<◌, ◌≤◌, Bool, true, List, [], ◌∷◌, ◌++◌, map, take, take_all, drop, length, get_or, Some, slice_get, reverse, sym, ap, ◌∙◌, append_assoc, arith}
use Rattle.std.specs.List.{list_all}
use Rattle.std.proofs.lemmas.Bool.{and_parts}
use Rattle.std.proofs.lemmas.List.{map-append, reverse-append}

-- what stands at a number comes next
pub take_at : {A : Type 0} (xs : List A) (n : ℕ) (x : A) → slice_get xs n ≡ Some x → take (n + 1) xs ≡ take n xs ++ x ∷ []
take_at [] n x e = absurd (cc)
take_at (y ∷ ys) zero x e = let is : y ≡ x = cc in ap (λ z. z ∷ []) is
take_at (y ∷ ys) (suc n) x e = let more : suc n + 1 ≡ suc (n + 1) = omega arith in ap (λ m. take m (y ∷ ys)) more ∙ ap (λ l. y ∷ l) (take_at ys n x e)

module _ {A B : Type 0} (f : A → B) (xs : List A) where
  pub mapped_more : (n : ℕ) (x : A) (ys zs : List B) → ys ≡ map f (take n xs) → slice_get xs n ≡ Some x → zs ≡ ys ++ f x ∷ [] → zs ≡ map f (take (n + 1) xs)
  mapped_more n x ys zs so_far at longer =
      longer ∙ ap (λ l. l ++ f x ∷ []) so_far ∙ sym (ap (map f) (take_at xs n x at) ∙ map-append f (take n xs) (x ∷ []))

  pub mapped_all : (n m : ℕ) (ys : List B) → ys ≡ map f (take n xs) → m ≡ length xs → m ≤ n → ys ≡ map f xs
  mapped_all n m ys so_far long past = let l : length xs ≤ n = omega arith in so_far ∙ ap (map f) (take_all n xs l)

  -- from the back
  pub mapped_back : (old new : List A) (x : A) (done more all : List B) → old ≡ new ++ x ∷ [] → all ≡ map f old ++ reverse done → more ≡ done ++ f x ∷ [] → all ≡ map f new ++ reverse more
  mapped_back old new x done more all last so_far longer =
      so_far ∙ ap (λ l. map f l ++ reverse done) last ∙ ap (λ l. l ++ reverse done) (map-append f new (x ∷ [])) ∙ append_assoc (map f new) (f x ∷ []) (reverse done)
      ∙ ap (λ l. map f new ++ l) (sym (reverse-append done (f x ∷ []))) ∙ ap (λ l. map f new ++ reverse l) (sym longer)

-- the item at hand stands in front of the rest
pub drop_at : {A : Type 0} (xs : List A) (n : ℕ) (x : A) → n < length xs → x ≡ get_or xs n x → drop n xs ≡ x ∷ drop (n + 1) xs
drop_at [] n x within is = absurd (omega arith)
drop_at (y ∷ ys) zero x within is = ap (λ z. z ∷ ys) (sym is)
drop_at (y ∷ ys) (suc n) x within is = let more : suc (n + 1) ≡ suc n + 1 = omega arith in drop_at ys n x (omega arith) is ∙ ap (λ m. x ∷ drop m (y ∷ ys)) more

-- what is so of all is so of the item at hand
pub all_here : {A : Type 0} (p : A → Bool) (xs : List A) (n : ℕ) (x : A) → list_all p xs ≡ true → n < length xs → x ≡ get_or xs n x → p x ≡ true
all_here p [] n x h within is = absurd (omega arith)
all_here p (y ∷ ys) zero x h within is = ap p is ∙ (and_parts (p y) (list_all p ys) h).0
all_here p (y ∷ ys) (suc n) x h within is = all_here p ys n x (and_parts (p y) (list_all p ys) h).1 (omega arith) is
