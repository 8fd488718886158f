-- Lists of numbers by place: one more number in one of them, or one more of them.
use Rattle.std.proofs.Common.{◌≡◌, ℕ, zero, suc, ◌<◌, List, [], ◌∷◌, ◌++◌, length, set, get_or, refl, sym, ap, subst, ◌∙◌, arith}
use Rattle.std.specs.List.{Contains}
use Rattle.std.specs.Global.{Vec}
use Rattle.std.proofs.lemmas.List.Elements.{Contains-append_left, Contains-push}
use Rattle.clause_index.specs.Places.{are_lists, at_place, Stay}

set_stay : (lists : List (Vec ℕ)) (i : ℕ) (v : Vec ℕ) → ((n : ℕ) → Contains (at_place (are_lists lists) i) n → Contains v.items n) → Stay (are_lists lists) (are_lists (set lists i v))
set_stay [] i v h place n c = c
set_stay (x ∷ xs) zero v h zero n c = h n c
set_stay (x ∷ xs) zero v h (suc place) n c = c
set_stay (x ∷ xs) (suc i) v h zero n c = c
set_stay (x ∷ xs) (suc i) v h (suc place) n c = set_stay xs i v h place n c

set_there : (lists : List (Vec ℕ)) (i : ℕ) (v : Vec ℕ) → i < length lists → at_place (are_lists (set lists i v)) i ≡ v.items
set_there [] i v h = absurd (omega arith)
set_there (x ∷ xs) zero v h = refl
set_there (x ∷ xs) (suc i) v h = set_there xs i v (omega arith)

place_is : (lists : List (Vec ℕ)) (i : ℕ) (v : Vec ℕ) → i < length lists → at_place (are_lists lists) i ≡ (get_or lists i v).items
place_is [] i v h = absurd (omega arith)
place_is (x ∷ xs) zero v h = refl
place_is (x ∷ xs) (suc i) v h = place_is xs i v (omega arith)

module _ (lists : List (Vec ℕ)) (i : ℕ) (old new : Vec ℕ) (within : i < length lists) (is : old ≡ get_or lists i old) where
  at_old : at_place (are_lists lists) i ≡ old.items
  at_old = place_is lists i old within ∙ ap (λ (v : Vec ℕ). v.items) (sym is)

  -- the list at the place was written back as it was
  pub same_stays : new.items ≡ old.items → Stay (are_lists lists) (are_lists (set lists i new))
  same_stays e = set_stay lists i new (λ n c. subst (λ (xs : List ℕ). Contains xs n) (at_old ∙ sym e) c)

  module _ (number : ℕ) (e : new.items ≡ old.items ++ number ∷ []) where
    pub more_stays : Stay (are_lists lists) (are_lists (set lists i new))
    more_stays = set_stay lists i new (λ n c. subst (λ (xs : List ℕ). Contains xs n) (sym e) (Contains-append_left old.items (number ∷ []) n (subst (λ (xs : List ℕ). Contains xs n) at_old c)))

    pub more_there : Contains (at_place (are_lists (set lists i new)) i) number
    more_there = subst (λ (xs : List ℕ). Contains xs number) (sym (set_there lists i new within ∙ e)) (Contains-push old.items number)

-- one more list
push_stay : (lists : List (Vec ℕ)) (v : Vec ℕ) → Stay (are_lists lists) (are_lists (lists ++ v ∷ []))
push_stay [] v zero n c = absurd (omega (arith, c.1))
push_stay [] v (suc place) n c = absurd (omega (arith, c.1))
push_stay (x ∷ xs) v zero n c = c
push_stay (x ∷ xs) v (suc place) n c = push_stay xs v place n c

pub pushed_stay : (lists new : List (Vec ℕ)) (v : Vec ℕ) → new ≡ lists ++ v ∷ [] → Stay (are_lists lists) (are_lists new)
pushed_stay lists new v e = subst (λ (xs : List (Vec ℕ)). Stay (are_lists lists) (are_lists xs)) (sym e) (push_stay lists v)
