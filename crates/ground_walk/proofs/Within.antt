-- What stands in one list of ground things stands in another.
use Rattle.std.proofs.Common.{◌≡◌, ℕ, zero, suc, Bool, true, false, not, cond, ◌&&◌, ◌||◌, List, [], ◌∷◌, ◌++◌, Some, slice_get, filter, refl, sym, ap, subst, ◌∙◌}
use Rattle.std.specs.List.{list_all, list_any, flat_map}
use Rattle.std.proofs.lemmas.List.Folds.{list_any-append}
use Rattle.ground_numbers.specs.declared.named.Named.{Named}
use Rattle.ground_numbers.specs.Numbers.{same, is_listed, once}
use Rattle.ground_numbers.specs.inside.Same.{same_sound, same_itself}
use Rattle.ground_action.proofs.ListLaws.{all-once}

pub record Within (xs ys : List Named) : Type 0 where
  pub within : (it : Named) → is_listed same xs it ≡ true → is_listed same ys it ≡ true

pub or_left : (a b : Bool) → a ≡ true → (a || b) ≡ true
or_left a b e = ap (λ t. t || b) e

pub or_right : (a b : Bool) → b ≡ true → (a || b) ≡ true
or_right true b e = refl
or_right false b e = e

or_both : (a b c d : Bool) → (a ≡ true → c ≡ true) → (b ≡ true → d ≡ true) → (a || b) ≡ true → (c || d) ≡ true
or_both true b c d f g h = or_left c d (f refl)
or_both false b c d f g h = or_right c d (g h)

or_flipped : (a b : Bool) → (a || b) ≡ true → (b || a) ≡ true
or_flipped true b h = or_right b true refl
or_flipped false b h = or_left b false h

append_is : (xs ys : List Named) (it : Named) → is_listed same (xs ++ ys) it ≡ (is_listed same xs it || is_listed same ys it)
append_is xs ys it = list_any-append (λ y. same y it) xs ys

pub itself : (xs : List Named) → Within xs xs
itself xs = record { within = λ it h. h }

pub nothing_within : (ys : List Named) → Within [] ys
nothing_within ys = record { within = λ it h. absurd (never h) }
  where
    never : false ≡ true → ⊥
    never e = cc

pub through : (xs ys zs : List Named) → Within xs ys → Within ys zs → Within xs zs
through xs ys zs f g = record { within = λ it h. g.within it (f.within it h) }

pub in_front : (xs ys : List Named) → Within xs (xs ++ ys)
in_front xs ys = record { within = λ it h. append_is xs ys it ∙ or_left _ _ h }

pub in_back : (xs ys : List Named) → Within ys (xs ++ ys)
in_back xs ys = record { within = λ it h. append_is xs ys it ∙ or_right _ _ h }

pub side_by_side : (a b c d : List Named) → Within a c → Within b d → Within (a ++ b) (c ++ d)
side_by_side a b c d f g = record { within = λ it h. append_is c d it ∙ or_both (is_listed same a it) (is_listed same b it) (is_listed same c it) (is_listed same d it) (f.within it) (g.within it) (sym (append_is a b it) ∙ h) }

pub turned : (a b c d : List Named) → Within a c → Within b d → Within (b ++ a) (c ++ d)
turned a b c d f g = record { within = λ it h. append_is c d it ∙ or_both (is_listed same a it) (is_listed same b it) (is_listed same c it) (is_listed same d it) (f.within it) (g.within it) (or_flipped (is_listed same b it) (is_listed same a it) (sym (append_is b a it) ∙ h)) }

pub no_more : (xs : List Named) → Within (xs ++ []) xs
no_more xs = record { within = λ it h. or_nothing (is_listed same xs it) (sym (append_is xs [] it) ∙ h) }
  where
    or_nothing : (b : Bool) → (b || false) ≡ true → b ≡ true
    or_nothing true h = refl
    or_nothing false h = h

any_not : {A : Type 0} (p : A → Bool) (xs : List A) → list_any p xs ≡ not (list_all (λ x. not (p x)) xs)
any_not p [] = refl
any_not p (x ∷ xs) = ap (λ t. p x || t) (any_not p xs) ∙ by_test (p x) (list_all (λ x. not (p x)) xs)
  where
    by_test : (a b : Bool) → (a || not b) ≡ not (not a && b)
    by_test true b = refl
    by_test false b = refl

listed_once : (xs : List Named) (it : Named) → is_listed same (once same xs) it ≡ is_listed same xs it
listed_once xs it = any_not (λ y. same y it) (once same xs) ∙ ap not (all-once same same_sound (λ y. not (same y it)) xs) ∙ sym (any_not (λ y. same y it) xs)

-- nothing is lost with repetitions
pub once_within : (xs ys : List Named) → Within xs ys → Within xs (once same ys)
once_within xs ys h = record { within = λ it l. listed_once ys it ∙ h.within it l }

-- what one of a list names is named by the list
pub one_within : {A : Type 0} (f : A → List Named) (xs : List A) (n : ℕ) (x : A) → slice_get xs n ≡ Some x → Within (f x) (flat_map f xs)
one_within f [] n x e = cc
one_within f (y ∷ ys) zero x e = let is : y ≡ x = cc in subst (λ z. Within (f z) (f y ++ flat_map f ys)) is (in_front (f y) (flat_map f ys))
one_within f (y ∷ ys) (suc n) x e = through (f x) (flat_map f ys) (f y ++ flat_map f ys) (one_within f ys n x e) (in_back (f y) (flat_map f ys))
