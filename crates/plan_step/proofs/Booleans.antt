-- Tests that agree.
use Rattle.std.proofs.Common.{◌≡◌, ℕ, ◌==◌, Bool, true, false, ◌&&◌, ◌||◌, List, refl, sym, ap₂, ◌∙◌, eq-eqb}
use Rattle.std.specs.Prelude.{bytes_eq}
use Rattle.std.proofs.lemmas.Bool.{eqb-true}
use Rattle.std.specs.Cmp.Lexicographic.{nat_list_eq_equiv}

pub same_tests : (a b : Bool) → (a ≡ true → b ≡ true) → (b ≡ true → a ≡ true) → a ≡ b
same_tests true b f g = sym (f refl)
same_tests false true f g = g refl
same_tests false false f g = refl

pub numbers_flipped : (p q : ℕ) → (p == q) ≡ (q == p)
numbers_flipped p q = same_tests (p == q) (q == p) (λ h. eq-eqb q p (sym (eqb-true p q h))) (λ h. eq-eqb p q (sym (eqb-true q p h)))

pub arguments_flipped : (xs ys : List ℕ) → bytes_eq xs ys ≡ bytes_eq ys xs
arguments_flipped xs ys = same_tests (bytes_eq xs ys) (bytes_eq ys xs) (λ h. nat_list_eq_equiv.symm ys xs ∙ h) (λ h. nat_list_eq_equiv.symm xs ys ∙ h)

-- whether two atoms, or two functions, are one
pub flipped : (p q : ℕ) (xs ys : List ℕ) → (p == q && bytes_eq xs ys) ≡ (q == p && bytes_eq ys xs)
flipped p q xs ys = ap₂ ◌&&◌ (numbers_flipped p q) (arguments_flipped xs ys)

pub both_true : (a b : Bool) → (a && b) ≡ true → (a ≡ true) × (b ≡ true)
both_true true b h = (refl, h)
both_true false b h = cc

pub neither_true : (a b : Bool) → (a || b) ≡ false → (a ≡ false) × (b ≡ false)
neither_true true b h = cc
neither_true false b h = (refl, h)

pub or_false : (a : Bool) → (a || false) ≡ a
or_false true = refl
or_false false = refl

pub number_itself : (n : ℕ) → (n == n) ≡ true
number_itself n = eq-eqb n n refl

pub arguments_itself : (xs : List ℕ) → bytes_eq xs xs ≡ true
arguments_itself xs = nat_list_eq_equiv.refl xs
