-- The normaliser's forms. Each is one line at its use, and `refl` its last word: the normal forms compute to one.
--   solve        an identity
--   solve_from   an equation that is a linear combination of known equations
--   bound_from   an inequality that is a sum of known ones times factors that aren't negative; `strict_from` a strict one
-- An expression names the values of a list by their places, as `v 0` and `v 1`.
use Rattle.std.proofs.Common.{◌≡◌, List, Bool, true, false, refl, sym, ap, subst, ◌∙◌}
use lib.Dec.{T}
use lib.IntN.{pos}
use Rattle.algebra.proofs.Ring.{add-zero, mul-zero, sub_same, same_sub}
use Rattle.algebra.proofs.Value.{sound, poly}
pub use Rattle.algebra.proofs.Ring.{CommutativeRing, Order}
pub use Rattle.algebra.proofs.Expression.{Expression, v, k, ◌⊕◌, ◌⊖◌, ◌⊗◌, inv, norm}
pub use Rattle.algebra.proofs.Value.{eval}

module _ {R : Type 0} (K : CommutativeRing R) where
  open K use {add, mul, neg, int}

  -- two expressions with one normal form have one value
  pub solve : (e f : Expression) (ρ : List R) → norm e ≡ norm f → eval K e ρ ≡ eval K f ρ
  solve e f ρ h = sound K e ρ ∙ ap (poly K ρ) h ∙ sym (sound K f ρ)

  -- known equations p ≡ q, each with a factor
  pub data Equations (ρ : List R) : Type 0 where
    done : Equations ρ
    eq : (factor p q : Expression) → eval K p ρ ≡ eval K q ρ → Equations ρ → Equations ρ

  -- the sum of the factors times p - q
  abbrev pub total : (ρ : List R) → Equations ρ → Expression
  total ρ done = k (pos 0)
  total ρ (eq c p q h hs) = c ⊗ (p ⊖ q) ⊕ total ρ hs

  eval-total : (ρ : List R) (hs : Equations ρ) → eval K (total ρ hs) ρ ≡ int (pos 0)
  eval-total ρ done = refl
  eval-total ρ (eq c p q h hs) = ap (add (mul (eval K c ρ) (add (eval K p ρ) (neg (eval K q ρ))))) (eval-total ρ hs) ∙ add-zero K _
      ∙ ap (mul (eval K c ρ)) (sub_same K _ _ h) ∙ mul-zero K (eval K c ρ)

  -- e is f where e - f is the sum of the factors times p - q
  pub solve_from : (e f : Expression) (ρ : List R) (hs : Equations ρ) → norm (e ⊖ f) ≡ norm (total ρ hs) → eval K e ρ ≡ eval K f ρ
  solve_from e f ρ hs h = same_sub K _ _ (solve (e ⊖ f) (total ρ hs) ρ h ∙ eval-total ρ hs)

module _ {R : Type 0} {K : CommutativeRing R} (O : Order K) where
  -- known inequalities p ≤ q, each with a factor that isn't negative, p < q, each with a positive factor, and equations p ≡ q,
  -- each with any factor
  pub data Bounds (ρ : List R) : Type 0 where
    done : Bounds ρ
    le : (factor p q : Expression) → O.IsNotNegative (eval K factor ρ) → O.IsAtMost (eval K p ρ) (eval K q ρ) → Bounds ρ → Bounds ρ
    lt : (factor p q : Expression) → O.IsPositive (eval K factor ρ) → O.IsBelow (eval K p ρ) (eval K q ρ) → Bounds ρ → Bounds ρ
    eq : (factor p q : Expression) → eval K p ρ ≡ eval K q ρ → Bounds ρ → Bounds ρ

  -- the sum of the factors times q - p
  abbrev pub total_gap : (ρ : List R) → Bounds ρ → Expression
  total_gap ρ done = k (pos 0)
  total_gap ρ (le c p q n h hs) = c ⊗ (q ⊖ p) ⊕ total_gap ρ hs
  total_gap ρ (lt c p q n h hs) = c ⊗ (q ⊖ p) ⊕ total_gap ρ hs
  total_gap ρ (eq c p q h hs) = c ⊗ (q ⊖ p) ⊕ total_gap ρ hs

  -- is one of them strict?
  abbrev pub has_strict : (ρ : List R) → Bounds ρ → Bool
  has_strict ρ done = false
  has_strict ρ (le c p q n h hs) = has_strict ρ hs
  has_strict ρ (lt c p q n h hs) = true
  has_strict ρ (eq c p q h hs) = has_strict ρ hs

  positive_part : (ρ : List R) (c p q : Expression) → O.IsPositive (eval K c ρ) → O.IsBelow (eval K p ρ) (eval K q ρ) → O.IsPositive (eval K (c ⊗ (q ⊖ p)) ρ)
  positive_part ρ c p q n h = O.mul_positive _ _ n (O.below_out _ _ h)

  -- an equation adds nothing
  no_part : (ρ : List R) (c p q : Expression) (x : R) → eval K p ρ ≡ eval K q ρ → x ≡ K.add (eval K (c ⊗ (q ⊖ p)) ρ) x
  no_part ρ c p q x h = sym (ap (λ w. K.add (K.mul (eval K c ρ) w) x) (sub_same K _ _ (sym h)) ∙ ap (λ w. K.add w x) (mul-zero K (eval K c ρ)) ∙ K.zero-add x)

  sum_not_negative : (ρ : List R) (hs : Bounds ρ) → O.IsNotNegative (eval K (total_gap ρ hs) ρ)
  sum_not_negative ρ done = O.zero
  sum_not_negative ρ (le c p q n h hs) = O.add _ _ (O.mul _ _ n (O.at_most_out _ _ h)) (sum_not_negative ρ hs)
  sum_not_negative ρ (lt c p q n h hs) = O.add _ _ (O.weaken _ (positive_part ρ c p q n h)) (sum_not_negative ρ hs)
  sum_not_negative ρ (eq c p q h hs) = subst O.IsNotNegative (no_part ρ c p q _ h) (sum_not_negative ρ hs)

  sum_positive : (ρ : List R) (hs : Bounds ρ) → T (has_strict ρ hs) → O.IsPositive (eval K (total_gap ρ hs) ρ)
  sum_positive ρ done s = absurd s
  sum_positive ρ (le c p q n h hs) s = subst O.IsPositive (K.add_comm _ _) (O.add_positive _ _ (sum_positive ρ hs s) (O.mul _ _ n (O.at_most_out _ _ h)))
  sum_positive ρ (lt c p q n h hs) s = O.add_positive _ _ (positive_part ρ c p q n h) (sum_not_negative ρ hs)
  sum_positive ρ (eq c p q h hs) s = subst O.IsPositive (no_part ρ c p q _ h) (sum_positive ρ hs s)

  -- e ≤ f where f - e is the sum of the factors times q - p
  pub bound_from : (e f : Expression) (ρ : List R) (hs : Bounds ρ) → norm (f ⊖ e) ≡ norm (total_gap ρ hs) → O.IsAtMost (eval K e ρ) (eval K f ρ)
  bound_from e f ρ hs h = O.at_most_in _ _ (subst O.IsNotNegative (sym (solve K (f ⊖ e) (total_gap ρ hs) ρ h)) (sum_not_negative ρ hs))

  -- e < f where f - e is such a sum with a strict one in it
  pub strict_from : (e f : Expression) (ρ : List R) (hs : Bounds ρ) → T (has_strict ρ hs) → norm (f ⊖ e) ≡ norm (total_gap ρ hs) → O.IsBelow (eval K e ρ) (eval K f ρ)
  strict_from e f ρ hs s h = O.below_in _ _ (subst O.IsPositive (sym (solve K (f ⊖ e) (total_gap ρ hs) ρ h)) (sum_positive ρ hs s))
