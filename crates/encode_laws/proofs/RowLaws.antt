-- What it says that an assignment meets rows: two lists of rows, a row behind a front, the tests of comparisons.
use Rattle.std.proofs.Common.{◌≡◌, Bool, true, false, not, ◌||◌, List, [], ◌∷◌, ◌++◌, refl, sym, ap, subst, ◌∙◌}
use lib.Dec.{T}
use lib.IntN.{pos, negsuc}
use Rattle.algebra.proofs.Solve.{v, k, ◌⊗◌, solve_from, bound_from, eq, le, done}
use Rattle.rational.specs.Fraction.{Fraction, whole, ◌*ℚ◌, ◌≤ℚ◌, ◌<ℚ◌}
use Rattle.rational.proofs.FieldLaws.{fraction-ring}
use Rattle.rational.proofs.Signs.{fraction-order}
use Rattle.rational.proofs.OrderLaws.{≤ℚ_antisym, ≤ℚ-same}
use Rattle.lin.specs.Linear.{Linear, value_of}
use Rattle.lin.specs.Negative.{negative}
use Rattle.lin.specs.declared.comparison.Cmp.{Cmp}
use Rattle.lin.specs.declared.comparison.Cmp.TheVariants.{Le, Lt, Eq}
use Rattle.task_core.specs.State.{ComparesToZero}
use Rattle.encode_laws.specs.Rows.{Assignment, Literal, yes, no, lit, at_most, below, opposite, true_at, row_at, signed, is_at_most, is_below, Item, MeetsAll}
use Rattle.encode_laws.specs.Symbolic.{compared_rows}
use Rattle.lin.proofs.ValueLaws.{value_scale}

-- ---- tests
pub true_T : {b : Bool} → b ≡ true → T b
true_T e = subst T (sym e) tt

pub T_true : (b : Bool) → T b → b ≡ true
T_true true h = refl
T_true false h = absurd h

pub at_most-true : (x y : Fraction) → is_at_most x y ≡ true → x ≤ℚ y
at_most-true x y e = record { le = true_T e }

pub true-at_most : (x y : Fraction) → x ≤ℚ y → is_at_most x y ≡ true
true-at_most x y h = T_true (is_at_most x y) h.le

pub below-true : (x y : Fraction) → is_below x y ≡ true → x <ℚ y
below-true x y e = record { lt = true_T e }

pub true-below : (x y : Fraction) → x <ℚ y → is_below x y ≡ true
true-below x y h = T_true (is_below x y) h.lt

-- ---- literals and rows
not_not : (b : Bool) → not (not b) ≡ b
not_not true = refl
not_not false = refl

signed-not : (b t : Bool) → signed (not b) t ≡ not (signed b t)
signed-not true t = refl
signed-not false t = sym (not_not t)

module _ (pt : Assignment) where
  pub true_at-opposite : (l : Literal) → true_at pt (opposite l) ≡ not (true_at pt l)
  true_at-opposite yes = refl
  true_at-opposite no = refl
  true_at-opposite (lit b f) = signed-not b _

  or-false : (b : Bool) → (b || false) ≡ b
  or-false true = refl
  or-false false = refl

  or-assoc : (a b c : Bool) → (a || (b || c)) ≡ ((a || b) || c)
  or-assoc true b c = refl
  or-assoc false b c = refl

  pub row-front : (front : List Literal) (l : Literal) → row_at pt (front ++ l ∷ []) ≡ (row_at pt front || true_at pt l)
  row-front [] l = or-false (true_at pt l)
  row-front (m ∷ ms) l = ap (λ b. true_at pt m || b) (row-front ms l) ∙ or-assoc (true_at pt m) (row_at pt ms) (true_at pt l)

  -- a row behind a front that isn't true has its literal true
  pub row-down : (front : List Literal) (l : Literal) → row_at pt front ≡ false → row_at pt (front ++ l ∷ []) ≡ true → true_at pt l ≡ true
  row-down front l f h = sym (ap (λ b. b || true_at pt l) f) ∙ sym (row-front front l) ∙ h

  or_from : (b c : Bool) → (b ≡ false → c ≡ true) → (b || c) ≡ true
  or_from true c h = refl
  or_from false c h = h refl

  pub row-up : (front : List Literal) (l : Literal) → (row_at pt front ≡ false → true_at pt l ≡ true) → row_at pt (front ++ l ∷ []) ≡ true
  row-up front l h = row-front front l ∙ or_from (row_at pt front) (true_at pt l) h

  -- ---- two lists of rows
  pub meets-left : (xs ys : List Item) → MeetsAll pt (xs ++ ys) → MeetsAll pt xs
  meets-left [] ys h = tt
  meets-left (x ∷ xs) ys h = (h.0, meets-left xs ys h.1)

  pub meets-right : (xs ys : List Item) → MeetsAll pt (xs ++ ys) → MeetsAll pt ys
  meets-right [] ys h = h
  meets-right (x ∷ xs) ys h = meets-right xs ys h.1

  pub meets-append : (xs ys : List Item) → MeetsAll pt xs → MeetsAll pt ys → MeetsAll pt (xs ++ ys)
  meets-append [] ys h j = j
  meets-append (x ∷ xs) ys h j = (h.0, meets-append xs ys h.1 j)

  -- ---- a comparison behind a front
  negated : (l : Linear) → value_of pt.value (negative l) ≡ whole (negsuc 0) *ℚ value_of pt.value l
  negated l = value_scale pt.value (whole (negsuc 0)) l

  pub cmp-down : (front : List Literal) (c : Cmp) (l : Linear) → row_at pt front ≡ false → MeetsAll pt (compared_rows front c l) → ComparesToZero c (value_of pt.value l)
  cmp-down front Le l f h = at_most-true _ _ (row-down front (lit true (at_most l)) f h.0)
  cmp-down front Lt l f h = below-true _ _ (row-down front (lit true (below l)) f h.0)
  cmp-down front Eq l f h =
      let x = value_of pt.value l in
      let a : x ≤ℚ whole (pos 0) = at_most-true _ _ (row-down front (lit true (at_most l)) f h.0) in
      let b : value_of pt.value (negative l) ≤ℚ whole (pos 0) = at_most-true _ _ (row-down front (lit true (at_most (negative l))) f h.1.0) in
      let c : (whole (negsuc 0) *ℚ x) ≤ℚ whole (pos 0) = subst (λ w. w ≤ℚ whole (pos 0)) (negated l) b in
      ≤ℚ_antisym x (whole (pos 0)) a (bound_from fraction-order (k (pos 0)) (v 0) (x ∷ []) (le (k (pos 1)) (k (negsuc 0) ⊗ v 0) (k (pos 0)) tt c done) refl)

  pub cmp-up : (front : List Literal) (c : Cmp) (l : Linear) → (row_at pt front ≡ false → ComparesToZero c (value_of pt.value l)) → MeetsAll pt (compared_rows front c l)
  cmp-up front Le l h = (row-up front (lit true (at_most l)) (λ f. true-at_most _ _ (h f)), tt)
  cmp-up front Lt l h = (row-up front (lit true (below l)) (λ f. true-below _ _ (h f)), tt)
  cmp-up front Eq l h =
      let x = value_of pt.value l in (
        row-up front (lit true (at_most l)) (λ f. true-at_most _ _ (≤ℚ-same _ _ (h f))),
        (
          row-up front (lit true (at_most (negative l))) (λ f. true-at_most _ _ (≤ℚ-same _ _
              (negated l ∙ solve_from fraction-ring (k (negsuc 0) ⊗ v 0) (k (pos 0)) (x ∷ []) (eq (k (negsuc 0)) (v 0) (k (pos 0)) (h f) done) refl))),
          tt,
        ),
      )
