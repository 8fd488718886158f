-- Lists in rising number, and what is so of each of their numbers.
use Rattle.std.proofs.Common.{◌≡◌, ℕ, zero, suc, ◌+◌, ◌<◌, ◌≤◌, Bool, true, false, cond, ◌||◌, List, [], ◌∷◌, length, Option, Some, None, refl, sym, ap, ap₂, subst, ◌∙◌, nat_eq, nat_lt, eq-eqb, arith}
use Rattle.std.specs.Prelude.{slice_get, slice_index, is_some}
use Rattle.std.specs.List.{All, list_all, flat_map}
use Rattle.std.specs.List.Sorted.{IsStrictlyIncreasing}
use Rattle.std.proofs.lemmas.Bool.{and_parts, and_from, or_left, ltb-true, eqb-true}
use Rattle.std.proofs.lemmas.Bool.Decides.{nat_tests}
use Rattle.std.proofs.lemmas.List.Folds.{list_all-append, list_all-map}
use Rattle.std.proofs.lemmas.List.Elements.{All-weaker}
use Rattle.std.proofs.lemmas.List.Sums.{AllPass-from_list_all}
use Rattle.std.proofs.lemmas.Option.{slice_get_within}
use Rattle.task_core.specs.Step.{is_in}
use Rattle.task_core.specs.Task.{numbers}
use Rattle.ground_action.specs.GroundAction.{numbers_where, with_row, rows_of}
use Rattle.ground_action.proofs.ListLaws.{RisesFrom, all_where, not_eqb}

pub lt_true : (m n : ℕ) → m < n → nat_lt m n ≡ true
lt_true m n h = grind (arith, nat_tests)

pub at_front : (i : ℕ) → i ≡ 0 + i
at_front i = omega arith

-- ---- rising
pub rising : (n : ℕ) (xs : List ℕ) → RisesFrom n xs → IsStrictlyIncreasing xs
rising n [] h k l = absurd (omega arith)
rising n (x ∷ []) h k l = absurd (omega arith)
rising n (x ∷ y ∷ xs) h zero l = let g : suc x ≤ y = h.1.0 in omega arith
rising n (x ∷ y ∷ xs) h (suc k) l =
    let e : suc (k + 1) ≡ suc k + 1 = omega arith in
    let P : ℕ → Type 0 = λ m. slice_index (y ∷ xs) k < slice_index (x ∷ y ∷ xs) m in
    let more : k + 1 < length (y ∷ xs) = omega arith in
    subst P e (rising (suc x) (y ∷ xs) h.1 k more)

pub where_rises : {A : Type 0} (test : A → Bool) (m n : ℕ) (xs : List A) → m ≤ n → RisesFrom m (numbers_where test n xs)
where_rises test m n [] h = tt
where_rises test m n (x ∷ xs) h = by_test (test x) (where_rises test (suc n) (suc n) xs (omega arith)) (where_rises test m (suc n) xs (omega arith))
  where
    by_test : (b : Bool) → RisesFrom (suc n) (numbers_where test (suc n) xs) → RisesFrom m (numbers_where test (suc n) xs) → RisesFrom m (cond b (n ∷ numbers_where test (suc n) xs) (numbers_where test (suc n) xs))
    by_test true ih also = (h, ih)
    by_test false ih also = also

pub rows_rise : {A B : Type 0} (f : A → Option B) (m n : ℕ) (xs : List A) → m ≤ n → RisesFrom m (numbers (rows_of f n xs))
rows_rise f m n [] h = tt
rows_rise {B = B} f m n (x ∷ xs) h = by_row (f x) (rows_rise f (suc n) (suc n) xs (omega arith)) (rows_rise f m (suc n) xs (omega arith))
  where
    by_row : (o : Option B) → RisesFrom (suc n) (numbers (rows_of f (suc n) xs)) → RisesFrom m (numbers (rows_of f (suc n) xs)) → RisesFrom m (numbers (with_row n o (rows_of f (suc n) xs)))
    by_row None ih also = also
    by_row (Some b) ih also = (h, ih)

-- ---- what is so of each
-- of each row, by what it is a row of
pub all_rows : {A B : Type 0} (f : A → Option B) (p : ℕ × B → Bool) (xs : List A) (n : ℕ) → ((i : ℕ) (x : A) (b : B) → slice_get xs i ≡ Some x → f x ≡ Some b → p (n + i, b) ≡ true) → list_all p (rows_of f n xs) ≡ true
all_rows f p [] n h = refl
all_rows {B = B} f p (x ∷ xs) n h = by_row (f x) refl (all_rows f p xs (suc n) (λ i y b g e. let s : n + suc i ≡ suc n + i = omega arith in sym (ap (λ m. p (m, b)) s) ∙ h (suc i) y b g e))
  where
    by_row : (o : Option B) → f x ≡ o → list_all p (rows_of f (suc n) xs) ≡ true → list_all p (with_row n o (rows_of f (suc n) xs)) ≡ true
    by_row None e ih = ih
    by_row (Some b) e ih = let z : n + zero ≡ n = omega arith in and_from _ _ (sym (ap (λ m. p (m, b)) z) ∙ h zero x b refl e) ih

-- whether a number is that of a row
rows_below : {A B : Type 0} (f : A → Option B) (j n : ℕ) (xs : List A) → j < n → is_in j (numbers (rows_of f n xs)) ≡ false
rows_below f j n [] h = refl
rows_below {B = B} f j n (x ∷ xs) h = by_row (f x) (rows_below f j (suc n) xs (omega arith))
  where
    by_row : (o : Option B) → is_in j (numbers (rows_of f (suc n) xs)) ≡ false → is_in j (numbers (with_row n o (rows_of f (suc n) xs))) ≡ false
    by_row None ih = ih
    by_row (Some b) ih = ap₂ ◌||◌ (not_eqb n j (λ e. absurd (omega arith))) ih

pub row_is : {A B : Type 0} (f : A → Option B) (xs : List A) (n i : ℕ) (x : A) → slice_get xs i ≡ Some x → is_in (n + i) (numbers (rows_of f n xs)) ≡ is_some (f x)
row_is f [] n i x g = absurd (cc)
row_is {B = B} f (y ∷ ys) n zero x g = let same : y ≡ x = cc in by_row (f y) ∙ ap (λ z. is_some (f z)) same
  where
    by_row : (o : Option B) → is_in (n + zero) (numbers (with_row n o (rows_of f (suc n) ys))) ≡ is_some o
    by_row None = rows_below f (n + zero) (suc n) ys (omega arith)
    by_row (Some b) = let z : n ≡ n + zero = omega arith in or_left _ _ (eq-eqb n (n + zero) z)
row_is {B = B} f (y ∷ ys) n (suc i) x g =
    let s : n + suc i ≡ suc n + i = omega arith in
    by_row (f y) (ap (λ m. is_in m (numbers (rows_of f (suc n) ys))) s ∙ row_is f ys (suc n) i x g)
  where
    by_row : (o : Option B) → is_in (n + suc i) (numbers (rows_of f (suc n) ys)) ≡ is_some (f x) → is_in (n + suc i) (numbers (with_row n o (rows_of f (suc n) ys))) ≡ is_some (f x)
    by_row None h = h
    by_row (Some c) h = ap (λ t. t || is_in (n + suc i) (numbers (rows_of f (suc n) ys))) (not_eqb n (n + suc i) (λ d. absurd (omega arith))) ∙ h

pub flat_all : {A : Type 0} (test : ℕ → Bool) (g : A → List ℕ) (xs : List A) → list_all (λ x. list_all test (g x)) xs ≡ true → list_all test (flat_map g xs) ≡ true
flat_all test g [] h = refl
flat_all test g (x ∷ xs) h = let hs = and_parts _ _ h in list_all-append test (g x) (flat_map g xs) ∙ and_from _ _ hs.0 (flat_all test g xs hs.1)

-- one of the numbers
pub all_in : (test : ℕ → Bool) (xs : List ℕ) (n : ℕ) → list_all test xs ≡ true → is_in n xs ≡ true → test n ≡ true
all_in test [] n h i = absurd (cc)
all_in test (x ∷ xs) n h i = let hs = and_parts _ _ h in by_test (nat_eq x n) refl i hs.0 (λ j. all_in test xs n hs.1 j)
  where
    by_test : (b : Bool) → nat_eq x n ≡ b → (b || is_in n xs) ≡ true → test x ≡ true → (is_in n xs ≡ true → test n ≡ true) → test n ≡ true
    by_test true e i h ih = ap test (sym (eqb-true x n e)) ∙ h
    by_test false e i h ih = ih i

-- each number is below a bound
pub all_less : (bound : ℕ) (xs : List ℕ) → list_all (λ n. nat_lt n bound) xs ≡ true → All (λ n. n < bound) xs
all_less bound xs h = All-weaker (λ n. nat_lt n bound ≡ true) (λ n. n < bound) (λ n e. ltb-true n bound e) xs (AllPass-from_list_all (λ n. nat_lt n bound) xs h)

pub place_less : {A : Type 0} (xs : List A) (i : ℕ) (x : A) → slice_get xs i ≡ Some x → nat_lt (0 + i) (length xs) ≡ true
place_less xs i x g = let l : i < length xs = slice_get_within xs i x g in lt_true (0 + i) (length xs) (omega arith)

pub where_less : {A : Type 0} (test : A → Bool) (xs : List A) → list_all (λ n. nat_lt n (length xs)) (numbers_where test 0 xs) ≡ true
where_less test xs = all_where test (λ n. nat_lt n (length xs)) xs 0 (λ i x g t. place_less xs i x g)

pub rows_less : {A B : Type 0} (f : A → Option B) (xs : List A) → list_all (λ n. nat_lt n (length xs)) (numbers (rows_of f 0 xs)) ≡ true
rows_less f xs = list_all-map (λ n. nat_lt n (length xs)) (λ r. r.0) (rows_of f 0 xs) ∙ all_rows f (λ r. nat_lt r.0 (length xs)) xs 0 (λ i x b g e. place_less xs i x g)

pub from_all : {A : Type 0} (p : A → Bool) (xs : List A) → list_all p xs ≡ true → All (λ x. p x ≡ true) xs
from_all p xs h = AllPass-from_list_all p xs h
