-- Lists in order of number, first places, and lists without repeats.
use Rattle.std.proofs.Common.{◌≡◌, ◌≢◌, ℕ, zero, suc, ◌+◌, ◌<◌, ◌≤◌, Bool, true, false, not, cond, ◌&&◌, ◌||◌, List, [], ◌∷◌, Option, Some, None, refl, sym, ap, ap₂, subst, ◌∙◌, nat_eq, eq-eqb, arith}
use Rattle.std.specs.Prelude.{slice_get, unwrap_or, filter}
use Rattle.std.specs.List.{list_all, filter_map, cons_option}
use Rattle.std.proofs.lemmas.Bool.{eqb-true, and_parts, and_from}
use Rattle.rational.specs.Fraction.{Fraction, ◌+ℚ◌}
use Rattle.rational.specs.Linear.{coefficient_of}
use Rattle.rational.proofs.FieldLaws.{add_comm_q, zero-add_q}
use Rattle.lin.specs.Linear.{Linear}
use Rattle.task_core.specs.Step.{is_in, set_of}
use Rattle.ground_action.proofs.Tests.{zero_q}
use Rattle.ground_numbers.specs.Numbers.{is_listed, number_in, once}
use Rattle.ground_action.specs.GroundAction.{numbers_where, with_row, rows_of}

pub not_eqb : (m n : ℕ) → m ≢ n → nat_eq m n ≡ false
not_eqb m n h = by_test (nat_eq m n) refl
  where
    by_test : (b : Bool) → nat_eq m n ≡ b → b ≡ false
    by_test true e = absurd (h (eqb-true m n e))
    by_test false e = refl

-- ---- the place of the first that is the same
module _ {A : Type 0} (alike : A → A → Bool) (sound : (y x : A) → alike y x ≡ true → y ≡ x) where
  pub number_gets : (xs : List A) (x : A) → is_listed alike xs x ≡ true → slice_get xs (number_in alike xs x) ≡ Some x
  number_gets [] x h = absurd (cc)
  number_gets (y ∷ ys) x h = by_test (number_gets ys x) (alike y x) refl h
    where
      by_test : (is_listed alike ys x ≡ true → slice_get ys (number_in alike ys x) ≡ Some x) → (b : Bool) → alike y x ≡ b → (b || is_listed alike ys x) ≡ true → slice_get (y ∷ ys) (cond b zero (suc (number_in alike ys x))) ≡ Some x
      by_test ih true e i = ap Some (sound y x e)
      by_test ih false e i = ih i

  -- a test passes on a list where it passes on the list without repeats
  without : (p : A → Bool) (x : A) → p x ≡ true → (xs : List A) → list_all p (filter (λ y. not (alike y x)) xs) ≡ list_all p xs
  without p x h [] = refl
  without p x h (y ∷ ys) = by_test (without p x h ys) (alike y x) refl
    where
      by_test : list_all p (filter (λ y. not (alike y x)) ys) ≡ list_all p ys → (b : Bool) → alike y x ≡ b → list_all p (cond (not b) (y ∷ filter (λ y. not (alike y x)) ys) (filter (λ y. not (alike y x)) ys)) ≡ (p y && list_all p ys)
      by_test ih true e = ih ∙ ap (λ t. t && list_all p ys) (sym (ap p (sound y x e) ∙ h))
      by_test ih false e = ap (λ t. p y && t) ih

  pub all-once : (p : A → Bool) (xs : List A) → list_all p (once alike xs) ≡ list_all p xs
  all-once p [] = refl
  all-once p (x ∷ xs) = by_test (all-once p xs) (p x) refl
    where
      by_test : list_all p (once alike xs) ≡ list_all p xs → (b : Bool) → p x ≡ b → (b && list_all p (filter (λ y. not (alike y x)) (once alike xs))) ≡ (b && list_all p xs)
      by_test ih true e = without p x e (once alike xs) ∙ ih
      by_test ih false e = refl

-- ---- the numbers of those that pass a test
module _ {A : Type 0} (test : A → Bool) where
  not_below : (j n : ℕ) (xs : List A) → j < n → is_in j (numbers_where test n xs) ≡ false
  not_below j n [] h = refl
  not_below j n (x ∷ xs) h = by_test (not_below j (suc n) xs (omega arith)) (test x)
    where
      by_test : is_in j (numbers_where test (suc n) xs) ≡ false → (b : Bool) → is_in j (cond b (n ∷ numbers_where test (suc n) xs) (numbers_where test (suc n) xs)) ≡ false
      by_test ih true = ap₂ ◌||◌ (not_eqb n j (λ e. absurd (omega arith))) ih
      by_test ih false = ih

  pub is_in_where : (xs : List A) (n i j : ℕ) (x : A) → j ≡ n + i → slice_get xs i ≡ Some x → is_in j (numbers_where test n xs) ≡ test x
  is_in_where [] n i j x e h = absurd (cc)
  is_in_where (y ∷ ys) n zero j x e h = by_test (test y) refl
    where
      same : y ≡ x
      same = cc

      by_test : (b : Bool) → test y ≡ b → is_in j (cond b (n ∷ numbers_where test (suc n) ys) (numbers_where test (suc n) ys)) ≡ test x
      by_test true e' = ap (λ t. t || is_in j (numbers_where test (suc n) ys)) (eq-eqb n j (omega arith)) ∙ sym e' ∙ ap test same
      by_test false e' = not_below j (suc n) ys (omega arith) ∙ sym e' ∙ ap test same
  is_in_where (y ∷ ys) n (suc i) j x e h = by_test (is_in_where ys (suc n) i j x (omega arith) h) (test y)
    where
      by_test : is_in j (numbers_where test (suc n) ys) ≡ test x → (b : Bool) → is_in j (cond b (n ∷ numbers_where test (suc n) ys) (numbers_where test (suc n) ys)) ≡ test x
      by_test ih true = ap (λ t. t || is_in j (numbers_where test (suc n) ys)) (not_eqb n j (λ d. absurd (omega arith))) ∙ ih
      by_test ih false = ih

  -- a fact of each number that passes
  pub all_where : (p : ℕ → Bool) (xs : List A) (n : ℕ) → ((i : ℕ) (x : A) → slice_get xs i ≡ Some x → test x ≡ true → p (n + i) ≡ true) → list_all p (numbers_where test n xs) ≡ true
  all_where p [] n h = refl
  all_where p (x ∷ xs) n h = by_test (test x) refl (all_where p xs (suc n) (λ i y g t. let e : n + suc i ≡ suc n + i = omega arith in sym (ap p e) ∙ h (suc i) y g t))
    where
      by_test : (b : Bool) → test x ≡ b → list_all p (numbers_where test (suc n) xs) ≡ true → list_all p (cond b (n ∷ numbers_where test (suc n) xs) (numbers_where test (suc n) xs)) ≡ true
      by_test true e g = let z : n + zero ≡ n = omega arith in and_from _ _ (sym (ap p z) ∙ h zero x refl e) g
      by_test false e g = g

  pub where_all : (p : ℕ → Bool) (xs : List A) (n i : ℕ) (x : A) → list_all p (numbers_where test n xs) ≡ true → slice_get xs i ≡ Some x → test x ≡ true → p (n + i) ≡ true
  where_all p [] n i x h g t = absurd (cc)
  where_all p (y ∷ ys) n zero x h g t = let z : n + zero ≡ n = omega arith in ap p z ∙ (and_parts _ _ (sym (ap (λ b. list_all p (cond b (n ∷ numbers_where test (suc n) ys) (numbers_where test (suc n) ys))) (ap test same ∙ t)) ∙ h)).0
    where
      same : y ≡ x
      same = cc
  where_all p (y ∷ ys) n (suc i) x h g t = let e : n + suc i ≡ suc n + i = omega arith in ap p e ∙ where_all p ys (suc n) i x (by_test (test y) h) g t
    where
      by_test : (b : Bool) → list_all p (cond b (n ∷ numbers_where test (suc n) ys) (numbers_where test (suc n) ys)) ≡ true → list_all p (numbers_where test (suc n) ys) ≡ true
      by_test true h = (and_parts _ _ h).1
      by_test false h = h

-- ---- rows
module _ {A : Type 0} (f : A → Option Linear) where
  set_below : (j n : ℕ) (xs : List A) → j < n → set_of (rows_of f n xs) j ≡ None
  set_below j n [] h = refl
  set_below j n (x ∷ xs) h = by_row (set_below j (suc n) xs (omega arith)) (f x)
    where
      by_row : set_of (rows_of f (suc n) xs) j ≡ None → (o : Option Linear) → set_of (with_row n o (rows_of f (suc n) xs)) j ≡ None
      by_row ih None = ih
      by_row ih (Some l) = ap (λ b. cond b (Some l) (set_of (rows_of f (suc n) xs) j)) (not_eqb n j (λ e. absurd (omega arith))) ∙ ih

  pub set_at : (xs : List A) (n i j : ℕ) (x : A) → j ≡ n + i → slice_get xs i ≡ Some x → set_of (rows_of f n xs) j ≡ f x
  set_at [] n i j x e h = absurd (cc)
  set_at (y ∷ ys) n zero j x e h = by_row (f y) ∙ ap f same
    where
      same : y ≡ x
      same = cc

      by_row : (o : Option Linear) → set_of (with_row n o (rows_of f (suc n) ys)) j ≡ o
      by_row None = set_below j (suc n) ys (omega arith)
      by_row (Some l) = ap (λ b. cond b (Some l) (set_of (rows_of f (suc n) ys) j)) (eq-eqb n j (omega arith))
  set_at (y ∷ ys) n (suc i) j x e h = by_row (set_at ys (suc n) i j x (omega arith) h) (f y)
    where
      by_row : set_of (rows_of f (suc n) ys) j ≡ f x → (o : Option Linear) → set_of (with_row n o (rows_of f (suc n) ys)) j ≡ f x
      by_row ih None = ih
      by_row ih (Some l) = ap (λ b. cond b (Some l) (set_of (rows_of f (suc n) ys) j)) (not_eqb n j (λ d. absurd (omega arith))) ∙ ih

pub plus_zero : (x : Fraction) → x +ℚ zero_q ≡ x
plus_zero x = add_comm_q x zero_q ∙ zero-add_q x

module _ {A : Type 0} (f : A → Option Fraction) where
  other_row : (n j : ℕ) (q : Fraction) (rest : Fraction) → n ≢ j → cond (nat_eq n j) q zero_q +ℚ rest ≡ rest
  other_row n j q rest h = ap (λ b. cond b q zero_q +ℚ rest) (not_eqb n j h) ∙ zero-add_q rest

  coefficient_below : (j n : ℕ) (xs : List A) → j < n → coefficient_of j (rows_of f n xs) ≡ zero_q
  coefficient_below j n [] h = refl
  coefficient_below j n (x ∷ xs) h = by_row (coefficient_below j (suc n) xs (omega arith)) (f x)
    where
      by_row : coefficient_of j (rows_of f (suc n) xs) ≡ zero_q → (o : Option Fraction) → coefficient_of j (with_row n o (rows_of f (suc n) xs)) ≡ zero_q
      by_row ih None = ih
      by_row ih (Some q) = other_row n j q _ (λ e. absurd (omega arith)) ∙ ih

  pub coefficient_at : (xs : List A) (n i j : ℕ) (x : A) → j ≡ n + i → slice_get xs i ≡ Some x → coefficient_of j (rows_of f n xs) ≡ unwrap_or (f x) zero_q
  coefficient_at [] n i j x e h = absurd (cc)
  coefficient_at (y ∷ ys) n zero j x e h = by_row (f y) ∙ ap (λ z. unwrap_or (f z) zero_q) same
    where
      same : y ≡ x
      same = cc

      by_row : (o : Option Fraction) → coefficient_of j (with_row n o (rows_of f (suc n) ys)) ≡ unwrap_or o zero_q
      by_row None = coefficient_below j (suc n) ys (omega arith)
      by_row (Some q) = ap₂ (λ b r. cond b q zero_q +ℚ r) (eq-eqb n j (omega arith)) (coefficient_below j (suc n) ys (omega arith)) ∙ plus_zero q
  coefficient_at (y ∷ ys) n (suc i) j x e h = by_row (coefficient_at ys (suc n) i j x (omega arith) h) (f y)
    where
      by_row : coefficient_of j (rows_of f (suc n) ys) ≡ unwrap_or (f x) zero_q → (o : Option Fraction) → coefficient_of j (with_row n o (rows_of f (suc n) ys)) ≡ unwrap_or (f x) zero_q
      by_row ih None = ih
      by_row ih (Some q) = other_row n j q _ (λ d. absurd (omega arith)) ∙ ih

-- ---- lists through an option
abbrev pub passes : {A : Type 0} → (A → Bool) → Option A → Bool
passes p None = true
passes p (Some a) = p a

pub all-filter_map : {A B : Type 0} (p : B → Bool) (f : A → Option B) (xs : List A) → list_all p (filter_map f xs) ≡ list_all (λ x. passes p (f x)) xs
all-filter_map p f [] = refl
all-filter_map {B = B} p f (x ∷ xs) = by_row (all-filter_map p f xs) (f x)
  where
    by_row : list_all p (filter_map f xs) ≡ list_all (λ x. passes p (f x)) xs → (o : Option B) → list_all p (cons_option o (filter_map f xs)) ≡ (passes p o && list_all (λ x. passes p (f x)) xs)
    by_row ih None = ih
    by_row ih (Some b) = ap (λ t. p b && t) ih

-- ---- a list in strictly rising order is told by what stands in it
abbrev pub RisesFrom : ℕ → List ℕ → Type 0
RisesFrom n [] = Unit {0}
RisesFrom n (m ∷ ms) = (n ≤ m) × RisesFrom (suc m) ms

not_in_above : (k n : ℕ) (ms : List ℕ) → RisesFrom n ms → k < n → is_in k ms ≡ false
not_in_above k n [] h l = refl
not_in_above k n (m ∷ ms) h l = let a : n ≤ m = h.0 in ap₂ ◌||◌ (not_eqb m k (λ e. absurd (omega arith))) (not_in_above k (suc m) ms h.1 (omega arith))

pub same_rising : (n : ℕ) (xs ys : List ℕ) → RisesFrom n xs → RisesFrom n ys → ((k : ℕ) → is_in k xs ≡ is_in k ys) → xs ≡ ys
same_rising n [] [] h i e = refl
same_rising n [] (y ∷ ys) h i e = absurd (let t : is_in y (y ∷ ys) ≡ true = ap (λ b. b || is_in y ys) (eq-eqb y y refl) in let f : false ≡ is_in y (y ∷ ys) = e y in cc)
same_rising n (x ∷ xs) [] h i e = absurd (let t : is_in x (x ∷ xs) ≡ true = ap (λ b. b || is_in x xs) (eq-eqb x x refl) in let f : is_in x (x ∷ xs) ≡ false = e x in cc)
same_rising n (x ∷ xs) (y ∷ ys) h i e = ap₂ ◌∷◌ same_head (same_rising (suc x) xs ys h.1 ys_rise rest)
  where
    x_in : is_in x (x ∷ xs) ≡ true
    x_in = ap (λ b. b || is_in x xs) (eq-eqb x x refl)

    y_in : is_in y (y ∷ ys) ≡ true
    y_in = ap (λ b. b || is_in y ys) (eq-eqb y y refl)

    not_less : (a b : ℕ) (bs : List ℕ) → RisesFrom (suc b) bs → is_in a (b ∷ bs) ≡ true → a < b → ⊥
    not_less a b bs r t l = let f : is_in a (b ∷ bs) ≡ false = ap₂ ◌||◌ (not_eqb b a (λ e. absurd (omega arith))) (not_in_above a (suc b) bs r (omega arith)) in cc

    by_order : (x < y → ⊥) → (y < x → ⊥) → x ≡ y
    by_order f g = omega (arith, f, g)

    same_head : x ≡ y
    same_head = by_order (not_less x y ys i.1 (sym (e x) ∙ x_in)) (not_less y x xs h.1 (e y ∙ y_in))

    ys_rise : RisesFrom (suc x) ys
    ys_rise = let P : ℕ → Type 0 = λ n. RisesFrom (suc n) ys in subst P (sym same_head) i.1

    rest : (k : ℕ) → is_in k xs ≡ is_in k ys
    rest k = by_test (nat_eq x k) refl
      where
        by_test : (b : Bool) → nat_eq x k ≡ b → is_in k xs ≡ is_in k ys
        by_test true t = let l : k < suc x = omega (arith, eqb-true x k t) in not_in_above k (suc x) xs h.1 l ∙ sym (not_in_above k (suc x) ys ys_rise l)
        by_test false t = sym (ap (λ b. b || is_in k xs) t) ∙ e k ∙ ap (λ b. b || is_in k ys) (sym (ap (λ n. nat_eq n k) same_head) ∙ t)

numbers_rise : {A : Type 0} (test : A → Bool) (m n : ℕ) (xs : List A) → m ≤ n → RisesFrom m (numbers_where test n xs)
numbers_rise test m n [] h = tt
numbers_rise test m n (x ∷ xs) h = by_test (test x) (numbers_rise test (suc n) (suc n) xs (omega arith)) (numbers_rise test m (suc n) xs (omega arith))
  where
    by_test : (b : Bool) → RisesFrom (suc n) (numbers_where test (suc n) xs) → RisesFrom m (numbers_where test (suc n) xs) → RisesFrom m (cond b (n ∷ numbers_where test (suc n) xs) (numbers_where test (suc n) xs))
    by_test true ih also = (h, ih)
    by_test false ih also = also

-- numbers in strictly rising order that are those that pass: for a list that is collected and sorted
pub sorted_is_where : {A : Type 0} (test : A → Bool) (xs : List A) (ns : List ℕ) → RisesFrom 0 ns → ((k : ℕ) → is_in k ns ≡ is_in k (numbers_where test 0 xs)) → ns ≡ numbers_where test 0 xs
sorted_is_where test xs ns h e = same_rising 0 ns (numbers_where test 0 xs) h (numbers_rise test 0 0 xs (omega arith)) e
