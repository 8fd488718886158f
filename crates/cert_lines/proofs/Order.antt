-- Numbers in order by their digits.
use Rattle.std.proofs.Common.{◌≡◌, ◌≢◌, ℕ, zero, suc, ◌+◌, ◌-◌, ◌*◌, ◌<◌, ◌≤◌, Bool, true, false, List, [], ◌∷◌, length, drop, get_or, inl, inr, refl, sym, ◌∙◌, ap, subst, arith, length-drop}
use Rattle.std.specs.Prelude.{◌&&◌, ◌||◌, ◌==◌, not, nat_lt}
use Rattle.std.specs.Char.{digit_value, is_ascii_digit}
use Rattle.std.specs.List.{list_all}
use Rattle.std.specs.Str.Parse.{AllDigits, digits_value_after}
use Rattle.std.proofs.lemmas.Bool.{and_parts, cases_lt}
use Rattle.std.proofs.lemmas.Bool.Decides.{nat_tests}
use Rattle.std.proofs.lemmas.List.{drop_all}
use Rattle.std.proofs.lemmas.Str.Parse.{digit_at}
use Rattle.frac128.proofs.OneSpelling.{value_ge, value_step}
use Rattle.frac128.proofs.Digits.{glyph-value}
use Rattle.cert_lines.specs.Spelled.{value, is_number}
use Rattle.cert_lines.specs.Clauses.{is_last, is_above}
use Rattle.cert_lines.proofs.Digits.{number_digits, number_some}

-- a smaller front stays smaller, where no more digits are behind it
pub less_after : (v w : ℕ) (xs ys : List ℕ) → v < w → AllDigits 10 xs → length xs ≤ length ys → digits_value_after 10 v xs < digits_value_after 10 w ys
less_after v w [] ys less digits len = let ge = value_ge w ys in omega (arith, less, ge)
less_after v w (x ∷ xs) [] less digits len = absurd (omega (arith, len))
less_after v w (x ∷ xs) (y ∷ ys) less digits len =
    let d = digits.0 in
    let next : v * 10 + digit_value x < w * 10 + digit_value y = omega (arith, less, d) in
    less_after (v * 10 + digit_value x) (w * 10 + digit_value y) xs ys next digits.1 (omega (arith, len))

-- the first of two digits or more isn't zero
first_positive : (c d : ℕ) (cs : List ℕ) → is_number (c ∷ d ∷ cs) ≡ true → 0 < digit_value c
first_positive c d cs is =
    let parts = and_parts (is_ascii_digit c && list_all is_ascii_digit (d ∷ cs)) (length (d ∷ cs) == 0 || not (c == 48)) is in
    let glyph = glyph-value c (number_digits (c ∷ d ∷ cs) is).0 in
    by_first (digit_value c) c (length cs) glyph parts.1
  where
    by_first : (v b n : ℕ) → 48 + v ≡ b → (suc n == 0 || not (b == 48)) ≡ true → 0 < v
    by_first v b n is test = grind (arith, nat_tests)

-- the number of fewer digits is less
pub shorter_less : (xs ys : List ℕ) → is_number xs ≡ true → is_number ys ≡ true → length xs < length ys → value xs < value ys
shorter_less xs [] x y less = cc
shorter_less xs (c ∷ []) x y less = let some = number_some xs x in absurd (omega (arith, less, some))
shorter_less xs (c ∷ d ∷ cs) x y less =
    let first = first_positive c d cs y in
    let zero : 0 * 10 + digit_value c ≡ digit_value c = omega arith in
    subst (λ (v : ℕ). value xs < digits_value_after 10 v (d ∷ cs)) (sym zero) (less_after 0 (digit_value c) xs (d ∷ cs) first (number_digits xs x) (omega (arith, less)))

-- ---- digit by digit

pub record SameFront (x y : List ℕ) (i : ℕ) : Type 0 where
  pub front : ℕ
  pub first : digits_value_after 10 front (drop i x) ≡ value x
  pub second : digits_value_after 10 front (drop i y) ≡ value y

pub no_front : (x y : List ℕ) → SameFront x y 0
no_front x y = record { front = 0; first = refl; second = refl }

pub longer_front : (x y : List ℕ) (i : ℕ) → AllDigits 10 x → AllDigits 10 y → i < length x → i < length y → get_or x i 0 ≡ get_or y i 0 → SameFront x y i → SameFront x y (i + 1)
longer_front x y i dx dy lx ly same f = record {
  front = f.front * 10 + (get_or x i 0 - 48);
  first = sym (value_step f.front x i dx lx) ∙ f.first;
  second = ap (λ (d : ℕ). digits_value_after 10 (f.front * 10 + (d - 48)) (drop (i + 1) y)) same ∙ sym (value_step f.front y i dy ly) ∙ f.second;
}

all_digits_drop : (n : ℕ) (ds : List ℕ) → AllDigits 10 ds → AllDigits 10 (drop n ds)
all_digits_drop zero ds h = h
all_digits_drop (suc n) [] h = tt
all_digits_drop (suc n) (d ∷ ds) h = all_digits_drop n ds h.1

-- the first digits that differ decide
pub front_decides : (x y : List ℕ) (i : ℕ) → AllDigits 10 x → AllDigits 10 y → length x ≡ length y → i < length x → get_or x i 0 < get_or y i 0 → SameFront x y i → value x < value y
front_decides x y i dx dy len lx less f =
    let ly : i < length y = omega (arith, len, lx) in
    let low = digit_at x i dx lx in
    let next : f.front * 10 + (get_or x i 0 - 48) < f.front * 10 + (get_or y i 0 - 48) = omega (arith, less, low.0) in
    let lens : length (drop (i + 1) x) ≤ length (drop (i + 1) y) = omega (arith, length-drop (i + 1) x, length-drop (i + 1) y, len) in
    let rest = less_after _ _ (drop (i + 1) x) (drop (i + 1) y) next (all_digits_drop (i + 1) x dx) lens in
    omega (arith, rest, value_step f.front x i dx lx, value_step f.front y i dy ly, f.first, f.second)

-- where no digit differs, neither is less
pub same_digits : (x y : List ℕ) → length x ≡ length y → SameFront x y (length x) → value x ≡ value y
same_digits x y len f =
    sym f.first ∙ ap (digits_value_after 10 f.front) (drop_all (length x) x (omega arith)) ∙ sym (ap (digits_value_after 10 f.front) (drop_all (length x) y (omega (arith, len)))) ∙ f.second

-- where the first digits that differ are in order, so are the numbers
lt_true : (a b v w : ℕ) → a < b → v < w → nat_lt a b ≡ nat_lt v w
lt_true a b v w less less' = grind (arith, nat_tests)

lt_false : (a b v w : ℕ) → b ≤ a → w ≤ v → nat_lt a b ≡ nat_lt v w
lt_false a b v w more more' = grind (arith, nat_tests)

pub decided : (x y : List ℕ) (i : ℕ) → is_number x ≡ true → is_number y ≡ true → length x ≡ length y → i < length x → get_or x i 0 ≢ get_or y i 0 → SameFront x y i
    → nat_lt (get_or x i 0) (get_or y i 0) ≡ nat_lt (value x) (value y)
decided x y i nx ny len within differ f =
    let dx = number_digits x nx in
    let dy = number_digits y ny in
    let back : SameFront y x i = record { front = f.front; first = f.second; second = f.first } in
    elim (cases_lt (get_or x i 0) (get_or y i 0)) [
      | inl less ↦ lt_true _ _ _ _ less (front_decides x y i dx dy len within less f)
      | inr more ↦
          let below : get_or y i 0 < get_or x i 0 = omega (arith, differ, more) in
          let larger = front_decides y x i dy dx (sym len) (omega (arith, len, within)) below back in
          lt_false _ _ _ _ more (omega (arith, larger))
    ]

some_number : (n : ℕ) (b : Bool) → (suc n == 0 || b) ≡ true → b ≡ true
some_number n b is = grind (arith, nat_tests)

pub not_empty : (n : ℕ) → (n == 0) ≡ false → 0 < n
not_empty n is = grind (arith, nat_tests)

-- numbers of different lengths are in the order of their lengths
pub lengths_decide : (x y : List ℕ) → is_last x ≡ true → 0 < length x → is_number y ≡ true → length x ≢ length y → nat_lt (length x) (length y) ≡ (is_number y && is_above x y)
lengths_decide [] y nx some ny differ = absurd (omega (arith, some))
lengths_decide (c ∷ cs) y nx some ny differ =
    let by_number = ap (λ (b : Bool). b && is_above (c ∷ cs) y) ny in
    let x = c ∷ cs in
    let number = some_number (length cs) (is_number x) nx in
    elim (cases_lt (length x) (length y)) [
      | inl less ↦ lt_true _ _ _ _ less (shorter_less x y number ny less) ∙ sym by_number
      | inr more ↦
          let below : length y < length x = omega (arith, differ, more) in
          let larger = shorter_less y x ny number below in
          lt_false _ _ _ _ more (omega (arith, larger)) ∙ sym by_number
    ]
