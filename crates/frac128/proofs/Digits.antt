-- A number and its digits: each gives back the other.
use Rattle.std.proofs.Common.{◌≡◌, ℕ, zero, suc, ◌+◌, ◌-◌, ◌*◌, ◌/◌, ◌%◌, ◌<◌, ◌≤◌, ◌^◌, List, [], ◌∷◌, ◌++◌, map, length, length-append, get_or, refl, sym, ap, ap₂, subst, ◌∙◌, arith, rules, append_assoc, append-nil, ◌⊎◌, inl, inr, ⊎_elim}
use Rattle.std.proofs.lemmas.List.{length-map, map-append, get_or-map}
use Rattle.std.proofs.lemmas.Int.Digits.{digits_value_is, number_digits_of, all_below_base_digits_of, first_digits_of, digits_of_step, length-digits_of_step, length-digits_of-le, number_after_ge, all_below_base_from_digits}
use Rattle.std.proofs.lemmas.Str.Parse.{digit_from_value}
use Rattle.std.specs.Char.{digit_value}
use Rattle.std.specs.Int.Digits.{digits_of, number_from_digits, number_from_digits_after, AllBelowBase}
use Rattle.std.specs.Str.Parse.{AllDigits, IsNumeral, digits_value}
use Rattle.frac128.specs.Text.{digits, IsPlain}

cases_zero : (n : ℕ) → (n ≡ 0) ⊎ (0 < n)
cases_zero zero = inl refl
cases_zero (suc n) = inr (omega arith)

abbrev glyph : ℕ → ℕ
glyph d = 48 + d

-- ---- one digit
pub value-glyph : (d : ℕ) → d < 10 → digit_value (48 + d) ≡ d
value-glyph d h = search rules

pub glyph-value : (c : ℕ) → digit_value c < 10 → 48 + digit_value c ≡ c
glyph-value c h =
    let r = digit_from_value c h in
    let e : 48 + (c - 48) ≡ c = omega arith in
    ap (λ (n : ℕ). 48 + n) (ap digit_value (sym e) ∙ value-glyph (c - 48) (omega arith)) ∙ e

-- ---- lists of digits
values-glyphs : (ds : List ℕ) → AllBelowBase 10 ds → map digit_value (map glyph ds) ≡ ds
values-glyphs [] h = refl
values-glyphs (d ∷ ds) h = ap₂ (λ (x : ℕ) (xs : List ℕ). x ∷ xs) (value-glyph d h.0) (values-glyphs ds h.1)

glyphs-values : (cs : List ℕ) → AllDigits 10 cs → map glyph (map digit_value cs) ≡ cs
glyphs-values [] h = refl
glyphs-values (c ∷ cs) h = ap₂ (λ (x : ℕ) (xs : List ℕ). x ∷ xs) (glyph-value c h.0) (glyphs-values cs h.1)

all_digits : (ds : List ℕ) → AllBelowBase 10 ds → AllDigits 10 (map glyph ds)
all_digits [] h = tt
all_digits (d ∷ ds) h = (subst (λ n. n < 10) (sym (value-glyph d h.0)) h.0, all_digits ds h.1)

-- the digits go on where a number's digits end
digits_of-push : (n d : ℕ) → 0 < n → d < 10 → digits_of 10 (n * 10 + d) ≡ digits_of 10 n ++ d ∷ []
digits_of-push n d p h =
    let q : (n * 10 + d) / 10 ≡ n = omega arith in let r : (n * 10 + d) % 10 ≡ d = omega arith in
    digits_of_step 10 (n * 10 + d) (omega arith) (omega arith) ∙ ap₂ (λ (m k : ℕ). digits_of 10 m ++ k ∷ []) q r

digits_of_after : (n : ℕ) (ds : List ℕ) → 0 < n → AllBelowBase 10 ds → digits_of 10 (number_from_digits_after 10 n ds) ≡ digits_of 10 n ++ ds
digits_of_after n [] p h = sym (append-nil (digits_of 10 n))
digits_of_after n (d ∷ ds) p h =
    digits_of_after (n * 10 + d) ds (omega arith) h.1 ∙ ap (λ (xs : List ℕ). xs ++ ds) (digits_of-push n d p h.0) ∙ append_assoc (digits_of 10 n) (d ∷ []) ds

digits_of_one : (d : ℕ) → 0 < d → d < 10 → digits_of 10 d ≡ d ∷ []
digits_of_one d p h =
    let q : d / 10 ≡ 0 = omega arith in let r : d % 10 ≡ d = omega arith in
    digits_of_step 10 d (omega arith) p ∙ ap₂ (λ (m k : ℕ). digits_of 10 m ++ k ∷ []) q r

-- ---- the digits of a number
digits_above : (n : ℕ) → 0 < n → digits n ≡ map glyph (digits_of 10 n)
unfolding digits
digits_above zero h = absurd (omega arith)
digits_above (suc n) h = refl

pub digits_zero : digits 0 ≡ 48 ∷ []
unfolding digits
digits_zero = refl

by_zero : (P : ℕ → Type 0) → P 0 → ((n : ℕ) → 0 < n → P n) → (n : ℕ) → P n
by_zero P z f zero = z
by_zero P z f (suc n) = f (suc n) (omega arith)

value_above : (n : ℕ) → 0 < n → digits_value 10 (digits n) ≡ n
value_above n h =
    let ds = digits_of 10 n in
    ap (digits_value 10) (digits_above n h) ∙ digits_value_is 10 (map glyph ds) ∙ ap (number_from_digits 10) (values-glyphs ds (all_below_base_digits_of 10 n (omega arith))) ∙ number_digits_of 10 n (omega arith)

pub value-digits : (n : ℕ) → digits_value 10 (digits n) ≡ n
value-digits = by_zero (λ n. digits_value 10 (digits n) ≡ n) (ap (digits_value 10) digits_zero) value_above

numeral_above : (n : ℕ) → 0 < n → IsNumeral 10 (digits n)
numeral_above n h =
    let ds = digits_of 10 n in
    subst (IsNumeral 10) (sym (digits_above n h))
    (omega (arith, length-map ds glyph, length-digits_of_step 10 n (omega arith) h), all_digits ds (all_below_base_digits_of 10 n (omega arith)))

pub IsNumeral-digits : (n : ℕ) → IsNumeral 10 (digits n)
IsNumeral-digits = by_zero (λ n. IsNumeral 10 (digits n)) (subst (IsNumeral 10) (sym digits_zero) (omega arith, (omega arith, tt))) numeral_above

-- the first digit of a number above 0 isn't `0`
pub first_above : (n : ℕ) → 0 < n → 48 < get_or (digits n) 0 0
first_above n h =
    let ds = digits_of 10 n in
    omega (arith, ap (λ (xs : List ℕ). get_or xs 0 0) (digits_above n h), get_or-map glyph ds 0 0 0 (omega (arith, length-digits_of_step 10 n (omega arith) h)), first_digits_of 10 n (omega arith) h)

pub IsPlain-digits : (n : ℕ) → IsPlain (digits n)
IsPlain-digits = by_zero (λ n. IsPlain (digits n)) (λ e. ap length digits_zero) (λ n h e. absurd (omega (arith, first_above n h)))

first_value : (c : ℕ) (cs : List ℕ) → digits_value 10 (c ∷ cs) ≡ number_from_digits_after 10 (digit_value c) (map digit_value cs)
first_value c cs = digits_value_is 10 (c ∷ cs) ∙ ap (λ (n : ℕ). number_from_digits_after 10 n (map digit_value cs)) (omega arith)

other : (c : ℕ) (cs : List ℕ) → AllDigits 10 (c ∷ cs) → 0 < digit_value c → digits (digits_value 10 (c ∷ cs)) ≡ c ∷ cs
other c cs h p =
    let e = digit_value c in let es = map digit_value cs in let n = number_from_digits_after 10 e es in
    let q : 0 < n = omega (arith, number_after_ge 10 e es (omega arith)) in
    ap digits (first_value c cs) ∙ digits_above n q
    ∙ ap (map glyph) (digits_of_after e es p (all_below_base_from_digits 10 cs h.1) ∙ ap (λ (xs : List ℕ). xs ++ es) (digits_of_one e p h.0))
    ∙ ap₂ (λ (x : ℕ) (xs : List ℕ). x ∷ xs) (glyph-value c h.0) (glyphs-values cs h.1)

zero_first : (c : ℕ) (cs : List ℕ) → c ≡ 48 → cs ≡ [] → digits (digits_value 10 (c ∷ cs)) ≡ c ∷ cs
zero_first c cs e f = let P : ℕ → List ℕ → Type 0 = λ d ds. digits (digits_value 10 (d ∷ ds)) ≡ d ∷ ds in
    subst (λ d. P d cs) (sym e) (subst (P 48) (sym f) digits_zero)

none_left : (cs : List ℕ) → length cs ≡ 0 → cs ≡ []
none_left [] h = refl
none_left (c ∷ cs) h = absurd (omega arith)

pub digits-value : (ds : List ℕ) → IsNumeral 10 ds → IsPlain ds → digits (digits_value 10 ds) ≡ ds
digits-value [] h p = absurd (omega (arith, h.0))
digits-value (c ∷ cs) h p = ⊎_elim (λ z. let g = glyph-value c h.1.0 in let e : c ≡ 48 = omega arith in zero_first c cs e (none_left cs (omega (arith, p e)))) (other c cs h.1) (cases_zero (digit_value c))

-- ---- written from the last digit on
pub digits_one : (n : ℕ) → n < 10 → digits n ≡ (48 + n) ∷ []
digits_one = by_zero (λ n. n < 10 → digits n ≡ (48 + n) ∷ []) (λ h. digits_zero) (λ n p h. digits_above n p ∙ ap (map glyph) (digits_of_one n p h))

pub digits_more : (n : ℕ) → 10 ≤ n → digits n ≡ digits (n / 10) ++ (48 + n % 10) ∷ []
digits_more n h =
    digits_above n (omega arith) ∙ ap (map glyph) (digits_of_step 10 n (omega arith) (omega arith)) ∙ map-append glyph (digits_of 10 (n / 10)) (n % 10 ∷ [])
    ∙ ap (λ (xs : List ℕ). xs ++ (48 + n % 10) ∷ []) (sym (digits_above (n / 10) (omega arith)))

pub length-digits : (n : ℕ) → n < 2 ^ 127 → length (digits n) ≤ 39
length-digits = by_zero (λ n. n < 2 ^ 127 → length (digits n) ≤ 39) (λ h. omega (arith, ap length digits_zero))
    (λ n p h. omega (arith, ap length (digits_above n p), length-map (digits_of 10 n) glyph, length-digits_of-le 10 39 n (omega arith) (omega arith)))

pub room_left : (r n : ℕ) (text before : List ℕ) → digits r ++ text ≡ digits n ++ before → n < 2 ^ 127 → length before + 39 ≤ 80 → length text < 80
room_left r n text before e h k =
    omega (arith, (IsNumeral-digits r).0, length-digits n h, ap length e, length-append (digits r) text, length-append (digits n) before)

-- the last digit moves to the text behind
pub digits_step : (r : ℕ) (text : List ℕ) → 9 < r → digits (r / 10) ++ (48 + r % 10) ∷ text ≡ digits r ++ text
digits_step r text h = sym (ap (λ (xs : List ℕ). xs ++ text) (digits_more r (omega arith)) ∙ append_assoc (digits (r / 10)) ((48 + r % 10) ∷ []) text)

pub digits_end : (r : ℕ) (text : List ℕ) → r ≤ 9 → (48 + r) ∷ text ≡ digits r ++ text
digits_end r text h = sym (ap (λ (xs : List ℕ). xs ++ text) (digits_one r (omega arith)))
