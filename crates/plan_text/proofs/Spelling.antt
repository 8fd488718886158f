-- Words that a text spells, and what its readers make of them.
use Rattle.std.proofs.Common.{◌≡◌, ℕ, zero, suc, ◌+◌, ◌/◌, ◌%◌, ◌<◌, ◌≤◌, ◌^◌, ◌==◌, ◌&&◌, Bool, true, false, List, [], ◌∷◌, ◌++◌, length, get_or, map, Some, refl, sym, ◌∙◌, ap, arith}
use Rattle.std.specs.Prelude.{slice_get, slice_index, unwrap_or}
use Rattle.std.specs.Option.{option_map}
use Rattle.std.specs.Char.{is_ascii_digit, to_ascii_lowercase}
use Rattle.std.specs.Fmt.{decimal}
use Rattle.std.specs.List.{list_all}
use Rattle.std.specs.Str.Parse.{AllDigits, digits_value}
use Rattle.std.proofs.lemmas.Bool.{and_parts}
use Rattle.std.proofs.lemmas.Bool.Decides.{nat_tests}
use Rattle.std.proofs.lemmas.Fmt.{decimal_is_IsNumeral_wide, decimal_by_steps_wide}
use Rattle.std.proofs.lemmas.Str.Parse.{digit_from_value}
use Rattle.sexpr.specs.declared.bytes.Class.{Class}
use Rattle.sexpr.specs.declared.bytes.Class.TheVariants.{InWord}
use Rattle.sexpr.specs.Bytes.{class_of, is_in_word}
use Rattle.sexpr.specs.Tokens.{Word, tokens, in_front, begins_word, longer}
use Rattle.sexpr.proofs.ByteLaws.{in_word_class}
use Rattle.pddl_form.specs.Names.{is_name}
use Rattle.plan_text.specs.Written.{is_count}
use Rattle.plan_text.specs.Laws.{is_spelled}

-- ---- words

-- a byte of a word as it is read
abbrev pub is_low : ℕ → Bool
is_low b = is_in_word b && to_ascii_lowercase b == b

abbrev pub IsWord : List ℕ → Type 0
IsWord word = (0 < length word) × (list_all is_low word ≡ true)

same_number : (a b : ℕ) → (a == b) ≡ true → a ≡ b
same_number a b is = grind (arith, nat_tests)

word_byte : (at b : ℕ) (bytes : List ℕ) (t : Bool) → is_low b ≡ true → begins_word bytes ≡ t → tokens at (b ∷ bytes) ≡ in_front at b InWord t (tokens (at + 1) bytes)
word_byte at b bytes t low is =
    let parts = and_parts (is_in_word b) (to_ascii_lowercase b == b) low in
    ap (λ (k : Class). in_front at b k (begins_word bytes) (tokens (at + 1) bytes)) (in_word_class (class_of b) parts.0)
    ∙ ap (λ (u : Bool). in_front at b InWord u (tokens (at + 1) bytes)) is

-- a word in front of what is none is one token
pub word_then : (at : ℕ) (word rest : List ℕ) → IsWord word → begins_word rest ≡ false → tokens at (word ++ rest) ≡ Word at (at + length word) word ∷ tokens (at + length word) rest
word_then at [] rest is ends = absurd (omega (arith, is.0))
word_then at (b ∷ []) rest is ends =
    let low : is_low b ≡ true = (and_parts (is_low b) true is.1).0 in
    let same : to_ascii_lowercase b ≡ b = same_number (to_ascii_lowercase b) b (and_parts (is_in_word b) (to_ascii_lowercase b == b) low).1 in
    word_byte at b rest false low ends ∙ ap (λ (c : ℕ). Word at (at + 1) (c ∷ []) ∷ tokens (at + 1) rest) same
word_then at (b ∷ c ∷ word) rest is ends =
    let parts = and_parts (is_low b) (list_all is_low (c ∷ word)) is.1 in
    let next = and_parts (is_low c) (list_all is_low word) parts.1 in
    let more : begins_word (c ∷ (word ++ rest)) ≡ true = (and_parts (is_in_word c) (to_ascii_lowercase c == c) next.0).0 in
    let same : to_ascii_lowercase b ≡ b = same_number (to_ascii_lowercase b) b (and_parts (is_in_word b) (to_ascii_lowercase b == b) parts.0).1 in
    let some : 0 < length (c ∷ word) = omega arith in
    let place : at + 1 + length (c ∷ word) ≡ at + length (b ∷ c ∷ word) = omega arith in
    word_byte at b (c ∷ (word ++ rest)) true parts.0 more
    ∙ ap (longer at b) (word_then (at + 1) (c ∷ word) rest (some, parts.1) ends)
    ∙ ap (λ (d : ℕ). Word at (at + 1 + length (c ∷ word)) (d ∷ c ∷ word) ∷ tokens (at + 1 + length (c ∷ word)) rest) same
    ∙ ap (λ (n : ℕ). Word at n (b ∷ c ∷ word) ∷ tokens n rest) place

-- ---- names

pub spelled_word : (name : List ℕ) → is_spelled name ≡ true → IsWord name × (is_name name ≡ true)
spelled_word [] is = cc
spelled_word (b ∷ name) is = let parts = and_parts (is_name (b ∷ name)) (list_all is_low (b ∷ name)) is in ((omega arith, parts.1), parts.0)

-- one of some names
pub spelled_at : (names : List (List ℕ)) (k : ℕ) (name : List ℕ) → list_all is_spelled names ≡ true → slice_get names k ≡ Some name → is_spelled name ≡ true
spelled_at [] k name all is = cc
spelled_at (n ∷ names) zero name all is = let same : n ≡ name = cc is in ap is_spelled (sym same) ∙ (and_parts (is_spelled n) (list_all is_spelled names) all).0
spelled_at (n ∷ names) (suc k) name all is = spelled_at names k name (and_parts (is_spelled n) (list_all is_spelled names) all).1 is

pub name_at : {X : Type 0} (name_of : X → List ℕ) (xs : List X) (k : ℕ) → k < length xs → slice_get (map name_of xs) k ≡ Some (unwrap_or (option_map name_of (slice_get xs k)) [])
name_at name_of [] k within = absurd (omega (arith, within))
name_at name_of (x ∷ xs) zero within = refl
name_at name_of (x ∷ xs) (suc k) within = name_at name_of xs k (omega (arith, within))

-- ---- counts

low_digit : (d : ℕ) → is_ascii_digit d ≡ true → is_low d ≡ true
low_digit d is = grind (arith, nat_tests)

digits_low : (ds : List ℕ) → list_all is_ascii_digit ds ≡ true → list_all is_low ds ≡ true
digits_low [] all = refl
digits_low (d ∷ ds) all =
    let parts = and_parts (is_ascii_digit d) (list_all is_ascii_digit ds) all in
    ap (λ (b : Bool). b && list_all is_low ds) (low_digit d parts.0) ∙ digits_low ds parts.1

ascii_digit : (d : ℕ) → 48 ≤ d → d ≤ 57 → is_ascii_digit d ≡ true
ascii_digit d low high = grind (arith, nat_tests)

ascii_digits : (ds : List ℕ) → AllDigits 10 ds → list_all is_ascii_digit ds ≡ true
ascii_digits [] all = refl
ascii_digits (d ∷ ds) all =
    let range = digit_from_value d all.0 in
    ap (λ (b : Bool). b && list_all is_ascii_digit ds) (ascii_digit d range.0 range.1) ∙ ascii_digits ds all.1

count_of_digits : (ds : List ℕ) → 0 < length ds → list_all is_ascii_digit ds ≡ true → is_count ds ≡ true
count_of_digits [] some all = absurd (omega (arith, some))
count_of_digits (d ∷ ds) some all = all

-- no number but 0 begins with a zero
abbrev HasFirst : ℕ → List ℕ → Type 0
HasFirst n ds = 0 < n → 48 < get_or ds 0 0

first_more : (n : ℕ) (ds : List ℕ) → 10 ≤ n → HasFirst (n / 10) ds → HasFirst n (ds ++ ((48 + n % 10) ∷ []))
first_more n [] large front = λ some. absurd (omega (arith, front (omega (arith, large))))
first_more n (d ∷ ds) large front = λ some. front (omega (arith, large))

first_digit : (n : ℕ) → n < 10 ^ 64 → HasFirst n (decimal n)
first_digit n small = decimal_by_steps_wide HasFirst (λ m one. λ some. omega (arith, some)) first_more n small

-- what is written of a count
pub record IsCountText (n : ℕ) (ds : List ℕ) : Type 0 where
  pub word : IsWord ds
  pub count : is_count ds ≡ true
  pub value : digits_value 10 ds ≡ n
  pub first : 48 < slice_index ds 0

pub decimal_count : (n : ℕ) → 1 ≤ n → n < 2 ^ 127 → IsCountText n (decimal n)
decimal_count n some small =
    let wide : n < 10 ^ 64 = omega (arith, small) in
    let numeral = decimal_is_IsNumeral_wide n wide in
    let digits = ascii_digits (decimal n) numeral.0.1 in
    record {
      word = (numeral.0.0, digits_low (decimal n) digits);
      count = count_of_digits (decimal n) numeral.0.0 digits;
      value = numeral.1;
      first = first_digit n wide (omega (arith, some));
    }
