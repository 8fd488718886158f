-- The lines of a text in which each byte but the line feeds is of a word, a space or a parenthesis.
use Rattle.std.proofs.Common.{◌≡◌, inl, inr, ℕ, suc, ◌+◌, ◌==◌, ◌||◌, not, Bool, true, false, cond, List, [], ◌∷◌, ◌++◌, length, take, refl, ◌∙◌, ap, arith}
use Rattle.std.specs.Prelude.{if◌then◌else◌}
use Rattle.std.specs.List.{list_all, list_any, prefix_len, take_while}
use Rattle.std.proofs.lemmas.Bool.{or_cases, and_parts}
use Rattle.std.proofs.lemmas.Bool.Decides.{nat_tests}
use Rattle.sexpr.specs.Bytes.{class_of, is_in_word}
use Rattle.sexpr.proofs.ByteLaws.{in_word_class}
use Rattle.plan_text.specs.Lines.{line_at, longer, lines_from, is_foreign_class}

abbrev pub is_plain : ℕ → Bool
is_plain b = is_in_word b || (b == 32 || (b == 40 || b == 41))

same_number : (a b : ℕ) → (a == b) ≡ true → a ≡ b
same_number a b is = grind (arith, nat_tests)

-- a test of a plain byte
plain_test : (test : ℕ → Bool) (t : Bool) → ((b : ℕ) → is_in_word b ≡ true → test b ≡ t) → test 32 ≡ t → test 40 ≡ t → test 41 ≡ t → (b : ℕ) → is_plain b ≡ true → test b ≡ t
plain_test test t word space open_paren close_paren b is = elim (or_cases (is_in_word b) (b == 32 || (b == 40 || b == 41)) is) [
  | inl in_word ↦ word b in_word
  | inr more ↦ elim (or_cases (b == 32) (b == 40 || b == 41) more) [
    | inl so ↦ ap test (same_number b 32 so) ∙ space
    | inr paren ↦ elim (or_cases (b == 40) (b == 41) paren) [
      | inl so ↦ ap test (same_number b 40 so) ∙ open_paren
      | inr so ↦ ap test (same_number b 41 so) ∙ close_paren
    ]
  ]
]

word_no_feed : (b : ℕ) → is_in_word b ≡ true → (b == 10) ≡ false
word_no_feed b is = grind (arith, nat_tests)

word_no_comment : (b : ℕ) → is_in_word b ≡ true → not (b == 59) ≡ true
word_no_comment b is = grind (arith, nat_tests)

plain_no_feed : (b : ℕ) → is_plain b ≡ true → (b == 10) ≡ false
plain_no_feed = plain_test (λ b. b == 10) false word_no_feed refl refl refl

plain_no_comment : (b : ℕ) → is_plain b ≡ true → not (b == 59) ≡ true
plain_no_comment = plain_test (λ b. not (b == 59)) true word_no_comment refl refl refl

plain_no_foreign : (b : ℕ) → is_plain b ≡ true → is_foreign_class (class_of b) ≡ false
plain_no_foreign = plain_test (λ b. is_foreign_class (class_of b)) false (λ b is. ap is_foreign_class (in_word_class (class_of b) is)) refl refl refl

-- all of a plain text is code, and nothing in it is foreign
pub all_code : (code : List ℕ) → list_all is_plain code ≡ true → take_while (λ b. not (b == 59)) code ≡ code
all_code [] all = refl
all_code (b ∷ code) all =
    let parts = and_parts (is_plain b) (list_all is_plain code) all in
    let n : ℕ = prefix_len (λ c. not (c == 59)) code in
    let next : 1 + n ≡ suc n = omega arith in
    ap (λ (t : Bool). take (cond t (1 + n) 0) (b ∷ code)) (plain_no_comment b parts.0)
    ∙ ap (λ (m : ℕ). take m (b ∷ code)) next
    ∙ ap (λ (l : List ℕ). b ∷ l) (all_code code parts.1)

pub none_foreign : (code : List ℕ) → list_all is_plain code ≡ true → list_any (λ b. is_foreign_class (class_of b)) code ≡ false
none_foreign [] all = refl
none_foreign (b ∷ code) all =
    let parts = and_parts (is_plain b) (list_all is_plain code) all in
    ap (λ (t : Bool). t || list_any (λ c. is_foreign_class (class_of c)) code) (plain_no_foreign b parts.0) ∙ none_foreign code parts.1

-- a plain text in front of a line feed is a line
pub plain_line : (at : ℕ) (code rest : List ℕ) → list_all is_plain code ≡ true → lines_from at (code ++ 10 ∷ rest) ≡ line_at at code ∷ lines_from (at + length code + 1) rest
plain_line at [] rest all = let place : at + 1 ≡ at + 0 + 1 = omega arith in ap (λ (p : ℕ). line_at at [] ∷ lines_from p rest) place
plain_line at (b ∷ code) rest all =
    let parts = and_parts (is_plain b) (list_all is_plain code) all in
    let place : at + 1 + length code + 1 ≡ at + length (b ∷ code) + 1 = omega arith in
    let bytes = code ++ 10 ∷ rest in
    ap (λ (t : Bool). if t then line_at at [] ∷ lines_from (at + 1) bytes else longer at b (lines_from (at + 1) bytes)) (plain_no_feed b parts.0)
    ∙ ap (longer at b) (plain_line (at + 1) code rest parts.1)
    ∙ ap (λ (p : ℕ). line_at at (b ∷ code) ∷ lines_from p rest) place
