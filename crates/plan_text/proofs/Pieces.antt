-- The first word or parenthesis of a text after a place.
use Rattle.std.proofs.Common.{◌≡◌, inl, inr, ℕ, suc, ◌+◌, ◌-◌, ◌<◌, ◌≤◌, Bool, true, false, cond, List, [], ◌∷◌, length, get_or, drop, take, refl, sym, ◌∙◌, ap, arith, length-drop}
use Rattle.std.proofs.lemmas.Bool.{cases_Bool}
use Rattle.std.proofs.lemmas.List.{drop-drop, drop_all, get_or-drop, take_rest}
use Rattle.std.proofs.lemmas.List.Sums.{prefix_len-le-length, prefix_len-drop_yes, prefix_len_stops}
use Rattle.std.specs.List.{prefix_len}
use Rattle.sexpr.specs.declared.bytes.Class.{Class}
use Rattle.sexpr.specs.declared.bytes.Class.TheVariants.{White, Opens, Closes, Semicolon, InWord, Foreign}
use Rattle.sexpr.specs.Bytes.{class_of, is_in_word, is_in_word_class, word_of}
use Rattle.sexpr.specs.Tokens.{Token, Word, tokens, in_front, begins_word}
use Rattle.sexpr.proofs.BareLaws.{run_len}
use Rattle.sexpr.proofs.Lexing.{at_place, word_at}
use Rattle.plan_text.specs.declared.piece.Kind.TheVariants as kind
use Rattle.plan_text.specs.inside.Pieces.{is_gap, is_gap_class, StandsFirst}

passed_byte : (at b : ℕ) (k : Class) (word : Bool) (rest : List Token) → is_gap_class k ≡ true → in_front at b k word rest ≡ rest
passed_byte at b White word rest is = refl
passed_byte at b Opens word rest is = cc
passed_byte at b Closes word rest is = cc
passed_byte at b Semicolon word rest is = refl
passed_byte at b InWord word rest is = cc
passed_byte at b Foreign word rest is = refl

-- a gap has nothing
gap_tokens : (at : ℕ) (bytes : List ℕ) → tokens at bytes ≡ tokens (at + prefix_len is_gap bytes) (drop (prefix_len is_gap bytes) bytes)
gap_tokens at [] = refl
gap_tokens at (b ∷ bytes) =
    let n = prefix_len is_gap bytes in
    let at_len : ℕ → List Token = λ m. tokens (at + m) (drop m (b ∷ bytes)) in
    elim (cases_Bool (is_gap b)) [
      | inl gap ↦
          let next : 1 + n ≡ suc n = omega arith in
          let len : prefix_len is_gap (b ∷ bytes) ≡ suc n = ap (λ (t : Bool). cond t (1 + n) 0) gap ∙ next in
          let place : at + 1 + n ≡ at + suc n = omega arith in
          passed_byte at b (class_of b) (begins_word bytes) (tokens (at + 1) bytes) gap
          ∙ gap_tokens (at + 1) bytes
          ∙ ap (λ (m : ℕ). tokens m (drop n bytes)) place
          ∙ sym (ap at_len len)
      | inr other ↦
          let len : prefix_len is_gap (b ∷ bytes) ≡ 0 = ap (λ (t : Bool). cond t (1 + n) 0) other in
          let place : at ≡ at + 0 = omega arith in
          ap (λ (m : ℕ). tokens m (b ∷ bytes)) place ∙ sym (ap at_len len)
    ]

-- between two places there is a gap, which goes on no further
pub record IsPassed (text : List ℕ) (from start : ℕ) : Type 0 where
  pub within : start ≤ length text
  pub not_before : from ≤ start
  pub same : tokens from (drop from text) ≡ tokens start (drop start text)
  pub stops : start < length text → is_gap (get_or text start 0) ≡ false

pub gap_passed : (text : List ℕ) (from n : ℕ) → from ≤ length text → n ≡ prefix_len is_gap (take (length text - from) (drop from text)) → IsPassed text from (from + n)
gap_passed text from n within is =
    let rest = drop from text in
    let n_is : n ≡ prefix_len is_gap rest = is ∙ ap (prefix_len is_gap) (take_rest text from) in
    let most = prefix_len-le-length is_gap rest in
    let len = length-drop from text in
    record {
      within = omega (arith, n_is, most, len);
      not_before = omega arith;
      same = gap_tokens from rest ∙ sym (ap (λ (m : ℕ). tokens (from + m) (drop m rest)) n_is) ∙ ap (λ (l : List ℕ). tokens (from + n) l) (drop-drop n from text);
      stops = λ more.
          ap is_gap (sym (get_or-drop from text n 0)) ∙ ap (λ (m : ℕ). is_gap (get_or rest m 0)) n_is
          ∙ prefix_len_stops is_gap rest 0 (omega (arith, n_is, more, len));
    }

pub gap_to_end : (text : List ℕ) (from start : ℕ) → IsPassed text from start → length text ≤ start → tokens from (drop from text) ≡ []
gap_to_end text from start passed end = passed.same ∙ ap (λ (l : List ℕ). tokens start l) (drop_all start text end)

pub open_first : (text : List ℕ) (from start : ℕ) → IsPassed text from start → start < length text → class_of (get_or text start 0) ≡ Opens
    → StandsFirst text from (record { kind = kind.Open; start = start; end = start + 1 })
open_first text from start passed within is = record {
  not_before = passed.not_before;
  some = omega arith;
  within = omega (arith, within);
  is = passed.same ∙ at_place text start Opens within is;
}

pub close_first : (text : List ℕ) (from start : ℕ) → IsPassed text from start → start < length text → class_of (get_or text start 0) ≡ Closes
    → StandsFirst text from (record { kind = kind.Close; start = start; end = start + 1 })
close_first text from start passed within is = record {
  not_before = passed.not_before;
  some = omega arith;
  within = omega (arith, within);
  is = passed.same ∙ at_place text start Closes within is;
}

in_word_left : (k : Class) → is_gap_class k ≡ false → (k ≡ Opens → ⊥) → (k ≡ Closes → ⊥) → is_in_word_class k ≡ true
in_word_left White no_gap no_open no_close = cc
in_word_left Opens no_gap no_open no_close = absurd (no_open refl)
in_word_left Closes no_gap no_open no_close = absurd (no_close refl)
in_word_left Semicolon no_gap no_open no_close = cc
in_word_left InWord no_gap no_open no_close = refl
in_word_left Foreign no_gap no_open no_close = cc

-- so long a word stands at a place
pub record HasWord (text : List ℕ) (start n : ℕ) : Type 0 where
  pub some : 0 < n
  pub room : start + n ≤ length text
  pub is : tokens start (drop start text) ≡ Word start (start + n) (word_of (drop start text)) ∷ tokens (start + n) (drop (start + n) text)

pub has_word : (text : List ℕ) (from start n : ℕ) (k : Class) → IsPassed text from start → start < length text → k ≡ class_of (get_or text start 0) → (k ≡ Opens → ⊥) → (k ≡ Closes → ⊥)
    → n ≡ prefix_len is_in_word (take (length text - start) (drop start text)) → HasWord text start n
has_word text from start n k passed within k_is no_open no_close n_is =
    let rest = drop start text in
    let in_word : is_in_word (get_or text start 0) ≡ true =
    ap is_in_word_class (sym k_is) ∙ in_word_left k (ap is_gap_class k_is ∙ passed.stops within) no_open no_close in
    let len : n ≡ run_len rest = n_is ∙ ap (prefix_len is_in_word) (take_rest text start) in
    let most = prefix_len-le-length is_in_word rest in
    record {
      some = omega (arith, len, prefix_len-drop_yes is_in_word text start 0 within in_word);
      room = omega (arith, len, most, length-drop start text, within);
      is = word_at text start within in_word ∙ ap (λ (m : ℕ). Word start (start + m) (word_of rest) ∷ tokens (start + m) (drop (start + m) text)) (sym len);
    }

pub word_first : (text : List ℕ) (from start n : ℕ) → IsPassed text from start → HasWord text start n → StandsFirst text from (record { kind = kind.Word; start = start; end = start + n })
word_first text from start n passed word = record {
  not_before = passed.not_before;
  some = omega (arith, word.some);
  within = word.room;
  is = passed.same ∙ word.is;
}
