-- A text and the same text without its comments.
use Rattle.std.proofs.Common.{◌≡◌, ◌≢◌, inl, inr, ℕ, zero, suc, ◌+◌, ◌<◌, ◌≤◌, ◌==◌, Bool, true, false, not, List, [], ◌∷◌, map, length, get_or, take, drop, cond, refl, sym, ◌∙◌, ap, subst, arith}
use Rattle.std.proofs.lemmas.Bool.{cases_Bool}
use Rattle.std.proofs.lemmas.Bool.Decides.{nat_tests, Decides-eqb}
use Rattle.std.proofs.lemmas.List.{drop_more}
use Rattle.std.specs.Prelude.{if◌then◌else◌}
use Rattle.std.specs.List.{prefix_len, position_or_len}
use Rattle.std.specs.Char.{to_ascii_lowercase}
use Rattle.sexpr.specs.Bytes.{is_in_word, word_of}
use Rattle.sexpr.specs.Comments.{bare, bare_from}

pub isnt : (b n : ℕ) → b ≢ n → (b == n) ≡ false
isnt b n other = grind (arith, nat_tests)

is_true : (b n : ℕ) → (b == n) ≡ true → b ≡ n
is_true b n same = (Decides-eqb b n).0 same

pub length-bare_from : (inside : Bool) (bytes : List ℕ) → length (bare_from inside bytes) ≡ length bytes
length-bare_from inside [] = refl
length-bare_from true (b ∷ bytes) = elim (cases_Bool (b == 10)) [
  | inl line ↦ rw line (ap suc (length-bare_from false bytes))
  | inr more ↦ rw more (ap suc (length-bare_from true bytes))
]
length-bare_from false (b ∷ bytes) = elim (cases_Bool (b == 59)) [
  | inl begins ↦ rw begins (ap suc (length-bare_from true bytes))
  | inr other ↦ rw other (ap suc (length-bare_from false bytes))
]

pub bare_other : (b : ℕ) (bytes : List ℕ) → b ≢ 59 → bare (b ∷ bytes) ≡ b ∷ bare bytes
bare_other b bytes other = let no = isnt b 59 other in rw no

pub bare_begins : (bytes : List ℕ) → bare (59 ∷ bytes) ≡ 32 ∷ bare_from true bytes
bare_begins bytes = refl

-- no comment is open at a place
abbrev pub IsBareAt : List ℕ → ℕ → Type 0
IsBareAt bytes at = drop at (bare bytes) ≡ bare (drop at bytes)

-- a byte that begins no comment stays, and none is open behind it
pub bare_more : (bytes : List ℕ) (at : ℕ) → at < length bytes → IsBareAt bytes at → get_or bytes at 0 ≢ 59 → (get_or (bare bytes) at 0 ≡ get_or bytes at 0) × IsBareAt bytes (at + 1)
bare_more bytes at within outside other =
    let same = length-bare_from false bytes in
    let below : at < length (bare bytes) = omega (arith, same) in
    let whole : (get_or (bare bytes) at 0 ∷ drop (at + 1) (bare bytes)) ≡ (get_or bytes at 0 ∷ bare (drop (at + 1) bytes)) =
    sym (drop_more (bare bytes) at 0 below) ∙ outside ∙ ap bare (drop_more bytes at 0 within) ∙ bare_other (get_or bytes at 0) (drop (at + 1) bytes) other in
    ((cc), (cc))

-- how long a comment is behind its semicolon
abbrev pub rest_len : List ℕ → ℕ
rest_len bytes = position_or_len (λ b. b == 10) bytes

-- so many bytes are spaces without comments, and behind them no comment is open
pub record IsBlank (text bytes : List ℕ) (n : ℕ) : Type 0 where
  pub room : n ≤ length bytes
  pub behind : drop n text ≡ bare (drop n bytes)
  pub spaces : (k : ℕ) → k < n → get_or text k 0 ≡ 32

blank_none : (bytes : List ℕ) → IsBlank (bare bytes) bytes 0
blank_none bytes = record { room = omega arith; behind = refl; spaces = λ k below. absurd (omega (arith, below)) }

blank_more : (text bytes : List ℕ) (b n : ℕ) → IsBlank text bytes n → IsBlank (32 ∷ text) (b ∷ bytes) (1 + n)
blank_more text bytes b n blank =
    let next : suc n ≡ 1 + n = omega arith in
    subst (IsBlank (32 ∷ text) (b ∷ bytes)) next (record {
      room = omega (arith, blank.room);
      behind = blank.behind;
      spaces = blank_at text n blank.spaces;
    })
  where
    blank_at : (text : List ℕ) (n : ℕ) → ((k : ℕ) → k < n → get_or text k 0 ≡ 32) → (k : ℕ) → k < suc n → get_or (32 ∷ text) k 0 ≡ 32
    blank_at text n spaces zero below = refl
    blank_at text n spaces (suc k) below = spaces k (omega (arith, below))

pub bare_rest : (bytes : List ℕ) → IsBlank (bare_from true bytes) bytes (rest_len bytes)
bare_rest [] = blank_none []
bare_rest (b ∷ bytes) = elim (cases_Bool (b == 10)) [
  | inl line ↦
      let ten : b ≡ 10 = is_true b 10 line in
      let same : bare_from true (b ∷ bytes) ≡ bare (b ∷ bytes) =
      ap (λ (t : Bool). if t then 10 ∷ bare_from false bytes else 32 ∷ bare_from true bytes) line
      ∙ ap (λ (n : ℕ). n ∷ bare bytes) (sym ten)
      ∙ sym (bare_other b bytes (λ semicolon. absurd (omega (arith, ten, semicolon)))) in
      let none : rest_len (b ∷ bytes) ≡ 0 = ap (λ (t : Bool). cond (not t) (1 + rest_len bytes) 0) line in
      subst (λ (n : ℕ). IsBlank (bare_from true (b ∷ bytes)) (b ∷ bytes) n) (sym none)
      (subst (λ (text : List ℕ). IsBlank text (b ∷ bytes) 0) (sym same) (blank_none (b ∷ bytes)))
  | inr more ↦
      let same : bare_from true (b ∷ bytes) ≡ 32 ∷ bare_from true bytes = ap (λ (t : Bool). if t then 10 ∷ bare_from false bytes else 32 ∷ bare_from true bytes) more in
      let len : rest_len (b ∷ bytes) ≡ 1 + rest_len bytes = ap (λ (t : Bool). cond (not t) (1 + rest_len bytes) 0) more in
      subst (λ (n : ℕ). IsBlank (bare_from true (b ∷ bytes)) (b ∷ bytes) n) (sym len)
      (subst (λ (text : List ℕ). IsBlank text (b ∷ bytes) (1 + rest_len bytes)) (sym same) (blank_more (bare_from true bytes) bytes b (rest_len bytes) (bare_rest bytes)))
]

-- a comment, with its semicolon
pub bare_comment : (bytes : List ℕ) → IsBlank (bare (59 ∷ bytes)) (59 ∷ bytes) (rest_len (59 ∷ bytes))
bare_comment bytes = blank_more (bare_from true bytes) bytes 59 (rest_len bytes) (bare_rest bytes)

-- how long the word is that bytes begin with
abbrev pub run_len : List ℕ → ℕ
run_len bytes = prefix_len is_in_word bytes

-- the same bytes of a word are in front, and behind them no comment is open
pub record IsSameWord (text bytes : List ℕ) : Type 0 where
  pub same_len : run_len text ≡ run_len bytes
  pub same_word : word_of text ≡ word_of bytes
  pub behind : drop (run_len bytes) text ≡ bare (drop (run_len bytes) bytes)

in_word_isnt : (b : ℕ) → is_in_word b ≡ true → b ≢ 59
in_word_isnt b is semicolon = cc is

word_none : (text bytes : List ℕ) → run_len text ≡ 0 → run_len bytes ≡ 0 → text ≡ bare bytes → IsSameWord text bytes
word_none text bytes none_text none_bytes same = record {
  same_len = none_text ∙ sym none_bytes;
  same_word = ap (λ (n : ℕ). map to_ascii_lowercase (take n text)) none_text ∙ sym (ap (λ (n : ℕ). map to_ascii_lowercase (take n bytes)) none_bytes);
  behind = ap (λ (n : ℕ). drop n text) none_bytes ∙ same ∙ sym (ap (λ (n : ℕ). bare (drop n bytes)) none_bytes);
}

abbrev pub run_by : Bool → List ℕ → ℕ
run_by t bytes = cond t (1 + run_len bytes) 0

pub bare_word : (bytes : List ℕ) → IsSameWord (bare bytes) bytes
bare_word [] = record { same_len = refl; same_word = refl; behind = refl }
bare_word (b ∷ bytes) = elim (cases_Bool (b == 59)) [
  | inl begins ↦
      let semicolon : b ≡ 59 = is_true b 59 begins in
      subst (λ (n : ℕ). IsSameWord (bare (n ∷ bytes)) (n ∷ bytes)) (sym semicolon)
      (word_none (32 ∷ bare_from true bytes) (59 ∷ bytes) refl refl refl)
  | inr other ↦
      let same : bare (b ∷ bytes) ≡ b ∷ bare bytes = ap (λ (t : Bool). if t then 32 ∷ bare_from true bytes else b ∷ bare_from false bytes) other in
      subst (λ (text : List ℕ). IsSameWord text (b ∷ bytes)) (sym same) (elim (cases_Bool (is_in_word b)) [
        | inl in_word ↦
            let so = bare_word bytes in
            let n = run_len bytes in
            let next : 1 + n ≡ suc n = omega arith in
            let len : run_len (b ∷ bytes) ≡ suc n = ap (λ (t : Bool). run_by t bytes) in_word ∙ next in
            let same_len : run_len (b ∷ bare bytes) ≡ suc n = ap (λ (t : Bool). run_by t (bare bytes)) in_word ∙ ap (λ (m : ℕ). 1 + m) so.same_len ∙ next in
            record {
              same_len = same_len ∙ sym len;
              same_word = ap (λ (m : ℕ). map to_ascii_lowercase (take m (b ∷ bare bytes))) same_len
                  ∙ ap (λ (w : List ℕ). to_ascii_lowercase b ∷ w) (ap (λ (m : ℕ). map to_ascii_lowercase (take m (bare bytes))) (sym so.same_len) ∙ so.same_word)
                  ∙ sym (ap (λ (m : ℕ). map to_ascii_lowercase (take m (b ∷ bytes))) len);
              behind = ap (λ (m : ℕ). drop m (b ∷ bare bytes)) len ∙ so.behind ∙ sym (ap (λ (m : ℕ). bare (drop m (b ∷ bytes))) len);
            }
        | inr not_in ↦ word_none (b ∷ bare bytes) (b ∷ bytes) (ap (λ (t : Bool). run_by t (bare bytes)) not_in) (ap (λ (t : Bool). run_by t bytes) not_in) (sym same)
      ])
]
