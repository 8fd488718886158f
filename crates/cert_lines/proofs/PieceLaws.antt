-- The first piece of some bytes, and those behind it.
use Rattle.std.proofs.Common.{◌≡◌, inl, inr, ℕ, suc, ◌+◌, ◌-◌, ◌<◌, ◌≤◌, ◌==◌, not, cond, Bool, true, false, List, [], ◌∷◌, length, drop, take, refl, sym, ◌∙◌, ap, arith, length-drop}
use Rattle.std.specs.Prelude.{if◌then◌else◌, slice_range}
use Rattle.std.specs.List.{position_or_len}
use Rattle.std.proofs.lemmas.Bool.{cases_Bool, false≢true}
use Rattle.std.proofs.lemmas.List.{drop-drop, take_rest, take_all}
use Rattle.cert_lines.specs.Pieces.{Piece, piece_at, longer, pieces}
use Rattle.cert_lines.specs.Remaining.{words_left}

-- how long the first piece is
abbrev pub first_len : ℕ → List ℕ → ℕ
first_len mark bytes = position_or_len (λ b. b == mark) bytes

first_step : (mark b : ℕ) (bytes : List ℕ) → (b == mark) ≡ false → first_len mark (b ∷ bytes) ≡ suc (first_len mark bytes)
first_step mark b bytes other =
    let next : 1 + first_len mark bytes ≡ suc (first_len mark bytes) = omega arith in ap (λ (t : Bool). cond (not t) (1 + first_len mark bytes) 0) other ∙ next

first_none : (mark b : ℕ) (bytes : List ℕ) → (b == mark) ≡ true → first_len mark (b ∷ bytes) ≡ 0
first_none mark b bytes feed = ap (λ (t : Bool). cond (not t) (1 + first_len mark bytes) 0) feed

pieces_by : (mark at b : ℕ) (bytes : List ℕ) (t : Bool) → (b == mark) ≡ t → pieces mark at (b ∷ bytes) ≡ (if t then piece_at at [] ∷ pieces mark (at + 1) bytes else longer at b (pieces mark (at + 1) bytes))
pieces_by mark at b bytes t is = ap (λ (u : Bool). if u then piece_at at [] ∷ pieces mark (at + 1) bytes else longer at b (pieces mark (at + 1) bytes)) is

-- the only piece
pub pieces_last : (mark at : ℕ) (bytes : List ℕ) → length bytes ≤ first_len mark bytes → pieces mark at bytes ≡ piece_at at bytes ∷ []
pieces_last mark at [] whole = refl
pieces_last mark at (b ∷ bytes) whole = elim (cases_Bool (b == mark)) [
  | inl feed ↦ let none = first_none mark b bytes feed in absurd (omega (arith, whole, none))
  | inr other ↦
      let step = first_step mark b bytes other in
      pieces_by mark at b bytes false other ∙ ap (longer at b) (pieces_last mark (at + 1) bytes (omega (arith, whole, step)))
]

-- a piece with another behind it
pub pieces_more : (mark at : ℕ) (bytes : List ℕ) → first_len mark bytes < length bytes
    → pieces mark at bytes ≡ piece_at at (take (first_len mark bytes) bytes) ∷ pieces mark (at + first_len mark bytes + 1) (drop (first_len mark bytes + 1) bytes)
pieces_more mark at [] within = absurd (omega (arith, within))
pieces_more mark at (b ∷ bytes) within =
    let pieces_at : ℕ → List Piece = λ n. piece_at at (take n (b ∷ bytes)) ∷ pieces mark (at + n + 1) (drop (n + 1) (b ∷ bytes)) in
    elim (cases_Bool (b == mark)) [
      | inl feed ↦
          let place : at + 1 ≡ at + 0 + 1 = omega arith in
          pieces_by mark at b bytes true feed ∙ ap (λ (p : ℕ). piece_at at [] ∷ pieces mark p bytes) place ∙ sym (ap pieces_at (first_none mark b bytes feed))
      | inr other ↦
          let n = first_len mark bytes in
          let step = first_step mark b bytes other in
          let place : at + 1 + n + 1 ≡ at + suc n + 1 = omega arith in
          let next : suc (n + 1) ≡ suc n + 1 = omega arith in
          pieces_by mark at b bytes false other
          ∙ ap (longer at b) (pieces_more mark (at + 1) bytes (omega (arith, within, step)))
          ∙ ap (λ (p : ℕ). piece_at at (b ∷ take n bytes) ∷ pieces mark p (drop (n + 1) bytes)) place
          ∙ ap (λ (m : ℕ). piece_at at (b ∷ take n bytes) ∷ pieces mark (at + suc n + 1) (drop m (b ∷ bytes))) next
          ∙ sym (ap pieces_at step)
    ]

-- the piece at a place
abbrev pub piece_in : List ℕ → ℕ → ℕ → Piece
piece_in bytes at end = piece_at at (slice_range bytes at end)

record EndsAt (mark : ℕ) (bytes : List ℕ) (at n : ℕ) : Type 0 where
  len : n ≡ first_len mark (drop at bytes)
  piece : slice_range bytes at (at + n) ≡ take n (drop at bytes)

ends_at : (mark : ℕ) (bytes : List ℕ) (at n : ℕ) → n ≡ first_len mark (take (length bytes - at) (drop at bytes)) → EndsAt mark bytes at n
ends_at mark bytes at n is =
    let rest : at + n - at ≡ n = omega arith in
    record {
      len = is ∙ ap (first_len mark) (take_rest bytes at);
      piece = ap (λ (m : ℕ). take m (drop at bytes)) rest;
    }

pub more_pieces : (mark : ℕ) (bytes : List ℕ) (at n : ℕ) → n ≡ first_len mark (take (length bytes - at) (drop at bytes)) → at + n < length bytes
    → pieces mark at (drop at bytes) ≡ piece_in bytes at (at + n) ∷ pieces mark (at + n + 1) (drop (at + n + 1) bytes)
more_pieces mark bytes at n is more =
    let ends = ends_at mark bytes at n is in
    let rest = drop at bytes in
    let place : at + (n + 1) ≡ at + n + 1 = omega arith in
    pieces_more mark at rest (omega (arith, ends.len, more, length-drop at bytes))
    ∙ sym (ap (λ (m : ℕ). piece_at at (take m rest) ∷ pieces mark (at + m + 1) (drop (m + 1) rest)) ends.len)
    ∙ ap (λ (l : List ℕ). piece_at at l ∷ pieces mark (at + n + 1) (drop (n + 1) rest)) (sym ends.piece)
    ∙ ap (λ (l : List ℕ). piece_in bytes at (at + n) ∷ pieces mark (at + n + 1) l) (drop-drop (n + 1) at bytes ∙ ap (λ (m : ℕ). drop m bytes) place)

pub last_piece : (mark : ℕ) (bytes : List ℕ) (at n : ℕ) → n ≡ first_len mark (take (length bytes - at) (drop at bytes)) → length bytes ≤ at + n
    → pieces mark at (drop at bytes) ≡ piece_in bytes at (at + n) ∷ []
last_piece mark bytes at n is end =
    let ends = ends_at mark bytes at n is in
    let rest = drop at bytes in
    let room : length rest ≤ n = omega (arith, end, length-drop at bytes) in
    pieces_last mark at rest (omega (arith, room, ends.len)) ∙ ap (λ (l : List ℕ). piece_at at l ∷ []) (sym (ends.piece ∙ take_all n rest room))

-- what is left of a line behind its next word
pub next_taken : (done : Bool) (text : List ℕ) (at n : ℕ) → done ≡ false → n ≡ first_len 32 (take (length text - at) (drop at text)) → at + n < length text
    → words_left done at text ≡ piece_in text at (at + n) ∷ words_left done (at + n + 1) text
next_taken true text at n going is more = absurd (false≢true (sym going))
next_taken false text at n going is more = more_pieces 32 text at n is more

-- the last word
pub last_left : (done : Bool) (text : List ℕ) (at n : ℕ) → done ≡ false → n ≡ first_len 32 (take (length text - at) (drop at text)) → length text ≤ at + n
    → words_left done at text ≡ piece_in text at (at + n) ∷ []
last_left true text at n going is end = absurd (false≢true (sym going))
last_left false text at n going is end = last_piece 32 text at n is end
