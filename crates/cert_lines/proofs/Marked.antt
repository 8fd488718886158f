-- Lists of words that are read up to a `;`.
use Rattle.std.proofs.Common.{◌≡◌, Bool, true, false, List, [], ◌∷◌, ◌++◌, Result, Ok, Err, sym, ◌∙◌, ap}
use Rattle.std.specs.Prelude.{if◌then◌else◌}
use Rattle.cert_lines.specs.Pieces.{Piece}
use Rattle.cert_lines.specs.Spelled.{is_mark}
use Rattle.cert_lines.specs.Marks.{in_front, behind}
use Rattle.cert_lines.specs.Found.{Fault, each, Answers}
use Rattle.cert_lines.specs.declared.refusal.CertRefusal.{CertRefusal}
use Rattle.cert_lines.proofs.Lists.{behind_these, read_more, all_read, stops_by}

pub front_none : (p : Piece) (ps : List Piece) → is_mark p.bytes ≡ true → in_front (p ∷ ps) ≡ []
front_none p ps is = ap (λ (b : Bool). if b then [] else p ∷ in_front ps) is

pub front_next : (p : Piece) (ps : List Piece) → is_mark p.bytes ≡ false → in_front (p ∷ ps) ≡ p ∷ in_front ps
front_next p ps is = ap (λ (b : Bool). if b then [] else p ∷ in_front ps) is

pub behind_mark : (p : Piece) (ps : List Piece) → is_mark p.bytes ≡ true → behind (p ∷ ps) ≡ ps
behind_mark p ps is = ap (λ (b : Bool). if b then ps else behind ps) is

pub behind_next : (p : Piece) (ps : List Piece) → is_mark p.bytes ≡ false → behind (p ∷ ps) ≡ behind ps
behind_next p ps is = ap (λ (b : Bool). if b then ps else behind ps) is

-- what was read so far of the words in front of the `;`
pub record ReadSoFar {A : Type 0} (read : Piece → Result A Fault) (start now : List Piece) (done : List A) : Type 0 where
  pub whole : each read (in_front start) ≡ behind_these done (each read (in_front now))
  pub rest : behind start ≡ behind now

-- the `;` ends them
pub ended : {A : Type 0} (read : Piece → Result A Fault) (start now : List Piece) (done : List A) (p : Piece) (ps : List Piece) → ReadSoFar read start now done → now ≡ p ∷ ps → is_mark p.bytes ≡ true
    → (each read (in_front start) ≡ Ok done) × (ps ≡ behind start)
ended read start now done p ps far is mark = (
  far.whole ∙ ap (λ (l : List Piece). behind_these done (each read (in_front l))) is ∙ ap (λ (l : List Piece). behind_these done (each read l)) (front_none p ps mark) ∙ all_read done,
  sym (far.rest ∙ ap behind is ∙ behind_mark p ps mark),
)

-- the line's end ends them
pub ended_line : {A : Type 0} (read : Piece → Result A Fault) (start now after : List Piece) (done : List A) → ReadSoFar read start now done → now ≡ [] → after ≡ []
    → (each read (in_front start) ≡ Ok done) × (after ≡ behind start)
ended_line read start now after done far is none = (far.whole ∙ ap (λ (l : List Piece). behind_these done (each read (in_front l))) is ∙ all_read done, none ∙ sym (far.rest ∙ ap behind is))

-- one more is read
pub go_on : {A : Type 0} (read : Piece → Result A Fault) (start now : List Piece) (done : List A) (p : Piece) (ps : List Piece) (a : A) → ReadSoFar read start now done → now ≡ p ∷ ps → is_mark p.bytes ≡ false → read p ≡ Ok a
    → ReadSoFar read start ps (done ++ a ∷ [])
go_on read start now done p ps a far is mark found = record {
  whole =
      far.whole ∙ ap (λ (l : List Piece). behind_these done (each read (in_front l))) is ∙ ap (λ (l : List Piece). behind_these done (each read l)) (front_next p ps mark)
      ∙ read_more read done p (in_front ps) a found;
  rest = far.rest ∙ ap behind is ∙ behind_next p ps mark;
}

-- the first fault ends the reading
pub stopped : {A : Type 0} (read : Piece → Result A Fault) (start now : List Piece) (done : List A) (p : Piece) (ps : List Piece) (e : CertRefusal) → ReadSoFar read start now done → now ≡ p ∷ ps → is_mark p.bytes ≡ false
    → Answers {A = A} (read p) (Err e) → Answers {A = List A} (each read (in_front start)) (Err e)
stopped read start now done p ps e far is mark found =
    stops_by read done p (in_front ps) e (each read (in_front start)) found
    (far.whole ∙ ap (λ (l : List Piece). behind_these done (each read (in_front l))) is ∙ ap (λ (l : List Piece). behind_these done (each read l)) (front_next p ps mark))
