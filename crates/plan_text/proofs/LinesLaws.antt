-- The lines of a text, one after another.
use Rattle.std.proofs.Common.{◌≡◌, inl, inr, ℕ, suc, ◌+◌, ◌-◌, ◌<◌, ◌≤◌, ◌==◌, not, cond, Bool, true, false, List, [], ◌∷◌, ◌++◌, length, drop, take, map, Option, Some, None, refl, sym, ◌∙◌, ap, subst, arith, append_assoc, length-drop}
use Rattle.std.specs.Prelude.{if◌then◌else◌, slice_range}
use Rattle.std.specs.List.{position_or_len}
use Rattle.std.proofs.lemmas.Bool.{cases_Bool}
use Rattle.std.proofs.lemmas.List.{drop-drop, map_push, take_rest, take_all}
use Rattle.pddl_form.specs.declared.fault.Fault.{Fault}
use Rattle.pddl_form.specs.Judged.{Judged, good, syntax_of, noted, mapped, both, each}
use Rattle.pddl_form.specs.Gather.{option_both, joined}
use Rattle.pddl_form.specs.Reading.{IsRead}
use Rattle.pddl_form.proofs.Judging.{joined-each-push}
use Rattle.pddl_form.proofs.Loops.{read_good, read_as, read_both}
use Rattle.plan_text.specs.declared.line.Reading.{Reading}
use Rattle.plan_form.specs.declared.plan.Part.{Part}
use Rattle.plan_text.specs.Lines.{Line, line_at, longer, lines_from}
use Rattle.plan_text.specs.PlanText.{Names, line_judged, plan_judged}
use Rattle.plan_text.specs.inside.Extending.{Extends}

-- how long the first line is
abbrev pub first_len : List ℕ → ℕ
first_len bytes = position_or_len (λ b. b == 10) bytes

first_step : (b : ℕ) (bytes : List ℕ) → (b == 10) ≡ false → first_len (b ∷ bytes) ≡ suc (first_len bytes)
first_step b bytes other = let next : 1 + first_len bytes ≡ suc (first_len bytes) = omega arith in ap (λ (t : Bool). cond (not t) (1 + first_len bytes) 0) other ∙ next

first_none : (b : ℕ) (bytes : List ℕ) → (b == 10) ≡ true → first_len (b ∷ bytes) ≡ 0
first_none b bytes feed = ap (λ (t : Bool). cond (not t) (1 + first_len bytes) 0) feed

lines_by : (at b : ℕ) (bytes : List ℕ) (t : Bool) → (b == 10) ≡ t → lines_from at (b ∷ bytes) ≡ (if t then line_at at [] ∷ lines_from (at + 1) bytes else longer at b (lines_from (at + 1) bytes))
lines_by at b bytes t is = ap (λ (u : Bool). if u then line_at at [] ∷ lines_from (at + 1) bytes else longer at b (lines_from (at + 1) bytes)) is

-- the only line
pub lines_last : (at : ℕ) (bytes : List ℕ) → length bytes ≤ first_len bytes → lines_from at bytes ≡ line_at at bytes ∷ []
lines_last at [] whole = refl
lines_last at (b ∷ bytes) whole = elim (cases_Bool (b == 10)) [
  | inl feed ↦ let none = first_none b bytes feed in absurd (omega (arith, whole, none))
  | inr other ↦
      let step = first_step b bytes other in
      lines_by at b bytes false other ∙ ap (longer at b) (lines_last (at + 1) bytes (omega (arith, whole, step)))
]

-- a line with another after it
pub lines_more : (at : ℕ) (bytes : List ℕ) → first_len bytes < length bytes
    → lines_from at bytes ≡ line_at at (take (first_len bytes) bytes) ∷ lines_from (at + first_len bytes + 1) (drop (first_len bytes + 1) bytes)
lines_more at [] within = absurd (omega (arith, within))
lines_more at (b ∷ bytes) within =
    let lines_at : ℕ → List Line = λ n. line_at at (take n (b ∷ bytes)) ∷ lines_from (at + n + 1) (drop (n + 1) (b ∷ bytes)) in
    elim (cases_Bool (b == 10)) [
      | inl feed ↦
          let place : at + 1 ≡ at + 0 + 1 = omega arith in
          lines_by at b bytes true feed ∙ ap (λ (p : ℕ). line_at at [] ∷ lines_from p bytes) place ∙ sym (ap lines_at (first_none b bytes feed))
      | inr other ↦
          let n = first_len bytes in
          let step = first_step b bytes other in
          let place : at + 1 + n + 1 ≡ at + suc n + 1 = omega arith in
          let next : suc (n + 1) ≡ suc n + 1 = omega arith in
          lines_by at b bytes false other
          ∙ ap (longer at b) (lines_more (at + 1) bytes (omega (arith, within, step)))
          ∙ ap (λ (p : ℕ). line_at at (b ∷ take n bytes) ∷ lines_from p (drop (n + 1) bytes)) place
          ∙ ap (λ (m : ℕ). line_at at (b ∷ take n bytes) ∷ lines_from (at + suc n + 1) (drop m (b ∷ bytes))) next
          ∙ sym (ap lines_at step)
    ]

-- the lines in front of a place where a line begins
pub record LinesSoFar (names : Names) (bytes : List ℕ) (at : ℕ) (reading : Reading) : Type 0 where
  pub within : at ≤ length bytes
  pub done : List Line
  pub whole : done ++ lines_from at (drop at bytes) ≡ lines_from 0 bytes
  pub are_read : IsRead (mapped joined (each (map (line_judged names) done))) None reading.faults reading.found

pub no_lines : (names : Names) (bytes : List ℕ) (reading : Reading) (found : List Part) → reading.found ≡ Some found → found ≡ [] → reading.faults ≡ None → LinesSoFar names bytes 0 reading
no_lines names bytes reading found is none no_fault = record {
  within = omega arith;
  done = [];
  whole = refl;
  are_read =
      subst (λ (f : Option Fault). IsRead {A = List Part} (good []) None f reading.found) (sym no_fault)
      (read_as (good []) None None (Some []) reading.found (read_good None []) (is ∙ ap Some none));
}

line_read : (names : Names) (done : List Line) (line : Line) (old new : Reading) → IsRead (mapped joined (each (map (line_judged names) done))) None old.faults old.found → Extends (line_judged names line) old new
    → IsRead (mapped joined (each (map (line_judged names) (done ++ line ∷ [])))) None new.faults new.found
line_read names done line old new so_far more =
    let form : Line → Judged (List Part) = line_judged names in
    let js = map form done in
    let j = form line in
    let all : mapped joined (each (map form (done ++ line ∷ []))) ≡ both ◌++◌ (mapped joined (each js)) j = ap (λ (l : List (Judged (List Part))). mapped joined (each l)) (map_push form done line) ∙ joined-each-push js j in
    subst (λ (k : Judged (List Part)). IsRead k None new.faults new.found) (sym all)
    (subst (λ (f : Option Fault). IsRead (both ◌++◌ (mapped joined (each js)) j) None f new.found) (sym more.first)
    (read_as (both ◌++◌ (mapped joined (each js)) j) None (noted old.faults j) (option_both ◌++◌ old.found (syntax_of j)) new.found
    (read_both ◌++◌ (mapped joined (each js)) j None old.faults (noted old.faults j) old.found (syntax_of j) so_far (record { syntax_is = refl; first_is = refl })) more.grown))

-- the line at a place
abbrev line_of : List ℕ → ℕ → ℕ → Line
line_of bytes at end = line_at at (slice_range bytes at end)

pub record EndsAt (bytes : List ℕ) (at n : ℕ) : Type 0 where
  pub len : n ≡ first_len (drop at bytes)
  pub line : slice_range bytes at (at + n) ≡ take n (drop at bytes)

pub ends_at : (bytes : List ℕ) (at n : ℕ) → n ≡ first_len (take (length bytes - at) (drop at bytes)) → EndsAt bytes at n
ends_at bytes at n is =
    let rest : at + n - at ≡ n = omega arith in
    record {
      len = is ∙ ap first_len (take_rest bytes at);
      line = ap (λ (m : ℕ). take m (drop at bytes)) rest;
    }

pub one_more_line : (names : Names) (bytes : List ℕ) (at n : ℕ) (old new : Reading) → LinesSoFar names bytes at old → n ≡ first_len (take (length bytes - at) (drop at bytes)) → at + n < length bytes
    → Extends (line_judged names (line_of bytes at (at + n))) old new → LinesSoFar names bytes (at + n + 1) new
one_more_line names bytes at n old new so_far is more extends =
    let ends = ends_at bytes at n is in
    let rest = drop at bytes in
    let place : at + (n + 1) ≡ at + n + 1 = omega arith in
    let first : lines_from at rest ≡ line_of bytes at (at + n) ∷ lines_from (at + n + 1) (drop (at + n + 1) bytes) =
    lines_more at rest (omega (arith, ends.len, more, length-drop at bytes))
    ∙ sym (ap (λ (m : ℕ). line_at at (take m rest) ∷ lines_from (at + m + 1) (drop (m + 1) rest)) ends.len)
    ∙ ap (λ (l : List ℕ). line_at at l ∷ lines_from (at + n + 1) (drop (n + 1) rest)) (sym ends.line)
    ∙ ap (λ (l : List ℕ). line_of bytes at (at + n) ∷ lines_from (at + n + 1) l) (drop-drop (n + 1) at bytes ∙ ap (λ (m : ℕ). drop m bytes) place) in
    record {
      within = omega (arith, more);
      done = so_far.done ++ line_of bytes at (at + n) ∷ [];
      whole =
          append_assoc so_far.done (line_of bytes at (at + n) ∷ []) (lines_from (at + n + 1) (drop (at + n + 1) bytes))
          ∙ ap (λ (ls : List Line). so_far.done ++ ls) (sym first) ∙ so_far.whole;
      are_read = line_read names so_far.done (line_of bytes at (at + n)) old new so_far.are_read extends;
    }

pub last_line : (names : Names) (bytes : List ℕ) (at n : ℕ) (old new : Reading) → LinesSoFar names bytes at old → n ≡ first_len (take (length bytes - at) (drop at bytes)) → length bytes ≤ at + n
    → Extends (line_judged names (line_of bytes at (at + n))) old new → IsRead (plan_judged names bytes) None new.faults new.found
unfolding plan_judged
last_line names bytes at n old new so_far is end extends =
    let ends = ends_at bytes at n is in
    let rest = drop at bytes in
    let room : length rest ≤ n = omega (arith, end, length-drop at bytes) in
    let last : lines_from at rest ≡ line_of bytes at (at + n) ∷ [] =
    lines_last at rest (omega (arith, room, ends.len)) ∙ ap (λ (l : List ℕ). line_at at l ∷ []) (sym (ends.line ∙ take_all n rest room)) in
    let all : so_far.done ++ line_of bytes at (at + n) ∷ [] ≡ lines_from 0 bytes = ap (λ (ls : List Line). so_far.done ++ ls) (sym last) ∙ so_far.whole in
    subst (λ (ls : List Line). IsRead (mapped joined (each (map (line_judged names) ls))) None new.faults new.found) all
    (line_read names so_far.done (line_of bytes at (at + n)) old new so_far.are_read extends)
