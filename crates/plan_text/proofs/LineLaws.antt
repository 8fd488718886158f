-- What a line adds.
use Rattle.std.proofs.Common.{◌≡◌, ℕ, ◌+◌, ◌-◌, ◌≤◌, ◌==◌, not, Bool, true, false, List, [], ◌++◌, length, drop, take, Option, Some, None, refl, sym, ◌∙◌, ap, subst, arith, length-drop}
use Rattle.std.specs.Prelude.{if◌then◌else◌, slice_range}
use Rattle.std.specs.Option.{option_map}
use Rattle.std.specs.List.{list_any, prefix_len, take_while}
use Rattle.std.proofs.lemmas.List.{append-nil, length-take, take-take, drop-take}
use Rattle.std.proofs.lemmas.List.Sums.{prefix_len-le-length}
use Rattle.sexpr.specs.Bytes.{class_of}
use Rattle.sexpr.specs.Tokens.{Token, tokens}
use Rattle.pddl_form.specs.declared.fault.Fault.{Fault}
use Rattle.pddl_form.specs.Faults.{first_with}
use Rattle.pddl_form.specs.Judged.{Judged, bad, noted, mapped}
use Rattle.pddl_form.specs.Gather.{option_both, push}
use Rattle.pddl_form.proofs.Judging.{syntax_of-mapped, noted-mapped, noted-good, noted-bad}
use Rattle.plan_text.specs.declared.line.Reading.{Reading}
use Rattle.plan_text.specs.declared.piece.Piece.{Piece}
use Rattle.plan_form.specs.declared.plan.Part.{Part}
use Rattle.plan_text.specs.Lines.{line_at, is_white_class, is_foreign_class}
use Rattle.plan_text.specs.Written.{written}
use Rattle.plan_text.specs.PlanText.{Names, malformed, only, part_judged, form_judged, code_judged, line_judged}
use Rattle.plan_text.specs.inside.Extending.{Extends}
use Rattle.plan_text.specs.inside.Pieces.{StandsFirst}
use Rattle.plan_text.specs.inside.Steps.{IsReadAs, with_first}
use Rattle.plan_text.proofs.Arguments.{tokens_after}
use Rattle.plan_text.proofs.Noting.{with_first-noted}

-- ---- the parts

none_after : (found : Option (List Part)) → found ≡ option_both ◌++◌ found (Some [])
none_after None = refl
none_after (Some parts) = ap Some (sym (append-nil parts))

fault_after : (found : Option (List Part)) → None ≡ option_both ◌++◌ found None
fault_after None = refl
fault_after (Some parts) = refl

one_after : (found : Option (List Part)) (part : Option Part) → option_both push found part ≡ option_both ◌++◌ found (option_map only part)
one_after None part = refl
one_after (Some parts) None = refl
one_after (Some parts) (Some part) = refl

pub line_refused : (old new : Reading) (f : Fault) → new.found ≡ None → new.faults ≡ Some (first_with old.faults f) → Extends (bad f []) old new
line_refused old new f none first = record {
  grown = none ∙ fault_after old.found;
  first = first ∙ sym (noted-bad (List Part) old.faults f);
}

pub code_empty : (names : Names) (place : ℕ) (text : List ℕ) (at : ℕ) (old : Reading) → tokens_after text at ≡ [] → Extends (code_judged names place (tokens_after text at)) old old
code_empty names place text at old end = subst (λ (ts : List Token). Extends (code_judged names place ts) old old) (sym end) (record {
  grown = none_after old.found;
  first = sym (noted-good {A = List Part} old.faults []);
})

some_code : (names : Names) (place : ℕ) (text : List ℕ) (at : ℕ) (p : Piece) → StandsFirst text at p → code_judged names place (tokens_after text at) ≡ form_judged names place (written (tokens_after text at))
some_code names place text at p first =
    ap (code_judged names place) first.is ∙ sym (ap (λ (ts : List Token). form_judged names place (written ts)) first.is)

pub code_read : (names : Names) (place : ℕ) (text : List ℕ) (at : ℕ) (p : Piece) (old new : Reading) (start inner : Option Fault) (part : Option Part)
    → StandsFirst text at p → start ≡ None → IsReadAs (written (tokens_after text at)) (part_judged names) start inner part
    → new.found ≡ option_both push old.found part → new.faults ≡ with_first old.faults inner → Extends (code_judged names place (tokens_after text at)) old new
code_read names place text at p old new start inner part first is_start read is_found is_first =
    let j = part_judged names read.what in
    let same : code_judged names place (tokens_after text at) ≡ mapped only j = some_code names place text at p first ∙ ap (form_judged names place) read.is in
    subst (λ (k : Judged (List Part)). Extends k old new) (sym same) (record {
      grown =
          is_found ∙ one_after old.found part
          ∙ ap (λ (o : Option Part). option_both ◌++◌ old.found (option_map only o)) read.read.syntax_is
          ∙ ap (option_both ◌++◌ old.found) (sym (syntax_of-mapped only j));
      first = is_first ∙ ap (with_first old.faults) (read.read.first_is ∙ ap (λ (o : Option Fault). noted o j) is_start) ∙ with_first-noted old.faults j ∙ sym (noted-mapped old.faults only j);
    })

-- ---- a line of a text

abbrev is_code : ℕ → Bool
is_code b = not (b == 59)

abbrev is_white : ℕ → Bool
is_white b = is_white_class (class_of b)

abbrev is_foreign : ℕ → Bool
is_foreign b = is_foreign_class (class_of b)

-- the bytes in front of a line's comment, in the text
pub record HasCode (bytes : List ℕ) (at end m : ℕ) : Type 0 where
  pub code : take (at + m - at) (drop at bytes) ≡ take_while is_code (slice_range bytes at end)
  pub front : drop at (take (at + m) bytes) ≡ take_while is_code (slice_range bytes at end)

range_len : (bytes : List ℕ) (at end : ℕ) → end ≤ length bytes → at ≤ end → length (slice_range bytes at end) ≡ end - at
range_len bytes at end within rises = omega (arith, length-take (end - at) (drop at bytes), length-drop at bytes)

pub has_code : (bytes : List ℕ) (at end m : ℕ) → at ≤ end → end ≤ length bytes → m ≡ prefix_len is_code (slice_range bytes at end) → HasCode bytes at end m
has_code bytes at end m rises within is =
    let line = slice_range bytes at end in
    let room = prefix_len-le-length is_code line in
    let len = range_len bytes at end within rises in
    let short : m ≤ end - at = omega (arith, is, room, len) in
    let rest : at + m - at ≡ m = omega arith in
    let same : take m (drop at bytes) ≡ take_while is_code line = sym (take-take m (end - at) (drop at bytes) short) ∙ ap (λ (n : ℕ). take n line) is in
    record {
      code = ap (λ (n : ℕ). take n (drop at bytes)) rest ∙ same;
      front = drop-take at m bytes ∙ same;
    }

pub line_foreign : (names : Names) (bytes : List ℕ) (at end n : ℕ) (code : List ℕ) (b : Bool) → n ≡ prefix_len is_white (slice_range bytes at end) → code ≡ take_while is_code (slice_range bytes at end)
    → b ≡ list_any is_foreign code → b ≡ true → line_judged names (line_at at (slice_range bytes at end)) ≡ bad (malformed (at + n)) []
unfolding line_judged
line_foreign names bytes at end n code b is_n code_is is so =
    let line = slice_range bytes at end in
    let test : list_any is_foreign (take_while is_code line) ≡ true = ap (list_any is_foreign) (sym code_is) ∙ sym is ∙ so in
    ap (λ (t : Bool). if t then bad (malformed (at + prefix_len is_white line)) [] else code_judged names (at + prefix_len is_white line) (tokens at (take_while is_code line))) test
    ∙ ap (λ (m : ℕ). bad (malformed (at + m)) []) (sym is_n)

pub line_fine : (names : Names) (bytes : List ℕ) (at end n : ℕ) (code front : List ℕ) (b : Bool) → n ≡ prefix_len is_white (slice_range bytes at end) → code ≡ take_while is_code (slice_range bytes at end)
    → drop at front ≡ take_while is_code (slice_range bytes at end) → b ≡ list_any is_foreign code → b ≡ false
    → line_judged names (line_at at (slice_range bytes at end)) ≡ code_judged names (at + n) (tokens_after front at)
unfolding line_judged
line_fine names bytes at end n code front b is_n code_is is_front is so =
    let line = slice_range bytes at end in
    let test : list_any is_foreign (take_while is_code line) ≡ false = ap (list_any is_foreign) (sym code_is) ∙ sym is ∙ so in
    ap (λ (t : Bool). if t then bad (malformed (at + prefix_len is_white line)) [] else code_judged names (at + prefix_len is_white line) (tokens at (take_while is_code line))) test
    ∙ ap (λ (m : ℕ). code_judged names (at + m) (tokens at (take_while is_code line))) (sym is_n)
    ∙ ap (λ (l : List ℕ). code_judged names (at + n) (tokens at l)) (sym is_front)
