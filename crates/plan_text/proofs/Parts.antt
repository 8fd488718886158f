-- A part, from its count and its call.
use Rattle.std.proofs.Common.{◌≡◌, ℕ, ◌-◌, Bool, true, List, ◌∷◌, length, drop, take, Option, Some, None, sym, ◌∙◌, ap}
use Rattle.std.specs.Prelude.{if◌then◌else◌}
use Rattle.std.proofs.lemmas.List.{take_rest}
use Rattle.sexpr.specs.Bytes.{word_of}
use Rattle.pddl_form.specs.declared.fault.Fault.{Fault}
use Rattle.pddl_form.specs.Judged.{good}
use Rattle.pddl_form.specs.Gather.{option_both}
use Rattle.pddl_form.specs.Reading.{IsRead}
use Rattle.pddl_form.proofs.Loops.{read_good, read_as, read_both}
use Rattle.pddl_task.specs.declared.instance.Instance.{Instance}
use Rattle.plan_text.specs.declared.piece.Kind.{Kind}
use Rattle.plan_text.specs.declared.piece.Kind.TheVariants as kind
use Rattle.plan_text.specs.declared.piece.Piece.{Piece}
use Rattle.plan_form.specs.declared.plan.Part.{Part}
use Rattle.plan_text.specs.Written.{spot_at, is_count, closed_names, call_with, call_of, counted, after_count}
use Rattle.plan_text.specs.PlanText.{Names, count_judged, call_judged, part_with, part_judged}
use Rattle.plan_text.specs.inside.Pieces.{token_by, StandsFirst}
use Rattle.plan_text.specs.inside.Steps.{IsReadAs}
use Rattle.plan_text.proofs.Arguments.{tokens_after}

pub uncounted_read : (names : Names) (text : List ℕ) (from : ℕ) (old new : Option Fault) (by : Option Instance) (made : Option Part)
    → IsReadAs (call_with (closed_names (tokens_after text from))) (call_judged names) old new by → made ≡ option_both part_with (Some 1) by
    → IsReadAs (counted None (call_with (closed_names (tokens_after text from)))) (part_judged names) old new made
uncounted_read names text from old new by made call is = record {
  what = record { count = None; call = call.what };
  is = ap (counted None) call.is;
  read = read_as (part_judged names (record { count = None; call = call.what })) old new (option_both part_with (Some 1) by) made
      (read_both part_with (good 1) (call_judged names call.what) old old new (Some 1) by (read_good old 1) call.read) is;
}

-- a `(` after a word
open_call : (text : List ℕ) (at : ℕ) (p : Piece) → StandsFirst text at p → p.kind ≡ kind.Open → call_of (tokens_after text at) ≡ call_with (closed_names (tokens_after text p.end))
open_call text at p first is = ap call_of (first.is ∙ ap (λ (k : Kind). token_by k text p.start p.end ∷ tokens_after text p.end) is)

pub counted_read : (names : Names) (text : List ℕ) (start end : ℕ) (paren : Piece) (digits : List ℕ) (old mid new : Option Fault) (count : Option ℕ) (by : Option Instance) (made : Option Part)
    → digits ≡ word_of (take (length text - start) (drop start text)) → is_count digits ≡ true → StandsFirst text end paren → paren.kind ≡ kind.Open
    → IsRead (count_judged (Some (spot_at start digits))) old mid count → IsReadAs (call_with (closed_names (tokens_after text paren.end))) (call_judged names) mid new by
    → made ≡ option_both part_with count by → IsReadAs (after_count start (word_of (drop start text)) (tokens_after text end)) (part_judged names) old new made
counted_read names text start end paren digits old mid new count by made digits_are is first is_open count_read call is_made =
    let spot = Some (spot_at start digits) in
    let same : digits ≡ word_of (drop start text) = digits_are ∙ ap word_of (take_rest text start) in
    record {
      what = record { count = spot; call = call.what };
      is =
          ap (λ (word : List ℕ). after_count start word (tokens_after text end)) (sym same)
          ∙ ap (λ (b : Bool). if b then counted spot (call_of (tokens_after text end)) else None) is
          ∙ ap (counted spot) (open_call text end paren first is_open ∙ call.is);
      read = read_as (part_judged names (record { count = spot; call = call.what })) old new (option_both part_with count by) made
          (read_both part_with (count_judged spot) (call_judged names call.what) old mid new count by count_read call.read) is_made;
    }
