-- What is written of a plan is read back.
use Rattle.std.proofs.Common.{◌≡◌, ℕ, ◌+◌, ◌<◌, ◌^◌, ◌==◌, ◌&&◌, ◌||◌, Bool, true, false, List, [], ◌∷◌, ◌++◌, length, map, Option, Some, None, refl, sym, ◌∙◌, ap, arith, append_assoc}
use Rattle.std.specs.Prelude.{if◌then◌else◌, nat_le, nat_lt, slice_get, slice_index}
use Rattle.std.specs.Fmt.{decimal}
use Rattle.std.specs.List.{All, flat_map, list_all, list_any}
use Rattle.std.specs.Str.Parse.{digits_value}
use Rattle.std.proofs.lemmas.Bool.{and_parts, ltb-true, or_left}
use Rattle.std.proofs.lemmas.Bool.Decides.{nat_tests}
use Rattle.std.proofs.lemmas.List.Elements.{All-head, All-tail}
use Rattle.std.proofs.lemmas.List.Folds.{list_all-append}
use Rattle.name_table.specs.NameTable.{number_in, AreDistinct}
use Rattle.sexpr.specs.Bytes.{class_of, is_in_word}
use Rattle.sexpr.specs.Tokens.{Token, Open, Word, tokens, begins_word}
use Rattle.pddl_form.specs.declared.spot.Spot.{Spot}
use Rattle.pddl_form.specs.Judged.{Judged, good, bad, mapped, both, each}
use Rattle.pddl_form.specs.Gather.{joined}
use Rattle.pddl_form.specs.Names.{is_name}
use Rattle.pddl_task.specs.declared.parts.TaskParts.{TaskParts}
use Rattle.plan_form.specs.declared.plan.Part.{Part}
use Rattle.plan_text.specs.Lines.{Line, line_at, first_place, lines_from, is_foreign_class}
use Rattle.plan_text.specs.Written.{Call, Written, spot_at, with_name, closed_names, call_with, counted, written}
use Rattle.plan_text.specs.PlanText.{names_of, malformed, miscounted, is_miscount, count_judged, found_at, numbered, instance_with, call_judged, part_with, part_judged, only, form_judged, code_judged, line_judged, plan_judged}
use Rattle.plan_form.specs.Printed.{is_part_of, IsPlanOf, action_name, object_name, arguments_text, part_text, plan_text}
use Rattle.plan_text.specs.Laws.{is_spelled, AreSpelled, HasTextCount}
use Rattle.plan_text.proofs.Spelling.{is_low, IsWord, word_then, spelled_word, spelled_at, name_at, IsCountText, decimal_count}
use Rattle.plan_text.proofs.WrittenLines.{is_plain, all_code, none_foreign, plain_line}

-- ---- names

-- a word that is the name with this number
record IsNamed (names : List (List ℕ)) (k : ℕ) (name : List ℕ) : Type 0 where
  word : IsWord name
  begins : is_name name ≡ true
  number : number_in names name ≡ Some k

is_named : (names : List (List ℕ)) (k : ℕ) (name : List ℕ) → list_all is_spelled names ≡ true → AreDistinct names → slice_get names k ≡ Some name → IsNamed names k name
is_named names k name spelled distinct there =
    let word = spelled_word name (spelled_at names k name spelled there) in
    record { word = word.0; begins = word.1; number = distinct.own_number k name there }

numbered_good : (names : List (List ℕ)) (k place : ℕ) (name : List ℕ) → IsNamed names k name → numbered names (spot_at place name) ≡ good k
numbered_good names k place name named = ap (found_at place) named.number

-- ---- arguments

-- what stands after the name of an action
abbrev ending : TaskParts → List ℕ → List ℕ
ending task args = arguments_text task args ++ 41 ∷ []

ending_more : (task : TaskParts) (o : ℕ) (args : List ℕ) → ending task (o ∷ args) ≡ 32 ∷ (object_name task o ++ ending task args)
ending_more task o args = ap (λ (l : List ℕ). 32 ∷ l) (append_assoc (object_name task o) (arguments_text task args) (41 ∷ []))

no_word : (task : TaskParts) (args : List ℕ) → begins_word (ending task args) ≡ false
no_word task [] = refl
no_word task (o ∷ args) = refl

record ReadsArguments (task : TaskParts) (at : ℕ) (args : List ℕ) : Type 0 where
  spots : List Spot
  closed : closed_names (tokens at (ending task args)) ≡ Some spots
  judged : each (map (numbered (names_of task).objects) spots) ≡ good args

arguments_read : (task : TaskParts) → AreSpelled (names_of task) → (args : List ℕ) (at : ℕ) → list_all (λ o. nat_lt o (length task.objects)) args ≡ true → ReadsArguments task at args
arguments_read task spelled [] at all = record { spots = []; closed = refl; judged = refl }
arguments_read task spelled (o ∷ args) at all =
    let parts = and_parts (nat_lt o (length task.objects)) (list_all (λ p. nat_lt p (length task.objects)) args) all in
    let name = object_name task o in
    let named = is_named (names_of task).objects o name spelled.objects spelled.one_object (name_at (λ x. x.name) task.objects o (ltb-true o (length task.objects) parts.0)) in
    let end : ℕ = at + 1 + length name in
    let more = arguments_read task spelled args end parts.1 in
    let spot = spot_at (at + 1) name in
    record {
      spots = spot ∷ more.spots;
      closed =
          ap (λ (l : List ℕ). closed_names (tokens at l)) (ending_more task o args)
          ∙ ap closed_names (word_then (at + 1) name (ending task args) named.word (no_word task args))
          ∙ ap (λ (b : Bool). if b then with_name spot (closed_names (tokens end (ending task args))) else None) named.begins
          ∙ ap (with_name spot) more.closed;
      judged =
          ap (λ (j : Judged ℕ). both ◌∷◌ j (each (map (numbered (names_of task).objects) more.spots))) (numbered_good (names_of task).objects o (at + 1) name named)
          ∙ ap (mapped (λ (l : List ℕ). o ∷ l)) more.judged;
    }

-- ---- a part

-- the line of a part
abbrev part_code : TaskParts → Part → List ℕ
part_code task part = decimal part.count ++ (32 ∷ 40 ∷ (action_name task part.by.action ++ ending task part.by.args))

part_line : (task : TaskParts) (part : Part) (rest : List ℕ) → part_text task part ++ rest ≡ part_code task part ++ 10 ∷ rest
part_line task part rest =
    let front = decimal part.count in
    let call : List ℕ = 32 ∷ 40 ∷ (action_name task part.by.action ++ ending task part.by.args) in
    append_assoc front (call ++ 10 ∷ []) rest ∙ ap (λ (l : List ℕ). front ++ l) (append_assoc call (10 ∷ []) rest) ∙ sym (append_assoc front call (10 ∷ rest))

-- what its readers make of it
record ReadsPart (task : TaskParts) (at : ℕ) (part : Part) : Type 0 where
  first : Token
  more : List Token
  what : Written
  there : tokens at (part_code task part) ≡ first ∷ more
  is : written (first ∷ more) ≡ Some what
  judged : part_judged (names_of task) what ≡ good part

fine_test : (b v : ℕ) → 48 < b → v < 2 ^ 127 → (b == 48 || nat_le (2 ^ 127) v) ≡ false
fine_test b v large small = grind (arith, nat_tests)

count_fine : (n place : ℕ) (ds : List ℕ) → n < 2 ^ 127 → IsCountText n ds → count_judged (Some (spot_at place ds)) ≡ good n
unfolding is_miscount
count_fine n place ds small text =
    ap (λ (b : Bool). if b then bad (miscounted place) [] else good (digits_value 10 ds)) (fine_test (slice_index ds 0) (digits_value 10 ds) text.first (omega (arith, text.value, small)))
    ∙ ap good text.value

part_read : (task : TaskParts) → AreSpelled (names_of task) → (part : Part) (at : ℕ) → is_part_of task part ≡ true → HasTextCount part → ReadsPart task at part
part_read task spelled part at numbers count =
    let names = names_of task in
    let parts = and_parts (nat_lt part.by.action (length task.actions)) (list_all (λ o. nat_lt o (length task.objects)) part.by.args) numbers in
    let digits = decimal part.count in
    let text = decimal_count part.count count.0 count.1 in
    let name = action_name task part.by.action in
    let named = is_named names.actions part.by.action name spelled.actions spelled.one_action (name_at (λ a. a.name) task.actions part.by.action (ltb-true part.by.action (length task.actions) parts.0)) in
    let digits_end : ℕ = at + length digits in
    let start : ℕ = digits_end + 1 + 1 in
    let end : ℕ = start + length name in
    let args = arguments_read task spelled part.by.args end parts.1 in
    let rest : List Token = Word start end name ∷ tokens end (ending task part.by.args) in
    let spot = spot_at start name in
    let call : Call = record { name = spot; args = args.spots } in
    record {
      first = Word at digits_end digits;
      more = Open (digits_end + 1) ∷ rest;
      what = record { count = Some (spot_at at digits); call = call };
      there =
          word_then at digits (32 ∷ 40 ∷ (name ++ ending task part.by.args)) text.word refl
          ∙ ap (λ (ts : List Token). Word at digits_end digits ∷ Open (digits_end + 1) ∷ ts) (word_then start name (ending task part.by.args) named.word (no_word task part.by.args));
      is =
          ap (λ (b : Bool). if b then counted (Some (spot_at at digits)) (call_with (closed_names rest)) else None) text.count
          ∙ ap (λ (b : Bool). counted (Some (spot_at at digits)) (call_with (if b then with_name spot (closed_names (tokens end (ending task part.by.args))) else None))) named.begins
          ∙ ap (λ (o : Option (List Spot)). counted (Some (spot_at at digits)) (call_with (with_name spot o))) args.closed;
      judged =
          ap (λ (j : Judged ℕ). both part_with j (call_judged names call)) (count_fine part.count at digits count.1 text)
          ∙ ap (λ (j : Judged ℕ). mapped (part_with part.count) (both instance_with j (each (map (numbered names.objects) args.spots)))) (numbered_good names.actions part.by.action start name named)
          ∙ ap (λ (j : Judged (List ℕ)). mapped (part_with part.count) (mapped (instance_with part.by.action) j)) args.judged;
    }

-- ---- its line

low_plain : (b : ℕ) → is_low b ≡ true → is_plain b ≡ true
low_plain b low = or_left (is_in_word b) (b == 32 || (b == 40 || b == 41)) (and_parts (is_in_word b) _ low).0

word_plain : (word : List ℕ) → list_all is_low word ≡ true → list_all is_plain word ≡ true
word_plain [] all = refl
word_plain (b ∷ word) all =
    let parts = and_parts (is_low b) (list_all is_low word) all in
    ap (λ (t : Bool). t && list_all is_plain word) (low_plain b parts.0) ∙ word_plain word parts.1

after_plain : (word rest : List ℕ) → IsWord word → list_all is_plain rest ≡ true → list_all is_plain (word ++ rest) ≡ true
after_plain word rest is all = list_all-append is_plain word rest ∙ ap (λ (t : Bool). t && list_all is_plain rest) (word_plain word is.1) ∙ all

ending_plain : (task : TaskParts) → AreSpelled (names_of task) → (args : List ℕ) → list_all (λ o. nat_lt o (length task.objects)) args ≡ true → list_all is_plain (ending task args) ≡ true
ending_plain task spelled [] all = refl
ending_plain task spelled (o ∷ args) all =
    let parts = and_parts (nat_lt o (length task.objects)) (list_all (λ p. nat_lt p (length task.objects)) args) all in
    let name = object_name task o in
    let named = is_named (names_of task).objects o name spelled.objects spelled.one_object (name_at (λ x. x.name) task.objects o (ltb-true o (length task.objects) parts.0)) in
    ap (list_all is_plain) (ending_more task o args) ∙ after_plain name (ending task args) named.word (ending_plain task spelled args parts.1)

code_plain : (task : TaskParts) → AreSpelled (names_of task) → (part : Part) → is_part_of task part ≡ true → HasTextCount part → list_all is_plain (part_code task part) ≡ true
code_plain task spelled part numbers count =
    let parts = and_parts (nat_lt part.by.action (length task.actions)) (list_all (λ o. nat_lt o (length task.objects)) part.by.args) numbers in
    let text = decimal_count part.count count.0 count.1 in
    let name = action_name task part.by.action in
    let named = is_named (names_of task).actions part.by.action name spelled.actions spelled.one_action (name_at (λ a. a.name) task.actions part.by.action (ltb-true part.by.action (length task.actions) parts.0)) in
    after_plain (decimal part.count) (32 ∷ 40 ∷ (name ++ ending task part.by.args)) text.word
    (after_plain name (ending task part.by.args) named.word (ending_plain task spelled part.by.args parts.1))

line_read : (task : TaskParts) → AreSpelled (names_of task) → (part : Part) (at : ℕ) → is_part_of task part ≡ true → HasTextCount part → line_judged (names_of task) (line_at at (part_code task part)) ≡ good (part ∷ [])
unfolding line_judged
line_read task spelled part at numbers count =
    let names = names_of task in
    let code = part_code task part in
    let plain = code_plain task spelled part numbers count in
    let place = first_place (line_at at code) in
    let read = part_read task spelled part at numbers count in
    let by_code : List ℕ → Judged (List Part) = λ l. if list_any (λ b. is_foreign_class (class_of b)) l then bad (malformed place) [] else code_judged names place (tokens at l) in
    ap by_code (all_code code plain)
    ∙ ap (λ (t : Bool). if t then bad (malformed place) [] else code_judged names place (tokens at code)) (none_foreign code plain)
    ∙ ap (code_judged names place) read.there
    ∙ ap (form_judged names place) read.is
    ∙ ap (mapped only) read.judged

-- ---- the text

joined_more : (parts : List Part) (j : Judged (List (List Part))) → mapped joined (both ◌∷◌ (good parts) j) ≡ mapped (λ (l : List Part). parts ++ l) (mapped joined j)
joined_more parts (good lists) = refl
joined_more parts (bad f more) = refl

lines_read : (task : TaskParts) → AreSpelled (names_of task) → (plan : List Part) (at : ℕ) → IsPlanOf task plan → All HasTextCount plan
    → mapped joined (each (map (line_judged (names_of task)) (lines_from at (flat_map (part_text task) plan)))) ≡ good plan
unfolding line_judged
lines_read task spelled [] at numbers counts = refl
lines_read task spelled (part ∷ plan) at numbers counts =
    let form : Line → Judged (List Part) = line_judged (names_of task) in
    let all : List Line → Judged (List Part) = λ lines. mapped joined (each (map form lines)) in
    let parts = and_parts (is_part_of task part) (list_all (is_part_of task) plan) numbers in
    let count = All-head HasTextCount part plan counts in
    let rest = flat_map (part_text task) plan in
    let code = part_code task part in
    let next : ℕ = at + length code + 1 in
    ap (λ (l : List ℕ). all (lines_from at l)) (part_line task part rest)
    ∙ ap all (plain_line at code rest (code_plain task spelled part parts.0 count))
    ∙ ap (λ (j : Judged (List Part)). mapped joined (both ◌∷◌ j (each (map form (lines_from next rest))))) (line_read task spelled part at parts.0 count)
    ∙ joined_more (part ∷ []) (each (map form (lines_from next rest)))
    ∙ ap (mapped (λ (l : List Part). (part ∷ []) ++ l)) (lines_read task spelled plan next parts.1 (All-tail HasTextCount part plan counts))

pub round_trip : (task : TaskParts) (plan : List Part) → AreSpelled (names_of task) → IsPlanOf task plan → All HasTextCount plan → plan_judged (names_of task) (plan_text task plan) ≡ good plan
unfolding plan_judged plan_text
round_trip task plan spelled numbers counts = lines_read task spelled plan 0 numbers counts
