-- A plan that a text spells: each part is made at least once, and its numbers are those of actions and objects.
use Rattle.std.proofs.Common.{◌≡◌, ◌≢◌, ℕ, ◌+◌, ◌*◌, ◌≤◌, ◌==◌, ◌&&◌, ◌||◌, ◌^◌, Bool, true, false, List, [], ◌∷◌, length, map, Option, Some, None, refl, sym, ◌∙◌, ap, subst, arith}
use Rattle.std.specs.Prelude.{if◌then◌else◌, nat_le, nat_lt, slice_index}
use Rattle.std.specs.Char.{is_ascii_digit, digit_value}
use Rattle.std.specs.List.{list_all}
use Rattle.std.specs.Str.{bytes_eq}
use Rattle.std.specs.Str.Parse.{digits_value, digits_value_after}
use Rattle.std.proofs.lemmas.Bool.{lt-ltb, le-leb}
use Rattle.std.proofs.lemmas.Bool.Decides.{nat_tests}
use Rattle.std.proofs.lemmas.List.{length-map}
use Rattle.std.proofs.lemmas.List.Folds.{list_all-append}
use Rattle.std.proofs.lemmas.List.Quantifiers.{position-Some}
use Rattle.name_table.specs.NameTable.{number_in}
use Rattle.sexpr.specs.Tokens.{Token, Open, Close, Word, tokens}
use Rattle.pddl_form.specs.declared.spot.Spot.{Spot}
use Rattle.pddl_form.specs.Judged.{Judged, good, bad, mapped, both, each}
use Rattle.pddl_form.specs.Gather.{joined}
use Rattle.pddl_task.specs.declared.instance.Instance.{Instance}
use Rattle.pddl_task.specs.declared.parts.TaskParts.{TaskParts}
use Rattle.plan_form.specs.declared.plan.Part.{Part}
use Rattle.plan_text.specs.Lines.{Line, lines_from, code_of, first_place, has_foreign}
use Rattle.plan_text.specs.Written.{Call, Written, is_count, call_of, counted, written}
use Rattle.plan_text.specs.PlanText.{Names, names_of, malformed, is_miscount, count_judged, found_at, numbered, instance_with, call_judged, part_with, part_judged, only, form_judged, code_judged, line_judged, plan_judged}
use Rattle.plan_form.specs.Printed.{is_part_of, AreCounted, IsPlanOf}

-- ---- what is good

is_good : {A : Type 0} (x y : A) → good x ≡ good y → x ≡ y
is_good x y same = cc

pub record BothGood {A B C : Type 0} (g : A → B → C) (a : Judged A) (b : Judged B) (z : C) : Type 0 where
  pub left : A
  pub right : B
  pub left_is : a ≡ good left
  pub right_is : b ≡ good right
  pub made : g left right ≡ z

pub both_good : {A B C : Type 0} (g : A → B → C) (a : Judged A) (b : Judged B) (z : C) → both g a b ≡ good z → BothGood g a b z
both_good g (good x) (good y) z is = record { left = x; right = y; left_is = refl; right_is = refl; made = is_good (g x y) z is }
both_good g (good x) (bad f more) z is = absurd (cc is)
both_good g (bad f more) b z is = absurd (cc is)

pub mapped_good : {A B : Type 0} (g : A → B) (j : Judged A) (z : B) → mapped g j ≡ good z → (x : A) × (j ≡ good x) × (g x ≡ z)
mapped_good g (good x) z is = (x, refl, is_good (g x) z is)
mapped_good g (bad f more) z is = absurd (cc is)

-- what holds of each part
each_good : {X A : Type 0} (form : X → Judged A) (test : A → Bool) → ((x : X) (a : A) → form x ≡ good a → test a ≡ true) → (xs : List X) (found : List A) → each (map form xs) ≡ good found → list_all test found ≡ true
each_good form test holds [] found is = ap (list_all test) (sym (is_good [] found is))
each_good form test holds (x ∷ xs) found is =
    let parts = both_good ◌∷◌ (form x) (each (map form xs)) found is in
    ap (list_all test) (sym parts.made) ∙ ap (λ (b : Bool). b && list_all test parts.right) (holds x parts.left parts.left_is) ∙ each_good form test holds xs parts.right parts.right_is

joined_good : {A : Type 0} (test : A → Bool) (lists : List (List A)) → list_all (λ l. list_all test l) lists ≡ true → list_all test (joined lists) ≡ true
joined_good test [] all = refl
joined_good test (l ∷ lists) all =
    let here : list_all test l ≡ true = left_true (list_all test l) (list_all (λ m. list_all test m) lists) all in
    let more : list_all (λ m. list_all test m) lists ≡ true = ap (λ (b : Bool). b && list_all (λ m. list_all test m) lists) (sym here) ∙ all in
    list_all-append test l (joined lists) ∙ ap (λ (b : Bool). b && list_all test (joined lists)) here ∙ joined_good test lists more
  where
    left_true : (a b : Bool) → (a && b) ≡ true → a ≡ true
    left_true true b is = refl
    left_true false b is = is

-- ---- a part

value_grows : (n : ℕ) (ds : List ℕ) → n ≤ digits_value_after 10 n ds
value_grows n [] = omega arith
value_grows n (d ∷ ds) = omega (arith, value_grows (n * 10 + digit_value d) ds)

digit_some : (d : ℕ) → is_ascii_digit d ≡ true → d ≢ 48 → 1 ≤ digit_value d
digit_some d is other = grind (arith, nat_tests)

value_some : (ds : List ℕ) → is_count ds ≡ true → (slice_index ds 0 == 48) ≡ false → 1 ≤ digits_value 10 ds
value_some [] is other = cc
value_some (d ∷ ds) is other =
    let digit : is_ascii_digit d ≡ true = left_true (is_ascii_digit d) (list_all is_ascii_digit ds) is in
    let no_zero : d ≢ 48 = λ same. isnt d other same in
    omega (arith, digit_some d digit no_zero, value_grows (0 * 10 + digit_value d) ds)
  where
    left_true : (a b : Bool) → (a && b) ≡ true → a ≡ true
    left_true true b so = refl
    left_true false b so = so

    isnt : (n : ℕ) → (n == 48) ≡ false → n ≡ 48 → ⊥
    isnt n other same = grind (arith, nat_tests)

-- the digits of a count, where it is written
abbrev IsSpelled : Option Spot → Type 0
IsSpelled None = Unit {0}
IsSpelled (Some spot) = is_count spot.text ≡ true

count_good : (count : Option Spot) (n : ℕ) → IsSpelled count → count_judged count ≡ good n → 1 ≤ n
unfolding is_miscount
count_good None n spelled is = omega (arith, is_good 1 n is)
count_good (Some spot) n spelled is = by_test (slice_index spot.text 0 == 48 || nat_le (2 ^ 127) (digits_value 10 spot.text)) refl is
  where
    first_false : (a b : Bool) → (a || b) ≡ false → a ≡ false
    first_false true b so = so
    first_false false b so = refl

    by_test : (t : Bool) → is_miscount spot.text ≡ t → (if t then bad (record { kind = 18; place = spot.place; word = [] }) [] else good (digits_value 10 spot.text)) ≡ good n → 1 ≤ n
    by_test true test so = absurd (cc so)
    by_test false test so =
        let same : digits_value 10 spot.text ≡ n = is_good (digits_value 10 spot.text) n so in
        omega (arith, same, value_some spot.text spelled (first_false (slice_index spot.text 0 == 48) (nat_le (2 ^ 127) (digits_value 10 spot.text)) test))

counted_count : (count : Option Spot) (call : Option Call) (w : Written) → IsSpelled count → counted count call ≡ Some w → IsSpelled w.count
counted_count count None w spelled is = absurd (cc is)
counted_count count (Some call) w spelled is = let same : count ≡ w.count = ap count_of (some_is is) in subst IsSpelled same spelled
  where
    some_is : {x y : Written} → Some x ≡ Some y → x ≡ y
    some_is e = cc

    count_of : Written → Option Spot
    count_of v = v.count

written_count : (ts : List Token) (w : Written) → written ts ≡ Some w → IsSpelled w.count
written_count [] w is = absurd (cc is)
written_count (Open at ∷ more) w is = counted_count None (call_of (Open at ∷ more)) w tt is
written_count (Close end ∷ more) w is = absurd (cc is)
written_count (Word start end text ∷ more) w is = by_test (is_count text) refl is
  where
    by_test : (b : Bool) → is_count text ≡ b → (if b then counted (Some (record { text = text; place = start })) (call_of more) else None) ≡ Some w → IsSpelled w.count
    by_test true test so = counted_count (Some (record { text = text; place = start })) (call_of more) w test so
    by_test false test so = absurd (cc so)

number_good : (names : List (List ℕ)) (spot : Spot) (n : ℕ) → numbered names spot ≡ good n → nat_lt n (length names) ≡ true
number_good names spot n is = by_number (number_in names spot.text) refl is
  where
    by_number : (o : Option ℕ) → number_in names spot.text ≡ o → found_at spot.place o ≡ good n → nat_lt n (length names) ≡ true
    by_number None found so = absurd (cc so)
    by_number (Some k) found so = let within = position-Some (bytes_eq spot.text) names k [] found in lt-ltb n (length names) (omega (arith, within.0, is_good k n so))

-- a part with such numbers
abbrev is_fine : Names → Part → Bool
is_fine names part = nat_le 1 part.count && (nat_lt part.by.action (length names.actions) && list_all (λ o. nat_lt o (length names.objects)) part.by.args)

part_good : (names : Names) (w : Written) (part : Part) → IsSpelled w.count → part_judged names w ≡ good part → is_fine names part ≡ true
part_good names w part spelled is =
    let parts = both_good part_with (count_judged w.count) (call_judged names w.call) part is in
    let call = both_good instance_with (numbered names.actions w.call.name) (each (map (numbered names.objects) w.call.args)) parts.right parts.right_is in
    let some : nat_le 1 parts.left ≡ true = le-leb 1 parts.left (count_good w.count parts.left spelled parts.left_is) in
    let action : nat_lt call.left (length names.actions) ≡ true = number_good names.actions w.call.name call.left call.left_is in
    let args : list_all (λ o. nat_lt o (length names.objects)) call.right ≡ true =
    each_good (numbered names.objects) (λ o. nat_lt o (length names.objects)) (number_good names.objects) w.call.args call.right call.right_is in
    ap (is_fine names) (sym parts.made)
    ∙ ap (λ (by : Instance). is_fine names (part_with parts.left by)) (sym call.made)
    ∙ ap (λ (b : Bool). b && (nat_lt call.left (length names.actions) && list_all (λ o. nat_lt o (length names.objects)) call.right)) some
    ∙ ap (λ (b : Bool). b && list_all (λ o. nat_lt o (length names.objects)) call.right) action
    ∙ args

-- ---- a line and a text

form_good : (names : Names) (place : ℕ) (ts : List Token) (parts : List Part) → form_judged names place (written ts) ≡ good parts → list_all (is_fine names) parts ≡ true
form_good names place ts parts is = by_written (written ts) refl is
  where
    by_written : (o : Option Written) → written ts ≡ o → form_judged names place o ≡ good parts → list_all (is_fine names) parts ≡ true
    by_written None found so = absurd (cc so)
    by_written (Some w) found so =
        let one = mapped_good only (part_judged names w) parts so in
        ap (list_all (is_fine names)) (sym one.2) ∙ ap (λ (b : Bool). b && true) (part_good names w one.0 (written_count ts w found) one.1)

code_good : (names : Names) (place : ℕ) (ts : List Token) (parts : List Part) → code_judged names place ts ≡ good parts → list_all (is_fine names) parts ≡ true
code_good names place [] parts is = ap (list_all (is_fine names)) (sym (is_good [] parts is))
code_good names place (t ∷ more) parts is = form_good names place (t ∷ more) parts is

line_good : (names : Names) (line : Line) (parts : List Part) → line_judged names line ≡ good parts → list_all (is_fine names) parts ≡ true
unfolding line_judged
line_good names line parts is = by_test (has_foreign line) is
  where
    by_test : (b : Bool) → (if b then bad (malformed (first_place line)) [] else code_judged names (first_place line) (tokens line.at (code_of line))) ≡ good parts → list_all (is_fine names) parts ≡ true
    by_test true so = absurd (cc so)
    by_test false so = code_good names (first_place line) (tokens line.at (code_of line)) parts so

plan_good : (names : Names) (bytes : List ℕ) (plan : List Part) → plan_judged names bytes ≡ good plan → list_all (is_fine names) plan ≡ true
unfolding plan_judged
plan_good names bytes plan is =
    let lists = mapped_good joined (each (map (line_judged names) (lines_from 0 bytes))) plan is in
    ap (list_all (is_fine names)) (sym lists.2)
    ∙ joined_good (is_fine names) lists.0 (each_good (line_judged names) (λ l. list_all (is_fine names) l) (line_good names) (lines_from 0 bytes) lists.0 lists.1)

-- a test follows from another, at each part
all_from : (p q : Part → Bool) → ((part : Part) → p part ≡ true → q part ≡ true) → (plan : List Part) → list_all p plan ≡ true → list_all q plan ≡ true
all_from p q follows [] all = refl
all_from p q follows (part ∷ plan) all =
    let here : p part ≡ true = left_true (p part) (list_all p plan) all in
    let more : list_all p plan ≡ true = ap (λ (b : Bool). b && list_all p plan) (sym here) ∙ all in
    ap (λ (b : Bool). b && list_all q plan) (follows part here) ∙ all_from p q follows plan more
  where
    left_true : (a b : Bool) → (a && b) ≡ true → a ≡ true
    left_true true b is = refl
    left_true false b is = is

pub good_is_counted : (names : Names) (bytes : List ℕ) (plan : List Part) → plan_judged names bytes ≡ good plan → AreCounted plan
good_is_counted names bytes plan is = all_from (is_fine names) (λ part. nat_le 1 part.count) (λ part fine. left_true (nat_le 1 part.count) _ fine) plan (plan_good names bytes plan is)
  where
    left_true : (a b : Bool) → (a && b) ≡ true → a ≡ true
    left_true true b so = refl
    left_true false b so = so

pub good_is_plan_of : (task : TaskParts) (bytes : List ℕ) (plan : List Part) → plan_judged (names_of task) bytes ≡ good plan → IsPlanOf task plan
good_is_plan_of task bytes plan is = all_from (is_fine (names_of task)) (is_part_of task) numbers plan (plan_good (names_of task) bytes plan is)
  where
    right_true : (a b : Bool) → (a && b) ≡ true → b ≡ true
    right_true true b so = so
    right_true false true so = refl
    right_true false false so = so

    numbers : (part : Part) → is_fine (names_of task) part ≡ true → is_part_of task part ≡ true
    numbers part fine =
        ap (λ (n : ℕ). nat_lt part.by.action n && list_all (λ o. nat_lt o (length task.objects)) part.by.args) (sym (length-map task.actions (λ a. a.name)))
        ∙ ap (λ (n : ℕ). nat_lt part.by.action (length (map (λ a. a.name) task.actions)) && list_all (λ o. nat_lt o n) part.by.args) (sym (length-map task.objects (λ o. o.name)))
        ∙ right_true (nat_le 1 part.count) _ fine
