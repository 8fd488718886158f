-- A search that goes on: lines behind lines, refuted blocks with one more, and texts that are left in their midst.
use Rattle.std.proofs.Common.{◌≡◌, ℕ, zero, suc, ◌+◌, ◌<◌, ◌≤◌, Bool, true, false, List, [], ◌∷◌, ◌++◌, length, refl, sym, ◌∙◌, ap, subst, inl, inr, arith, Option, Some, None, Result, Ok, Err, append_assoc, length-append}
use Rattle.std.specs.Prelude.{⊤, codes}
use Rattle.std.proofs.lemmas.List.{append-nil}
use Rattle.std.specs.Io.KnownBytes.{Appends}
use Rattle.patty_io.specs.declared.sink.SinkFail.{SinkFail}
use Rattle.patty_io.specs.declared.sink.SinkFail.TheVariants as fail
use Rattle.patty_run.specs.Outside.{Output, WriteFails, NoWriteFails}
use Rattle.patty_run.specs.Printed.{line, joined, AppendsFront, Prints, PrintsFront, StopsPrinting, PutsAll}
use Rattle.patty_run.proofs.PrintLaws.{appends_more, appends_none}
use Rattle.pddl_task.specs.declared.parts.TaskParts.{TaskParts}
use Rattle.plan_form.specs.declared.plan.Part.{Part}
use Rattle.farkas_law.specs.Lemma.{IsShown}
use Rattle.theory_law.specs.Log.{IsSoundLog}
use Rattle.theory_law.specs.Licence.{IsLicensedLog}
use Rattle.relaxed.specs.declared.failure.RangeWide.{RangeWide}
use Rattle.relaxed.specs.declared.failure.LayerFail.TheVariants as layers
use Rattle.relaxed.specs.Answer.{IsPassing}
use Rattle.ground_laws.specs.Result.{task_from}
use Rattle.planner_text.specs.declared.limits.Limits.{Limits}
use Rattle.planner_text.specs.Text.{Log, End, refuted, found, unknown, steps_spent, Block, Text, layered, unlayered, formula_for, EndHolds, EndIsTrue, IsBlock, IsTrueBlock, refuted_by, AreRefuted, AreLicensed, IsText, IsTrueText}
use Rattle.planner_text.specs.Lines.{pattern_lines, block_lines, end_lines, refuted_lines, text_lines}
use Rattle.planner_text.proofs.Refuting.{left_open}
use Rattle.search.specs.declared.found.Found.{Found}
use Rattle.search.specs.declared.found.SearchFail.{SearchFail}
use Rattle.search.specs.declared.found.SearchFail.TheVariants.{Ground, NotBuilt, Sink, Memory}
use Rattle.search.specs.declared.opening.Opened.{Opened}
use Rattle.search.specs.declared.block.Made.{Made}
use Rattle.search.specs.declared.block.BlockEnd.{BlockEnd}
use Rattle.search.specs.declared.block.BlockEnd.TheVariants as ends
use Rattle.search.specs.Searching.{EndsWith, IsFound, IsSilent, IsStarted, SearchFails, Searches}
use Rattle.search.specs.inside.Opening.{IsReady, IsOpened, Refuses}
use Rattle.search.specs.inside.Blocks as blocks
use Rattle.search.specs.inside.Blocks.{IsMade, block_of}
use Rattle.search.specs.inside.Going.{IsGoing, Leaves, Heads, GoesOn, Finishes, seen_since, search_fail}

-- ---- lines behind lines

joined-append : (xs ys : List (List ℕ)) → joined (xs ++ ys) ≡ joined xs ++ joined ys
joined-append [] ys = refl
joined-append (x ∷ xs) ys = ap (λ (l : List ℕ). x ++ l) (joined-append xs ys) ∙ sym (append_assoc x (joined xs) (joined ys))

prints_more : (a b c : Option (List ℕ)) (xs ys : List (List ℕ)) → Appends a b (joined xs) → Appends b c (joined ys) → Appends a c (joined (xs ++ ys))
prints_more a b c xs ys first second = subst (λ (l : List ℕ). Appends a c l) (sym (joined-append xs ys)) (appends_more a b c (joined xs) (joined ys) first second)

-- a front of lines behind lines
front_behind : (a b c : Option (List ℕ)) (x y z : List ℕ) → Appends a b x → AppendsFront b c y → AppendsFront a c (x ++ (y ++ z))
front_behind a b c x y z first f = record {
  front = x ++ f.front;
  rest = f.rest ++ z;
  split = ap (λ (l : List ℕ). x ++ (l ++ z)) f.split ∙ simp append_assoc;
  added = appends_more a b c x f.front first f.added;
}

prints_front : (a b c : Option (List ℕ)) (xs ys zs text : List (List ℕ)) → text ≡ xs ++ (ys ++ zs) → Appends a b (joined xs) → AppendsFront b c (joined ys) → AppendsFront a c (joined text)
prints_front a b c xs ys zs text is first f =
    let e : joined text ≡ joined xs ++ (joined ys ++ joined zs) = ap (λ (l : List (List ℕ)). joined l) is ∙ joined-append xs (ys ++ zs) ∙ ap (λ (l : List ℕ). joined xs ++ l) (joined-append ys zs) in
    subst (λ (l : List ℕ). AppendsFront a c l) (sym e) (front_behind a b c (joined xs) (joined ys) (joined zs) first f)

empty_front : (a : Option (List ℕ)) → AppendsFront a a []
empty_front a = record { front = []; rest = []; split = refl; added = appends_none a a refl }

-- ---- refuted blocks, with one more

module _ (task : TaskParts) (limits : Limits) (places : List ℕ) where
  refuted_more : (n m : ℕ) (logs : List Log) (log : Log) → m ≡ n + length logs → AreRefuted task limits places n logs → IsBlock task limits places m (refuted_by log) → AreRefuted task limits places n (logs ++ log ∷ [])
  refuted_more n m [] log is are b = let e : m ≡ n = omega (arith, is) in (subst (λ (k : ℕ). IsBlock task limits places k (refuted_by log)) e b, tt)
  refuted_more n m (l ∷ logs) log is are b = (are.0, refuted_more (suc n) m logs log (omega (arith, is)) are.1 b)

  licensed_more : (n m : ℕ) (logs : List Log) (log : Log) → m ≡ n + length logs → AreLicensed task places n logs → IsLicensedLog (formula_for task places m) log → AreLicensed task places n (logs ++ log ∷ [])
  licensed_more n m [] log is are b = let e : m ≡ n = omega (arith, is) in (subst (λ (k : ℕ). IsLicensedLog (formula_for task places k) log) e b, tt)
  licensed_more n m (l ∷ logs) log is are b = (are.0, licensed_more (suc n) m logs log (omega (arith, is)) are.1 b)

  lines_more : (n m : ℕ) (logs : List Log) (log : Log) → m ≡ n + length logs → refuted_lines task n (logs ++ log ∷ []) ≡ refuted_lines task n logs ++ block_lines task m (refuted_by log)
  lines_more n m [] log is = let e : n ≡ m = omega (arith, is) in append-nil (block_lines task n (refuted_by log)) ∙ ap (λ (k : ℕ). block_lines task k (refuted_by log)) e
  lines_more n m (l ∷ logs) log is =
      ap (λ (ls : List (List ℕ)). block_lines task n (refuted_by l) ++ ls) (lines_more (suc n) m logs log (omega (arith, is)))
      ∙ sym (append_assoc (block_lines task n (refuted_by l)) (refuted_lines task (suc n) logs) (block_lines task m (refuted_by log)))

-- ---- how a call leaves a text

pub leaves : (output : Output) (task : TaskParts) (limits : Limits) (e : SinkFail) → IsStarted output task limits → StopsPrinting e output → Leaves output task limits (search_fail e)
leaves output task limits fail.Failed started stops = (started, stops)
leaves output task limits fail.Memory started stops = (started, stops)

pub leaves_fails : (output : Output) (task : TaskParts) (limits : Limits) (e : SearchFail) → Leaves output task limits e → SearchFails output task limits e
leaves_fails output task limits (Ground f) h = absurd h
leaves_fails output task limits NotBuilt h = absurd h
leaves_fails output task limits Sink h = h
leaves_fails output task limits Memory h = inr h

pub refuses_fails : (output : Output) (task : TaskParts) (limits : Limits) (e : SearchFail) → Refuses task e → IsSilent output → SearchFails output task limits e
refuses_fails output task limits (Ground f) h silent = (h, silent)
refuses_fails output task limits NotBuilt h silent = (h, silent)
refuses_fails output task limits Sink h silent = absurd h
refuses_fails output task limits Memory h silent = inl silent

stops_since : (first b c : Option (List ℕ)) (fails before after : ℕ) (e : SinkFail) → before ≡ fails → StopsPrinting e (seen_since b before c after) → StopsPrinting e (seen_since first fails c after)
stops_since first b c fails before after fail.Failed is h = subst (λ (k : ℕ). WriteFails (seen_since first k c after)) is h
stops_since first b c fails before after fail.Memory is h = h ∙ is

regroup : (p r b x e : List (List ℕ)) → (p ++ ((r ++ b) ++ x)) ++ e ≡ (p ++ r) ++ (b ++ (x ++ e))
regroup p r b x e = simp append_assoc

regroup_last : (p r b e : List (List ℕ)) → (p ++ (r ++ b)) ++ e ≡ (p ++ r) ++ (b ++ e)
regroup_last p r b e = simp append_assoc

-- ---- ends

ends_refuted : (e : BlockEnd) → blocks.is_refuted e ≡ true → blocks.end_of e ≡ refuted
ends_refuted ends.Refuted h = refl
ends_refuted (ends.Plan plan) h = absurd (cc (h))
ends_refuted ends.Spent h = absurd (cc (h))
ends_refuted (ends.Stuck t) h = absurd (cc (h))
ends_refuted (ends.Wide w) h = absurd (cc (h))

refuted_ends : (e : BlockEnd) → blocks.end_of e ≡ refuted → blocks.is_refuted e ≡ true
refuted_ends ends.Refuted h = refl
refuted_ends (ends.Plan plan) h = absurd (cc (h))
refuted_ends ends.Spent h = absurd (cc (h))
refuted_ends (ends.Stuck t) h = absurd (cc (h))
refuted_ends (ends.Wide w) h = absurd (cc (h))

-- ---- a text of the task that is open behind these blocks

module _ (task : TaskParts) (limits : Limits) (o : Opened) (opened : IsOpened task o) where
  abbrev open_block : Block
  open_block = record { log = []; end = unknown steps_spent }

  abbrev open_text : List Log → Text
  open_text before = layered o.pattern before open_block

  is_open : (before : List Log) → AreRefuted task limits o.pattern 0 before → length before ≤ limits.max_n → IsText task limits (open_text before)
  is_open before are within = left_open task limits o.pattern before [] opened.ready.grounded.few opened.pattern are within tt (omega arith)

  abbrev end_of_text : List (List ℕ)
  end_of_text = line (codes "end") ∷ []

  abbrev head : List (List ℕ)
  head = pattern_lines task o.pattern

  -- the pattern is printed, and no block
  pub heads_ok : (output : Output) (lines : List (List ℕ)) → lines ≡ head → Prints output lines → NoWriteFails output → IsGoing output task limits o.pattern 0
  heads_ok output lines is prints none = record {
    before = [];
    count = refl;
    refuted_before = tt;
    licensed = tt;
    printed = subst (λ (ls : List (List ℕ)). Prints output ls) (is ∙ sym (append-nil head)) prints;
    no_fault = none;
  }

  open_lines_behind : (xs : List (List ℕ)) → text_lines task (open_text []) ≡ [] ++ (head ++ (block_lines task 0 open_block ++ end_of_text))
  open_lines_behind xs = append_assoc head (block_lines task 0 open_block) end_of_text

  pub heads_err : (output : Output) (lines : List (List ℕ)) (e : SinkFail) → lines ≡ head → PrintsFront output lines → StopsPrinting e output → SearchFails output task limits (search_fail e)
  heads_err output lines e is front stops =
      let f : PrintsFront output head = subst (λ (ls : List (List ℕ)). PrintsFront output ls) is front in
      let whole = prints_front output.written_before output.written_before output.written [] head (block_lines task 0 open_block ++ end_of_text) (text_lines task (open_text [])) (open_lines_behind []) (appends_none _ _ refl) f in
      let started : IsStarted output task limits = record { fit = opened.ready.grounded.fit; text = open_text []; is_text = is_open [] tt (omega arith); front = whole } in
      leaves_fails output task limits (search_fail e) (leaves output task limits e started stops)

  module _ (n : ℕ) (first b : Option (List ℕ)) (fails before : ℕ) (going : IsGoing (seen_since first fails b before) task limits o.pattern n) where
    abbrev so_far : List (List ℕ)
    so_far = refuted_lines task 0 going.before

    -- nothing more is written
    pub stays : n ≤ limits.max_n → Leaves (seen_since first fails b before) task limits Memory
    stays within =
        let few : length going.before ≤ limits.max_n = subst (λ (k : ℕ). k ≤ limits.max_n) (sym going.count) within in
        let x = block_lines task (length going.before) open_block in
        let whole = prints_front first b b (head ++ so_far) [] (x ++ end_of_text) (text_lines task (open_text going.before)) (regroup_last head so_far x end_of_text) going.printed (empty_front b) in
        (record { fit = opened.ready.grounded.fit; text = open_text going.before; is_text = is_open going.before going.refuted_before few; front = whole }, going.no_fault)

    module _ (made : Made) (is : IsMade task limits o.pattern n made) (c : Option (List ℕ)) (after : ℕ) where
      abbrev place : n ≡ 0 + length going.before
      place = let h = going.count in omega (arith, h)

      module _ (r : blocks.is_refuted made.end ≡ true) where
        block : IsBlock task limits o.pattern n (refuted_by is.log)
        block = subst (λ (e : End). IsBlock task limits o.pattern n (record { log = is.log; end = e })) (ends_refuted made.end r) is.is_block

        lines_are : made.lines ≡ block_lines task n (refuted_by is.log)
        lines_are = is.lines ∙ ap (λ (e : End). block_lines task n (record { log = is.log; end = e })) (ends_refuted made.end r)

        are_more : AreRefuted task limits o.pattern 0 (going.before ++ is.log ∷ [])
        are_more = refuted_more task limits o.pattern 0 n going.before is.log place going.refuted_before block

        size_more : length (going.before ++ is.log ∷ []) ≡ suc n
        size_more = length-append going.before (is.log ∷ []) ∙ (let h = going.count in omega (arith, h))

        so_far_more : refuted_lines task 0 (going.before ++ is.log ∷ []) ≡ so_far ++ made.lines
        so_far_more = lines_more task limits o.pattern 0 n going.before is.log place ∙ ap (λ (ls : List (List ℕ)). so_far ++ ls) (sym lines_are)

        pub goes_ok : Appends b c (joined made.lines) → after ≡ before → IsGoing (seen_since first fails c after) task limits o.pattern (suc n)
        goes_ok put none = record {
          before = going.before ++ is.log ∷ [];
          count = size_more;
          refuted_before = are_more;
          licensed = licensed_more task limits o.pattern 0 n going.before is.log place going.licensed is.is_true.licensed;
          printed = subst (λ (ls : List (List ℕ)). Appends first c (joined ls))
              (append_assoc head so_far made.lines ∙ ap (λ (ls : List (List ℕ)). head ++ ls) (sym so_far_more))
              (prints_more first b c (head ++ so_far) made.lines going.printed put);
          no_fault = none ∙ going.no_fault;
        }

        pub goes_err : (e : SinkFail) → suc n ≤ limits.max_n → AppendsFront b c (joined made.lines) → StopsPrinting e (seen_since b before c after) → Leaves (seen_since first fails c after) task limits (search_fail e)
        goes_err e more front stops =
            let all = going.before ++ is.log ∷ [] in
            let few : length all ≤ limits.max_n = subst (λ (k : ℕ). k ≤ limits.max_n) (sym size_more) more in
            let x = block_lines task (length all) open_block in
            let split : text_lines task (open_text all) ≡ (head ++ so_far) ++ (made.lines ++ (x ++ end_of_text)) =
            ap (λ (ls : List (List ℕ)). (head ++ (ls ++ x)) ++ end_of_text) so_far_more ∙ regroup head so_far made.lines x end_of_text in
            let whole = prints_front first b c (head ++ so_far) made.lines (x ++ end_of_text) (text_lines task (open_text all)) split going.printed front in
            let started : IsStarted (seen_since first fails c after) task limits = record { fit = opened.ready.grounded.fit; text = open_text all; is_text = is_open all are_more few; front = whole } in
            leaves (seen_since first fails c after) task limits e started (stops_since first b c fails before after e going.no_fault stops)

      module _ (lines : List (List ℕ)) (with_end : lines ≡ made.lines ++ end_of_text) (within : n ≤ limits.max_n) (last : blocks.is_refuted made.end ≡ true → n ≡ limits.max_n) where
        abbrev last_block : Block
        last_block = block_of is.log made.end

        abbrev last_text : Text
        last_text = layered o.pattern going.before last_block

        is_last : IsText task limits last_text
        is_last = record {
          few = opened.ready.grounded.few;
          holds = record {
            pattern = opened.pattern;
            refuted_before = going.refuted_before;
            last_is = subst (λ (k : ℕ). IsBlock task limits o.pattern k last_block) (sym going.count) is.is_block;
            within = subst (λ (k : ℕ). k ≤ limits.max_n) (sym going.count) within;
            goes_on = λ e. going.count ∙ last (refuted_ends made.end e);
          };
        }

        last_split : text_lines task last_text ≡ (head ++ so_far) ++ lines
        last_split = ap (λ (k : ℕ). (head ++ (so_far ++ block_lines task k last_block)) ++ end_of_text) going.count
            ∙ ap (λ (ls : List (List ℕ)). (head ++ (so_far ++ ls)) ++ end_of_text) (sym is.lines)
            ∙ regroup_last head so_far made.lines end_of_text
            ∙ ap (λ (ls : List (List ℕ)). (head ++ so_far) ++ ls) (sym with_end)

        pub last_ok : (f : Found) (size : ℕ) → size ≡ length o.pattern → EndsWith n size last_block f → Appends b c (joined lines) → after ≡ before → IsFound (seen_since first fails c after) task limits f
        last_ok f size sized is_end put none = record {
          fit = opened.ready.grounded.fit;
          text = last_text;
          is_text = record { text = is_last; true_so = (going.licensed, subst (λ (k : ℕ). IsTrueBlock task limits o.pattern k last_block) (sym going.count) is.is_true) };
          ranges = opened.ranges;
          ends = subst (λ (k : ℕ). EndsWith k (length o.pattern) last_block f) (sym going.count) (subst (λ (k : ℕ). EndsWith n k last_block f) sized is_end);
          printed = subst (λ (ls : List (List ℕ)). Appends first c (joined ls)) (sym last_split) (prints_more first b c (head ++ so_far) lines going.printed put);
          no_fault = none ∙ going.no_fault;
        }

        pub last_err : (e : SinkFail) → AppendsFront b c (joined lines) → StopsPrinting e (seen_since b before c after) → Leaves (seen_since first fails c after) task limits (search_fail e)
        last_err e front stops =
            let whole = prints_front first b c (head ++ so_far) lines [] (text_lines task last_text) (last_split ∙ ap (λ (ls : List (List ℕ)). (head ++ so_far) ++ ls) (sym (append-nil lines))) going.printed front in
            let started : IsStarted (seen_since first fails c after) task limits = record { fit = opened.ready.grounded.fit; text = last_text; is_text = is_last; front = whole } in
            leaves (seen_since first fails c after) task limits e started (stops_since first b c fails before after e going.no_fault stops)
