-- One step of the pass over the tree, for each class of the byte that stands at a place.
use Rattle.std.proofs.Common.{◌≡◌, ◌≢◌, ◌⊎◌, inl, inr, ℕ, ◌+◌, ◌-◌, ◌<◌, ◌≤◌, Bool, true, false, List, [], ◌∷◌, ◌++◌, length, get_or, drop, take, Option, Some, None, Err, refl, sym, ◌∙◌, ap, subst, arith, append_assoc, length-drop}
use Rattle.std.specs.Prelude.{IsTrue}
use Rattle.std.specs.Char.{to_ascii_lowercase}
use Rattle.std.specs.List.{flat_map}
use Rattle.std.proofs.lemmas.Bool.{cases_lt}
use Rattle.std.proofs.lemmas.List.{append-nil, drop_more, drop-drop, get_or-drop, get_or_past, length_push, length-map, take_rest}
use Rattle.std.proofs.lemmas.List.Folds.{length-prefix_len}
use Rattle.std.proofs.lemmas.List.Sums.{prefix_len-le-length, prefix_len-drop_yes, prefix_len_passes, prefix_len_stops}
use Rattle.sexpr.specs.declared.bytes.Class.{Class}
use Rattle.sexpr.specs.declared.bytes.Class.TheVariants.{White, Opens, Closes, Semicolon, InWord, Foreign}
use Rattle.sexpr.specs.declared.tree.Tree.{Tree}
use Rattle.sexpr.specs.declared.tree.Tree.TheVariants as tree
use Rattle.sexpr.specs.declared.reading.Level.{Level}
use Rattle.sexpr.specs.declared.reading.Reading.{Reading}
use Rattle.sexpr.specs.declared.reading.Stop.{Stop}
use Rattle.sexpr.specs.declared.reading.Stop.TheVariants.{Paren, Deep, Memory}
use Rattle.sexpr.specs.Bytes.{class_of, is_in_word, is_in_word_class, word_of}
use Rattle.sexpr.specs.Comments.{bare}
use Rattle.sexpr.specs.Tokens.{Token, Open, Close, Word, tokens, in_front, begins_word}
use Rattle.sexpr.specs.Spelling.{tokens_of, is_list}
use Rattle.sexpr.specs.Faults.{opened_before}
use Rattle.sexpr.specs.inside.Steps as inside
use Rattle.sexpr.specs.inside.Reached.{IsReadTo, IsCounted, IsOneList}
use Rattle.sexpr.specs.inside.Steps.{Adds, OpensList, ClosesList, AddsWord, Stops}
use Rattle.sexpr.proofs.ByteLaws.{opens_is, closes_is, semicolon_is, in_word_class, isnt_open, isnt_close, isnt_semicolon}
use Rattle.sexpr.proofs.BareLaws.{length-bare_from, bare_more, rest_len, bare_comment, IsBlank, run_len, bare_word, IsSameWord}
use Rattle.sexpr.proofs.Lexing.{at_place, spaces_tokens, word_at}
use Rattle.sexpr.proofs.Counting.{counts_quiet, counts_run, counts_open, counts_close, first_deep, first_behind, first_unopened, first_word_outside}
use Rattle.sexpr.proofs.Trees.{tokens_of_word, is_list_list}
use Rattle.sexpr.proofs.Flattening.{read, read_push, read_adds, read_closed}

-- what was read, and then a token more and the rest
found_more : (before new rest whole all : List Token) (token : Token) → before ++ (token ∷ rest) ≡ all → new ≡ before ++ token ∷ [] → new ++ rest ≡ all
found_more before new rest whole all token so_far is = ap (λ (ts : List Token). ts ++ rest) is ∙ append_assoc before (token ∷ []) rest ∙ so_far

-- no word goes on behind a byte of another class
word_ends : (text : List ℕ) (at next b : ℕ) → next ≡ at + 1 → get_or text at 0 ≡ b → (is_in_word b ≡ true → ⊥)
    → (before : ℕ) → before + 1 ≡ next → IsTrue (is_in_word (get_or text before 0)) → IsTrue (is_in_word (get_or text next 0)) → ⊥
word_ends text at next b next_is is other before place in_word more =
    let same : before ≡ at = omega (arith, place, next_is) in
    other (ap is_in_word (sym is ∙ ap (λ (n : ℕ). get_or text n 0) (sym same)) ∙ in_word)

in_text : (bytes : List ℕ) (at : ℕ) → at < length bytes → at < length (bare bytes)
in_text bytes at within = omega (arith, within, length-bare_from false bytes)

isnt_in_word : (b : ℕ) (k : Class) → class_of b ≡ k → (k ≡ InWord → ⊥) → is_in_word b ≡ true → ⊥
isnt_in_word b k is other in_word = other (sym is ∙ in_word_class (class_of b) in_word)

-- a byte that is of no word, no parenthesis and no comment
pub skips : (bytes : List ℕ) (whole : Option Tree) (lists : List Level) (at : ℕ) (k : Class) → IsReadTo bytes whole lists at → at < length bytes → class_of (get_or bytes at 0) ≡ k
    → (k ≡ Opens → ⊥) → (k ≡ Closes → ⊥) → (k ≡ Semicolon → ⊥) → (k ≡ InWord → ⊥) → ((b : ℕ) (word : Bool) (rest : List Token) → in_front at b k word rest ≡ rest)
    → IsReadTo bytes whole lists (at + 1)
skips bytes whole lists at k so_far within is no_open no_close no_semicolon no_word passes =
    let text = bare bytes in
    let b = get_or bytes at 0 in
    let below = in_text bytes at within in
    let more = bare_more bytes at within so_far.no_comment (isnt_semicolon b k is no_semicolon) in
    let class : class_of (get_or text at 0) ≡ k = ap class_of more.0 ∙ is in
    record {
      within = omega (arith, within);
      no_comment = more.1;
      no_word = word_ends text at (at + 1) (get_or text at 0) refl refl (isnt_in_word (get_or text at 0) k class no_word);
      found = ap (λ (ts : List Token). read whole lists ++ ts) (sym (at_place text at k below class ∙ passes (get_or text at 0) (begins_word (drop (at + 1) text)) (tokens (at + 1) (drop (at + 1) text)))) ∙ so_far.found;
      counts = counts_quiet text whole (length lists) at so_far.counts below (isnt_open (get_or text at 0) k class no_open) (isnt_close (get_or text at 0) k class no_close)
          (λ begins. absurd (isnt_in_word (get_or text at 0) k class no_word begins.here));
    }

pub skips_white : (bytes : List ℕ) (whole : Option Tree) (lists : List Level) (at : ℕ) → IsReadTo bytes whole lists at → at < length bytes → class_of (get_or bytes at 0) ≡ White → IsReadTo bytes whole lists (at + 1)
skips_white bytes whole lists at so_far within is =
    skips bytes whole lists at White so_far within is (λ e. absurd (cc e)) (λ e. absurd (cc e)) (λ e. absurd (cc e)) (λ e. absurd (cc e)) (λ b word rest. refl)

pub skips_foreign : (bytes : List ℕ) (whole : Option Tree) (lists : List Level) (at : ℕ) → IsReadTo bytes whole lists at → at < length bytes → class_of (get_or bytes at 0) ≡ Foreign → IsReadTo bytes whole lists (at + 1)
skips_foreign bytes whole lists at so_far within is =
    skips bytes whole lists at Foreign so_far within is (λ e. absurd (cc e)) (λ e. absurd (cc e)) (λ e. absurd (cc e)) (λ e. absurd (cc e)) (λ b word rest. refl)

-- the bytes from a place to the end, as code takes them
abbrev pub behind : List ℕ → ℕ → List ℕ
behind bytes at = take (length bytes - at) (drop at bytes)

-- a comment
pub skips_comment : (bytes : List ℕ) (whole : Option Tree) (lists : List Level) (at n : ℕ) → IsReadTo bytes whole lists at → at < length bytes → class_of (get_or bytes at 0) ≡ Semicolon
    → n ≡ rest_len (behind bytes at) → (at < at + n) × IsReadTo bytes whole lists (at + n)
skips_comment bytes whole lists at n so_far within is len =
    let text = bare bytes in
    let more = drop (at + 1) bytes in
    let here : drop at bytes ≡ 59 ∷ more = drop_more bytes at 0 within ∙ ap (λ (b : ℕ). b ∷ more) (semicolon_is (get_or bytes at 0) is) in
    let len_is : rest_len (59 ∷ more) ≡ n = sym (len ∙ ap rest_len (take_rest bytes at ∙ here)) in
    let whole_len : 1 + rest_len more ≡ n = len_is in
    let blank : IsBlank (bare (drop at bytes)) (drop at bytes) n =
    subst (λ (l : List ℕ). IsBlank (bare l) l n) (sym here) (subst (IsBlank (bare (59 ∷ more)) (59 ∷ more)) len_is (bare_comment more)) in
    let room : at + n ≤ length bytes = omega (arith, blank.room, within, length-drop at bytes) in
    let room_text : at + n ≤ length text = omega (arith, room, length-bare_from false bytes) in
    let space : (k : ℕ) → k < n → get_or text (at + k) 0 ≡ 32 =
    λ k below. sym (get_or-drop at text k 0) ∙ ap (λ (l : List ℕ). get_or l k 0) so_far.no_comment ∙ blank.spaces k below in
    let last : at + n ≡ at + (n - 1) + 1 = omega (arith, whole_len) in (
      omega (arith, whole_len),
      record {
        within = room;
        no_comment = sym (drop-drop n at text) ∙ ap (drop n) so_far.no_comment ∙ blank.behind ∙ ap bare (drop-drop n at bytes);
        no_word = word_ends text (at + (n - 1)) (at + n) 32 last (space (n - 1) (omega (arith, whole_len))) (λ in_word. absurd (cc in_word));
        found = ap (λ (ts : List Token). read whole lists ++ ts) (sym (spaces_tokens text at n room_text space)) ∙ so_far.found;
        counts = counts_run text whole (length lists) at n so_far.counts room_text (λ k below is_open. absurd (omega (arith, space k below, is_open))) (λ k below is_close. absurd (omega (arith, space k below, is_close)))
            (λ k below begins. absurd (cc (ap is_in_word (space k below), begins.here)));
      },
    )

-- what stands at the place of a parenthesis or a word
paren_here : (bytes : List ℕ) (whole : Option Tree) (lists : List Level) (at b : ℕ) (k : Class) → IsReadTo bytes whole lists at → at < length bytes → class_of (get_or bytes at 0) ≡ k → (k ≡ Semicolon → ⊥) → (class_of (get_or bytes at 0) ≡ k → get_or bytes at 0 ≡ b) → get_or (bare bytes) at 0 ≡ b
paren_here bytes whole lists at b k so_far within is no_semicolon byte = (bare_more bytes at within so_far.no_comment (isnt_semicolon (get_or bytes at 0) k is no_semicolon)).0 ∙ byte is

open_here : (bytes : List ℕ) (whole : Option Tree) (lists : List Level) (at : ℕ) → IsReadTo bytes whole lists at → at < length bytes → class_of (get_or bytes at 0) ≡ Opens → get_or (bare bytes) at 0 ≡ 40
open_here bytes whole lists at so_far within is = paren_here bytes whole lists at 40 Opens so_far within is (λ e. absurd (cc e)) (opens_is (get_or bytes at 0))

close_here : (bytes : List ℕ) (whole : Option Tree) (lists : List Level) (at : ℕ) → IsReadTo bytes whole lists at → at < length bytes → class_of (get_or bytes at 0) ≡ Closes → get_or (bare bytes) at 0 ≡ 41
close_here bytes whole lists at so_far within is = paren_here bytes whole lists at 41 Closes so_far within is (λ e. absurd (cc e)) (closes_is (get_or bytes at 0))

-- a list is opened
pub opens_list : (bytes : List ℕ) (old new : Reading) (at : ℕ) → IsReadTo bytes old.whole old.lists.items at → at < length bytes → class_of (get_or bytes at 0) ≡ Opens → OpensList at old new → IsReadTo bytes new.whole new.lists.items (at + 1)
opens_list bytes old new at so_far within is opened =
    let text = bare bytes in
    let lists = old.lists.items in
    let below = in_text bytes at within in
    let here = open_here bytes old.whole lists at so_far within is in
    subst (λ (w : Option Tree). IsReadTo bytes w new.lists.items (at + 1)) (sym opened.same_whole) (record {
      within = omega (arith, within);
      no_comment = (bare_more bytes at within so_far.no_comment (isnt_semicolon (get_or bytes at 0) Opens is (λ e. absurd (cc e)))).1;
      no_word = word_ends text at (at + 1) 40 refl here (λ in_word. absurd (cc in_word));
      found = found_more (read old.whole lists) (read old.whole new.lists.items) (tokens (at + 1) (drop (at + 1) text)) [] (tokens 0 text) (Open at)
          (ap (λ (ts : List Token). read old.whole lists ++ ts) (sym (at_place text at Opens below (ap class_of here))) ∙ so_far.found)
          (ap (read old.whole) opened.is ∙ read_push old.whole lists opened.level
          ∙ ap (λ (n : ℕ). read old.whole lists ++ Open n ∷ flat_map tokens_of opened.level.items.items) opened.starts
          ∙ ap (λ (l : List Tree). read old.whole lists ++ Open at ∷ flat_map tokens_of l) opened.empty);
      counts = subst (λ (n : ℕ). IsCounted text old.whole n (at + 1)) (sym (ap length opened.is ∙ length_push lists opened.level)) (counts_open text old.whole (length lists) at so_far.counts below here opened.room opened.first);
    })

pub open_stops : (bytes : List ℕ) (old new : Reading) (at : ℕ) (stop : Stop) → IsReadTo bytes old.whole old.lists.items at → at < length bytes → class_of (get_or bytes at 0) ≡ Opens → inside.Opens at old new (Err stop) → Stops bytes stop
open_stops bytes old new at (Paren place) so_far within is fault =
    let none : length old.lists.items ≡ 0 = ap length fault.1 in
    subst (λ (n : ℕ). Stops bytes (Paren n)) (sym fault.0)
    (first_behind bytes old.whole at (subst (λ (n : ℕ). IsCounted (bare bytes) old.whole n at) none so_far.counts) (in_text bytes at within) (open_here bytes old.whole old.lists.items at so_far within is) fault.2)
open_stops bytes old new at (Deep place) so_far within is fault =
    subst (λ (n : ℕ). Stops bytes (Deep n)) (sym fault.0)
    (first_deep bytes old.whole (length old.lists.items) at so_far.counts (in_text bytes at within) (open_here bytes old.whole old.lists.items at so_far within is) fault.1)
open_stops bytes old new at Memory so_far within is fault = tt

-- no list is closed while one is open
none_whole : (whole : Option Tree) (depth opened : ℕ) → 0 < depth → IsOneList whole depth opened → whole ≡ None
none_whole None depth opened some one = refl
none_whole (Some tree) depth opened some one = absurd (omega (arith, some, one.0))

length_adds : (t : Tree) (old new : List Level) → Adds t old new → (length new ≡ length old) × (0 < length new)
length_adds t old new adds =
    let before : length old ≡ length adds.around + 1 = ap length adds.was ∙ length_push adds.around adds.level in
    let after : length new ≡ length adds.around + 1 = ap length adds.is ∙ length_push adds.around adds.grown in
    (omega (arith, before, after), omega (arith, after))

-- what closing the innermost list leaves
record IsClosed (text : List ℕ) (at : ℕ) (old new : Reading) : Type 0 where
  tokens_are : read new.whole new.lists.items ≡ read old.whole old.lists.items ++ Close (at + 1) ∷ []
  deeper : length old.lists.items ≡ length new.lists.items + 1
  one_list : IsOneList new.whole (length new.lists.items) (opened_before text at)

is_closed : (text : List ℕ) (old new : Reading) (at : ℕ) → IsCounted text old.whole (length old.lists.items) at → ClosesList at old new → IsClosed text at old new
is_closed text old new at counts closed = cases closed.is
  where
    list : Tree
    list = tree.List closed.level.start (at + 1) closed.level.items.items

    deep : length old.lists.items ≡ length closed.around + 1
    deep = ap length closed.was ∙ length_push closed.around closed.level

    none : old.whole ≡ None
    none = none_whole old.whole (length old.lists.items) (opened_before text at) (omega (arith, deep)) counts.one_list

    one_whole : (whole : Option Tree) (depth : ℕ) → whole ≡ Some list → depth ≡ 0 → IsOneList whole depth (opened_before text at)
    one_whole None depth is outer = absurd (cc is)
    one_whole (Some t) depth is outer = (outer, omega (arith, counts.counted, deep), subst IsListed (sym is) (is_list_list closed.level.start (at + 1) closed.level.items.items))
      where
        IsListed : Option Tree → Type 0
        IsListed None = Unit {0}
        IsListed (Some t) = IsTrue (is_list t)

    one_open : (whole : Option Tree) (depth : ℕ) → whole ≡ None → 0 < depth → IsOneList whole depth (opened_before text at)
    one_open None depth is some = λ outer. absurd (omega (arith, outer, some))
    one_open (Some t) depth is some = absurd (cc is)

    cases : ((closed.around ≡ []) × (new.lists.items ≡ []) × (new.whole ≡ Some list)) ⊎ (Adds list closed.around new.lists.items × (new.whole ≡ old.whole)) → IsClosed text at old new
    cases (inl (outer, empty, whole)) = record {
      tokens_are =
          ap (λ (w : Option Tree). read w new.lists.items) whole ∙ ap (λ (l : List Level). read (Some list) l) empty
          ∙ append-nil (tokens_of list)
          ∙ sym (ap (λ (l : List Level). read None l ++ tokens_of list) outer)
          ∙ read_closed None closed.around old.lists.items closed.level (at + 1) closed.was
          ∙ ap (λ (w : Option Tree). read w old.lists.items ++ Close (at + 1) ∷ []) (sym none);
      deeper = omega (arith, deep, ap length outer, ap length empty);
      one_list = one_whole new.whole (length new.lists.items) whole (ap length empty);
    }
    cases (inr (adds, same)) =
        let len = length_adds list closed.around new.lists.items adds in
        record {
          tokens_are =
              ap (λ (w : Option Tree). read w new.lists.items) same
              ∙ read_adds old.whole list closed.around new.lists.items adds
              ∙ read_closed old.whole closed.around old.lists.items closed.level (at + 1) closed.was;
          deeper = omega (arith, deep, len.0);
          one_list = one_open new.whole (length new.lists.items) (same ∙ none) len.1;
        }

-- a list is closed
pub closes_list : (bytes : List ℕ) (old new : Reading) (at : ℕ) → IsReadTo bytes old.whole old.lists.items at → at < length bytes → class_of (get_or bytes at 0) ≡ Closes → ClosesList at old new → IsReadTo bytes new.whole new.lists.items (at + 1)
closes_list bytes old new at so_far within is closed =
    let text = bare bytes in
    let below = in_text bytes at within in
    let here = close_here bytes old.whole old.lists.items at so_far within is in
    let done = is_closed text old new at so_far.counts closed in
    record {
      within = omega (arith, within);
      no_comment = (bare_more bytes at within so_far.no_comment (isnt_semicolon (get_or bytes at 0) Closes is (λ e. absurd (cc e)))).1;
      no_word = word_ends text at (at + 1) 41 refl here (λ in_word. absurd (cc in_word));
      found = found_more (read old.whole old.lists.items) (read new.whole new.lists.items) (tokens (at + 1) (drop (at + 1) text)) [] (tokens 0 text) (Close (at + 1))
          (ap (λ (ts : List Token). read old.whole old.lists.items ++ ts) (sym (at_place text at Closes below (ap class_of here))) ∙ so_far.found) done.tokens_are;
      counts = counts_close text old.whole new.whole (length new.lists.items) at (subst (λ (n : ℕ). IsCounted text old.whole n at) done.deeper so_far.counts) below here done.one_list;
    }

pub close_stops : (bytes : List ℕ) (old new : Reading) (at : ℕ) (stop : Stop) → IsReadTo bytes old.whole old.lists.items at → at < length bytes → class_of (get_or bytes at 0) ≡ Closes → inside.Closes at old new (Err stop) → Stops bytes stop
close_stops bytes old new at (Paren place) so_far within is fault =
    let none : length old.lists.items ≡ 0 = ap length fault.1 in
    subst (λ (n : ℕ). Stops bytes (Paren n)) (sym fault.0)
    (first_unopened bytes old.whole at (subst (λ (n : ℕ). IsCounted (bare bytes) old.whole n at) none so_far.counts) (in_text bytes at within) (close_here bytes old.whole old.lists.items at so_far within is))
close_stops bytes old new at (Deep place) so_far within is fault = absurd fault
close_stops bytes old new at Memory so_far within is fault = tt

-- a word at a place, and what stands behind it
record IsWordAt (bytes : List ℕ) (at n : ℕ) (word : List ℕ) : Type 0 where
  some : 0 < n
  room : at + n ≤ length bytes
  here : (k : ℕ) → k < n → is_in_word (get_or (bare bytes) (at + k) 0) ≡ true
  ends : is_in_word (get_or (bare bytes) (at + n) 0) ≡ true → ⊥
  no_comment : drop (at + n) (bare bytes) ≡ bare (drop (at + n) bytes)
  token : tokens at (drop at (bare bytes)) ≡ Word at (at + n) word ∷ tokens (at + n) (drop (at + n) (bare bytes))

is_word_at : (bytes : List ℕ) (whole : Option Tree) (lists : List Level) (at n : ℕ) (word : List ℕ) → IsReadTo bytes whole lists at → at < length bytes → class_of (get_or bytes at 0) ≡ InWord
    → word ≡ word_of (behind bytes at) → n ≡ length word → IsWordAt bytes at n word
is_word_at bytes whole lists at n word so_far within is word_is len =
    let text = bare bytes in
    let rest = drop at text in
    let below = in_text bytes at within in
    let same_text : length text ≡ length bytes = length-bare_from false bytes in
    let same : IsSameWord rest (drop at bytes) = subst (λ (l : List ℕ). IsSameWord l (drop at bytes)) (sym so_far.no_comment) (bare_word (drop at bytes)) in
    let more = bare_more bytes at within so_far.no_comment (isnt_semicolon (get_or bytes at 0) InWord is (λ e. absurd (cc e))) in
    let first : is_in_word (get_or text at 0) ≡ true = ap is_in_word more.0 ∙ ap is_in_word_class is in
    let word_same : word ≡ word_of rest = word_is ∙ ap word_of (take_rest bytes at) ∙ sym same.same_word in
    let n_is : n ≡ run_len rest = len ∙ ap length word_same ∙ length-map (take (run_len rest) rest) to_ascii_lowercase ∙ length-prefix_len is_in_word rest in
    let n_bytes : n ≡ run_len (drop at bytes) = n_is ∙ same.same_len in
    let bound : run_len rest ≤ length rest = prefix_len-le-length is_in_word rest in
    let rest_len_is : length rest ≡ length text - at = length-drop at text in
    record {
      some = omega (arith, n_is, prefix_len-drop_yes is_in_word text at 0 below first);
      room = omega (arith, n_is, bound, rest_len_is, within, same_text);
      here = λ k before. ap is_in_word (sym (get_or-drop at text k 0)) ∙ prefix_len_passes is_in_word rest k 0 (omega (arith, before, n_is));
      ends = λ in_word. elim (cases_lt (run_len rest) (length rest)) [
        | inl more ↦
            cc (in_word, ap (λ (m : ℕ). is_in_word (get_or text (at + m) 0)) n_is, ap is_in_word (get_or-drop at text (run_len rest) 0), prefix_len_stops is_in_word rest 0 more)
        | inr end ↦
            cc (in_word, ap is_in_word (get_or_past text (at + n) 0 (omega (arith, end, n_is, rest_len_is, below))))
      ];
      no_comment = sym (drop-drop n at text) ∙ ap (λ (m : ℕ). drop m rest) n_bytes ∙ same.behind ∙ ap (λ (m : ℕ). bare (drop m (drop at bytes))) (sym n_bytes) ∙ ap bare (drop-drop n at bytes);
      token = word_at text at below first
          ∙ ap (λ (m : ℕ). Word at (at + m) (word_of rest) ∷ tokens (at + m) (drop (at + m) text)) (sym n_is)
          ∙ ap (λ (w : List ℕ). Word at (at + n) w ∷ tokens (at + n) (drop (at + n) text)) (sym word_same);
    }

not_class : (b : ℕ) (k : Class) (c : ℕ) → is_in_word b ≡ true → class_of c ≡ k → is_in_word_class k ≡ false → b ≢ c
not_class b k c in_word is other same = cc (in_word, other)

-- a word is added
pub adds_word : (bytes : List ℕ) (old new : Reading) (at n : ℕ) (word : List ℕ) → IsReadTo bytes old.whole old.lists.items at → at < length bytes → class_of (get_or bytes at 0) ≡ InWord
    → word ≡ word_of (behind bytes at) → n ≡ length word → Adds (tree.Word at (at + n) word) old.lists.items new.lists.items → new.whole ≡ old.whole → (at < at + n) × IsReadTo bytes new.whole new.lists.items (at + n)
adds_word bytes old new at n word so_far within is word_is len adds same =
    let text = bare bytes in
    let t : Tree = tree.Word at (at + n) word in
    let found_word = is_word_at bytes old.whole old.lists.items at n word so_far within is word_is len in
    let deep = length_adds t old.lists.items new.lists.items adds in
    let last : at + n ≡ at + (n - 1) + 1 = omega (arith, found_word.some) in
    let room_text : at + n ≤ length text = omega (arith, found_word.room, length-bare_from false bytes) in
    let counts = counts_run text old.whole (length old.lists.items) at n so_far.counts room_text
    (λ k before. not_class (get_or text (at + k) 0) Opens 40 (found_word.here k before) refl refl)
    (λ k before. not_class (get_or text (at + k) 0) Closes 41 (found_word.here k before) refl refl)
    (λ k before begins. omega (arith, deep.0, deep.1)) in (
      omega (arith, found_word.some),
      subst (λ (w : Option Tree). IsReadTo bytes w new.lists.items (at + n)) (sym same) (record {
        within = found_word.room;
        no_comment = found_word.no_comment;
        no_word = λ before place in_word more. found_word.ends more;
        found = found_more (read old.whole old.lists.items) (read old.whole new.lists.items) (tokens (at + n) (drop (at + n) text)) [] (tokens 0 text) (Word at (at + n) word)
            (ap (λ (ts : List Token). read old.whole old.lists.items ++ ts) (sym found_word.token) ∙ so_far.found)
            (read_adds old.whole t old.lists.items new.lists.items adds ∙ ap (λ (ts : List Token). read old.whole old.lists.items ++ ts) (tokens_of_word at (at + n) word));
        counts = subst (λ (m : ℕ). IsCounted text old.whole m (at + n)) (sym deep.0) counts;
      }),
    )

pub word_stops : (bytes : List ℕ) (old new : Reading) (at end : ℕ) (word : List ℕ) (stop : Stop) → IsReadTo bytes old.whole old.lists.items at → at < length bytes → class_of (get_or bytes at 0) ≡ InWord
    → AddsWord at end word old new (Err stop) → Stops bytes stop
word_stops bytes old new at end word (Paren place) so_far within is fault =
    let text = bare bytes in
    let none : length old.lists.items ≡ 0 = ap length fault.1 in
    let more = bare_more bytes at within so_far.no_comment (isnt_semicolon (get_or bytes at 0) InWord is (λ e. absurd (cc e))) in
    let first : is_in_word (get_or text at 0) ≡ true = ap is_in_word more.0 ∙ ap is_in_word_class is in
    subst (λ (n : ℕ). Stops bytes (Paren n)) (sym fault.0)
    (first_word_outside bytes old.whole at (subst (λ (n : ℕ). IsCounted text old.whole n at) none so_far.counts)
    (record { within = in_text bytes at within; here = first; not_before = λ before place in_word. so_far.no_word before place in_word first }))
word_stops bytes old new at end word (Deep place) so_far within is fault = absurd fault
word_stops bytes old new at end word Memory so_far within is fault = tt
