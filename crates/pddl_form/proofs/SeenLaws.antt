-- The flags of the words that sections start with.
use Rattle.std.proofs.Common.{◌≡◌, ℕ, zero, suc, Bool, true, false, List, [], ◌∷◌, set, Option, Some, None, Result, inl, inr, refl, sym, ◌∙◌, ap, subst}
use Rattle.std.specs.Prelude.{IsTrue, bytes_eq, nat_eq, slice_get, not, ◌&&◌, ◌||◌, if◌then◌else◌}
use Rattle.std.specs.List.{list_all}
use Rattle.std.specs.Option.{is_some, option_eq}
use Rattle.std.proofs.lemmas.Bool.{cases_eq, eq-eqb, ne_eqb}
use Rattle.kw_table.specs.Table.{IsAbsent, Finds}
use Rattle.sexpr.specs.declared.tree.Tree.{Tree, out-Tree}
use Rattle.sexpr.specs.declared.tree.Tree.TheOpen.{Tree-F}
use Rattle.std.specs.declared.alloc.AllocError.{AllocError}
use Rattle.sexpr.specs.declared.fault.Source.{Source}
use Rattle.sexpr.specs.Opened.{text_of, start_of}
use Rattle.pddl_form.specs.declared.fault.Fault.{Fault}
use Rattle.pddl_form.specs.declared.kinds.Kind.{Kind}
use Rattle.pddl_form.specs.declared.kinds.Kind.TheVariants.{Many, Once, Unread, Unknown}
use Rattle.pddl_form.specs.Faults.{first_with, shape}
use Rattle.pddl_form.specs.Reading.{IsRead, Reads}
use Rattle.pddl_form.specs.Gather.{push}
use Rattle.pddl_form.specs.Words.{is_word}
use Rattle.pddl_form.specs.Names.{is_one_of}
use Rattle.pddl_form.specs.Sections.{Tested, kind_of, section_by, section_head, Contents, contents_at, contents_behind, or_next, section_with, section_words}
use Rattle.pddl_form.specs.inside.Seen.{first_word, first_word_at, HasSeen}
use Rattle.pddl_form.proofs.Loops.{read_bad}
use Rattle.pddl_form.proofs.Keywords.{same_word, other_word, or_true, and_first, and_second, has_word, is_none, isnt, once_is_known}

-- ---- words at their places

-- each word of the table isn't empty, and stands at one place
all_at : (p : List ℕ → Bool) (words : List (List ℕ)) (at : ℕ) (word : List ℕ) → list_all p words ≡ true → slice_get words at ≡ Some word → p word ≡ true
all_at p [] at word all is = absurd (cc is)
all_at p (w ∷ words) zero word all is = ap p (let same : word ≡ w = cc is in same) ∙ and_first (p w) (list_all p words) all
all_at p (w ∷ words) (suc at) word all is = all_at p words at word (and_second (p w) (list_all p words) all) is

not_true : (b : Bool) → not b ≡ true → b ≡ false
not_true true is = absurd (cc is)
not_true false is = refl

isnt_empty : (at : ℕ) (word : List ℕ) → slice_get section_words at ≡ Some word → bytes_eq [] word ≡ false
isnt_empty at word is = not_true (bytes_eq [] word) (all_at (λ w. not (bytes_eq [] w)) section_words at word refl is)

abbrev no_repeats : List (List ℕ) → Bool
no_repeats [] = true
no_repeats (w ∷ words) = not (is_one_of words w) && no_repeats words

repeated : (words : List (List ℕ)) (v w : List ℕ) (at : ℕ) → not (is_one_of words v) ≡ true → v ≡ w → slice_get words at ≡ Some w → ⊥
repeated words v w at other same is = cc (sym (not_true (is_one_of words v) other) ∙ ap (is_one_of words) same ∙ has_word words at w is)

same_place : (words : List (List ℕ)) (i j : ℕ) (w : List ℕ) → no_repeats words ≡ true → slice_get words i ≡ Some w → slice_get words j ≡ Some w → i ≡ j
same_place [] i j w once is_i is_j = absurd (cc is_i)
same_place (v ∷ words) zero zero w once is_i is_j = refl
same_place (v ∷ words) zero (suc j) w once is_i is_j = absurd (repeated words v w j (and_first (not (is_one_of words v)) (no_repeats words) once) (cc is_i) is_j)
same_place (v ∷ words) (suc i) zero w once is_i is_j = absurd (repeated words v w i (and_first (not (is_one_of words v)) (no_repeats words) once) (cc is_j) is_i)
same_place (v ∷ words) (suc i) (suc j) w once is_i is_j = ap suc (same_place words i j w (and_second (not (is_one_of words v)) (no_repeats words) once) is_i is_j)

-- the word that was found is the one at a place, or another
pub at_place : (words : List (List ℕ)) (found : Option ℕ) (at : ℕ) (word text bytes : List ℕ) → no_repeats words ≡ true → slice_get words at ≡ Some word → Finds words bytes found → bytes ≡ text
    → option_eq nat_eq found (Some at) ≡ bytes_eq text word
at_place words None at word text bytes once is absent same = sym (other_word text word (λ eq. isnt words bytes word absent (has_word words at word is) (sym (same ∙ eq))))
at_place words (Some i) at word text bytes once is here same = elim (cases_eq i at) [
  | inl eq ↦
      let whole : Some bytes ≡ Some word = sym here ∙ ap (slice_get words) eq ∙ is in
      let there : bytes ≡ word = cc in
      eq-eqb i at eq ∙ sym (same_word text word (sym same ∙ there))
  | inr other ↦ ne_eqb i at other ∙ sym (other_word text word (λ eq. other (same_place words i at word once (here ∙ ap Some (same ∙ eq)) is)))
]

-- ---- one more section

or_next-none : (c : Option Contents) → or_next c None ≡ c
or_next-none None = refl
or_next-none (Some c) = refl

or_next-assoc : (a b c : Option Contents) → or_next a (or_next b c) ≡ or_next (or_next a b) c
or_next-assoc None b c = refl
or_next-assoc (Some a) b c = refl

section_with-push : (word : List ℕ) (front : List Tree) (t : Tree) → section_with word (push front t) ≡ or_next (section_with word front) (contents_behind word t)
section_with-push word [] t = or_next-none (contents_behind word t)
section_with-push word (s ∷ front) t = ap (or_next (contents_behind word s)) (section_with-push word front t) ∙ or_next-assoc (contents_behind word s) (section_with word front) (contents_behind word t)

is_some-or_next : (a b : Option Contents) → is_some (or_next a b) ≡ (is_some a || is_some b)
is_some-or_next None b = refl
is_some-or_next (Some a) b = refl

is_some-if : (b : Bool) (c : Contents) → is_some (if b then Some c else None) ≡ b
is_some-if true c = refl
is_some-if false c = refl

starts_at : (word : List ℕ) (d : Tree-F Tree) → bytes_eq [] word ≡ false → is_some (contents_at word d) ≡ bytes_eq (first_word_at d) word
starts_at word (Tree-F.Word start end text) some = sym some
starts_at word (Tree-F.List start end []) some = sym some
starts_at word (Tree-F.List start end (head ∷ parts)) some = is_some-if (is_word word head) (record { start = start; end = end; parts = parts })

starts : (word : List ℕ) (t : Tree) → bytes_eq [] word ≡ false → is_some (contents_behind word t) ≡ bytes_eq (first_word t) word
unfolding contents_behind first_word
starts word t some = starts_at word (out-Tree t) some

-- whether one of the sections starts with a word of the table, with one more section
one_more : (front : List Tree) (t : Tree) (at : ℕ) (word : List ℕ) → slice_get section_words at ≡ Some word → is_some (section_with word (push front t)) ≡ (is_some (section_with word front) || bytes_eq (first_word t) word)
one_more front t at word is =
    ap is_some (section_with-push word front t)
    ∙ is_some-or_next (section_with word front) (contents_behind word t)
    ∙ ap (λ (b : Bool). is_some (section_with word front) || b) (starts word t (isnt_empty at word is))

or_false : (a : Bool) → (a || false) ≡ a
or_false true = refl
or_false false = refl

-- ---- the flags

slice_get-set_same : (flags : List Bool) (at : ℕ) (b was : Bool) → slice_get flags at ≡ Some was → slice_get (set flags at b) at ≡ Some b
slice_get-set_same [] at b was is = absurd (cc is)
slice_get-set_same (f ∷ flags) zero b was is = refl
slice_get-set_same (f ∷ flags) (suc at) b was is = slice_get-set_same flags at b was is

slice_get-set_other : (flags : List Bool) (i at : ℕ) (b : Bool) → (i ≡ at → ⊥) → slice_get (set flags at b) i ≡ slice_get flags i
slice_get-set_other [] i at b other = refl
slice_get-set_other (f ∷ flags) zero zero b other = absurd (other refl)
slice_get-set_other (f ∷ flags) zero (suc at) b other = refl
slice_get-set_other (f ∷ flags) (suc i) zero b other = refl
slice_get-set_other (f ∷ flags) (suc i) (suc at) b other = slice_get-set_other flags i at b (λ same. other (ap suc same))

pub none_seen_more : (front : List Tree) (t : Tree) (flags : List Bool) (word : List ℕ) → word ≡ first_word t → IsAbsent word section_words → HasSeen front flags → HasSeen (push front t) flags
none_seen_more front t flags first same absent h = record {
  each_flag = λ at word is.
      let other : bytes_eq (first_word t) word ≡ false = other_word (first_word t) word (λ eq. isnt section_words first word absent (has_word section_words at word is) (sym (same ∙ eq))) in
      h.each_flag at word is
      ∙ ap Some (sym (or_false (is_some (section_with word front))) ∙ sym (ap (λ (b : Bool). is_some (section_with word front) || b) other) ∙ sym (one_more front t at word is));
}

pub one_seen_more : (front : List Tree) (t : Tree) (flags : List Bool) (word : List ℕ) (at : ℕ) → word ≡ first_word t → slice_get section_words at ≡ Some word → HasSeen front flags → HasSeen (push front t) (set flags at true)
one_seen_more front t flags first at same here h = record { each_flag = λ i word is. by_place i word is }
  where
    by_place : (i : ℕ) (word : List ℕ) → slice_get section_words i ≡ Some word → slice_get (set flags at true) i ≡ Some (is_some (section_with word (push front t)))
    by_place i word is = elim (cases_eq i at) [
      | inl eq ↦
          let word_is : first ≡ word = (let whole : Some first ≡ Some word = sym here ∙ sym (ap (slice_get section_words) eq) ∙ is in cc) in
          let starts_so : bytes_eq (first_word t) word ≡ true = same_word (first_word t) word (sym same ∙ word_is) in
          ap (slice_get (set flags at true)) eq
          ∙ slice_get-set_same flags at true (is_some (section_with first front)) (h.each_flag at first here)
          ∙ ap Some (sym (one_more front t i word is ∙ ap (λ (b : Bool). is_some (section_with word front) || b) starts_so ∙ or_true (is_some (section_with word front))))
      | inr other ↦
          let starts_not : bytes_eq (first_word t) word ≡ false = other_word (first_word t) word (λ eq. other (same_place section_words i at word refl is (here ∙ ap Some (same ∙ eq)))) in
          slice_get-set_other flags i at true other
          ∙ h.each_flag i word is
          ∙ ap Some (sym (or_false (is_some (section_with word front))) ∙ sym (ap (λ (b : Bool). is_some (section_with word front) || b) starts_not) ∙ sym (one_more front t i word is))
    ]

-- a word that the table hasn't
pub not_known : {A : Type 0} (text word : List ℕ) → word ≡ text → IsAbsent word section_words → IsTrue (is_one_of section_words text) → A
not_known text word same absent is = absurd (cc (sym is ∙ sym (ap (is_one_of section_words) same) ∙ is_none section_words word absent))

-- ---- the word of a section

-- whether it stands twice counts for a word that may stand once
by_kind : (k : Kind) (a b : Bool) (place : ℕ) (text : List ℕ) → (k ≡ Once → a ≡ b) → section_by k a place text ≡ section_by k b place text
by_kind Many a b place text same = refl
by_kind Once a b place text same = ap (λ (c : Bool). section_by Once c place text) (same refl)
by_kind Unread a b place text same = refl
by_kind Unknown a b place text same = refl

pub head_read : (file : Source) (front : List Tree) (start : ℕ) (head : Tree) (text : List ℕ) (k : Kind) (twice : Bool) (place : ℕ) (old new : Option Fault) (r : Result (Option (Unit {0})) AllocError)
    → Some text ≡ text_of head → k ≡ kind_of file text → (IsTrue (is_one_of section_words text) → twice ≡ is_some (section_with text front)) → place ≡ start_of head
    → Reads (section_by k twice place text) old new r → Reads (section_head file front start head (text_of head)) old new r
head_read file front start head text k twice place old new r is is_kind is_twice is_place h =
    let word : section_by k twice place text ≡ section_by (kind_of file text) (is_some (section_with text front)) (start_of head) text =
    ap (λ (n : ℕ). section_by k twice n text) is_place
    ∙ ap (λ (c : Kind). section_by c twice (start_of head) text) is_kind
    ∙ by_kind (kind_of file text) twice (is_some (section_with text front)) (start_of head) text (λ once. is_twice (once_is_known file text once)) in
    subst (λ (o : Option (List ℕ)). Reads (section_head file front start head o) old new r) is (subst (λ (j : Tested). Reads j old new r) word h)

pub head_unread : (file : Source) (front : List Tree) (start : ℕ) (head : Tree) (old new : Option Fault) → None ≡ text_of head → new ≡ Some (first_with old (shape start)) → IsRead (section_head file front start head (text_of head)) old new None
head_unread file front start head old new is is_new = subst (λ (o : Option (List ℕ)). IsRead (section_head file front start head o) old new None) is (read_bad old new (shape start) is_new)
