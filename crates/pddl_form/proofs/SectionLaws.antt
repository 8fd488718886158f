-- Sections that are looked for, and tests of trees one behind another.
use Rattle.std.proofs.Common.{◌≡◌, ℕ, ◌+◌, ◌<◌, ◌≤◌, Bool, List, [], ◌∷◌, ◌++◌, map, length, get_or, take, drop, Option, Some, None, refl, sym, ◌∙◌, ap, subst, Result, Ok, Err}
use Rattle.std.proofs.lemmas.List.{take_more, take_all, at_drop_more, drop_all, append-nil, map-append}
use Rattle.std.proofs.lemmas.List.Elements.{filter_map-append}
use Rattle.std.specs.List.{cons_option}
use Rattle.std.specs.Option.{option_and, option_map}
use Rattle.std.specs.declared.alloc.AllocError.{AllocError}
use Rattle.sexpr.specs.declared.fault.Source.{Source}
use Rattle.sexpr.specs.declared.tree.Tree.{Tree}
use Rattle.pddl_form.specs.declared.fault.Fault.{Fault}
use Rattle.pddl_form.specs.Judged.{Judged, good, bad, noted, both, each}
use Rattle.pddl_form.specs.Gather.{option_both, push}
use Rattle.pddl_form.specs.Reading.{IsRead, Reads}
use Rattle.pddl_form.specs.inside.Seen.{HasSeen}
use Rattle.pddl_form.specs.Sections.{Contents, Tested, contents_behind, section_with, sections_with, or_next, second, each_tested, section_form, no_effect, and_then}
use Rattle.pddl_form.proofs.Judging.{noted-good, each-push}
use Rattle.pddl_form.proofs.Loops.{read_good, read_as, read_both}

pub section_behind : (word : List ℕ) (trees : List Tree) (i : ℕ) (t : Tree) → i < length trees → t ≡ get_or trees i t → section_with word (drop i trees) ≡ or_next (contents_behind word t) (section_with word (drop (i + 1) trees))
section_behind word trees i t within at =
    at_drop_more (section_with word) trees i t within ∙ ap (λ (s : Tree). or_next (contents_behind word s) (section_with word (drop (i + 1) trees))) (sym at)

pub section_here : (word : List ℕ) (trees : List Tree) (i : ℕ) (t : Tree) (found : Option Contents) (c : Contents) → section_with word (drop i trees) ≡ section_with word trees → i < length trees → t ≡ get_or trees i t → found ≡ contents_behind word t → found ≡ Some c → Some c ≡ section_with word trees
section_here word trees i t found c so_far within at is here =
    ap (λ (o : Option Contents). or_next o (section_with word (drop (i + 1) trees))) (sym here ∙ is) ∙ sym (section_behind word trees i t within at) ∙ so_far

pub section_later : (word : List ℕ) (trees : List Tree) (i : ℕ) (t : Tree) (found : Option Contents) → section_with word (drop i trees) ≡ section_with word trees → i < length trees → t ≡ get_or trees i t → found ≡ contents_behind word t → found ≡ None → section_with word (drop (i + 1) trees) ≡ section_with word trees
section_later word trees i t found so_far within at is none =
    ap (λ (o : Option Contents). or_next o (section_with word (drop (i + 1) trees))) (sym none ∙ is) ∙ sym (section_behind word trees i t within at) ∙ so_far

pub section_nowhere : (word : List ℕ) (trees : List Tree) (i : ℕ) → section_with word (drop i trees) ≡ section_with word trees → length trees ≤ i → None ≡ section_with word trees
section_nowhere word trees i so_far whole = ap (section_with word) (sym (drop_all i trees whole)) ∙ so_far

pub seen_more : (trees : List Tree) (i : ℕ) (t : Tree) (flags : List Bool) → i < length trees → t ≡ get_or trees i t → HasSeen (push (take i trees) t) flags → HasSeen (take (i + 1) trees) flags
seen_more trees i t flags within at h = subst (λ (front : List Tree). HasSeen front flags) (ap (push (take i trees)) at ∙ sym (take_more trees i t within)) h

-- those behind the first i trees read to something, and so does the whole
pub record AreTested (form : List Tree → Tree → Tested) (trees : List Tree) (i : ℕ) (old now : Option Fault) (all : Option (Unit {0})) : Type 0 where
  pub rest_reads : (new : Option Fault) (x : Option (Unit {0})) → IsRead (each_tested form (take i trees) (drop i trees)) now new x → IsRead (each_tested form [] trees) old new (option_and all x)

pub none_tested : (form : List Tree → Tree → Tested) (trees : List Tree) (first : Option Fault) (u : Unit {0}) → AreTested form trees 0 first first (Some u)
none_tested form trees first u = record { rest_reads = λ new x h. h }

tests-and : {A : Type 0} (x y : Option (Unit {0})) (z : Option A) → option_both second x (option_both second y z) ≡ option_and (option_and x y) z
tests-and None y z = refl
tests-and (Some u) None z = refl
tests-and (Some u) (Some v) None = refl
tests-and (Some u) (Some v) (Some a) = refl

-- two tests in front of a whole
pub tested_read : {A : Type 0} (j k : Tested) (w : Judged A) (f0 f1 f2 f3 : Option Fault) (x y both_pass : Option (Unit {0})) (z made r : Option A)
    → IsRead j f0 f1 x → IsRead k f1 f2 y → IsRead w f2 f3 z → both_pass ≡ option_and x y → made ≡ z → r ≡ option_and both_pass made → IsRead (both second j (both second k w)) f0 f3 r
tested_read {A = A} j k w f0 f1 f2 f3 x y both_pass z made r hj hk hw pass is_made is =
    let same : option_and both_pass made ≡ option_and (option_and x y) z = ap (λ (o : Option (Unit {0})). option_and o made) pass ∙ ap (option_and (option_and x y)) is_made in
    subst (λ (o : Option A). IsRead (both second j (both second k w)) f0 f3 o) (tests-and x y z ∙ sym (is ∙ same))
    (read_both second j (both second k w) f0 f1 f3 x (option_both second y z) hj (read_both second k w f1 f2 f3 y z hk hw))

and-both : (all one x : Option (Unit {0})) → option_and all (option_both second one x) ≡ option_and (option_and all one) x
and-both None one x = refl
and-both (Some u) None x = refl
and-both (Some u) (Some v) None = refl
and-both (Some u) (Some v) (Some w) = refl

and-fine : (all : Option (Unit {0})) → option_and all (Some tt) ≡ all
and-fine None = refl
and-fine (Some u) = refl

pub one_more_tested : (form : List Tree → Tree → Tested) (trees : List Tree) (i : ℕ) (t : Tree) (front : List Tree) (old mid new : Option Fault) (all one more : Option (Unit {0}))
    → AreTested form trees i old mid all → i < length trees → t ≡ get_or trees i t → front ≡ take i trees → IsRead (form front t) mid new one → more ≡ option_and all one
    → AreTested form trees (i + 1) old new more
one_more_tested form trees i t front old mid new all one more h within at in_front k is =
    let rest : Tested = each_tested form (take (i + 1) trees) (drop (i + 1) trees) in
    let here : each_tested form (take i trees) (drop i trees) ≡ both second (form front t) rest =
    at_drop_more (each_tested form (take i trees)) trees i t within
    ∙ ap (λ (ts : List Tree). both second (form (take i trees) (get_or trees i t)) (each_tested form ts (drop (i + 1) trees))) (sym (take_more trees i t within))
    ∙ ap (λ (s : Tree). both second (form (take i trees) s) rest) (sym at)
    ∙ ap (λ (ts : List Tree). both second (form ts t) rest) (sym in_front) in
    record {
      rest_reads = λ last x r.
          subst (λ (o : Option (Unit {0})). IsRead (each_tested form [] trees) old last o) (and-both all one x ∙ ap (λ (o : Option (Unit {0})). option_and o x) (sym is))
          (h.rest_reads last (option_both second one x)
          (subst (λ (j : Tested). IsRead j mid last (option_both second one x)) (sym here) (read_both second (form front t) rest mid new last one x k r)));
    }

pub all_tested : (form : List Tree → Tree → Tested) (trees : List Tree) (i : ℕ) (old now : Option Fault) (all : Option (Unit {0})) → AreTested form trees i old now all → length trees ≤ i → IsRead (each_tested form [] trees) old now all
all_tested form trees i old now all h whole =
    subst (λ (o : Option (Unit {0})). IsRead (each_tested form [] trees) old now o) (and-fine all)
    (h.rest_reads now (Some tt) (subst (λ (ts : List Tree). IsRead (each_tested form (take i trees) ts) now now (Some tt)) (sym (drop_all i trees whole)) (read_good now tt)))

-- the words of the first i sections are seen and tested
pub record WordsSoFar (file : Source) (sections : List Tree) (i : ℕ) (flags : List Bool) (old now : Option Fault) (all : Option (Unit {0})) : Type 0 where
  pub seen : HasSeen (take i sections) flags
  pub tested : AreTested (section_form file) sections i old now all

-- what is made of what another form makes
pub and_then_none : {A B : Type 0} (j : Judged A) (form : A → Judged B) (old new : Option Fault) (x : Option A) → IsRead j old new x → x ≡ None → IsRead (and_then j form) old new None
unfolding noted
and_then_none (good a) form old new x h is = absurd (let no : None ≡ Some a = sym is ∙ h.syntax_is in cc)
and_then_none (bad f more) form old new x h is = record { syntax_is = refl; first_is = h.first_is }

pub and_then_some : {A B : Type 0} (j : Judged A) (form : A → Judged B) (a : A) (old mid new : Option Fault) (x : Option A) (y : Option B) → IsRead j old mid x → x ≡ Some a → IsRead (form a) mid new y → IsRead (and_then j form) old new y
and_then_some {A = A} {B = B} (good b) form a old mid new x y h is k =
    let same : a ≡ b = (let whole : Some a ≡ Some b = sym is ∙ h.syntax_is in cc) in
    let kept : mid ≡ old = h.first_is ∙ noted-good old b in
    subst (λ (o : Option Fault). IsRead (form b) o new y) kept (subst (λ (c : A). IsRead (form c) mid new y) same k)
and_then_some (bad f more) form a old mid new x y h is k = absurd (let no : Some a ≡ None = sym is ∙ h.syntax_is in cc)

pub and_then_reads : {A B : Type 0} (j : Judged A) (form : A → Judged B) (a : A) (old mid new : Option Fault) (x : Option A) (r : Result (Option B) AllocError) → IsRead j old mid x → x ≡ Some a → Reads (form a) mid new r → Reads (and_then j form) old new r
and_then_reads j form a old mid new x (Ok y) h is k = and_then_some j form a old mid new x y h is k
and_then_reads j form a old mid new x (Err e) h is k = tt

pub and-no_effect : {A : Type 0} (x : Option A) → option_and x (Some tt) ≡ option_map no_effect x
and-no_effect None = refl
and-no_effect (Some a) = refl

-- ---- all sections with a word

module _ {A : Type 0} (form : Contents → Judged A) (word : List ℕ) where
  -- those among the first i sections, read one after another
  pub record AreSectionsRead (sections : List Tree) (i : ℕ) (old now : Option Fault) (found : Option (List A)) : Type 0 where
    pub are_read : IsRead (each (map form (sections_with word (take i sections)))) old now found

  with_push : (front : List Tree) (t : Tree) → sections_with word (front ++ t ∷ []) ≡ sections_with word front ++ sections_with word (t ∷ [])
  with_push front t = filter_map-append (contents_behind word) front (t ∷ [])

  -- one more section
  with_more : (sections : List Tree) (i : ℕ) (t : Tree) → i < length sections → t ≡ get_or sections i t → sections_with word (take (i + 1) sections) ≡ sections_with word (take i sections) ++ sections_with word (t ∷ [])
  with_more sections i t within at = ap (sections_with word) (take_more sections i t within ∙ ap (λ (s : Tree). take i sections ++ s ∷ []) (sym at)) ∙ with_push (take i sections) t

  pub no_section_read : (sections : List Tree) (first : Option Fault) (items : List A) → items ≡ [] → AreSectionsRead sections 0 first first (Some items)
  no_section_read sections first items is = record { are_read = read_as (good []) first first (Some []) (Some items) (read_good first []) (ap Some is) }

  -- a section that starts with another word
  pub section_passed : (sections : List Tree) (i : ℕ) (t : Tree) (old now : Option Fault) (found : Option (List A))
      → AreSectionsRead sections i old now found → i < length sections → t ≡ get_or sections i t → None ≡ contents_behind word t → AreSectionsRead sections (i + 1) old now found
  section_passed sections i t old now found h within at none =
      let same : sections_with word (take (i + 1) sections) ≡ sections_with word (take i sections) =
      with_more sections i t within at ∙ ap (λ (o : Option Contents). sections_with word (take i sections) ++ cons_option o []) (sym none) ∙ append-nil (sections_with word (take i sections)) in
      record { are_read = subst (λ (cs : List Contents). IsRead (each (map form cs)) old now found) (sym same) h.are_read }

  -- a section that starts with the word
  pub section_taken : (sections : List Tree) (i : ℕ) (t : Tree) (old mid new : Option Fault) (found more : Option (List A)) (one : Option A) (c : Contents)
      → AreSectionsRead sections i old mid found → i < length sections → t ≡ get_or sections i t → Some c ≡ contents_behind word t
      → IsRead (form c) mid new one → more ≡ option_both push found one → AreSectionsRead sections (i + 1) old new more
  section_taken sections i t old mid new found more one c h within at here k is_more =
      let front = sections_with word (take i sections) in
      let same : sections_with word (take (i + 1) sections) ≡ front ++ c ∷ [] = with_more sections i t within at ∙ ap (λ (o : Option Contents). front ++ cons_option o []) (sym here) in
      let whole : each (map form (sections_with word (take (i + 1) sections))) ≡ both push (each (map form front)) (form c) =
      ap (λ (cs : List Contents). each (map form cs)) same ∙ ap each (map-append form front (c ∷ [])) ∙ each-push (map form front) (form c) in
      record {
        are_read =
            subst (λ (j : Judged (List A)). IsRead j old new more) (sym whole)
            (read_as (both push (each (map form front)) (form c)) old new (option_both push found one) more (read_both push (each (map form front)) (form c) old mid new found one h.are_read k) is_more);
      }

  pub sections_read : (sections : List Tree) (i : ℕ) (old now : Option Fault) (found : Option (List A)) → AreSectionsRead sections i old now found → length sections ≤ i → IsRead (each (map form (sections_with word sections))) old now found
  sections_read sections i old now found h whole = subst (λ (ts : List Tree). IsRead (each (map form (sections_with word ts))) old now found) (take_all i sections whole) h.are_read
