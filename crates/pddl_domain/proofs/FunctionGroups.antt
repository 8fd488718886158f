-- A list of functions, tree by tree, is its groups.
use Rattle.std.proofs.Common.{◌≡◌, ℕ, Bool, true, false, List, [], ◌∷◌, ◌++◌, length, map, refl, sym, ◌∙◌, ap, subst, append_assoc, arith}
use Rattle.std.specs.Prelude.{if◌then◌else◌, codes, bytes_eq, not, ◌&&◌, ◌||◌, ◌==◌, ◌↔◌, unwrap_or}
use Rattle.std.specs.List.{list_all}
use Rattle.std.proofs.lemmas.Bool.{and_parts, and_from}
use Rattle.std.proofs.lemmas.Bool.Decides.{nat_tests}
use Rattle.std.proofs.lemmas.List.{append-nil}
use Rattle.sexpr.specs.declared.tree.Tree.{Tree, out-Tree}
use Rattle.sexpr.specs.declared.tree.Tree.TheOpen.{Tree-F}
use Rattle.sexpr.specs.Opened.{start_of, text_at}
use Rattle.pddl_form.specs.Faults.{shape}
use Rattle.pddl_form.specs.Gather.{push}
use Rattle.pddl_form.specs.Judged.{Judged, good, bad, mapped, both, each, provided, unread_feature}
use Rattle.pddl_form.specs.Typed.{only}
use Rattle.pddl_form.specs.Words.{word_of, is_word}
use Rattle.pddl_form.proofs.Groups.{both_give, both_good, provided_give, by_test}
use Rattle.pddl_domain.specs.declared.head.Head.{Head}
use Rattle.pddl_domain.specs.FunctionGroups.{FunctionGroup, is_function_group, trees_of, heads_of, IsFunctionList}
use Rattle.pddl_domain.specs.Heads.{head_at, head_form, number_at, number_mark, functions_behind, behind_dash, functions}

-- ---- functions and the word `number`

abbrev word_at : Tree-F Tree → List ℕ
word_at opened = unwrap_or (text_at opened) []

head_at_no_dash : (opened : Tree-F Tree) (h : Head) → head_at opened ≡ good h → bytes_eq (word_at opened) (codes "-") ≡ false
head_at_no_dash (Tree-F.Word start end text) h is = absurd (cc is)
head_at_no_dash (Tree-F.List start end items) h is = refl

no_dash : (t : Tree) (h : Head) → head_form t ≡ good h → is_word (codes "-") t ≡ false
unfolding head_form word_of
no_dash t h is = head_at_no_dash (out-Tree t) h is

abbrev number_if : Bool → Tree → Judged (List Head)
number_if is t = if is then good [] else unread_feature (start_of t) (word_of t)

number_by : (b : Bool) (t : Tree) (made : List Head) → number_if b t ≡ good made → (b ≡ true) × (made ≡ [])
number_by true t made is = (refl, cc is)
number_by false t made is = absurd (cc is)

number_at_gives : (t : Tree) (opened : Tree-F Tree) (made : List Head) → number_at t opened ≡ good made → (is_word (codes "number") t ≡ true) × (made ≡ [])
number_at_gives t (Tree-F.Word start end text) made is = number_by (is_word (codes "number") t) t made is
number_at_gives t (Tree-F.List start end items) made is = absurd (cc is)

number_gives : (t : Tree) (made : List Head) → number_mark t ≡ good made → (is_word (codes "number") t ≡ true) × (made ≡ [])
unfolding number_mark
number_gives t made is = number_at_gives t (out-Tree t) made is

number_at_good : (t : Tree) (opened : Tree-F Tree) → is_word (codes "number") t ≡ true → bytes_eq (word_at opened) (codes "number") ≡ true → number_at t opened ≡ good []
number_at_good t (Tree-F.Word start end text) is so = ap (λ (b : Bool). number_if b t) is
number_at_good t (Tree-F.List start end items) is so = absurd (cc so)

word_opened : (t : Tree) → word_at (out-Tree t) ≡ word_of t
unfolding word_of
word_opened t = refl

number_good : (t : Tree) → is_word (codes "number") t ≡ true → number_mark t ≡ good []
unfolding number_mark
number_good t is = number_at_good t (out-Tree t) is (ap (λ (w : List ℕ). bytes_eq w (codes "number")) (word_opened t) ∙ is)

-- ---- heads in order

empty_given : (hs : List Head) → good [] ≡ good hs → hs ≡ []
empty_given hs is = cc is

each_append : (xs ys : List Tree) (fs gs : List Head) → each (map head_form xs) ≡ good fs → each (map head_form ys) ≡ good gs → each (map head_form (xs ++ ys)) ≡ good (fs ++ gs)
each_append [] ys fs gs is so = so ∙ ap (λ (hs : List Head). good (hs ++ gs)) (sym (empty_given fs is))
each_append (x ∷ xs) ys fs gs is so =
    let made = both_give ◌∷◌ (head_form x) (each (map head_form xs)) fs is in
    both_good ◌∷◌ (head_form x) (each (map head_form (xs ++ ys))) made.left (made.right ++ gs) made.left_is (each_append xs ys made.right gs made.right_is so)
    ∙ ap (λ (hs : List Head). good (hs ++ gs)) (sym made.whole_is)

one_head : (t : Tree) (h : Head) → head_form t ≡ good h → each (map head_form (t ∷ [])) ≡ good (h ∷ [])
one_head t h is = both_good ◌∷◌ (head_form t) (good []) h [] is refl

record HeadParts (xs ys : List Tree) (fs : List Head) : Type 0 where
  front : List Head
  behind : List Head
  front_is : each (map head_form xs) ≡ good front
  behind_is : each (map head_form ys) ≡ good behind
  whole : fs ≡ front ++ behind

each_parts : (xs ys : List Tree) (fs : List Head) → each (map head_form (xs ++ ys)) ≡ good fs → HeadParts xs ys fs
each_parts [] ys fs is = record { front = []; behind = fs; front_is = refl; behind_is = is; whole = refl }
each_parts (x ∷ xs) ys fs is =
    let made = both_give ◌∷◌ (head_form x) (each (map head_form (xs ++ ys))) fs is in
    let more = each_parts xs ys made.right made.right_is in
    record {
      front = made.left ∷ more.front;
      behind = more.behind;
      front_is = both_good ◌∷◌ (head_form x) (each (map head_form xs)) made.left more.front made.left_is more.front_is;
      behind_is = more.behind_is;
      whole = made.whole_is ∙ ap (λ (hs : List Head). made.left ∷ hs) more.whole;
    }

-- whether a function waits for a `-`
abbrev waiting : List Tree → Bool
waiting front = not (length front == 0)

waits_on : (front : List Tree) (t : Tree) → waiting (push front t) ≡ true
waits_on [] t = refl
waits_on (s ∷ front) t = grind (arith, nat_tests)

or_none : (b : Bool) → (b || waiting []) ≡ b
or_none true = refl
or_none false = refl

or_some : (b : Bool) (t : Tree) (heads : List Tree) → (b || waiting (t ∷ heads)) ≡ true
or_some true t heads = refl
or_some false t heads = grind (arith, nat_tests)

mapped_only : (j : Judged Head) (made : List Head) → mapped only j ≡ good made → (h : Head) × (j ≡ good h) × (made ≡ h ∷ [])
mapped_only (good h) made is = (h, refl, cc is)
mapped_only (bad f more) made is = absurd (cc is)

-- ---- functions are groups

module _ (end : ℕ) where
  abbrev step : Bool → Tree → List Tree → Bool → Judged (List Head)
  step waits t more dash = if dash then both ◌++◌ (provided waits (shape (start_of t)) (good [])) (behind_dash end more) else both ◌++◌ (mapped only (head_form t)) (functions_behind end true more)

  -- what is left, behind functions that wait
  abbrev Found : List Tree → List Tree → List Head → List Head → Type 0
  Found trees front fs items = IsFunctionList (front ++ trees) (fs ++ items)

  grouped : (front : List Tree) (t u : Tree) (rest : List Tree) (fs items : List Head) → each (map head_form front) ≡ good fs → is_word (codes "-") t ≡ true
      → ((b : List Head) → functions_behind end false rest ≡ good b → IsFunctionList rest b)
      → both ◌++◌ (provided (waiting front) (shape (start_of t)) (good [])) (behind_dash end (u ∷ rest)) ≡ good items → Found (t ∷ u ∷ rest) front fs items
  grouped front t u rest fs items fs_is dash more is =
      let whole = both_give ◌++◌ (provided (waiting front) (shape (start_of t)) (good [])) (behind_dash end (u ∷ rest)) items is in
      let waits = provided_give (waiting front) (shape (start_of t)) (good []) whole.left whole.left_is in
      let here = both_give ◌++◌ (number_mark u) (functions_behind end false rest) whole.right whole.right_is in
      let number = number_gives u here.left here.left_is in
      let others = more here.right here.right_is in
      let same : items ≡ here.right =
      whole.whole_is ∙ ap (λ (hs : List Head). hs ++ whole.right) (empty_given whole.left waits.is) ∙ here.whole_is ∙ ap (λ (hs : List Head). hs ++ here.right) number.1 in
      record {
        groups = record { heads = front; dash = t; number = u } ∷ others.groups;
        last = others.last;
        are_groups =
            and_from (waiting front && (is_word (codes "-") t && is_word (codes "number") u)) (list_all is_function_group others.groups)
            (and_from (waiting front) (is_word (codes "-") t && is_word (codes "number") u) waits.holds (and_from (is_word (codes "-") t) (is_word (codes "number") u) dash number.0)) others.are_groups;
        spelled = ap (λ (ts : List Tree). front ++ t ∷ u ∷ ts) others.spelled;
        syntax = each_append front (heads_of others.groups others.last) fs here.right fs_is others.syntax ∙ ap (λ (hs : List Head). good (fs ++ hs)) (sym same);
      }

  one_more : (front : List Tree) (t : Tree) (more : List Tree) (fs items rest : List Head) (h : Head) → items ≡ h ∷ rest → Found more (push front t) (fs ++ h ∷ []) rest → Found (t ∷ more) front fs items
  one_more front t more fs items rest h is found =
      subst (λ (hs : List Head). IsFunctionList (front ++ t ∷ more) (fs ++ hs)) (sym is)
      (subst (λ (ts : List Tree). IsFunctionList ts (fs ++ h ∷ rest)) (append_assoc front (t ∷ []) more)
      (subst (λ (hs : List Head). IsFunctionList (push front t ++ more) hs) (append_assoc fs (h ∷ []) rest) found))

  a_head : (more front : List Tree) (t : Tree) (fs items : List Head) → each (map head_form front) ≡ good fs
      → ((gs rest : List Head) → each (map head_form (push front t)) ≡ good gs → functions_behind end true more ≡ good rest → Found more (push front t) gs rest)
      → both ◌++◌ (mapped only (head_form t)) (functions_behind end true more) ≡ good items → Found (t ∷ more) front fs items
  a_head more front t fs items fs_is found is =
      let whole = both_give ◌++◌ (mapped only (head_form t)) (functions_behind end true more) items is in
      let head = mapped_only (head_form t) whole.left whole.left_is in
      one_more front t more fs items whole.right head.0 (whole.whole_is ∙ ap (λ (hs : List Head). hs ++ whole.right) head.2)
      (found (fs ++ head.0 ∷ []) whole.right (each_append front (t ∷ []) fs (head.0 ∷ []) fs_is (one_head t head.0 head.1)) whole.right_is)

  nothing : (i : Judged (List Head)) (items : List Head) → both ◌++◌ i (behind_dash end []) ≡ good items → ⊥
  nothing (good hs) items is = cc is
  nothing (bad f more) items is = cc is

  functions_found : (trees front : List Tree) (waits : Bool) (fs items : List Head) → waits ≡ waiting front → each (map head_form front) ≡ good fs → functions_behind end waits trees ≡ good items → Found trees front fs items
  functions_found [] front waits fs items is_waits fs_is is = record {
    groups = [];
    last = front;
    are_groups = refl;
    spelled = append-nil front;
    syntax = fs_is ∙ ap good (sym (append-nil fs)) ∙ ap (λ (hs : List Head). good (fs ++ hs)) (sym (empty_given items is));
  }
  functions_found (t ∷ []) front waits fs items is_waits fs_is is =
      by_test (is_word (codes "-") t)
      (λ dash_is. absurd (nothing (provided waits (shape (start_of t)) (good [])) items (sym (ap (step waits t []) dash_is) ∙ is)))
      (λ none_is. a_head [] front t fs items fs_is (λ gs rest gs_is so. functions_found [] (push front t) true gs rest (sym (waits_on front t)) gs_is so) (sym (ap (step waits t []) none_is) ∙ is))
  functions_found (t ∷ u ∷ rest) front waits fs items is_waits fs_is is =
      by_test (is_word (codes "-") t)
      (λ dash_is. grouped front t u rest fs items fs_is dash_is (λ b so. functions_found rest [] false [] b refl refl so)
      (ap (λ (b : Bool). both ◌++◌ (provided b (shape (start_of t)) (good [])) (behind_dash end (u ∷ rest))) (sym is_waits) ∙ sym (ap (step waits t (u ∷ rest)) dash_is) ∙ is))
      (λ none_is. a_head (u ∷ rest) front t fs items fs_is (λ gs more gs_is so. functions_found (u ∷ rest) (push front t) true gs more (sym (waits_on front t)) gs_is so) (sym (ap (step waits t (u ∷ rest)) none_is) ∙ is))

  -- ---- groups are functions

  over_heads : (heads : List Tree) (waits : Bool) (rest : List Tree) (fs gs : List Head) → each (map head_form heads) ≡ good fs → functions_behind end (waits || waiting heads) rest ≡ good gs → functions_behind end waits (heads ++ rest) ≡ good (fs ++ gs)
  over_heads [] waits rest fs gs is so = ap (λ (b : Bool). functions_behind end b rest) (sym (or_none waits)) ∙ so ∙ ap (λ (hs : List Head). good (hs ++ gs)) (sym (empty_given fs is))
  over_heads (t ∷ heads) waits rest fs gs is so =
      let made = both_give ◌∷◌ (head_form t) (each (map head_form heads)) fs is in
      ap (step waits t (heads ++ rest)) (no_dash t made.left made.left_is)
      ∙ both_good ◌++◌ (mapped only (head_form t)) (functions_behind end true (heads ++ rest)) (made.left ∷ []) (made.right ++ gs) (ap (mapped only) made.left_is)
      (over_heads heads true rest made.right gs made.right_is (ap (λ (b : Bool). functions_behind end b rest) (sym (or_some waits t heads)) ∙ so))
      ∙ ap (λ (hs : List Head). good (hs ++ gs)) (sym made.whole_is)

  groups_read : (groups : List FunctionGroup) (last : List Tree) (items : List Head) → list_all is_function_group groups ≡ true → each (map head_form (heads_of groups last)) ≡ good items → functions_behind end false (trees_of groups last) ≡ good items
  groups_read [] last items are is = ap (functions_behind end false) (sym (append-nil last)) ∙ over_heads last false [] items [] is refl ∙ ap good (append-nil items)
  groups_read (g ∷ groups) last items are is =
      let tests = and_parts (is_function_group g) (list_all is_function_group groups) are in
      let group = and_parts (waiting g.heads) (is_word (codes "-") g.dash && is_word (codes "number") g.number) tests.0 in
      let words = and_parts (is_word (codes "-") g.dash) (is_word (codes "number") g.number) group.1 in
      let parts = each_parts g.heads (heads_of groups last) items is in
      let rest = groups_read groups last parts.behind tests.1 parts.behind_is in
      over_heads g.heads false (g.dash ∷ g.number ∷ trees_of groups last) parts.front parts.behind parts.front_is
      (ap (λ (b : Bool). functions_behind end b (g.dash ∷ g.number ∷ trees_of groups last)) group.0
      ∙ ap (step true g.dash (g.number ∷ trees_of groups last)) words.0
      ∙ both_good ◌++◌ (good []) (behind_dash end (g.number ∷ trees_of groups last)) [] parts.behind refl
      (both_good ◌++◌ (number_mark g.number) (functions_behind end false (trees_of groups last)) [] parts.behind (number_good g.number words.1) rest))
      ∙ ap good (sym parts.whole)

  pub functions_are_groups : (trees : List Tree) (funcs : List Head) → (functions end trees ≡ good funcs) ↔ IsFunctionList trees funcs
  unfolding functions
  functions_are_groups trees funcs =
      (λ is. functions_found trees [] false [] funcs refl refl is, λ h. ap (functions_behind end false) h.spelled ∙ groups_read h.groups h.last funcs h.are_groups h.syntax)
