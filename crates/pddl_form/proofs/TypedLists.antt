-- Typed lists, tree by tree.
use Rattle.std.proofs.Common.{◌≡◌, ℕ, ◌-◌, Bool, true, false, List, [], ◌∷◌, ◌++◌, Option, Some, None, refl, sym, ◌∙◌, ap, subst, append_assoc}
use Rattle.std.specs.Prelude.{if◌then◌else◌, codes}
use Rattle.std.specs.Option.{option_map}
use Rattle.sexpr.specs.declared.tree.Tree.{Tree}
use Rattle.sexpr.specs.Opened.{start_of}
use Rattle.pddl_form.specs.declared.fault.Fault.{Fault}
use Rattle.pddl_form.specs.declared.names.Sort.{Sort}
use Rattle.pddl_form.specs.declared.spot.Spot.{Spot}
use Rattle.pddl_form.specs.declared.typed.Typed.{Typed}
use Rattle.pddl_form.specs.Faults.{first_with, shape}
use Rattle.pddl_form.specs.Judged.{Judged, good, bad, syntax_of, faults_of, mapped, both, besides, provided}
use Rattle.pddl_form.specs.Gather.{option_both, push}
use Rattle.pddl_form.specs.Words.{is_word, word_form}
use Rattle.pddl_form.specs.Reading.{IsRead}
use Rattle.pddl_form.specs.Typed.{has_item, in_front_of, type_form, all_with_types, untyped, behind_items, behind_dash}
use Rattle.pddl_form.proofs.Judging.{faults_of-both}
use Rattle.pddl_form.proofs.Loops.{read_good, read_as, read_both, read_mapped, read_besides, read_provided, right_none}

both_appended : {A : Type 0} (xs ys : List A) (j : Judged (List A)) → mapped (λ (zs : List A). xs ++ zs) (mapped (λ (zs : List A). ys ++ zs) j) ≡ mapped (λ (zs : List A). (xs ++ ys) ++ zs) j
both_appended xs ys (good zs) = ap good (sym (append_assoc xs ys zs))
both_appended xs ys (bad f more) = refl

-- lists behind one another
pub both_append : {A : Type 0} (i j k : Judged (List A)) → both ◌++◌ i (both ◌++◌ j k) ≡ both ◌++◌ (both ◌++◌ i j) k
both_append (good xs) (good ys) k = both_appended xs ys k
both_append (good xs) (bad f more) k = refl
both_append (bad f more) j k = ap (bad f) (ap (λ (fs : List Fault). more ++ fs) (faults_of-both ◌++◌ j k) ∙ sym (append_assoc more (faults_of j) (faults_of k)))

nothing_in_front : {A : Type 0} (j : Judged (List A)) → both ◌++◌ (good []) j ≡ j
nothing_in_front (good xs) = refl
nothing_in_front (bad f more) = refl

-- what was found so far, the items that wait for a type, and what is left
pub record TypedSoFar (sort : Sort) (end : ℕ) (trees rest : List Tree) (old now : Option Fault) (found : Option (List Typed)) (waiting : Option (List Spot)) : Type 0 where
  pub done : Judged (List Typed)
  pub items : Judged (List Spot)
  pub mid : Option Fault
  pub done_read : IsRead done old mid found
  pub items_read : IsRead items mid now waiting
  pub whole : both ◌++◌ done (behind_items sort end items rest) ≡ behind_items sort end (good []) trees

pub typed_none : (sort : Sort) (end : ℕ) (trees : List Tree) (old : Option Fault) (found : List Typed) (waiting : List Spot) → found ≡ [] → waiting ≡ [] → TypedSoFar sort end trees trees old old (Some found) (Some waiting)
typed_none sort end trees old found waiting no_found no_waiting = record {
  done = good [];
  items = good [];
  mid = old;
  done_read = read_as (good []) old old (Some []) (Some found) (read_good old []) (ap Some no_found);
  items_read = read_as (good []) old old (Some []) (Some waiting) (read_good old []) (ap Some no_waiting);
  whole = nothing_in_front (behind_items sort end (good []) trees);
}

pub typed_item : (sort : Sort) (end : ℕ) (trees rest : List Tree) (t : Tree) (more : List Tree) (old now new : Option Fault) (found : Option (List Typed)) (waiting waits : Option (List Spot)) (one : Option Spot)
    → TypedSoFar sort end trees rest old now found waiting → rest ≡ t ∷ more → is_word (codes "-") t ≡ false → IsRead (word_form sort t) now new one → waits ≡ option_both push waiting one
    → TypedSoFar sort end trees more old new found waits
typed_item sort end trees rest t more old now new found waiting waits one h is no_dash k is_waits = record {
  done = h.done;
  items = both push h.items (word_form sort t);
  mid = h.mid;
  done_read = h.done_read;
  items_read = read_as (both push h.items (word_form sort t)) h.mid new (option_both push waiting one) waits (read_both push h.items (word_form sort t) h.mid now new waiting one h.items_read k) is_waits;
  whole =
      ap (λ (b : Bool). both ◌++◌ h.done (if b then behind_dash sort end (in_front_of t h.items) more else behind_items sort end (both push h.items (word_form sort t)) more)) (sym no_dash)
      ∙ ap (λ (ts : List Tree). both ◌++◌ h.done (behind_items sort end h.items ts)) (sym is) ∙ h.whole;
}

-- the items are followed by a `-`
dashed : (sort : Sort) (end : ℕ) (trees rest : List Tree) (t : Tree) (more : List Tree) (done : Judged (List Typed)) (items : Judged (List Spot))
    → rest ≡ t ∷ more → is_word (codes "-") t ≡ true → both ◌++◌ done (behind_items sort end items rest) ≡ behind_items sort end (good []) trees
    → both ◌++◌ done (behind_dash sort end (in_front_of t items) more) ≡ behind_items sort end (good []) trees
dashed sort end trees rest t more done items is dash whole =
    ap (λ (b : Bool). both ◌++◌ done (if b then behind_dash sort end (in_front_of t items) more else behind_items sort end (both push items (word_form sort t)) more)) (sym dash)
    ∙ ap (λ (ts : List Tree). both ◌++◌ done (behind_items sort end items ts)) (sym is) ∙ whole

-- the items with the demand that a `-` makes on them
fronted : (t : Tree) (items : Judged (List Spot)) (mid now new : Option Fault) (waiting names : Option (List Spot)) (named : Bool) (place : ℕ)
    → IsRead items mid now waiting → named ≡ has_item waiting → place ≡ start_of t → names ≡ (if named then waiting else None) → new ≡ (if named then now else Some (first_with now (shape place)))
    → IsRead (in_front_of t items) mid new names
fronted t items mid now new waiting names named place h is_named is_place is_names is_new =
    let same : named ≡ has_item (syntax_of items) = is_named ∙ ap has_item h.syntax_is in
    subst (λ (b : Bool). IsRead (provided b (shape (start_of t)) items) mid new names) same
    (subst (λ (p : ℕ). IsRead (provided named (shape p) items) mid new names) is_place
    (read_provided named (shape place) items mid now new waiting names h is_names is_new))

pub typed_group : (sort : Sort) (end : ℕ) (trees rest : List Tree) (t : Tree) (behind : List Tree) (u : Tree) (more : List Tree) (old now later new : Option Fault)
    (found finds group : Option (List Typed)) (waiting names types : Option (List Spot)) (waits : List Spot) (named : Bool) (place : ℕ)
    → TypedSoFar sort end trees rest old now found waiting → rest ≡ t ∷ behind → is_word (codes "-") t ≡ true → named ≡ has_item waiting → place ≡ start_of t
    → names ≡ (if named then waiting else None) → later ≡ (if named then now else Some (first_with now (shape place)))
    → behind ≡ u ∷ more → IsRead (type_form sort u) later new types → group ≡ option_both all_with_types names types → finds ≡ option_both ◌++◌ found group → waits ≡ []
    → TypedSoFar sort end trees more old new finds (Some waits)
typed_group sort end trees rest t behind u more old now later new found finds group waiting names types waits named place h is dash is_named is_place is_names is_later so k is_group is_finds no_waits =
    let front = in_front_of t h.items in
    let typed = both all_with_types front (type_form sort u) in
    let front_read : IsRead front h.mid later names = fronted t h.items h.mid now later waiting names named place h.items_read is_named is_place is_names is_later in
    let group_read : IsRead typed h.mid new group = read_as typed h.mid new (option_both all_with_types names types) group (read_both all_with_types front (type_form sort u) h.mid later new names types front_read k) is_group in
    record {
      done = both ◌++◌ h.done typed;
      items = good [];
      mid = new;
      done_read = read_as (both ◌++◌ h.done typed) old new (option_both ◌++◌ found group) finds (read_both ◌++◌ h.done typed old h.mid new found group h.done_read group_read) is_finds;
      items_read = read_as (good []) new new (Some []) (Some waits) (read_good new []) (ap Some no_waits);
      whole =
          sym (both_append h.done typed (behind_items sort end (good []) more))
          ∙ ap (λ (ts : List Tree). both ◌++◌ h.done (behind_dash sort end front ts)) (sym so)
          ∙ dashed sort end trees rest t behind h.done h.items is dash h.whole;
    }

pub typed_cut : (sort : Sort) (end : ℕ) (trees rest : List Tree) (t : Tree) (behind : List Tree) (old now later new : Option Fault)
    (found : Option (List Typed)) (waiting names : Option (List Spot)) (named : Bool) (place : ℕ)
    → TypedSoFar sort end trees rest old now found waiting → rest ≡ t ∷ behind → is_word (codes "-") t ≡ true → named ≡ has_item waiting → place ≡ start_of t
    → names ≡ (if named then waiting else None) → later ≡ (if named then now else Some (first_with now (shape place)))
    → behind ≡ [] → new ≡ Some (first_with later (shape (end - 1)))
    → IsRead (behind_items sort end (good []) trees) old new None
typed_cut sort end trees rest t behind old now later new found waiting names named place h is dash is_named is_place is_names is_later so is_new =
    let front = in_front_of t h.items in
    let front_read : IsRead front h.mid later names = fronted t h.items h.mid now later waiting names named place h.items_read is_named is_place is_names is_later in
    let cut = besides (shape (end - 1)) (mapped untyped front) in
    let cut_read : IsRead cut h.mid new None = read_besides (shape (end - 1)) (mapped untyped front) h.mid later new (option_map untyped names) (read_mapped untyped front h.mid later names front_read) is_new in
    subst (λ (j : Judged (List Typed)). IsRead j old new None)
    (ap (λ (ts : List Tree). both ◌++◌ h.done (behind_dash sort end front ts)) (sym so) ∙ dashed sort end trees rest t behind h.done h.items is dash h.whole)
    (right_none ◌++◌ h.done cut old h.mid new found None h.done_read cut_read refl)

untyped_is : (names : Option (List Spot)) → option_both all_with_types names (Some []) ≡ option_map untyped names
untyped_is None = refl
untyped_is (Some names) = refl

pub typed_end : (sort : Sort) (end : ℕ) (trees rest : List Tree) (old now : Option Fault) (found finds last : Option (List Typed)) (waiting : Option (List Spot)) (none : List Spot)
    → TypedSoFar sort end trees rest old now found waiting → rest ≡ [] → none ≡ [] → last ≡ option_both all_with_types waiting (Some none) → finds ≡ option_both ◌++◌ found last
    → IsRead (behind_items sort end (good []) trees) old now finds
typed_end sort end trees rest old now found finds last waiting none h is no_types is_last is_finds =
    let last_read : IsRead (mapped untyped h.items) h.mid now last = read_as (mapped untyped h.items) h.mid now (option_map untyped waiting) last (read_mapped untyped h.items h.mid now waiting h.items_read) (is_last ∙ ap (λ (ts : List Spot). option_both all_with_types waiting (Some ts)) no_types ∙ untyped_is waiting) in
    subst (λ (j : Judged (List Typed)). IsRead j old now finds) (ap (λ (ts : List Tree). both ◌++◌ h.done (behind_items sort end h.items ts)) (sym is) ∙ h.whole)
    (read_as (both ◌++◌ h.done (mapped untyped h.items)) old now (option_both ◌++◌ found last) finds (read_both ◌++◌ h.done (mapped untyped h.items) old h.mid now found last h.done_read last_read) is_finds)
