-- Readers from those of the parts.
use Rattle.std.proofs.Common.{◌≡◌, ℕ, ◌+◌, ◌<◌, ◌≤◌, Bool, true, false, List, [], ◌∷◌, ◌++◌, length, get_or, take, map, Option, Some, None, refl, sym, ◌∙◌, ap, subst}
use Rattle.std.proofs.lemmas.List.{take_more, take_all, map-append, length-map}
use Rattle.std.specs.Option.{option_map}
use Rattle.std.specs.Prelude.{if◌then◌else◌, nat_le}
use Rattle.sexpr.specs.declared.tree.Tree.{Tree}
use Rattle.pddl_form.specs.declared.fault.Fault.{Fault}
use Rattle.pddl_form.specs.Faults.{first_with, shape}
use Rattle.pddl_form.specs.Judged.{Judged, good, bad, syntax_of, noted, mapped, both, each, besides, provided}
use Rattle.pddl_form.specs.Gather.{option_both, push, joined}
use Rattle.pddl_form.specs.Reading.{IsRead}
use Rattle.pddl_form.proofs.Judging.{syntax_of-mapped, syntax_of-both, syntax_of-besides, noted-mapped, noted-both, noted-besides, noted-good, noted-bad, each-push, joined-each-push}

pub read_good : {A : Type 0} (first : Option Fault) (a : A) → IsRead (good a) first first (Some a)
read_good first a = record { syntax_is = refl; first_is = sym (noted-good first a) }

pub read_bad : {A : Type 0} (first new : Option Fault) (f : Fault) → new ≡ Some (first_with first f) → IsRead {A = A} (bad f []) first new None
read_bad {A = A} first new f is = record { syntax_is = refl; first_is = is ∙ sym (noted-bad A first f) }

pub read_mapped : {A B : Type 0} (g : A → B) (j : Judged A) (old new : Option Fault) (x : Option A) → IsRead j old new x → IsRead (mapped g j) old new (option_map g x)
read_mapped g j old new x h = record {
  syntax_is = ap (option_map g) h.syntax_is ∙ sym (syntax_of-mapped g j);
  first_is = h.first_is ∙ sym (noted-mapped old g j);
}

pub read_both : {A B C : Type 0} (g : A → B → C) (a : Judged A) (b : Judged B) (old mid new : Option Fault) (x : Option A) (y : Option B)
    → IsRead a old mid x → IsRead b mid new y → IsRead (both g a b) old new (option_both g x y)
read_both {A = A} g a b old mid new x y h k = record {
  syntax_is = ap (λ (o : Option A). option_both g o y) h.syntax_is ∙ ap (option_both g (syntax_of a)) k.syntax_is ∙ sym (syntax_of-both g a b);
  first_is = k.first_is ∙ ap (λ (o : Option Fault). noted o b) h.first_is ∙ sym (noted-both old g a b);
}

pub read_besides : {A : Type 0} (f : Fault) (j : Judged A) (old mid new : Option Fault) (x : Option A) → IsRead j old mid x → new ≡ Some (first_with mid f) → IsRead (besides f j) old new None
read_besides f j old mid new x h is = record {
  syntax_is = sym (syntax_of-besides f j);
  first_is = is ∙ ap (λ (o : Option Fault). Some (first_with o f)) h.first_is ∙ sym (noted-besides old f j);
}

pub read_as : {A : Type 0} (j : Judged A) (old new : Option Fault) (x y : Option A) → IsRead j old new x → y ≡ x → IsRead j old new y
read_as j old new x y h is = subst (IsRead j old new) (sym is) h

pub mapped_as : {A B : Type 0} (g : A → B) (j : Judged A) (old new : Option Fault) (x : Option A) (y : Option B) → IsRead j old new x → y ≡ option_map g x → IsRead (mapped g j) old new y
mapped_as g j old new x y h is = subst (IsRead (mapped g j) old new) (sym is) (read_mapped g j old new x h)

pub read_provided : {A : Type 0} (b : Bool) (f : Fault) (j : Judged A) (old mid new : Option Fault) (x y : Option A)
    → IsRead j old mid x → y ≡ (if b then x else None) → new ≡ (if b then mid else Some (first_with mid f)) → IsRead (provided b f j) old new y
read_provided true f j old mid new x y h is_y is_new = subst (λ o. IsRead j old new o) (sym is_y) (subst (λ o. IsRead j old o x) (sym is_new) h)
read_provided false f j old mid new x y h is_y is_new = subst (λ o. IsRead (besides f j) old new o) (sym is_y) (read_besides f j old mid new x h is_new)

pub provided_as : {A : Type 0} (b b' : Bool) (place place' : ℕ) (j : Judged A) (old mid new : Option Fault) (x y : Option A)
    → b ≡ b' → place ≡ place' → IsRead j old mid x → y ≡ (if b then x else None) → new ≡ (if b then mid else Some (first_with mid (shape place))) → IsRead (provided b' (shape place') j) old new y
provided_as b b' place place' j old mid new x y same_b same_place h is_y is_new =
    subst (λ (t : Bool). IsRead (provided t (shape place') j) old new y) same_b
    (subst (λ (p : ℕ). IsRead (provided b (shape p) j) old new y) same_place (read_provided b (shape place) j old mid new x y h is_y is_new))

-- counts of parts
pub at_least_count : {A : Type 0} (form : Tree → A) (count : ℕ) (trees : List Tree) → nat_le count (length trees) ≡ nat_le count (length (map form trees))
at_least_count form count trees = ap (nat_le count) (sym (length-map trees form))

pub at_most_count : {A : Type 0} (form : Tree → A) (count : ℕ) (trees : List Tree) → nat_le (length trees) count ≡ nat_le (length (map form trees)) count
at_most_count form count trees = ap (λ (n : ℕ). nat_le n count) (sym (length-map trees form))

-- the same by cases on the parts
pub mapped_none : {A B : Type 0} (g : A → B) (j : Judged A) (old new : Option Fault) (x : Option A) → IsRead j old new x → x ≡ None → IsRead (mapped g j) old new None
mapped_none {A = A} g j old new x h is = subst (λ o. IsRead (mapped g j) old new o) (ap (option_map g) is) (read_mapped g j old new x h)

pub mapped_some : {A B : Type 0} (g : A → B) (j : Judged A) (old new : Option Fault) (x : Option A) (a : A) (b : B) → IsRead j old new x → x ≡ Some a → b ≡ g a → IsRead (mapped g j) old new (Some b)
mapped_some {A = A} g j old new x a b h is same = subst (λ o. IsRead (mapped g j) old new o) (ap (option_map g) is ∙ ap Some (sym same)) (read_mapped g j old new x h)

pub left_none : {A B C : Type 0} (g : A → B → C) (a : Judged A) (b : Judged B) (old mid new : Option Fault) (x : Option A) (y : Option B)
    → IsRead a old mid x → x ≡ None → IsRead b mid new y → IsRead (both g a b) old new None
left_none {A = A} g a b old mid new x y h is k = subst (λ o. IsRead (both g a b) old new o) (ap (λ (o : Option A). option_both g o y) is) (read_both g a b old mid new x y h k)

none_both : {A B C : Type 0} (g : A → B → C) (x : Option A) → option_both g x None ≡ None
none_both g None = refl
none_both g (Some a) = refl

pub right_none : {A B C : Type 0} (g : A → B → C) (a : Judged A) (b : Judged B) (old mid new : Option Fault) (x : Option A) (y : Option B)
    → IsRead a old mid x → IsRead b mid new y → y ≡ None → IsRead (both g a b) old new None
right_none {B = B} g a b old mid new x y h k is = subst (λ o. IsRead (both g a b) old new o) (ap (λ (o : Option B). option_both g x o) is ∙ none_both g x) (read_both g a b old mid new x y h k)

pub both_some : {A B C : Type 0} (g : A → B → C) (a : Judged A) (b : Judged B) (old mid new : Option Fault) (x : Option A) (y : Option B) (u : A) (v : B) (w : C)
    → IsRead a old mid x → x ≡ Some u → IsRead b mid new y → y ≡ Some v → w ≡ g u v → IsRead (both g a b) old new (Some w)
both_some {A = A} {B = B} g a b old mid new x y u v w h is_x k is_y same =
    subst (λ o. IsRead (both g a b) old new o) (ap (λ (o : Option A). option_both g o y) is_x ∙ ap (option_both g (Some u)) is_y ∙ ap Some (sym same)) (read_both g a b old mid new x y h k)

-- what is made of one more part
pub map-take : {X A : Type 0} (form : X → A) (parts : List X) (i : ℕ) (part : X) → i < length parts → part ≡ get_or parts i part → map form (take (i + 1) parts) ≡ map form (take i parts) ++ form part ∷ []
map-take {X = X} form parts i part within is =
    ap (map form) (take_more parts i part within) ∙ map-append form (take i parts) (get_or parts i part ∷ []) ∙ ap (λ (s : X). map form (take i parts) ++ form s ∷ []) (sym is)

-- the first i of some parts, read one after another
pub record AreRead {X A : Type 0} (form : X → Judged A) (parts : List X) (i : ℕ) (old now : Option Fault) (found : Option (List A)) : Type 0 where
  pub are_read : IsRead (each (map form (take i parts))) old now found

pub one_more_read : {X A : Type 0} (form : X → Judged A) (parts : List X) (i : ℕ) (part : X) (old mid new : Option Fault) (found more : Option (List A)) (one : Option A)
    → AreRead form parts i old mid found → i < length parts → part ≡ get_or parts i part → IsRead (form part) mid new one → more ≡ option_both push found one
    → AreRead form parts (i + 1) old new more
one_more_read {A = A} form parts i part old mid new found more one h within at k is =
    let all : each (map form (take (i + 1) parts)) ≡ both push (each (map form (take i parts))) (form part) = ap each (map-take form parts i part within at) ∙ each-push (map form (take i parts)) (form part) in
    record {
      are_read =
          subst (λ (j : Judged (List A)). IsRead j old new more) (sym all)
          (subst (λ (o : Option (List A)). IsRead (both push (each (map form (take i parts))) (form part)) old new o) (sym is)
          (read_both push (each (map form (take i parts))) (form part) old mid new found one h.are_read k));
    }

pub all_read : {X A : Type 0} (form : X → Judged A) (parts : List X) (i : ℕ) (old now : Option Fault) (found : Option (List A)) → AreRead form parts i old now found → length parts ≤ i → IsRead (each (map form parts)) old now found
all_read {X = X} form parts i old now found h whole = subst (λ (ps : List X). IsRead (each (map form ps)) old now found) (take_all i parts whole) h.are_read

pub none_read : {X A : Type 0} (form : X → Judged A) (parts : List X) (first : Option Fault) (items : List A) → items ≡ [] → AreRead form parts 0 first first (Some items)
none_read {A = A} form parts first items is = subst (λ (xs : List A). AreRead form parts 0 first first (Some xs)) (sym is) (record { are_read = read_good first [] })

-- the same where each part gives a list, and the lists are joined
pub record AreJoined {X A : Type 0} (form : X → Judged (List A)) (parts : List X) (i : ℕ) (old now : Option Fault) (found : Option (List A)) : Type 0 where
  pub are_joined : IsRead (mapped joined (each (map form (take i parts)))) old now found

pub one_more_joined : {X A : Type 0} (form : X → Judged (List A)) (parts : List X) (i : ℕ) (part : X) (old mid new : Option Fault) (found more one : Option (List A))
    → AreJoined form parts i old mid found → i < length parts → part ≡ get_or parts i part → IsRead (form part) mid new one → more ≡ option_both ◌++◌ found one
    → AreJoined form parts (i + 1) old new more
one_more_joined {A = A} form parts i part old mid new found more one h within at k is =
    let all : mapped joined (each (map form (take (i + 1) parts))) ≡ both ◌++◌ (mapped joined (each (map form (take i parts)))) (form part) = ap (λ (js : List (Judged (List A))). mapped joined (each js)) (map-take form parts i part within at) ∙ joined-each-push (map form (take i parts)) (form part) in
    record {
      are_joined =
          subst (λ (j : Judged (List A)). IsRead j old new more) (sym all)
          (subst (λ (o : Option (List A)). IsRead (both ◌++◌ (mapped joined (each (map form (take i parts)))) (form part)) old new o) (sym is)
          (read_both ◌++◌ (mapped joined (each (map form (take i parts)))) (form part) old mid new found one h.are_joined k));
    }

pub all_joined : {X A : Type 0} (form : X → Judged (List A)) (parts : List X) (i : ℕ) (old now : Option Fault) (found : Option (List A)) → AreJoined form parts i old now found → length parts ≤ i → IsRead (mapped joined (each (map form parts))) old now found
all_joined {X = X} form parts i old now found h whole = subst (λ (ps : List X). IsRead (mapped joined (each (map form ps))) old now found) (take_all i parts whole) h.are_joined

pub none_joined : {X A : Type 0} (form : X → Judged (List A)) (parts : List X) (first : Option Fault) (items : List A) → items ≡ [] → AreJoined form parts 0 first first (Some items)
none_joined {A = A} form parts first items is = subst (λ (xs : List A). AreJoined form parts 0 first first (Some xs)) (sym is) (record { are_joined = read_good first [] })
