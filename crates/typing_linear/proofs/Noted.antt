-- Faults that are noted one behind another.
use Rattle.std.proofs.Common.{◌≡◌, ℕ, ◌+◌, ◌<◌, ◌≤◌, Bool, true, false, List, [], ◌∷◌, ◌++◌, length, get_or, take, Option, Some, None, refl, sym, ◌∙◌, ap, arith}
use Rattle.std.proofs.lemmas.List.{take_more, take_all, append-nil}
use Rattle.std.proofs.lemmas.Grind.{flat_map-append}
use Rattle.std.proofs.lemmas.Bool.Decides.{nat_tests}
use Rattle.std.specs.Prelude.{if◌then◌else◌}
use Rattle.std.specs.List.{flat_map}
use Rattle.pddl_form.specs.declared.fault.Fault.{Fault}
use Rattle.pddl_form.specs.Faults.{first_of, first_with, is_before, least}
use Rattle.pddl_form.proofs.Judging.{least-append}

-- ---- a loop over parts

-- the faults of the first i parts are noted
pub record AreNoted {X : Type 0} (f : X → List Fault) (xs : List X) (i : ℕ) (old now : Option Fault) : Type 0 where
  pub are_noted : now ≡ least old (flat_map f (take i xs))

pub none_noted : {X : Type 0} (f : X → List Fault) (xs : List X) (first : Option Fault) → AreNoted f xs 0 first first
none_noted f xs first = record { are_noted = refl }

flat_map-one : {X : Type 0} (f : X → List Fault) (x : X) → flat_map f (x ∷ []) ≡ f x
flat_map-one f x = append-nil (f x)

pub one_more_noted : {X : Type 0} (f : X → List Fault) (xs : List X) (i : ℕ) (x : X) (old mid new : Option Fault)
    → AreNoted f xs i old mid → i < length xs → x ≡ get_or xs i x → new ≡ least mid (f x) → AreNoted f xs (i + 1) old new
one_more_noted {X = X} f xs i x old mid new h within at is =
    let more : flat_map f (take (i + 1) xs) ≡ flat_map f (take i xs) ++ f x = ap (flat_map f) (take_more xs i x within) ∙ flat_map-append f (take i xs) (get_or xs i x ∷ []) ∙ ap (λ (y : X). flat_map f (take i xs) ++ flat_map f (y ∷ [])) (sym at) ∙ ap (λ (fs : List Fault). flat_map f (take i xs) ++ fs) (flat_map-one f x) in
    record { are_noted = is ∙ ap (λ (o : Option Fault). least o (f x)) h.are_noted ∙ sym (least-append old (flat_map f (take i xs)) (f x)) ∙ ap (least old) (sym more) }

pub all_noted : {X : Type 0} (f : X → List Fault) (xs : List X) (i : ℕ) (old now : Option Fault) → AreNoted f xs i old now → length xs ≤ i → now ≡ least old (flat_map f xs)
all_noted {X = X} f xs i old now h whole = h.are_noted ∙ ap (λ (ys : List X). least old (flat_map f ys)) (take_all i xs whole)

-- the faults of two parts
pub both_noted : (fs gs : List Fault) (old mid new : Option Fault) → mid ≡ least old fs → new ≡ least mid gs → new ≡ least old (fs ++ gs)
both_noted fs gs old mid new h k = k ∙ ap (λ (o : Option Fault). least o gs) h ∙ sym (least-append old fs gs)

-- the faults of three
pub three_noted : (fs gs hs : List Fault) (old mid later new : Option Fault) → mid ≡ least old fs → later ≡ least mid gs → new ≡ least later hs → new ≡ least old (fs ++ (gs ++ hs))
three_noted fs gs hs old mid later new h k l = both_noted fs (gs ++ hs) old mid new h (both_noted gs hs mid later new k l)

-- ---- a fault that is noted behind others instead of before them

before_both : (f g h : Fault) → is_before g f ≡ true → is_before f h ≡ true → is_before g h ≡ true
before_both f g h a b = grind (arith, nat_tests)

before_once : (f g : Fault) → is_before g f ≡ true → is_before f g ≡ false
before_once f g a = grind (arith, nat_tests)

same_place : (f g : Fault) → is_before g f ≡ false → is_before f g ≡ false → f.place ≡ g.place
same_place f g a b = grind (arith, nat_tests)

same_kind : (f g : Fault) → is_before g f ≡ false → is_before f g ≡ false → f.kind ≡ g.kind
same_kind f g a b = grind (arith, nat_tests)

same_fault : (f g : Fault) → f.kind ≡ g.kind → f.place ≡ g.place → f.word ≡ g.word → f ≡ g
same_fault f g k p w =
    let a : f ≡ record { kind = g.kind; place = f.place; word = f.word } = ap (λ (n : ℕ). record { kind = n; place = f.place; word = f.word }) k in
    let b : record { kind = g.kind; place = f.place; word = f.word } ≡ record { kind = g.kind; place = g.place; word = f.word } = ap (λ (n : ℕ). record { kind = g.kind; place = n; word = f.word }) p in
    let d : record { kind = g.kind; place = g.place; word = f.word } ≡ g = ap (λ (t : List ℕ). record { kind = g.kind; place = g.place; word = t }) w in
    a ∙ b ∙ d

first-true : (f g : Fault) → is_before g f ≡ true → first_of f g ≡ g
first-true f g is = ap (λ (b : Bool). if b then g else f) is

first-false : (f g : Fault) → is_before g f ≡ false → first_of f g ≡ f
first-false f g is = ap (λ (b : Bool). if b then g else f) is

swap_by : (h f g : Fault) (gf fg fh gh : Bool) → is_before g f ≡ gf → is_before f g ≡ fg → is_before f h ≡ fh → is_before g h ≡ gh → f.word ≡ g.word
    → first_of (first_of h f) g ≡ first_of (first_of h g) f
swap_by h f g true fg true true a b c d w =
    ap (λ (x : Fault). first_of x g) (first-true h f c) ∙ first-true f g a ∙ sym (ap (λ (x : Fault). first_of x f) (first-true h g d) ∙ first-false g f (before_once f g a))
swap_by h f g false true true true a b c d w =
    ap (λ (x : Fault). first_of x g) (first-true h f c) ∙ first-false f g a ∙ sym (ap (λ (x : Fault). first_of x f) (first-true h g d) ∙ first-true g f b)
swap_by h f g false false true true a b c d w =
    ap (λ (x : Fault). first_of x g) (first-true h f c) ∙ first-false f g a ∙ same_fault f g (same_kind f g a b) (same_place f g a b) w ∙ sym (ap (λ (x : Fault). first_of x f) (first-true h g d) ∙ first-false g f b)
swap_by h f g true fg true false a b c d w = absurd (cc (sym d ∙ before_both f g h a c))
swap_by h f g false fg true false a b c d w =
    ap (λ (x : Fault). first_of x g) (first-true h f c) ∙ first-false f g a ∙ sym (ap (λ (x : Fault). first_of x f) (first-false h g d) ∙ first-true h f c)
swap_by h f g gf true false true a b c d w = absurd (cc (sym c ∙ before_both g f h b d))
swap_by h f g gf false false true a b c d w =
    ap (λ (x : Fault). first_of x g) (first-false h f c) ∙ first-true h g d ∙ sym (ap (λ (x : Fault). first_of x f) (first-true h g d) ∙ first-false g f b)
swap_by h f g gf fg false false a b c d w =
    ap (λ (x : Fault). first_of x g) (first-false h f c) ∙ first-false h g d ∙ sym (ap (λ (x : Fault). first_of x f) (first-false h g d) ∙ first-false h f c)

swap_none : (f g : Fault) (gf fg : Bool) → is_before g f ≡ gf → is_before f g ≡ fg → f.word ≡ g.word → first_of f g ≡ first_of g f
swap_none f g true fg a b w = first-true f g a ∙ sym (first-false g f (before_once f g a))
swap_none f g false true a b w = first-false f g a ∙ sym (first-true g f b)
swap_none f g false false a b w = first-false f g a ∙ same_fault f g (same_kind f g a b) (same_place f g a b) w ∙ sym (first-false g f b)

swap_first : (first : Option Fault) (f g : Fault) → f.word ≡ g.word → first_of (first_with first f) g ≡ first_of (first_with first g) f
swap_first (Some h) f g w = swap_by h f g (is_before g f) (is_before f g) (is_before f h) (is_before g h) refl refl refl refl w
swap_first None f g w = swap_none f g (is_before g f) (is_before f g) refl refl w

-- these have no word
abbrev pub AreWordless : List Fault → Type 0
AreWordless [] = Unit {0}
AreWordless (f ∷ fs) = (f.word ≡ []) × AreWordless fs

-- a fault that is noted behind others counts as in front of them
pub behind_as_before : (first : Option Fault) (f : Fault) (fs : List Fault) → f.word ≡ [] → AreWordless fs → Some (first_with (least first fs) f) ≡ least first (f ∷ fs)
behind_as_before first f [] w all = refl
behind_as_before first f (g ∷ fs) w all =
    behind_as_before (Some (first_with first g)) f fs w all.1 ∙ ap (λ (x : Fault). least (Some x) fs) (swap_first first g f (all.0 ∙ sym w))
