-- Tests one after another, and names that are declared one after another.
use Rattle.std.proofs.Common.{◌≡◌, ℕ, ◌+◌, ◌<◌, ◌≤◌, List, [], ◌∷◌, ◌++◌, length, get_or, take, map, Option, Some, refl, sym, ◌∙◌, ap, subst, append_assoc}
use Rattle.std.proofs.lemmas.List.{take_all, map-append, append-nil}
use Rattle.name_table.specs.NameTable.{with_name}
use Rattle.pddl_form.specs.declared.fault.Fault.{Fault}
use Rattle.pddl_form.specs.declared.spot.Spot.{Spot}
use Rattle.pddl_form.specs.Judged.{Judged, good, bad, faults_of, both, mapped}
use Rattle.pddl_form.specs.Gather.{option_both}
use Rattle.pddl_form.specs.Reading.{IsRead}
use Rattle.pddl_form.proofs.Loops.{read_good, read_both, read_as, map-take}
use Rattle.typing_names.specs.Faults.{beside, tested}
use Rattle.pddl_form.specs.Sections.{second}
use Rattle.typing_uses.specs.Scope.{texts, sighted, again_behind, declared_again}

-- ---- tests

faults_of-tested : (fs : List Fault) → faults_of (tested fs) ≡ fs
faults_of-tested [] = refl
faults_of-tested (f ∷ fs) = refl

second-tested : (fs : List Fault) → tested fs ≡ mapped (second {A = Unit {0}} tt) (tested fs)
second-tested [] = refl
second-tested (f ∷ fs) = refl

tested-append : (fs gs : List Fault) → tested (fs ++ gs) ≡ both second (tested fs) (tested gs)
tested-append [] gs = second-tested gs
tested-append (f ∷ fs) gs = ap (λ (more : List Fault). bad f (fs ++ more)) (sym (faults_of-tested gs))

-- a test and another behind it
pub read_tests : (fs gs : List Fault) (old mid new : Option Fault) (x y z : Option (Unit {0}))
    → IsRead (tested fs) old mid x → IsRead (tested gs) mid new y → z ≡ option_both second x y → IsRead (tested (fs ++ gs)) old new z
read_tests fs gs old mid new x y z h k is =
    subst (λ (j : Judged (Unit {0})). IsRead j old new z) (sym (tested-append fs gs))
    (read_as (both second (tested fs) (tested gs)) old new (option_both second x y) z (read_both second (tested fs) (tested gs) old mid new x y h k) is)

second-good : {A : Type 0} (j : Judged A) → j ≡ mapped (second {A = Unit {0}} tt) j
second-good (good a) = refl
second-good (bad f more) = refl

beside-both : {A : Type 0} (fs : List Fault) (j : Judged A) → beside fs j ≡ both second (tested fs) j
beside-both [] j = second-good j
beside-both (f ∷ fs) j = refl

-- a test and what is beside it
pub read_beside : {A : Type 0} (fs : List Fault) (j : Judged A) (old mid new : Option Fault) (x : Option (Unit {0})) (y z : Option A)
    → IsRead (tested fs) old mid x → IsRead j mid new y → z ≡ option_both second x y → IsRead (beside fs j) old new z
read_beside {A = A} fs j old mid new x y z h k is =
    subst (λ (i : Judged A). IsRead i old new z) (sym (beside-both fs j))
    (read_as (both second (tested fs) j) old new (option_both second x y) z (read_both second (tested fs) j old mid new x y h k) is)

-- ---- names one after another

pub sighted-last : (seen names : List (List ℕ)) (name : List ℕ) → sighted seen (names ++ name ∷ []) ≡ with_name (sighted seen names) name
sighted-last seen [] name = refl
sighted-last seen (n ∷ names) name = sighted-last (with_name seen n) names name

again-last : (seen : List (List ℕ)) (spots : List Spot) (spot : Spot) → declared_again seen (spots ++ spot ∷ []) ≡ declared_again seen spots ++ again_behind (sighted seen (texts spots)) spot
again-last seen [] spot = append-nil (again_behind seen spot)
again-last seen (s ∷ spots) spot =
    ap (λ (fs : List Fault). again_behind seen s ++ fs) (again-last (with_name seen s.text) spots spot)
    ∙ sym (append_assoc (again_behind seen s) (declared_again (with_name seen s.text) spots) (again_behind (sighted (with_name seen s.text) (texts spots)) spot))

pub texts-last : (spots : List Spot) (spot : Spot) → texts (spots ++ spot ∷ []) ≡ texts spots ++ spot.text ∷ []
texts-last spots spot = map-append (λ (s : Spot). s.text) spots (spot ∷ [])

-- the names of the first i of some items are declared, behind those that were seen
pub record AreDeclared {X : Type 0} (name : X → Spot) (items : List X) (i : ℕ) (seen now : List (List ℕ)) (old new : Option Fault) (found : Option (Unit {0})) : Type 0 where
  pub faults : IsRead (tested (declared_again seen (map name (take i items)))) old new found
  pub names : now ≡ sighted seen (texts (map name (take i items)))

pub none_declared : {X : Type 0} (name : X → Spot) (items : List X) (seen : List (List ℕ)) (first : Option Fault) → AreDeclared name items 0 seen seen first first (Some tt)
none_declared name items seen first = record { faults = read_good first tt; names = refl }

pub one_more_declared : {X : Type 0} (name : X → Spot) (items : List X) (i : ℕ) (x : X) (seen now next : List (List ℕ)) (old mid new : Option Fault) (found one more : Option (Unit {0}))
    → AreDeclared name items i seen now old mid found → i < length items → x ≡ get_or items i x → IsRead (tested (again_behind now (name x))) mid new one → next ≡ with_name now (name x).text
    → more ≡ option_both second found one → AreDeclared name items (i + 1) seen next old new more
one_more_declared name items i x seen now next old mid new found one more h within at k is_next is =
    let spots : map name (take (i + 1) items) ≡ map name (take i items) ++ name x ∷ [] = map-take name items i x within at in
    let behind : declared_again seen (map name (take (i + 1) items)) ≡ declared_again seen (map name (take i items)) ++ again_behind now (name x) =
    ap (declared_again seen) spots ∙ again-last seen (map name (take i items)) (name x) ∙ ap (λ (names : List (List ℕ)). declared_again seen (map name (take i items)) ++ again_behind names (name x)) (sym h.names) in
    record {
      faults = subst (λ (fs : List Fault). IsRead (tested fs) old new more) (sym behind) (read_tests (declared_again seen (map name (take i items))) (again_behind now (name x)) old mid new found one more h.faults k is);
      names =
          is_next ∙ ap (λ (names : List (List ℕ)). with_name names (name x).text) h.names ∙ sym (sighted-last seen (texts (map name (take i items))) (name x).text)
          ∙ ap (sighted seen) (sym (texts-last (map name (take i items)) (name x))) ∙ ap (λ (ss : List Spot). sighted seen (texts ss)) (sym spots);
    }

pub all_declared : {X : Type 0} (name : X → Spot) (items : List X) (i : ℕ) (seen now : List (List ℕ)) (old new : Option Fault) (found : Option (Unit {0}))
    → AreDeclared name items i seen now old new found → length items ≤ i → IsRead (tested (declared_again seen (map name items))) old new found
all_declared {X = X} name items i seen now old new found h whole = subst (λ (xs : List X). IsRead (tested (declared_again seen (map name xs))) old new found) (take_all i items whole) h.faults

pub all_sighted : {X : Type 0} (name : X → Spot) (items : List X) (i : ℕ) (seen now : List (List ℕ)) (old new : Option Fault) (found : Option (Unit {0}))
    → AreDeclared name items i seen now old new found → length items ≤ i → now ≡ sighted seen (texts (map name items))
all_sighted {X = X} name items i seen now old new found h whole = h.names ∙ ap (λ (xs : List X). sighted seen (texts (map name xs))) (take_all i items whole)
