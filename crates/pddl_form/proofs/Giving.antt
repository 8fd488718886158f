-- What holds of a syntax that a form gives, where it gives one: from what holds of those of its parts.
use Rattle.std.proofs.Common.{◌≡◌, ℕ, Bool, true, false, List, [], ◌∷◌, length, map, refl, ◌∙◌, subst, suc, arith}
use Rattle.std.specs.Prelude.{if◌then◌else◌, ◌&&◌, ◌==◌, nat_le, Option, Some, None, Result, Ok, Err, IfOk, IsTrue}
use Rattle.std.specs.List.{list_all}
use Rattle.std.proofs.lemmas.Bool.{and_parts, and_from}
use Rattle.std.proofs.lemmas.Bool.Decides.{nat_tests}
use Rattle.std.proofs.lemmas.List.Folds.{list_all-append}
use Rattle.sexpr.specs.declared.fault.Source.{Source}
use Rattle.sexpr.specs.declared.fault.TextRefusal.{TextRefusal}
use Rattle.pddl_form.specs.declared.fault.Fault.{Fault}
use Rattle.pddl_form.specs.Judged.{Judged, good, bad, mapped, both, each, besides, provided, closing, at_least}
use Rattle.pddl_form.specs.Faults.{shape}
use Rattle.pddl_form.specs.Gather.{joined}
use Rattle.pddl_form.specs.Concluded.{Answers}
use Rattle.pddl_form.specs.Sections.{Contents, contents_or, and_then}

-- the syntax, where there is one, passes a test
abbrev pub Gives : {A : Type 0} → (A → Bool) → Judged A → Type 0
Gives p (good a) = p a ≡ true
Gives p (bad f more) = Unit {0}

pub gives-any : {A : Type 0} (j : Judged A) → Gives (λ a. true) j
gives-any (good a) = refl
gives-any (bad f more) = tt

pub gives-so : {A : Type 0} (p q : A → Bool) (j : Judged A) → ((a : A) → p a ≡ true → q a ≡ true) → Gives p j → Gives q j
gives-so p q (good a) so h = so a h
gives-so p q (bad f more) so h = tt

pub gives-with : {A : Type 0} (p q : A → Bool) (j : Judged A) → Gives p j → Gives q j → Gives (λ a. p a && q a) j
gives-with p q (good a) h k = and_from (p a) (q a) h k
gives-with p q (bad f more) h k = tt

pub gives-mapped : {A B : Type 0} (g : A → B) (p : A → Bool) (q : B → Bool) (j : Judged A) → ((a : A) → p a ≡ true → q (g a) ≡ true) → Gives p j → Gives q (mapped g j)
gives-mapped g p q (good a) so h = so a h
gives-mapped g p q (bad f more) so h = tt

pub gives-both : {A B C : Type 0} (g : A → B → C) (p : A → Bool) (q : B → Bool) (r : C → Bool) (i : Judged A) (j : Judged B)
    → ((a : A) (b : B) → p a ≡ true → q b ≡ true → r (g a b) ≡ true) → Gives p i → Gives q j → Gives r (both g i j)
gives-both g p q r (good a) (good b) so h k = so a b h k
gives-both g p q r (good a) (bad f more) so h k = tt
gives-both g p q r (bad f more) j so h k = tt

pub gives-besides : {A : Type 0} (p : A → Bool) (f : Fault) (j : Judged A) → Gives p (besides f j)
gives-besides p f (good a) = tt
gives-besides p f (bad g more) = tt

pub gives-provided : {A : Type 0} (p : A → Bool) (b : Bool) (f : Fault) (j : Judged A) → Gives p j → Gives p (provided b f j)
gives-provided p true f j h = h
gives-provided p false f j h = gives-besides p f j

-- what it is provided that
pub gives-provision : {A : Type 0} (b : Bool) (f : Fault) (j : Judged A) → Gives (λ a. b) (provided b f j)
gives-provision true f (good a) = refl
gives-provision true f (bad g more) = tt
gives-provision false f j = gives-besides (λ a. false) f j

pub gives-if : {A : Type 0} (p : A → Bool) (b : Bool) (i j : Judged A) → (b ≡ true → Gives p i) → (b ≡ false → Gives p j) → Gives p (if b then i else j)
gives-if p true i j h k = h refl
gives-if p false i j h k = k refl

-- ---- lists

pub gives-each : {X A : Type 0} (form : X → Judged A) (p : A → Bool) → ((x : X) → Gives p (form x)) → (xs : List X) → Gives (list_all p) (each (map form xs))
gives-each form p so [] = refl
gives-each form p so (x ∷ xs) = gives-both ◌∷◌ p (list_all p) (list_all p) (form x) (each (map form xs)) (λ a rest h k. and_from (p a) (list_all p rest) h k) (so x) (gives-each form p so xs)

-- the same of some parts alone, with what holds of each
pub gives-each_of : {X A : Type 0} (form : X → Judged A) (p : A → Bool) (xs : List ((x : X) × Gives p (form x))) → Gives (list_all p) (each (map form (map (λ e. e.0) xs)))
gives-each_of form p [] = refl
gives-each_of form p (e ∷ xs) =
    gives-both ◌∷◌ p (list_all p) (list_all p) (form e.0) (each (map form (map (λ e. e.0) xs))) (λ a rest h k. and_from (p a) (list_all p rest) h k) e.1 (gives-each_of form p xs)

count_more : {A : Type 0} (a : A) (made : List A) (n : ℕ) → (length made == n) ≡ true → (length (a ∷ made) == suc n) ≡ true
count_more a made n h = grind (arith, nat_tests)

pub gives-each_count : {A : Type 0} (js : List (Judged A)) → Gives (λ made. length made == length js) (each js)
gives-each_count [] = refl
gives-each_count (j ∷ js) =
    gives-both ◌∷◌ (λ a. true) (λ made. length made == length js) (λ made. length made == length (j ∷ js)) j (each js) (λ a made h k. count_more a made (length js) k) (gives-any j) (gives-each_count js)

-- a list of at least so many parts has as many as are there
abbrev pub are_at_least : {A : Type 0} → (A → Bool) → ℕ → ℕ → List A → Bool
are_at_least p count there made = (length made == there) && (nat_le count there && list_all p made)

pub gives-at_least : {A : Type 0} (p : A → Bool) (count end : ℕ) (js : List (Judged A)) → Gives (list_all p) (each js) → Gives (are_at_least p count (length js)) (at_least count end js)
gives-at_least p count end js h =
    let whole = at_least count end js in
    gives-with (λ made. length made == length js) (λ made. nat_le count (length js) && list_all p made) whole
    (gives-provided (λ made. length made == length js) (nat_le count (length js)) (shape (closing end)) (each js) (gives-each_count js))
    (gives-with (λ made. nat_le count (length js)) (list_all p) whole
    (gives-provision (nat_le count (length js)) (shape (closing end)) (each js))
    (gives-provided (list_all p) (nat_le count (length js)) (shape (closing end)) (each js) h))

list_all-joined : {A : Type 0} (p : A → Bool) (lists : List (List A)) → list_all (list_all p) lists ≡ true → list_all p (joined lists) ≡ true
list_all-joined p [] h = refl
list_all-joined p (xs ∷ lists) h =
    let parts = and_parts (list_all p xs) (list_all (list_all p) lists) h in
    list_all-append p xs (joined lists) ∙ and_from (list_all p xs) (list_all p (joined lists)) parts.0 (list_all-joined p lists parts.1)

pub gives-joined : {A : Type 0} (p : A → Bool) (j : Judged (List (List A))) → Gives (list_all (list_all p)) j → Gives (list_all p) (mapped joined j)
gives-joined p j h = gives-mapped joined (list_all (list_all p)) (list_all p) j (λ lists all. list_all-joined p lists all) h

-- ---- whole texts

pub gives-contents : {A : Type 0} (p : A → Bool) (without : Judged A) (form : Contents → Judged A) (found : Option Contents) → Gives p without → ((c : Contents) → Gives p (form c)) → Gives p (contents_or without form found)
gives-contents p without form None h so = h
gives-contents p without form (Some c) h so = so c

pub gives-and_then : {A B : Type 0} (p : B → Bool) (j : Judged A) (form : A → Judged B) → ((a : A) → Gives p (form a)) → Gives p (and_then j form)
gives-and_then p (good a) form so = so a
gives-and_then p (bad f more) form so = tt

pub gives-answer : {A : Type 0} (p : A → Bool) (file : Source) (j : Judged A) (r : Result A TextRefusal) → Gives p j → Answers file j r → IfOk r (λ a. IsTrue (p a))
gives-answer p file j (Ok a) h is = subst (Gives p) is h
gives-answer p file j (Err e) h is = tt
