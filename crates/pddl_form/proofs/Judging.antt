-- Laws of what forms make of trees: the syntax and the first fault of a whole, from those of its parts.
use Rattle.std.proofs.Common.{◌≡◌, List, [], ◌∷◌, ◌++◌, Option, Some, None, refl, sym, ◌∙◌, ap, append_assoc}
use Rattle.std.proofs.lemmas.List.{append-nil}
use Rattle.std.specs.Option.{option_map}
use Rattle.pddl_form.specs.declared.fault.Fault.{Fault}
use Rattle.pddl_form.specs.Faults.{first_with, least}
use Rattle.pddl_form.specs.Judged.{Judged, good, bad, syntax_of, faults_of, noted, mapped, both, each, besides}
use Rattle.pddl_form.specs.Gather.{option_both, push, joined}

pub least-append : (first : Option Fault) (fs gs : List Fault) → least first (fs ++ gs) ≡ least (least first fs) gs
least-append first [] gs = refl
least-append first (f ∷ fs) gs = least-append (Some (first_with first f)) fs gs

pub faults_of-mapped : {A B : Type 0} (g : A → B) (j : Judged A) → faults_of (mapped g j) ≡ faults_of j
faults_of-mapped g (good a) = refl
faults_of-mapped g (bad f more) = refl

pub faults_of-both : {A B C : Type 0} (g : A → B → C) (a : Judged A) (b : Judged B) → faults_of (both g a b) ≡ faults_of a ++ faults_of b
faults_of-both g (good a) b = faults_of-mapped (g a) b
faults_of-both g (bad f more) b = refl

pub syntax_of-mapped : {A B : Type 0} (g : A → B) (j : Judged A) → syntax_of (mapped g j) ≡ option_map g (syntax_of j)
syntax_of-mapped g (good a) = refl
syntax_of-mapped g (bad f more) = refl

pub syntax_of-both : {A B C : Type 0} (g : A → B → C) (a : Judged A) (b : Judged B) → syntax_of (both g a b) ≡ option_both g (syntax_of a) (syntax_of b)
syntax_of-both g (good a) (good b) = refl
syntax_of-both g (good a) (bad f more) = refl
syntax_of-both g (bad f more) b = refl

pub syntax_of-besides : {A : Type 0} (f : Fault) (j : Judged A) → syntax_of (besides f j) ≡ None
syntax_of-besides f (good a) = refl
syntax_of-besides f (bad g more) = refl

pub noted-mapped : {A B : Type 0} (first : Option Fault) (g : A → B) (j : Judged A) → noted first (mapped g j) ≡ noted first j
unfolding noted
noted-mapped first g j = ap (least first) (faults_of-mapped g j)

pub noted-both : {A B C : Type 0} (first : Option Fault) (g : A → B → C) (a : Judged A) (b : Judged B) → noted first (both g a b) ≡ noted (noted first a) b
unfolding noted
noted-both first g a b = ap (least first) (faults_of-both g a b) ∙ least-append first (faults_of a) (faults_of b)

pub noted-besides : {A : Type 0} (first : Option Fault) (f : Fault) (j : Judged A) → noted first (besides f j) ≡ Some (first_with (noted first j) f)
unfolding noted
noted-besides first f (good a) = refl
noted-besides first f (bad g more) = least-append first (g ∷ more) (f ∷ [])

pub noted-good : {A : Type 0} (first : Option Fault) (a : A) → noted first (good a) ≡ first
unfolding noted
noted-good first a = refl

pub noted-bad : (A : Type 0) (first : Option Fault) (f : Fault) → noted {A = A} first (bad f []) ≡ Some (first_with first f)
unfolding noted
noted-bad A first f = refl

both_good : {A : Type 0} (a : A) (xs : List A) (j : Judged A) → mapped (λ (ys : List A). a ∷ ys) (mapped (push xs) j) ≡ mapped (push (a ∷ xs)) j
both_good a xs (good y) = refl
both_good a xs (bad f more) = refl

both_push : {A : Type 0} (k : Judged A) (all : Judged (List A)) (j : Judged A) → both ◌∷◌ k (both push all j) ≡ both push (both ◌∷◌ k all) j
both_push (good a) (good xs) j = both_good a xs j
both_push (good a) (bad f more) j = refl
both_push (bad f more) all j = ap (bad f) (ap (λ (fs : List Fault). more ++ fs) (faults_of-both push all j) ∙ sym (append_assoc more (faults_of all) (faults_of j)))

one_more : {A : Type 0} (j : Judged A) → both ◌∷◌ j (good []) ≡ both push (good []) j
one_more (good a) = refl
one_more (bad f more) = ap (bad f) (append-nil more)

pub each-push : {A : Type 0} (js : List (Judged A)) (j : Judged A) → each (js ++ j ∷ []) ≡ both push (each js) j
each-push [] j = one_more j
each-push (k ∷ js) j = ap (both ◌∷◌ k) (each-push js j) ∙ both_push k (each js) j

joined-push : {A : Type 0} (xs : List (List A)) (ys : List A) → joined (xs ++ ys ∷ []) ≡ joined xs ++ ys
joined-push [] ys = append-nil ys
joined-push {A = A} (x ∷ xs) ys = ap (λ (l : List A). x ++ l) (joined-push xs ys) ∙ sym (append_assoc x (joined xs) ys)

joined_both : {A : Type 0} (all : Judged (List (List A))) (j : Judged (List A)) → mapped joined (both push all j) ≡ both ◌++◌ (mapped joined all) j
joined_both (good xs) (good ys) = ap good (joined-push xs ys)
joined_both (good xs) (bad f more) = refl
joined_both (bad f more) j = refl

pub joined-each-push : {A : Type 0} (js : List (Judged (List A))) (j : Judged (List A)) → mapped joined (each (js ++ j ∷ [])) ≡ both ◌++◌ (mapped joined (each js)) j
joined-each-push js j = ap (mapped joined) (each-push js j) ∙ joined_both (each js) j
