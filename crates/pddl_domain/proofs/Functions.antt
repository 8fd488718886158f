-- Functions, tree by tree.
use Rattle.std.proofs.Common.{◌≡◌, ℕ, ◌-◌, Bool, true, false, List, [], ◌∷◌, ◌++◌, Option, Some, None, refl, sym, ◌∙◌, ap, subst}
use Rattle.std.proofs.lemmas.List.{append-nil}
use Rattle.std.specs.Prelude.{if◌then◌else◌, codes}
use Rattle.sexpr.specs.declared.tree.Tree.{Tree}
use Rattle.sexpr.specs.Opened.{start_of}
use Rattle.pddl_form.specs.declared.fault.Fault.{Fault}
use Rattle.pddl_form.specs.declared.spot.Spot.{Spot}
use Rattle.pddl_form.specs.declared.typed.Typed.{Typed}
use Rattle.pddl_form.specs.Faults.{first_with, shape}
use Rattle.pddl_form.specs.Judged.{Judged, good, bad, lacking, mapped, both, provided}
use Rattle.pddl_form.specs.Gather.{option_both, push}
use Rattle.pddl_form.specs.Words.{is_word}
use Rattle.pddl_form.specs.Reading.{IsRead}
use Rattle.pddl_form.specs.Typed.{only}
use Rattle.pddl_form.proofs.Judging.{faults_of-mapped}
use Rattle.pddl_form.proofs.Loops.{read_good, read_bad, read_as, read_both, right_none, provided_as}
use Rattle.pddl_form.proofs.TypedLists.{both_append}
use Rattle.pddl_domain.specs.declared.head.Head.{Head}
use Rattle.pddl_domain.specs.Heads.{head_form, number_mark, functions_behind, behind_dash}

abbrev pub head_with : Spot → List Typed → Head
head_with name params = record { name = name; params = params }

-- one more behind those found
pushed : {A : Type 0} (i : Judged (List A)) (j : Judged A) → both ◌++◌ i (mapped only j) ≡ both push i j
pushed (good xs) (good y) = refl
pushed (good xs) (bad f more) = refl
pushed (bad f more) j = ap (λ (fs : List Fault). bad f (more ++ fs)) (faults_of-mapped only j)

-- nothing more, and perhaps a fault
demanded : {A : Type 0} (i : Judged (List A)) (b : Bool) (f : Fault) → both ◌++◌ i (provided b f (good [])) ≡ provided b f i
demanded (good xs) true f = ap good (append-nil xs)
demanded (good xs) false f = refl
demanded (bad g more) true f = ap (bad g) (append-nil more)
demanded (bad g more) false f = refl

-- the functions found so far, and what is left
pub record FunctionsSoFar (end : ℕ) (trees rest : List Tree) (waits : Bool) (old now : Option Fault) (found : Option (List Head)) : Type 0 where
  pub done : Judged (List Head)
  pub done_read : IsRead done old now found
  pub whole : both ◌++◌ done (functions_behind end waits rest) ≡ functions_behind end false trees

nothing_in_front : {A : Type 0} (j : Judged (List A)) → both ◌++◌ (good []) j ≡ j
nothing_in_front (good xs) = refl
nothing_in_front (bad f more) = refl

nothing_behind : {A : Type 0} (j : Judged (List A)) → both ◌++◌ j (good []) ≡ j
nothing_behind (good xs) = ap good (append-nil xs)
nothing_behind (bad f more) = ap (bad f) (append-nil more)

pub functions_none : (end : ℕ) (trees : List Tree) (old : Option Fault) (found : List Head) → found ≡ [] → FunctionsSoFar end trees trees false old old (Some found)
functions_none end trees old found none = record {
  done = good [];
  done_read = read_as (good []) old old (Some []) (Some found) (read_good old []) (ap Some none);
  whole = nothing_in_front (functions_behind end false trees);
}

abbrev next : ℕ → Bool → Tree → List Tree → Bool → Judged (List Head)
next end waits t more dash = if dash then both ◌++◌ (provided waits (shape (start_of t)) (good [])) (behind_dash end more) else both ◌++◌ (mapped only (head_form t)) (functions_behind end true more)

pub functions_item : (end : ℕ) (trees rest : List Tree) (waits : Bool) (t : Tree) (more : List Tree) (old now new : Option Fault) (found finds : Option (List Head)) (one : Option Head)
    → FunctionsSoFar end trees rest waits old now found → rest ≡ t ∷ more → is_word (codes "-") t ≡ false → IsRead (head_form t) now new one → finds ≡ option_both push found one
    → FunctionsSoFar end trees more true old new finds
functions_item end trees rest waits t more old now new found finds one h is no_dash k is_finds = record {
  done = both push h.done (head_form t);
  done_read = read_as (both push h.done (head_form t)) old new (option_both push found one) finds (read_both push h.done (head_form t) old now new found one h.done_read k) is_finds;
  whole =
      ap (λ (j : Judged (List Head)). both ◌++◌ j (functions_behind end true more)) (sym (pushed h.done (head_form t)))
      ∙ sym (both_append h.done (mapped only (head_form t)) (functions_behind end true more))
      ∙ ap (λ (b : Bool). both ◌++◌ h.done (next end waits t more b)) (sym no_dash)
      ∙ ap (λ (ts : List Tree). both ◌++◌ h.done (functions_behind end waits ts)) (sym is) ∙ h.whole;
}

-- the functions in front of a `-`, and what follows it
dashed : (end : ℕ) (trees rest : List Tree) (waits : Bool) (t : Tree) (more : List Tree) (done : Judged (List Head))
    → rest ≡ t ∷ more → is_word (codes "-") t ≡ true → both ◌++◌ done (functions_behind end waits rest) ≡ functions_behind end false trees
    → both ◌++◌ (provided waits (shape (start_of t)) done) (behind_dash end more) ≡ functions_behind end false trees
dashed end trees rest waits t more done is dash whole =
    ap (λ (j : Judged (List Head)). both ◌++◌ j (behind_dash end more)) (sym (demanded done waits (shape (start_of t))))
    ∙ sym (both_append done (provided waits (shape (start_of t)) (good [])) (behind_dash end more))
    ∙ ap (λ (b : Bool). both ◌++◌ done (next end waits t more b)) (sym dash)
    ∙ ap (λ (ts : List Tree). both ◌++◌ done (functions_behind end waits ts)) (sym is) ∙ whole

pub functions_number : (end : ℕ) (trees rest : List Tree) (waits : Bool) (t : Tree) (behind : List Tree) (u : Tree) (more : List Tree) (old now later new : Option Fault) (found kept finds none : Option (List Head)) (place : ℕ)
    → FunctionsSoFar end trees rest waits old now found → rest ≡ t ∷ behind → is_word (codes "-") t ≡ true → place ≡ start_of t
    → kept ≡ (if waits then found else None) → later ≡ (if waits then now else Some (first_with now (shape place)))
    → behind ≡ u ∷ more → IsRead (number_mark u) later new none → finds ≡ option_both ◌++◌ kept none
    → FunctionsSoFar end trees more false old new finds
functions_number end trees rest waits t behind u more old now later new found kept finds none place h is dash is_place is_kept is_later so k is_finds =
    let front = provided waits (shape (start_of t)) h.done in
    let front_read : IsRead front old later kept = provided_as waits waits place (start_of t) h.done old now later found kept refl is_place h.done_read is_kept is_later in
    record {
      done = both ◌++◌ front (number_mark u);
      done_read = read_as (both ◌++◌ front (number_mark u)) old new (option_both ◌++◌ kept none) finds (read_both ◌++◌ front (number_mark u) old later new kept none front_read k) is_finds;
      whole =
          sym (both_append front (number_mark u) (functions_behind end false more))
          ∙ ap (λ (ts : List Tree). both ◌++◌ front (behind_dash end ts)) (sym so)
          ∙ dashed end trees rest waits t behind h.done is dash h.whole;
    }

pub functions_cut : (end : ℕ) (trees rest : List Tree) (waits : Bool) (t : Tree) (behind : List Tree) (old now later new : Option Fault) (found kept : Option (List Head)) (place : ℕ)
    → FunctionsSoFar end trees rest waits old now found → rest ≡ t ∷ behind → is_word (codes "-") t ≡ true → place ≡ start_of t
    → kept ≡ (if waits then found else None) → later ≡ (if waits then now else Some (first_with now (shape place)))
    → behind ≡ [] → new ≡ Some (first_with later (shape (end - 1)))
    → IsRead (functions_behind end false trees) old new None
functions_cut end trees rest waits t behind old now later new found kept place h is dash is_place is_kept is_later so is_new =
    let front = provided waits (shape (start_of t)) h.done in
    let front_read : IsRead front old later kept = provided_as waits waits place (start_of t) h.done old now later found kept refl is_place h.done_read is_kept is_later in
    subst (λ (j : Judged (List Head)). IsRead j old new None)
    (ap (λ (ts : List Tree). both ◌++◌ front (behind_dash end ts)) (sym so) ∙ dashed end trees rest waits t behind h.done is dash h.whole)
    (right_none ◌++◌ front (lacking end) old later new kept None front_read (read_bad later new (shape (end - 1)) is_new) refl)

pub functions_end : (end : ℕ) (trees rest : List Tree) (waits : Bool) (old now : Option Fault) (found : Option (List Head))
    → FunctionsSoFar end trees rest waits old now found → rest ≡ [] → IsRead (functions_behind end false trees) old now found
functions_end end trees rest waits old now found h is =
    subst (λ (j : Judged (List Head)). IsRead j old now found)
    (sym (nothing_behind h.done) ∙ ap (λ (ts : List Tree). both ◌++◌ h.done (functions_behind end waits ts)) (sym is) ∙ h.whole) h.done_read
