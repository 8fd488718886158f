-- Parts put into a whole, and the answer of a whole text.
use Rattle.std.proofs.Common.{◌≡◌, List, [], ◌∷◌, ◌++◌, Option, Some, None, Result, refl, sym, ◌∙◌, ap, subst, append_assoc}
use Rattle.std.proofs.lemmas.List.{append-nil}
use Rattle.sexpr.specs.declared.fault.Source.{Source}
use Rattle.sexpr.specs.declared.fault.TextRefusal.{TextRefusal}
use Rattle.pddl_form.specs.declared.fault.Fault.{Fault}
use Rattle.pddl_form.specs.Faults.{first_with, least}
use Rattle.pddl_form.specs.Judged.{Judged, good, bad, syntax_of, faults_of, noted, mapped, both}
use Rattle.pddl_form.specs.Gather.{option_both, push}
use Rattle.pddl_form.specs.Put.{put_all}
use Rattle.pddl_form.specs.Reading.{IsRead}
use Rattle.pddl_form.specs.Concluded.{Concludes, HasOutcome, Answers}
use Rattle.pddl_form.proofs.Judging.{faults_of-both}
use Rattle.pddl_form.proofs.Loops.{read_as, read_both, right_none}

put_all-push : {A S : Type 0} (put : A → S → A) (whole : A) (parts : List S) (part : S) → put_all put whole (parts ++ part ∷ []) ≡ put (put_all put whole parts) part
put_all-push put whole [] part = refl
put_all-push put whole (p ∷ parts) part = put_all-push put (put whole p) parts part

both_put : {A S : Type 0} (put : A → S → A) (h : Judged A) (done : Judged (List S)) (s : Judged S) → both (put_all put) h (both push done s) ≡ both put (both (put_all put) h done) s
both_put put (good a) (good xs) (good x) = ap good (put_all-push put a xs x)
both_put put (good a) (good xs) (bad f more) = refl
both_put put (good a) (bad f more) s = refl
both_put put (bad f more) done s = ap (bad f) (ap (λ (fs : List Fault). more ++ fs) (faults_of-both push done s) ∙ sym (append_assoc more (faults_of done) (faults_of s)))

one_in_front : {S : Type 0} (x : S) (xs : List S) (j : Judged (List S)) → mapped (λ (ys : List S). xs ++ ys) (mapped (λ (ys : List S). x ∷ ys) j) ≡ mapped (λ (ys : List S). (xs ++ x ∷ []) ++ ys) j
one_in_front x xs (good ys) = ap good (sym (append_assoc xs (x ∷ []) ys))
one_in_front x xs (bad f more) = refl

both_moved : {S : Type 0} (done : Judged (List S)) (s : Judged S) (left : Judged (List S)) → both ◌++◌ done (both ◌∷◌ s left) ≡ both ◌++◌ (both push done s) left
both_moved (good xs) (good x) left = one_in_front x xs left
both_moved (good xs) (bad f more) left = refl
both_moved (bad f more) s left = ap (bad f) (ap (λ (fs : List Fault). more ++ fs) (faults_of-both ◌∷◌ s left) ∙ sym (append_assoc more (faults_of s) (faults_of left)))

put_none : {A S : Type 0} (put : A → S → A) (h : Judged A) → both (put_all put) h (good []) ≡ h
put_none put (good a) = refl
put_none put (bad f more) = ap (bad f) (append-nil more)

none_behind : {S : Type 0} (j : Judged (List S)) → both ◌++◌ j (good []) ≡ j
none_behind (good xs) = ap good (append-nil xs)
none_behind (bad f more) = ap (bad f) (append-nil more)

none_in_front : {S : Type 0} (j : Judged (List S)) → both ◌++◌ (good []) j ≡ j
none_in_front (good xs) = refl
none_in_front (bad f more) = refl

-- a whole with the parts that were put into it so far; what is left makes up all parts
pub record PutSoFar {A S : Type 0} (put : A → S → A) (h : Judged A) (all left : Judged (List S)) (old now : Option Fault) (found : Option A) : Type 0 where
  pub done : Judged (List S)
  pub done_read : IsRead (both (put_all put) h done) old now found
  pub whole : both ◌++◌ done left ≡ all

pub put_start : {A S : Type 0} (put : A → S → A) (h : Judged A) (all : Judged (List S)) (old now : Option Fault) (found : Option A) → IsRead h old now found → PutSoFar put h all all old now found
put_start {A = A} put h all old now found r = record {
  done = good [];
  done_read = subst (λ (j : Judged A). IsRead j old now found) (sym (put_none put h)) r;
  whole = none_in_front all;
}

pub put_one : {A S : Type 0} (put : A → S → A) (h : Judged A) (all left : Judged (List S)) (s : Judged S) (rest : Judged (List S)) (old now new : Option Fault) (found finds : Option A) (one : Option S)
    → PutSoFar put h all left old now found → left ≡ both ◌∷◌ s rest → IsRead s now new one → finds ≡ option_both put found one → PutSoFar put h all rest old new finds
put_one {A = A} {S = S} put h all left s rest old now new found finds one so is r is_finds = record {
  done = both push so.done s;
  done_read =
      subst (λ (j : Judged A). IsRead j old new finds) (sym (both_put put h so.done s))
      (read_as (both put (both (put_all put) h so.done) s) old new (option_both put found one) finds (read_both put (both (put_all put) h so.done) s old now new found one so.done_read r) is_finds);
  whole = sym (both_moved so.done s rest) ∙ ap (λ (j : Judged (List S)). both ◌++◌ so.done j) (sym is) ∙ so.whole;
}

pub put_end : {A S : Type 0} (put : A → S → A) (h : Judged A) (all left : Judged (List S)) (old now : Option Fault) (found : Option A)
    → PutSoFar put h all left old now found → left ≡ good [] → IsRead (both (put_all put) h all) old now found
put_end {S = S} put h all left old now found so is =
    subst (λ (j : Judged (List S)). IsRead (both (put_all put) h j) old now found) (sym (none_behind so.done) ∙ ap (λ (j : Judged (List S)). both ◌++◌ so.done j) (sym is) ∙ so.whole) so.done_read

both_cut : {A S : Type 0} (put : A → S → A) (h : Judged A) (done left : Judged (List S)) (f : Fault) (more : List Fault) → left ≡ bad f more → both (put_all put) h (both ◌++◌ done left) ≡ both (λ (a : A) (s : List S). a) (both (put_all put) h done) left
both_cut put (good a) (good xs) (good ys) f more is = absurd (cc is)
both_cut put (good a) (good xs) (bad g gs) f more is = refl
both_cut put (good a) (bad g gs) left f more is = refl
both_cut put (bad g gs) done left f more is = ap (bad g) (ap (λ (fs : List Fault). gs ++ fs) (faults_of-both ◌++◌ done left) ∙ sym (append_assoc gs (faults_of done) (faults_of left)))

pub put_cut : {A S : Type 0} (put : A → S → A) (h : Judged A) (all left : Judged (List S)) (f : Fault) (more : List Fault) (old now new : Option Fault) (found : Option A)
    → PutSoFar put h all left old now found → left ≡ bad f more → IsRead left now new None → IsRead (both (put_all put) h all) old new None
put_cut {A = A} {S = S} put h all left f more old now new found so is r =
    subst (λ (j : Judged (List S)). IsRead (both (put_all put) h j) old new None) so.whole
    (subst (λ (j : Judged A). IsRead j old new None) (sym (both_cut put h so.done left f more is))
    (right_none (λ (a : A) (s : List S). a) (both (put_all put) h so.done) left old now new found None so.done_read r refl))

is_good : {A : Type 0} (j : Judged A) (a : A) → Some a ≡ syntax_of j → j ≡ good a
is_good (good b) a is = cc is
is_good (bad f more) a is = absurd (cc is)

-- the least of some faults is some fault
least_outcome : {A : Type 0} (made : Option A) (f : Fault) (fs : List Fault) → HasOutcome made (least (Some f) fs)
least_outcome (Some a) f fs = tt
least_outcome None f [] = tt
least_outcome {A = A} None f (g ∷ fs) = least_outcome {A = A} None (first_with (Some f) g) fs

pub some_least : {A : Type 0} (made : Option A) (f : Fault) (fs : List Fault) (first : Option Fault) → first ≡ least None (f ∷ fs) → HasOutcome made first
some_least made f fs first is = subst (HasOutcome made) (sym is) (least_outcome made f fs)

judged_outcome : {A : Type 0} (j : Judged A) → HasOutcome (syntax_of j) (noted None j)
unfolding noted
judged_outcome (good a) = tt
judged_outcome {A = A} (bad f more) = least_outcome {A = A} None f more

-- what is read has a syntax or a fault
pub has_outcome : {A : Type 0} (j : Judged A) (made : Option A) (first : Option Fault) → IsRead j None first made → HasOutcome made first
has_outcome {A = A} j made first read =
    subst (λ (o : Option A). HasOutcome o first) (sym read.syntax_is) (subst (HasOutcome (syntax_of j)) (sym read.first_is) (judged_outcome j))

pub answers : {A : Type 0} (file : Source) (j : Judged A) (made : Option A) (first : Option Fault) (r : Result A TextRefusal) → IsRead j None first made → Concludes file made first r → Answers file j r
answers {A = A} file j made (Some f) r read is = subst (Answers file j) (sym is) (f, sym read.first_is, refl)
answers {A = A} file j (Some a) None r read is = subst (Answers file j) (sym is) (is_good j a read.syntax_is)
answers {A = A} file j None None r read none = absurd none

-- the same, where the whole with all parts is known
pub record Putting {A S : Type 0} (put : A → S → A) (total : Judged A) (left : Judged (List S)) (old now : Option Fault) (found : Option A) : Type 0 where
  pub header : Judged A
  pub all : Judged (List S)
  pub so_far : PutSoFar put header all left old now found
  pub total_is : both (put_all put) header all ≡ total

pub putting_start : {A S : Type 0} (put : A → S → A) (total h : Judged A) (all left : Judged (List S)) (old now : Option Fault) (found : Option A)
    → IsRead h old now found → left ≡ all → both (put_all put) h all ≡ total → Putting put total left old now found
putting_start {S = S} put total h all left old now found r same is = record { header = h; all = all; so_far = subst (λ (j : Judged (List S)). PutSoFar put h all j old now found) (sym same) (put_start put h all old now found r); total_is = is }

pub putting_one : {A S : Type 0} (put : A → S → A) (total : Judged A) (left : Judged (List S)) (s : Judged S) (rest : Judged (List S)) (old now new : Option Fault) (found finds : Option A) (one : Option S)
    → Putting put total left old now found → left ≡ both ◌∷◌ s rest → IsRead s now new one → finds ≡ option_both put found one → Putting put total rest old new finds
putting_one put total left s rest old now new found finds one p is r is_finds =
    record { header = p.header; all = p.all; so_far = put_one put p.header p.all left s rest old now new found finds one p.so_far is r is_finds; total_is = p.total_is }

pub putting_end : {A S : Type 0} (put : A → S → A) (total : Judged A) (left : Judged (List S)) (old now : Option Fault) (found : Option A) → Putting put total left old now found → left ≡ good [] → IsRead total old now found
putting_end {A = A} put total left old now found p is = subst (λ (j : Judged A). IsRead j old now found) p.total_is (put_end put p.header p.all left old now found p.so_far is)

pub putting_cut : {A S : Type 0} (put : A → S → A) (total : Judged A) (left : Judged (List S)) (f : Fault) (more : List Fault) (old now new : Option Fault) (found : Option A) (x : Option (List S))
    → Putting put total left old now found → left ≡ bad f more → IsRead left now new x → IsRead total old new None
putting_cut {A = A} put total left f more old now new found x p is r =
    subst (λ (j : Judged A). IsRead j old new None) p.total_is
    (put_cut put p.header p.all left f more old now new found p.so_far is (record { syntax_is = sym (ap syntax_of is); first_is = r.first_is }))
