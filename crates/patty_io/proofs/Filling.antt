-- What was taken of a reader, and put into a writer, piece by piece.
use Rattle.std.proofs.Common.{◌≡◌, ℕ, ◌+◌, List, [], ◌∷◌, ◌++◌, ◌==◌, true, length, take, drop, Option, Some, None, refl, sym, ap, subst, ◌∙◌, append_assoc, append-nil, take-append-drop, arith}
use Rattle.std.specs.Io.KnownBytes.{Consumes, Appends, Keeps, IsAtEnd}
use Rattle.std.proofs.KnownBytes.{Appends-nil, Appends-trans}
use Rattle.patty_io.specs.Shelf.{limit, Tells, TellsMore}
use Rattle.std.proofs.lemmas.Bool.{eqb-true}
use Rattle.std.proofs.Math.Seq.{take-append_seam}

-- all of what is told was taken
pub tells_all : (told left : Option (List ℕ)) (into : List ℕ) → Consumes told left into → IsAtEnd left → Tells told into
tells_all None left into taken done = tt
tells_all (Some x) None into taken done = absurd taken
tells_all (Some x) (Some y) into taken done = sym (taken ∙ ap (λ (l : List ℕ). into ++ l) done ∙ append-nil into)

front_is : (n : ℕ) (whole into rest : List ℕ) → whole ≡ into ++ rest → length into ≡ n → into ≡ take n whole
front_is n whole into rest is long = sym (ap (take n) is ∙ ap (λ (m : ℕ). take m (into ++ rest)) (sym long) ∙ take-append_seam into rest)

-- a front of what is told was taken
pub tells_more : (told left : Option (List ℕ)) (into : List ℕ) → Consumes told left into → length into ≡ limit + 1 → TellsMore told into
tells_more None left into taken long = tt
tells_more (Some x) None into taken long = absurd taken
tells_more (Some x) (Some y) into taken long = front_is (limit + 1) x into y taken long

-- a front of some bytes was added, and these are left
pub record Written (old now : Option (List ℕ)) (whole rest : List ℕ) : Type 0 where
  pub front : List ℕ
  pub split : whole ≡ front ++ rest
  pub added : Appends old now front

pub written_none : (old : Option (List ℕ)) (whole : List ℕ) → Written old old whole whole
written_none old whole = record { front = []; split = refl; added = Appends-nil old }

module _ (old now : Option (List ℕ)) (whole rest : List ℕ) (so_far : Written old now whole rest) where
  pub written_more : (next : Option (List ℕ)) (n : ℕ) → Appends now next (take n rest) → Written old next whole (drop n rest)
  written_more next n more = record {
    front = so_far.front ++ take n rest;
    split = so_far.split ∙ ap (λ (l : List ℕ). so_far.front ++ l) (sym (take-append-drop n rest)) ∙ sym (append_assoc so_far.front (take n rest) (drop n rest));
    added = Appends-trans old now next so_far.front (take n rest) so_far.added more;
  }

  pub written_whole : rest ≡ [] → Appends old now whole
  written_whole done = subst (λ (l : List ℕ). Appends old now l) (sym (so_far.split ∙ ap (λ (l : List ℕ). so_far.front ++ l) done ∙ append-nil so_far.front)) so_far.added

  pub written_front : (n : ℕ) × Appends old now (take n whole)
  written_front = (length so_far.front, subst (λ (l : List ℕ). Appends old now l) (front_is (length so_far.front) whole so_far.front rest so_far.split refl) so_far.added)

appends_kept : (a b c : Option (List ℕ)) (bytes : List ℕ) → Appends a b bytes → Keeps b c → Appends a c bytes
appends_kept None b c bytes added keeps = tt
appends_kept (Some x) None c bytes added keeps = absurd added
appends_kept (Some x) (Some y) None bytes added keeps = absurd keeps
appends_kept (Some x) (Some y) (Some z) bytes added keeps = keeps ∙ added

pub written_kept : (old now next : Option (List ℕ)) (whole rest : List ℕ) → Written old now whole rest → Keeps now next → Written old next whole rest
written_kept old now next whole rest so_far keeps = record { front = so_far.front; split = so_far.split; added = appends_kept old now next so_far.front so_far.added keeps }

pub none_left : (rest : List ℕ) → (length rest == 0) ≡ true → rest ≡ []
none_left [] is = refl
none_left (x ∷ rest) is = let zero_is : length (x ∷ rest) ≡ 0 = eqb-true _ _ is in absurd (omega (arith, zero_is))
