-- The truth of each atom after an occurrence.
use Rattle.std.proofs.Common.{◌≡◌, ℕ, Bool, true, false, not, cond, ◌||◌, ◌&&◌, List, [], ◌∷◌, refl, sym, ap, subst, ◌∙◌, ◌⊎◌, inl, inr, nat_eq, nat_lt}
use Rattle.std.proofs.lemmas.Bool.{eqb-true, eq-eqb}
use Rattle.task_core.specs.declared.action.GAction.{GAction}
use Rattle.task_core.specs.State.{State}
use Rattle.task_core.specs.Step.{is_in, after}
use Rattle.encode_laws.specs.Rows.{Assignment, Name, behind, named, Literal, yes, no, lit, opposite, true_at, MeetsAll}
use Rattle.encode_laws.specs.Symbolic.{Symbolic, added, deleted, added_rows, deleted_rows, with_change, changes_from, changes_of, change_rows, truth_rows, symbolic_truth}
use Rattle.encode_laws.proofs.RowLaws.{true_at-opposite, meets-left, meets-right, meets-append}

-- ---- one atom
new_added : (n o t : Bool) → (not n || (o || (t || false))) ≡ true → (n || (not o || false)) ≡ true → (n || (not t || false)) ≡ true → n ≡ (o || t)
new_added true true t a b c = refl
new_added true false true a b c = refl
new_added true false false a b c = absurd (cc)
new_added false true t a b c = absurd (cc)
new_added false false true a b c = absurd (cc)
new_added false false false a b c = refl

new_deleted : (n o t : Bool) → (not n || (not o || false)) ≡ true → (not n || (t || false)) ≡ true → (n || (o || (not t || false))) ≡ true → n ≡ (not o && t)
new_deleted true true t a b c = absurd (cc)
new_deleted true false true a b c = refl
new_deleted true false false a b c = absurd (cc)
new_deleted false true t a b c = refl
new_deleted false false true a b c = absurd (cc)
new_deleted false false false a b c = refl

or-true : (b : Bool) → (b || true) ≡ true
or-true true = refl
or-true false = refl

or-false : (b : Bool) → (b || false) ≡ b
or-false true = refl
or-false false = refl

and-true : (b : Bool) → (b && true) ≡ b
and-true true = refl
and-true false = refl

and-false : (b : Bool) → (b && false) ≡ false
and-false true = refl
and-false false = refl

added_1 : (o t : Bool) → (not (o || t) || (o || (t || false))) ≡ true
added_1 true t = refl
added_1 false true = refl
added_1 false false = refl

added_2 : (o t : Bool) → ((o || t) || (not o || false)) ≡ true
added_2 true t = refl
added_2 false true = refl
added_2 false false = refl

added_3 : (o t : Bool) → ((o || t) || (not t || false)) ≡ true
added_3 true t = refl
added_3 false true = refl
added_3 false false = refl

deleted_1 : (o t : Bool) → (not (not o && t) || (not o || false)) ≡ true
deleted_1 true t = refl
deleted_1 false true = refl
deleted_1 false false = refl

deleted_2 : (o t : Bool) → (not (not o && t) || (t || false)) ≡ true
deleted_2 true t = refl
deleted_2 false true = refl
deleted_2 false false = refl

deleted_3 : (o t : Bool) → ((not o && t) || (o || (not t || false))) ≡ true
deleted_3 true t = refl
deleted_3 false true = refl
deleted_3 false false = refl

module _ (pt : Assignment) (on : Literal) (n : Name) where
  off : true_at pt (opposite on) ≡ not (true_at pt on)
  off = true_at-opposite pt on

  opp : (t : Literal) → true_at pt (opposite t) ≡ not (true_at pt t)
  opp t = true_at-opposite pt t

  pub added-down : (t : Literal) → MeetsAll pt (added_rows on n t) → true_at pt (added on (lit true (named n)) t) ≡ (true_at pt on || true_at pt t)
  added-down yes h = sym (or-true (true_at pt on))
  added-down no h = sym (or-false (true_at pt on))
  added-down (lit s f) h =
      new_added (pt.truth n) (true_at pt on) (true_at pt (lit s f)) h.1.0
      (sym (ap (λ b. pt.truth n || (b || false)) off) ∙ h.1.1.0)
      (sym (ap (λ b. pt.truth n || (b || false)) (opp (lit s f))) ∙ h.1.1.1.0)

  pub added-up : (t : Literal) → pt.truth n ≡ (true_at pt on || true_at pt t) → MeetsAll pt (added_rows on n t)
  added-up yes h = tt
  added-up no h = tt
  added-up (lit s f) h = let o = true_at pt on in let t = true_at pt (lit s f) in (
    tt,
    (
      ap (λ b. not b || (o || (t || false))) h ∙ added_1 o t,
      (
        ap (λ b. pt.truth n || (b || false)) off ∙ ap (λ b. b || (not o || false)) h ∙ added_2 o t,
        (ap (λ b. pt.truth n || (b || false)) (opp (lit s f)) ∙ ap (λ b. b || (not t || false)) h ∙ added_3 o t, tt),
      ),
    ),
  )

  pub deleted-down : (t : Literal) → MeetsAll pt (deleted_rows on n t) → true_at pt (deleted on (lit true (named n)) t) ≡ (not (true_at pt on) && true_at pt t)
  deleted-down yes h = off ∙ sym (and-true (not (true_at pt on)))
  deleted-down no h = sym (and-false (not (true_at pt on)))
  deleted-down (lit s f) h =
      new_deleted (pt.truth n) (true_at pt on) (true_at pt (lit s f))
      (sym (ap (λ b. not (pt.truth n) || (b || false)) off) ∙ h.1.0) h.1.1.0
      (sym (ap (λ b. pt.truth n || (true_at pt on || (b || false))) (opp (lit s f))) ∙ h.1.1.1.0)

  pub deleted-up : (t : Literal) → pt.truth n ≡ (not (true_at pt on) && true_at pt t) → MeetsAll pt (deleted_rows on n t)
  deleted-up yes h = tt
  deleted-up no h = tt
  deleted-up (lit s f) h = let o = true_at pt on in let t = true_at pt (lit s f) in (
    tt,
    (
      ap (λ b. not (pt.truth n) || (b || false)) off ∙ ap (λ b. not b || (not o || false)) h ∙ deleted_1 o t,
      (
        ap (λ b. not b || (t || false)) h ∙ deleted_2 o t,
        (ap (λ b. pt.truth n || (o || (b || false))) (opp (lit s f)) ∙ ap (λ b. b || (o || (not t || false))) h ∙ deleted_3 o t, tt),
      ),
    ),
  )

-- ---- the changes of an action are its added and its deleted atoms
abbrev pub Among : ℕ × Bool → List (ℕ × Bool) → Type 0
Among c [] = ⊥
Among c (d ∷ ds) = (c ≡ d) ⊎ Among c ds

with_change-same : (p : ℕ) (b : Bool) (cs : List (ℕ × Bool)) → Among (p, b) (with_change p b cs)
with_change-same p b [] = inl refl
with_change-same p b (c ∷ cs) = by_test (nat_lt p c.0) (with_change-same p b cs)
  where
    by_test : (t : Bool) → Among (p, b) (with_change p b cs) → Among (p, b) (cond t ((p, b) ∷ c ∷ cs) (c ∷ with_change p b cs))
    by_test true h = inl refl
    by_test false h = inr h

with_change-other : (p : ℕ) (b : Bool) (d : ℕ × Bool) (cs : List (ℕ × Bool)) → Among d cs → Among d (with_change p b cs)
with_change-other p b d [] h = absurd h
with_change-other p b d (c ∷ cs) h = by_test (nat_lt p c.0) h (with_change-other p b d cs)
  where
    inside : Among d (c ∷ cs) → (Among d cs → Among d (with_change p b cs)) → Among d (c ∷ with_change p b cs)
    inside (inl e) f = inl e
    inside (inr j) f = inr (f j)

    by_test : (t : Bool) → Among d (c ∷ cs) → (Among d cs → Among d (with_change p b cs)) → Among d (cond t ((p, b) ∷ c ∷ cs) (c ∷ with_change p b cs))
    by_test true h f = inr h
    by_test false h f = inside h f

with_change-from : (p : ℕ) (b : Bool) (d : ℕ × Bool) (cs : List (ℕ × Bool)) → Among d (with_change p b cs) → (d ≡ (p, b)) ⊎ Among d cs
with_change-from p b d [] h = h
with_change-from p b d (c ∷ cs) h = by_test (nat_lt p c.0) h (with_change-from p b d cs)
  where
    further : (d ≡ (p, b)) ⊎ Among d cs → (d ≡ (p, b)) ⊎ Among d (c ∷ cs)
    further (inl e) = inl e
    further (inr j) = inr (inr j)

    inside : Among d (c ∷ with_change p b cs) → (Among d (with_change p b cs) → (d ≡ (p, b)) ⊎ Among d cs) → (d ≡ (p, b)) ⊎ Among d (c ∷ cs)
    inside (inl e) f = inr (inl e)
    inside (inr j) f = further (f j)

    by_test : (t : Bool) → Among d (cond t ((p, b) ∷ c ∷ cs) (c ∷ with_change p b cs)) → (Among d (with_change p b cs) → (d ≡ (p, b)) ⊎ Among d cs)
        → (d ≡ (p, b)) ⊎ Among d (c ∷ cs)
    by_test true h f = h
    by_test false h f = inside h f

changes-in : (p : ℕ) (b : Bool) (ps : List ℕ) (cs : List (ℕ × Bool)) → is_in p ps ≡ true → Among (p, b) (changes_from ps b cs)
changes-in p b [] cs h = absurd (cc)
changes-in p b (q ∷ qs) cs h = by_test (nat_eq q p) refl h (changes-in p b qs cs)
  where
    by_test : (t : Bool) → nat_eq q p ≡ t → (t || is_in p qs) ≡ true → (is_in p qs ≡ true → Among (p, b) (changes_from qs b cs)) → Among (p, b) (with_change q b (changes_from qs b cs))
    by_test true e j f = subst (λ (m : ℕ). Among (m, b) (with_change q b (changes_from qs b cs))) (eqb-true q p e) (with_change-same q b (changes_from qs b cs))
    by_test false e j f = with_change-other q b (p, b) (changes_from qs b cs) (f j)

changes-keep : (d : ℕ × Bool) (b : Bool) (ps : List ℕ) (cs : List (ℕ × Bool)) → Among d cs → Among d (changes_from ps b cs)
changes-keep d b [] cs h = h
changes-keep d b (q ∷ qs) cs h = with_change-other q b d (changes_from qs b cs) (changes-keep d b qs cs h)

changes-out : (d : ℕ × Bool) (b : Bool) (ps : List ℕ) (cs : List (ℕ × Bool)) → Among d (changes_from ps b cs) → ((d.1 ≡ b) × (is_in d.0 ps ≡ true)) ⊎ Among d cs
changes-out d b [] cs h = inr h
changes-out d b (q ∷ qs) cs h = first (with_change-from q b d (changes_from qs b cs) h) (changes-out d b qs cs)
  where
    or-right : (t u : Bool) → u ≡ true → (t || u) ≡ true
    or-right true u e = refl
    or-right false u e = e

    or-left : (t u : Bool) → t ≡ true → (t || u) ≡ true
    or-left true u e = refl
    or-left false u e = absurd (cc)

    second : ((d.1 ≡ b) × (is_in d.0 qs ≡ true)) ⊎ Among d cs → ((d.1 ≡ b) × (is_in d.0 (q ∷ qs) ≡ true)) ⊎ Among d cs
    second (inl e) = inl (e.0, or-right (nat_eq q d.0) (is_in d.0 qs) e.1)
    second (inr j) = inr j

    first : (d ≡ (q, b)) ⊎ Among d (changes_from qs b cs) → (Among d (changes_from qs b cs) → ((d.1 ≡ b) × (is_in d.0 qs ≡ true)) ⊎ Among d cs)
        → ((d.1 ≡ b) × (is_in d.0 (q ∷ qs) ≡ true)) ⊎ Among d cs
    first (inl e) f = inl (ap (λ (x : ℕ × Bool). x.1) e, or-left (nat_eq q d.0) (is_in d.0 qs) (eq-eqb q d.0 (sym (ap (λ (x : ℕ × Bool). x.0) e))))
    first (inr j) f = second (f j)

pub added_among : (a : GAction) (p : ℕ) → is_in p a.adds ≡ true → Among (p, true) (changes_of a)
added_among a p h = changes-in p true a.adds (changes_from a.dels false []) h

pub deleted_among : (a : GAction) (p : ℕ) → is_in p a.dels ≡ true → Among (p, false) (changes_of a)
deleted_among a p h = changes-keep (p, false) true a.adds (changes_from a.dels false []) (changes-in p false a.dels [] h)

-- a change is of an added or of a deleted atom
pub change_is : (a : GAction) (d : ℕ × Bool) → Among d (changes_of a) → ((d.1 ≡ true) × (is_in d.0 a.adds ≡ true)) ⊎ ((d.1 ≡ false) × (is_in d.0 a.dels ≡ true))
change_is a d h = first (changes-out d true a.adds (changes_from a.dels false []) h)
  where
    second : ((d.1 ≡ false) × (is_in d.0 a.dels ≡ true)) ⊎ ⊥ → ((d.1 ≡ true) × (is_in d.0 a.adds ≡ true)) ⊎ ((d.1 ≡ false) × (is_in d.0 a.dels ≡ true))
    second (inl e) = inr e
    second (inr e) = absurd e

    first : ((d.1 ≡ true) × (is_in d.0 a.adds ≡ true)) ⊎ Among d (changes_from a.dels false []) → ((d.1 ≡ true) × (is_in d.0 a.adds ≡ true)) ⊎ ((d.1 ≡ false) × (is_in d.0 a.dels ≡ true))
    first (inl e) = inl e
    first (inr j) = second (changes-out d false a.dels [] j)

-- ---- all changed atoms
module _ (pt : Assignment) (i : ℕ) (on : Literal) (y : Symbolic) where
  rows-of_one : (d : ℕ × Bool) (cs : List (ℕ × Bool)) → MeetsAll pt (truth_rows i on y cs) → Among d cs → MeetsAll pt (change_rows i on y d)
  rows-of_one d [] h m = absurd m
  rows-of_one d (c ∷ cs) h (inl e) = subst (λ (x : ℕ × Bool). MeetsAll pt (change_rows i on y x)) (sym e) (meets-left pt (change_rows i on y c) (truth_rows i on y cs) h)
  rows-of_one d (c ∷ cs) h (inr m) = rows-of_one d cs (meets-right pt (change_rows i on y c) (truth_rows i on y cs) h) m

  rows-of_all : (cs : List (ℕ × Bool)) → ((d : ℕ × Bool) → Among d cs → MeetsAll pt (change_rows i on y d)) → MeetsAll pt (truth_rows i on y cs)
  rows-of_all [] h = tt
  rows-of_all (c ∷ cs) h = meets-append pt (change_rows i on y c) (truth_rows i on y cs) (h c (inl refl)) (rows-of_all cs (λ d m. h d (inr m)))

  or-cond : (o t : Bool) → (o || t) ≡ cond o true t
  or-cond true t = refl
  or-cond false t = refl

  and-cond : (o t : Bool) → (not o && t) ≡ cond o false t
  and-cond true t = refl
  and-cond false t = refl

  cond-same : (o t : Bool) → t ≡ cond o t t
  cond-same true t = refl
  cond-same false t = refl

  module _ (a : GAction) (s : State) (agree : (p : ℕ) → true_at pt (y.truth p) ≡ s.truth p) where
    -- each atom has the truth that it has after the step where the occurrence is done, else the truth before
    pub truth-down : MeetsAll pt (truth_rows i on y (changes_of a)) → (p : ℕ) → true_at pt (symbolic_truth i on a y p) ≡ cond (true_at pt on) ((after a s).truth p) (s.truth p)
    truth-down h p = by_adds (is_in p a.adds) refl
      where
        o : Bool
        o = true_at pt on

        by_dels : (d : Bool) → is_in p a.dels ≡ d → true_at pt (cond d (deleted on (lit true (named (behind i p))) (y.truth p)) (y.truth p)) ≡ cond (true_at pt on) (cond d false (s.truth p)) (s.truth p)
        by_dels true e = deleted-down pt on (behind i p) (y.truth p) (rows-of_one (p, false) (changes_of a) h (deleted_among a p e))
            ∙ ap (λ t. not (true_at pt on) && t) (agree p) ∙ and-cond (true_at pt on) (s.truth p)
        by_dels false e = agree p ∙ cond-same (true_at pt on) (s.truth p)

        by_adds : (d : Bool) → is_in p a.adds ≡ d
            → true_at pt (cond d (added on (lit true (named (behind i p))) (y.truth p)) (cond (is_in p a.dels) (deleted on (lit true (named (behind i p))) (y.truth p)) (y.truth p)))
            ≡ cond (true_at pt on) (cond d true (cond (is_in p a.dels) false (s.truth p))) (s.truth p)
        by_adds true e = added-down pt on (behind i p) (y.truth p) (rows-of_one (p, true) (changes_of a) h (added_among a p e))
            ∙ ap (λ t. true_at pt on || t) (agree p) ∙ or-cond (true_at pt on) (s.truth p)
        by_adds false e = by_dels (is_in p a.dels) refl

    -- where the truth variables say so, the rows are met
    pub truth-up : ((p : ℕ) → is_in p a.adds ≡ true → is_in p a.dels ≡ false) → ((p : ℕ) → pt.truth (behind i p) ≡ cond (true_at pt on) ((after a s).truth p) (s.truth p))
        → MeetsAll pt (truth_rows i on y (changes_of a))
    truth-up apart tells = rows-of_all (changes_of a) (λ d m. by_kind d (change_is a d m))
      where
        adds_first : (x d : Bool) (t : Bool) → x ≡ true → cond x true (cond d false t) ≡ true
        adds_first true d t e = refl
        adds_first false d t e = absurd (cc)

        dels_then : (x d : Bool) (t : Bool) → d ≡ true → (x ≡ true → d ≡ false) → cond x true (cond d false t) ≡ false
        dels_then true d t e f = absurd (let g = f refl in cc)
        dels_then false true t e f = refl
        dels_then false false t e f = absurd (cc)

        for_added : (p : ℕ) → is_in p a.adds ≡ true → MeetsAll pt (added_rows on (behind i p) (y.truth p))
        for_added p e = added-up pt on (behind i p) (y.truth p)
            (tells p ∙ ap (λ t. cond (true_at pt on) t (s.truth p)) (adds_first (is_in p a.adds) (is_in p a.dels) (s.truth p) e)
            ∙ sym (or-cond (true_at pt on) (s.truth p)) ∙ sym (ap (λ t. true_at pt on || t) (agree p)))

        for_deleted : (p : ℕ) → is_in p a.dels ≡ true → MeetsAll pt (deleted_rows on (behind i p) (y.truth p))
        for_deleted p e = deleted-up pt on (behind i p) (y.truth p)
            (tells p ∙ ap (λ t. cond (true_at pt on) t (s.truth p)) (dels_then (is_in p a.adds) (is_in p a.dels) (s.truth p) e (apart p))
            ∙ sym (and-cond (true_at pt on) (s.truth p)) ∙ sym (ap (λ t. not (true_at pt on) && t) (agree p)))

        by_kind : (d : ℕ × Bool) → ((d.1 ≡ true) × (is_in d.0 a.adds ≡ true)) ⊎ ((d.1 ≡ false) × (is_in d.0 a.dels ≡ true)) → MeetsAll pt (change_rows i on y d)
        by_kind d (inl e) = subst (λ (b : Bool). MeetsAll pt (cond b (added_rows on (behind i d.0) (y.truth d.0)) (deleted_rows on (behind i d.0) (y.truth d.0)))) (sym e.0) (for_added d.0 e.1)
        by_kind d (inr e) = subst (λ (b : Bool). MeetsAll pt (cond b (added_rows on (behind i d.0) (y.truth d.0)) (deleted_rows on (behind i d.0) (y.truth d.0)))) (sym e.0) (for_deleted d.0 e.1)
