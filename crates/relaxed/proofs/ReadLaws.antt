-- Tests of all functions that an action reads, of its comparisons and of its new values.
use Rattle.std.proofs.Common.{◌≡◌, ℕ, suc, Bool, true, false, cond, ◌&&◌, List, [], ◌∷◌, ◌++◌, drop, ◌+◌, refl, sym, ap, subst, ◌∙◌, Some, nat_eq, arith}
use Rattle.std.specs.List.{All, list_all, flat_map}
use Rattle.std.specs.Prelude.{slice_get}
use Rattle.std.proofs.lemmas.Bool.{and_parts, and_from}
use Rattle.rational.specs.Fraction.{Fraction}
use Rattle.rational.specs.Linear.{Terms}
use Rattle.relaxed.proofs.Dropping.{drop_next}
use Rattle.task_core.specs.declared.action.GAction.{GAction}
use Rattle.task_core.specs.Step.{set_of}
use Rattle.task_core.specs.Task.{numbers, variables, read_by}
use Rattle.lin.specs.Linear.{Linear}
use Rattle.lin.specs.declared.comparison.Cmp.{Cmp}

module _ (test : ℕ → Bool) where
  pub all-left : (xs ys : List ℕ) → list_all test (xs ++ ys) ≡ true → list_all test xs ≡ true
  all-left [] ys h = refl
  all-left (x ∷ xs) ys h = let p = and_parts (test x) _ h in and_from _ _ p.0 (all-left xs ys p.1)

  pub all-right : (xs ys : List ℕ) → list_all test (xs ++ ys) ≡ true → list_all test ys ≡ true
  all-right [] ys h = h
  all-right (x ∷ xs) ys h = all-right xs ys (and_parts (test x) _ h).1

  pub all_from : (xs : List ℕ) → All (λ x. test x ≡ true) xs → list_all test xs ≡ true
  all_from [] h = refl
  all_from (x ∷ xs) h = and_from _ _ (h 0 x (omega arith)) (all_from xs (λ n d l. h (suc n) d (omega arith)))

  pub reads-comparisons : (a : GAction) → list_all test (read_by a) ≡ true → list_all test (flat_map (λ c. variables c.0) a.cmps) ≡ true
  reads-comparisons a h = all-left (flat_map (λ c. variables c.0) a.cmps) _ h

  pub reads-sets : (a : GAction) → list_all test (read_by a) ≡ true → list_all test (flat_map (λ s. variables s.1) a.sets) ≡ true
  reads-sets a h =
      all-left (flat_map (λ s. variables s.1) a.sets) (numbers a.incs)
      (all-right (flat_map (λ c. variables c.0) a.cmps) (flat_map (λ s. variables s.1) a.sets ++ numbers a.incs) h)

  pub reads-incs : (a : GAction) → list_all test (read_by a) ≡ true → list_all test (numbers a.incs) ≡ true
  reads-incs a h =
      all-right (flat_map (λ s. variables s.1) a.sets) (numbers a.incs)
      (all-right (flat_map (λ c. variables c.0) a.cmps) (flat_map (λ s. variables s.1) a.sets ++ numbers a.incs) h)

  -- the expression of a new value
  pub reads-set : (ss : List (ℕ × Linear)) (f : ℕ) (l : Linear) → list_all test (flat_map (λ s. variables s.1) ss) ≡ true → set_of ss f ≡ Some l
      → list_all test (variables l) ≡ true
  reads-set [] f l h e = absurd (cc)
  reads-set (s ∷ more) f l h e = by_test (nat_eq s.0 f) e (reads-set more f l (all-right (variables s.1) _ h))
    where
      by_test : (b : Bool) → cond b (Some s.1) (set_of more f) ≡ Some l → (set_of more f ≡ Some l → list_all test (variables l) ≡ true) → list_all test (variables l) ≡ true
      by_test true g ih = let q : s.1 ≡ l = cc in subst (λ (m : Linear). list_all test (variables m) ≡ true) q (all-left (variables s.1) _ h)
      by_test false g ih = ih g

pub all-more : (P Q : ℕ → Bool) → ((f : ℕ) → P f ≡ true → Q f ≡ true) → (xs : List ℕ) → list_all P xs ≡ true → list_all Q xs ≡ true
all-more P Q h [] e = refl
all-more P Q h (x ∷ xs) e = let p = and_parts (P x) _ e in and_from _ _ (h x p.0) (all-more P Q h xs p.1)

-- ---- the same tests part by part

and-assoc : (x y z : Bool) → (x && (y && z)) ≡ ((x && y) && z)
and-assoc true y z = refl
and-assoc false y z = refl

module _ (test : ℕ → Bool) where
  pub all-append : (xs ys : List ℕ) → list_all test (xs ++ ys) ≡ (list_all test xs && list_all test ys)
  all-append [] ys = refl
  all-append (x ∷ xs) ys = ap (λ b. test x && b) (all-append xs ys) ∙ and-assoc (test x) (list_all test xs) (list_all test ys)

  all-comparisons : (cs : List (Linear × Cmp)) → list_all test (flat_map (λ c. variables c.0) cs) ≡ list_all (λ c. list_all test (variables c.0)) cs
  all-comparisons [] = refl
  all-comparisons (c ∷ cs) = all-append (variables c.0) (flat_map (λ c. variables c.0) cs) ∙ ap (λ b. list_all test (variables c.0) && b) (all-comparisons cs)

  all-sets : (ss : List (ℕ × Linear)) → list_all test (flat_map (λ s. variables s.1) ss) ≡ list_all (λ s. list_all test (variables s.1)) ss
  all-sets [] = refl
  all-sets (s ∷ ss) = all-append (variables s.1) (flat_map (λ s. variables s.1) ss) ∙ ap (λ b. list_all test (variables s.1) && b) (all-sets ss)

  all-numbers : (is : Terms) → list_all test (numbers is) ≡ list_all (λ i. test i.0) is
  all-numbers [] = refl
  all-numbers (i ∷ is) = ap (λ b. test i.0 && b) (all-numbers is)

  pub changes-read : (a : GAction) → list_all test (flat_map (λ s. variables s.1) a.sets ++ numbers a.incs)
      ≡ (list_all (λ s. list_all test (variables s.1)) a.sets && list_all (λ i. test i.0) a.incs)
  changes-read a =
      all-append (flat_map (λ s. variables s.1) a.sets) (numbers a.incs)
      ∙ ap (λ b. b && list_all test (numbers a.incs)) (all-sets a.sets)
      ∙ ap (λ b. list_all (λ s. list_all test (variables s.1)) a.sets && b) (all-numbers a.incs)

  pub all-read : (a : GAction) → list_all test (read_by a)
      ≡ (list_all (λ c. list_all test (variables c.0)) a.cmps && list_all test (flat_map (λ s. variables s.1) a.sets ++ numbers a.incs))
  all-read a =
      all-append (flat_map (λ c. variables c.0) a.cmps) (flat_map (λ s. variables s.1) a.sets ++ numbers a.incs)
      ∙ ap (λ b. b && list_all test (flat_map (λ s. variables s.1) a.sets ++ numbers a.incs)) (all-comparisons a.cmps)

  -- a variable that fails decides, one that passes doesn't
  pub all-stops : (ts : Terms) (i : ℕ) (t : ℕ × Fraction) → slice_get ts i ≡ Some t → test t.0 ≡ false → list_all test (numbers (drop i ts)) ≡ false
  all-stops ts i t e f = ap (λ (us : Terms). list_all test (numbers us)) (drop_next ts i t e) ∙ ap (λ b. b && list_all test (numbers (drop (i + 1) ts))) f

  pub all-goes : (ts : Terms) (i : ℕ) (t : ℕ × Fraction) → slice_get ts i ≡ Some t → test t.0 ≡ true
      → list_all test (numbers (drop (i + 1) ts)) ≡ list_all test (numbers (drop i ts))
  all-goes ts i t e f =
      sym (ap (λ b. b && list_all test (numbers (drop (i + 1) ts))) f) ∙ sym (ap (λ (us : Terms). list_all test (numbers us)) (drop_next ts i t e))

pub and_with : (x y z b d : Bool) → z ≡ (x && y) → b ≡ x → b ≡ true → d ≡ y → d ≡ z
and_with x y z b d e f t g = g ∙ sym (e ∙ ap (λ w. w && y) (sym f ∙ t))

pub and_without : (x y z b : Bool) → z ≡ (x && y) → b ≡ x → b ≡ false → z ≡ false
and_without x y z b e f t = e ∙ ap (λ w. w && y) (sym f ∙ t)
