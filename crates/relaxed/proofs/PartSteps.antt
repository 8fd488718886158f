-- What is answered part by part.
use Rattle.std.proofs.Common.{◌≡◌, ℕ, suc, ◌+◌, Bool, true, false, not, cond, ◌&&◌, ◌≤◌, length, Option, None, List, [], ◌∷◌, ◌++◌, map, drop, refl, sym, ap, subst, ◌∙◌, inl, inr, Some, Result, Ok, Err, arith}
use Rattle.std.specs.Prelude.{slice_get}
use Rattle.std.specs.List.{list_all}
use Rattle.rational.specs.Linear.{Terms}
use Rattle.frac128.specs.declared.operations.Wide.{Wide}
use Rattle.task_core.specs.Step.{is_empty}
use Rattle.lin.specs.Linear.{Linear}
use Rattle.lin.specs.declared.comparison.Cmp.{Cmp}
use Rattle.relaxed.specs.declared.interval.Interval.{Interval}
use Rattle.relaxed.specs.declared.range.Side.TheVariants.{Least, Greatest}
use Rattle.relaxed.specs.Range.{range_operations}
use Rattle.relaxed.specs.Layers.{Layer, is_there, box, comparison_may_hold}
use Rattle.relaxed.specs.Named.{Passing, comparison_operations, set_operations, of_comparisons, of_sets, AllPartsFit, IsOnePassing}
use Rattle.relaxed.specs.inside.Ranging.{AllFit, IsFirstPassing}
use Rattle.relaxed.specs.declared.failure.RangePart.TheVariants.{Cond, Set}
use Rattle.relaxed.specs.declared.failure.RangePart.{RangePart}
use Rattle.relaxed.specs.declared.failure.LayerFail.{LayerFail}
use Rattle.relaxed.specs.declared.failure.LayerFail.TheVariants.{RangeWide, Memory}
use Rattle.relaxed.specs.inside.Answering.{FailsIn, AnswersParts}
use Rattle.relaxed.proofs.Dropping.{drop_next, drop_none}

pub part_fits : (p : RangePart) (ops : List Wide) → AllFit ops → AllPartsFit (map (λ o. (p, o)) ops)
part_fits p [] h = tt
part_fits p (o ∷ ops) h = (h.0, part_fits p ops h.1)

pub part_passes : (p : RangePart) (ops : List Wide) (w : Wide) → IsFirstPassing ops w → IsOnePassing (map (λ o. (p, o)) ops) p w
part_passes p [] w h = absurd h
part_passes p (o ∷ ops) w (inl h) = inl (ap (λ (u : Wide). (p, u)) h.0, subst Passing h.0 h.1)
part_passes p (o ∷ ops) w (inr h) = inr (part_passes p ops w h.1)

pub parts_fit_then : (xs ys : List (RangePart × Wide)) → AllPartsFit xs → AllPartsFit ys → AllPartsFit (xs ++ ys)
parts_fit_then [] ys h j = j
parts_fit_then (x ∷ xs) ys h j = (h.0, parts_fit_then xs ys h.1 j)

pub one_left : (xs ys : List (RangePart × Wide)) (p : RangePart) (w : Wide) → IsOnePassing xs p w → IsOnePassing (xs ++ ys) p w
one_left [] ys p w h = absurd h
one_left (x ∷ xs) ys p w (inl h) = inl h
one_left (x ∷ xs) ys p w (inr h) = inr (one_left xs ys p w h)

pub one_right : (xs ys : List (RangePart × Wide)) (p : RangePart) (w : Wide) → IsOnePassing ys p w → IsOnePassing (xs ++ ys) p w
one_right [] ys p w h = h
one_right (x ∷ xs) ys p w h = inr (one_right xs ys p w h)

pub fails_left : (n a : ℕ) (xs ys : List (RangePart × Wide)) (e : LayerFail) → FailsIn n a xs e → FailsIn n a (xs ++ ys) e
fails_left n a xs ys (RangeWide w) h = (h.0, h.1, one_left xs ys w.part w.wide h.2)
fails_left n a xs ys Memory h = tt

pub fails_right : (n a : ℕ) (xs ys : List (RangePart × Wide)) (e : LayerFail) → FailsIn n a ys e → FailsIn n a (xs ++ ys) e
fails_right n a xs ys (RangeWide w) h = (h.0, h.1, one_right xs ys w.part w.wide h.2)
fails_right n a xs ys Memory h = tt

pub parts_then : {X : Type 0} (n a : ℕ) (xs ys : List (RangePart × Wide)) (v : X) (r : Result X LayerFail) → AllPartsFit xs → AnswersParts n a ys v r → AnswersParts n a (xs ++ ys) v r
parts_then n a xs ys v (Ok r) h j = (parts_fit_then xs ys h j.0, j.1)
parts_then n a xs ys v (Err e) h j = fails_right n a xs ys e j

-- ---- comparisons one after the other

and-assoc : (x y z : Bool) → ((x && y) && z) ≡ (x && (y && z))
and-assoc true y z = refl
and-assoc false y z = refl

module _ (y : Layer) (n a : ℕ) where
  -- the tests so far, and the comparisons that are left
  abbrev pub Left : ℕ → Bool → List (Linear × Cmp) → Result Bool LayerFail → Type 0
  Left i so_far cs r = AnswersParts n a (of_comparisons y i cs) (so_far && list_all (comparison_may_hold y) cs) r

  pub comparison-next : (cs : List (Linear × Cmp)) (i : ℕ) (c : Linear × Cmp) (so_far may : Bool) → slice_get cs i ≡ Some c
      → AllPartsFit (map (λ o. (Cond i, o)) (comparison_operations y c.0 c.1)) → may ≡ comparison_may_hold y c
      → (r : Result Bool LayerFail) → Left (i + 1) (so_far && may) (drop (i + 1) cs) r → Left i so_far (drop i cs) r
  comparison-next cs i c so_far may e fit same r h =
      subst (λ (us : List (Linear × Cmp)). Left i so_far us r) (sym (drop_next cs i c e))
      (subst (λ (b : Bool). AnswersParts n a (of_comparisons y i (c ∷ drop (i + 1) cs)) b r) value
      (parts_then n a (map (λ o. (Cond i, o)) (comparison_operations y c.0 c.1)) (of_comparisons y (suc i) (drop (i + 1) cs)) _ r fit at_next))
    where
      value : ((so_far && may) && list_all (comparison_may_hold y) (drop (i + 1) cs)) ≡ (so_far && list_all (comparison_may_hold y) (c ∷ drop (i + 1) cs))
      value = and-assoc so_far may _ ∙ ap (λ b. so_far && (b && list_all (comparison_may_hold y) (drop (i + 1) cs))) same

      at_next : AnswersParts n a (of_comparisons y (suc i) (drop (i + 1) cs)) ((so_far && may) && list_all (comparison_may_hold y) (drop (i + 1) cs)) r
      at_next =
          let step : i + 1 ≡ suc i = omega arith in
          subst (λ (j : ℕ). AnswersParts n a (of_comparisons y j (drop (i + 1) cs)) ((so_far && may) && list_all (comparison_may_hold y) (drop (i + 1) cs)) r) step h

  pub comparison-fails : (cs : List (Linear × Cmp)) (i : ℕ) (c : Linear × Cmp) (so_far : Bool) (e : LayerFail) → slice_get cs i ≡ Some c
      → FailsIn n a (map (λ o. (Cond i, o)) (comparison_operations y c.0 c.1)) e → Left i so_far (drop i cs) (Err e)
  comparison-fails cs i c so_far e s h =
      subst (λ (us : List (Linear × Cmp)). Left i so_far us (Err e)) (sym (drop_next cs i c s))
      (fails_left n a (map (λ o. (Cond i, o)) (comparison_operations y c.0 c.1)) (of_comparisons y (suc i) (drop (i + 1) cs)) e h)

  and-true : (b : Bool) → b ≡ (b && true)
  and-true true = refl
  and-true false = refl

  pub comparison-ends : (cs : List (Linear × Cmp)) (i : ℕ) (so_far : Bool) → length cs ≤ i → Left i so_far (drop i cs) (Ok so_far)
  comparison-ends cs i so_far h = subst (λ (us : List (Linear × Cmp)). Left i so_far us (Ok so_far)) (sym (drop_none cs i h)) (tt, and-true so_far)

-- ---- a new value

nonempty : (ts : Terms) → (length ts ≡ 0 → ⊥) → is_empty ts ≡ false
nonempty [] h = absurd (h refl)
nonempty (t ∷ ts) h = refl

pub set_operations-at : (y : Layer) (f : ℕ) (l : Linear) (old : Interval) → (length l.terms ≡ 0 → ⊥) → Some old ≡ y.interval f
    → set_operations y f l ≡ range_operations Least (box y) l ++ range_operations Greatest (box y) l
set_operations-at y f l old h e = by_tests (is_empty l.terms) (nonempty l.terms h) (y.interval f) e
  where
    by_tests : (b : Bool) → b ≡ false → (o : Option Interval) → Some old ≡ o
        → cond (not b && is_there o) (range_operations Least (box y) l ++ range_operations Greatest (box y) l) [] ≡ range_operations Least (box y) l ++ range_operations Greatest (box y) l
    by_tests true b o e = absurd (cc)
    by_tests false b None e = absurd (cc)
    by_tests false b (Some i) e = refl

-- ---- new values one after the other

module _ (y : Layer) (n a : ℕ) where
  -- the new values that are left
  abbrev pub SetsLeft : ℕ → List (ℕ × Linear) → Result (Unit {0}) LayerFail → Type 0
  SetsLeft i ss r = AnswersParts n a (of_sets y i ss) tt r

  pub set-next : (ss : List (ℕ × Linear)) (i : ℕ) (s : ℕ × Linear) → slice_get ss i ≡ Some s → AllPartsFit (map (λ o. (Set i, o)) (set_operations y s.0 s.1))
      → (r : Result (Unit {0}) LayerFail) → SetsLeft (i + 1) (drop (i + 1) ss) r → SetsLeft i (drop i ss) r
  set-next ss i s e fit r h =
      let step : i + 1 ≡ suc i = omega arith in
      subst (λ (us : List (ℕ × Linear)). SetsLeft i us r) (sym (drop_next ss i s e))
      (parts_then n a (map (λ o. (Set i, o)) (set_operations y s.0 s.1)) (of_sets y (suc i) (drop (i + 1) ss)) _ r fit
      (subst (λ (j : ℕ). AnswersParts n a (of_sets y j (drop (i + 1) ss)) tt r) step h))

  pub set-fails : (ss : List (ℕ × Linear)) (i : ℕ) (s : ℕ × Linear) (e : LayerFail) → slice_get ss i ≡ Some s
      → FailsIn n a (map (λ o. (Set i, o)) (set_operations y s.0 s.1)) e → SetsLeft i (drop i ss) (Err e)
  set-fails ss i s e g h =
      subst (λ (us : List (ℕ × Linear)). SetsLeft i us (Err e)) (sym (drop_next ss i s g))
      (fails_left n a (map (λ o. (Set i, o)) (set_operations y s.0 s.1)) (of_sets y (suc i) (drop (i + 1) ss)) e h)

  pub set-ends : (ss : List (ℕ × Linear)) (i : ℕ) → length ss ≤ i → SetsLeft i (drop i ss) (Ok tt)
  set-ends ss i h = subst (λ (us : List (ℕ × Linear)). SetsLeft i us (Ok tt)) (sym (drop_none ss i h)) (tt, refl)
