-- Testing the actions of a layer one after the other.
use Rattle.std.proofs.Common.{◌≡◌, ℕ, ◌+◌, ◌<◌, ◌≤◌, Bool, true, false, cond, ◌||◌, List, length, refl, sym, ap, subst, ◌∙◌, nat_eq, Option, None, slice_index_or, slice_set, arith}
use Rattle.std.proofs.lemmas.Bool.{eqb-true, eqb-false}
use Rattle.frac128.specs.declared.operations.Wide.{Wide}
use Rattle.task_core.specs.declared.action.GAction.{GAction}
use Rattle.relaxed.specs.Layers.{Layer}
use Rattle.relaxed.specs.declared.failure.RangePart.{RangePart}
use Rattle.relaxed.specs.declared.failure.LayerFail.{LayerFail}
use Rattle.relaxed.specs.declared.failure.LayerFail.TheVariants.{RangeWide, Memory}
use Rattle.relaxed.specs.inside.Answering.{FailsIn}
use Rattle.relaxed.specs.Named.{AllPartsFit, IsOnePassing, tested_operations}
use Rattle.relaxed.specs.inside.Nexting.{action_in}
use Rattle.relaxed.specs.inside.Testing.{flag_in, first_in, first_after, TestFails}
use Rattle.relaxed.proofs.WidenSteps.{set_reads}

or_same : (f v : Bool) → (f || (f || v)) ≡ (f || v)
or_same true v = refl
or_same false v = refl

first_same : (f v : Bool) (n : ℕ) (o : Option ℕ) → first_after f (f || v) n o ≡ first_after f v n o
first_same true v n o = refl
first_same false v n o = refl

module _ (old flags new : List Bool) (i : ℕ) (s : Bool) (value : ℕ → Bool) (room : i < length flags)
    (made : new ≡ slice_set flags i (slice_index_or flags i false || s)) (told : s ≡ (flag_in old i || value i))
    (left : (n : ℕ) → i ≤ n → flag_in flags n ≡ flag_in old n) where
  reads : (n : ℕ) → flag_in new n ≡ cond (nat_eq i n) (flag_in flags i || s) (flag_in flags n)
  reads n = ap (λ (fs : List Bool). slice_index_or fs n false) made ∙ set_reads flags i n (slice_index_or flags i false || s) false room

  here : (flag_in flags i || s) ≡ (flag_in old i || value i)
  here = ap (λ b. b || s) (left i (omega arith)) ∙ ap (λ b. flag_in old i || b) told ∙ or_same (flag_in old i) (value i)

  pub flag-next : ((n : ℕ) → n < i → flag_in flags n ≡ (flag_in old n || value n)) → (n : ℕ) → n < i + 1 → flag_in new n ≡ (flag_in old n || value n)
  flag-next before n l = by_place (nat_eq i n) refl (reads n)
    where
      by_place : (b : Bool) → nat_eq i n ≡ b → flag_in new n ≡ cond b (flag_in flags i || s) (flag_in flags n) → flag_in new n ≡ (flag_in old n || value n)
      by_place true e r = r ∙ here ∙ ap (λ (m : ℕ). flag_in old m || value m) (eqb-true i n e)
      by_place false e r = let apart = eqb-false i n e in r ∙ before n (omega arith)

  pub flag-left : (n : ℕ) → i + 1 ≤ n → flag_in new n ≡ flag_in old n
  flag-left n l = by_place (nat_eq i n) refl (reads n)
    where
      by_place : (b : Bool) → nat_eq i n ≡ b → flag_in new n ≡ cond b (flag_in flags i || s) (flag_in flags n) → flag_in new n ≡ flag_in old n
      by_place true e r = absurd (let same = eqb-true i n e in omega arith)
      by_place false e r = r ∙ left n (omega arith)

module _ (old flags : List Bool) (first0 first new : List (Option ℕ)) (i layer : ℕ) (s : Bool) (value : ℕ → Bool) (room : i < length first)
    (made : new ≡ slice_set first i (first_after (slice_index_or flags i false) s layer (slice_index_or first i None))) (told : s ≡ (flag_in old i || value i))
    (flag : flag_in flags i ≡ flag_in old i) (left : (n : ℕ) → i ≤ n → first_in first n ≡ first_in first0 n) where
  reads-first : (n : ℕ) → first_in new n ≡ cond (nat_eq i n) (first_after (flag_in flags i) s layer (first_in first i)) (first_in first n)
  reads-first n = ap (λ (fs : List (Option ℕ)). slice_index_or fs n None) made ∙ set_reads first i n (first_after (flag_in flags i) s layer (first_in first i)) None room

  first-here : first_after (flag_in flags i) s layer (first_in first i) ≡ first_after (flag_in old i) (value i) layer (first_in first0 i)
  first-here =
      ap (λ b. first_after b s layer (first_in first i)) flag ∙ ap (λ (o : Option ℕ). first_after (flag_in old i) s layer o) (left i (omega arith))
      ∙ ap (λ b. first_after (flag_in old i) b layer (first_in first0 i)) told ∙ first_same (flag_in old i) (value i) layer (first_in first0 i)

  pub first-next : ((n : ℕ) → n < i → first_in first n ≡ first_after (flag_in old n) (value n) layer (first_in first0 n))
      → (n : ℕ) → n < i + 1 → first_in new n ≡ first_after (flag_in old n) (value n) layer (first_in first0 n)
  first-next before n l = by_place (nat_eq i n) refl (reads-first n)
    where
      by_place : (b : Bool) → nat_eq i n ≡ b → first_in new n ≡ cond b (first_after (flag_in flags i) s layer (first_in first i)) (first_in first n)
          → first_in new n ≡ first_after (flag_in old n) (value n) layer (first_in first0 n)
      by_place true e r = r ∙ first-here ∙ ap (λ (m : ℕ). first_after (flag_in old m) (value m) layer (first_in first0 m)) (eqb-true i n e)
      by_place false e r = let apart = eqb-false i n e in r ∙ before n (omega arith)

  pub first-left : (n : ℕ) → i + 1 ≤ n → first_in new n ≡ first_in first0 n
  first-left n l = by_place (nat_eq i n) refl (reads-first n)
    where
      by_place : (b : Bool) → nat_eq i n ≡ b → first_in new n ≡ cond b (first_after (flag_in flags i) s layer (first_in first i)) (first_in first n) → first_in new n ≡ first_in first0 n
      by_place true e r = absurd (let same = eqb-true i n e in omega arith)
      by_place false e r = r ∙ left n (omega arith)

pub test-fails : (n : ℕ) (y : Layer) (actions : List GAction) (flags : List Bool) (i : ℕ) (a : GAction) (seen : Bool) (e : LayerFail) → i < length actions
    → seen ≡ flag_in flags i → a ≡ action_in actions i → FailsIn n i (tested_operations seen y a) e → TestFails n y actions flags e
test-fails n y actions flags i a seen (RangeWide w) l s e h =
    let at : ℕ → Type 0 = λ j. (j < length actions) × IsOnePassing (tested_operations (flag_in flags j) y (action_in actions j)) w.part w.wide in
    let same : tested_operations seen y a ≡ tested_operations (flag_in flags i) y (action_in actions i) =
    ap (λ b. tested_operations b y a) s ∙ ap (λ (x : GAction). tested_operations (flag_in flags i) y x) e in
    let there = subst at (sym h.1) (l, subst (λ (ops : List (RangePart × Wide)). IsOnePassing ops w.part w.wide) same h.2) in
    (h.0, there.0, there.1)
test-fails n y actions flags i a seen Memory l s e h = tt

pub tests_fit : (y : Layer) (flags : List Bool) (i : ℕ) (a b : GAction) (seen : Bool) → seen ≡ flag_in flags i → a ≡ b
    → AllPartsFit (tested_operations seen y a) → AllPartsFit (tested_operations (flag_in flags i) y b)
tests_fit y flags i a b seen s e h =
    subst (λ (x : GAction). AllPartsFit (tested_operations (flag_in flags i) y x)) e (subst (λ (v : Bool). AllPartsFit (tested_operations v y a)) s h)
