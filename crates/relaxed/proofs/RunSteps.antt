-- From one layer to the next, and the end.
use Rattle.task_core.specs.declared.action.GAction.{GAction}
use Rattle.task_core.specs.Task.{GroundParts, action_at, IsGroundTask, IsOrderly}
use Rattle.relaxed.specs.Layers.{Layer, is_supported, next_layer, layer, EndsAt}
use Rattle.relaxed.specs.Supported.{is_seen, IsFirst}
use Rattle.relaxed.specs.Named.{operations_of, AllPartsFit, IsOnePassing, tested_operations, given_operations}
use Rattle.relaxed.specs.inside.Kept.{layer_of}
use Rattle.relaxed.specs.declared.table.Table.{Table}
use Rattle.relaxed.specs.declared.failure.RangePart.{RangePart}
use Rattle.relaxed.specs.declared.failure.LayerFail.{LayerFail}
use Rattle.relaxed.specs.declared.failure.LayerFail.TheVariants.{RangeWide, Memory}
use Rattle.relaxed.specs.Answer.{AreFirst, EachFits, IsPassing}
use Rattle.relaxed.specs.inside.Nexting.{AreSupported, WidensByAll, FailsAmong}
use Rattle.relaxed.specs.inside.Testing.{flag_in, first_in, first_after, TestsAll, TestsFit, TestFails}
use Rattle.relaxed.specs.inside.Starting.{IsStart}
use Rattle.relaxed.specs.inside.Running.{IsFirstBelow, IsAt}
use Rattle.std.proofs.Common.{◌≡◌, ℕ, suc, ◌+◌, ◌-◌, ◌<◌, ◌≤◌, Bool, true, false, not, ◌||◌, ◌&&◌, List, [], ◌∷◌, ◌++◌, length, refl, sym, ap, subst, ◌∙◌, ◌⊎◌, inl, inr, Option, Some, None, arith}
use Rattle.std.specs.List.{All}
use Rattle.std.proofs.lemmas.Bool.{cases_lt}
use Rattle.frac128.specs.declared.operations.Wide.{Wide}
use Rattle.relaxed.proofs.FirstLaws.{seen-supported, after-end, supported-at_end}
use Rattle.relaxed.proofs.PartSteps.{parts_fit_then, one_left, one_right}
use Rattle.relaxed.proofs.LayerSteps.{start-sized, start-is, next-sized, next-is}

module _ (task : GroundParts) (promised : IsGroundTask task) where
  -- ---- the start
  pub start-at : (t : Table) (flags : List Bool) (first : List (Option ℕ)) → IsStart task t → length flags ≡ length task.actions → length first ≡ length task.actions
      → ((i : ℕ) → i < length task.actions → flag_in flags i ≡ false) → ((i : ℕ) → i < length task.actions → first_in first i ≡ None) → IsAt task 0 t flags first
  start-at t flags first h fs ls fe le = record {
    sized = start-sized task promised t h;
    layer_is = start-is task promised t h;
    flag_size = fs;
    first_size = ls;
    flag_each = fe;
    first_each = λ i l. subst (IsFirstBelow task 0 (action_at task i)) (sym (le i l)) refl;
    fits = λ m i l k. absurd (omega arith);
  }

  pub orderly : All IsOrderly task.actions
  orderly n d l = (promised.actions n d l).orderly

  module _ (n : ℕ) (t : Table) (flags : List Bool) (first : List (Option ℕ)) (here : IsAt task n t flags first)
      (flags1 : List Bool) (first1 : List (Option ℕ)) (tests : TestsAll (layer_of t) n task.actions flags flags1 first first1) where
    seen-next : (i : ℕ) → i < length task.actions → flag_in flags1 i ≡ is_seen task (suc n) (action_at task i)
    seen-next i l =
        tests.flag_each i l ∙ ap (λ b. b || is_supported (layer_of t) (action_at task i)) (here.flag_each i l)
        ∙ ap (λ (y : Layer). is_seen task n (action_at task i) || is_supported y (action_at task i)) here.layer_is

    pub flags-are : AreSupported (layer_of t) task.actions flags1
    flags-are = record {
      size = tests.flag_size ∙ here.flag_size;
      each = λ i l. seen-next i l ∙ seen-supported task n (action_at task i) ∙ ap (λ (y : Layer). is_supported y (action_at task i)) (sym here.layer_is);
    }

    first-next : (i : ℕ) → i < length task.actions → IsFirstBelow task (suc n) (action_at task i) (first_in first1 i)
    first-next i l =
        subst (IsFirstBelow task (suc n) (action_at task i)) (sym made)
        (by_tests (is_seen task n (action_at task i)) (is_supported (layer task n) (action_at task i)) refl refl (first_in first i) (here.first_each i l))
      where
        made : first_in first1 i ≡ first_after (is_seen task n (action_at task i)) (is_supported (layer task n) (action_at task i)) n (first_in first i)
        made =
            tests.first_each i l ∙ ap (λ b. first_after b (is_supported (layer_of t) (action_at task i)) n (first_in first i)) (here.flag_each i l)
            ∙ ap (λ (y : Layer). first_after (is_seen task n (action_at task i)) (is_supported y (action_at task i)) n (first_in first i)) here.layer_is

        by_tests : (s b : Bool) → is_seen task n (action_at task i) ≡ s → is_supported (layer task n) (action_at task i) ≡ b → (o : Option ℕ)
            → IsFirstBelow task n (action_at task i) o → IsFirstBelow task (suc n) (action_at task i) (first_after s b n o)
        by_tests true b s e (Some m) h = h
        by_tests true b s e None h = absurd (cc)
        by_tests false true s e o h =
            ap (λ w. not w && is_supported (layer task n) (action_at task i)) s ∙ e
        by_tests false false s e (Some m) h = h
        by_tests false false s e None h = ap (λ w. w || is_supported (layer task n) (action_at task i)) s ∙ e

    fits-here : TestsFit (layer_of t) task.actions flags → ((i : ℕ) → i < length task.actions → AllPartsFit (given_operations (layer_of t) (action_at task i)))
        → (i : ℕ) → i < length task.actions → AllPartsFit (operations_of task n (action_at task i))
    fits-here f g i l =
        parts_fit_then (tested_operations (is_seen task n (action_at task i)) (layer task n) (action_at task i)) (given_operations (layer task n) (action_at task i))
        (subst (λ (b : Bool). AllPartsFit (tested_operations b (layer task n) (action_at task i))) (here.flag_each i l)
        (subst (λ (y : Layer). AllPartsFit (tested_operations (flag_in flags i) y (action_at task i))) here.layer_is (f i l)))
        (subst (λ (y : Layer). AllPartsFit (given_operations y (action_at task i))) here.layer_is (g i l))

    pub next-at : TestsFit (layer_of t) task.actions flags → ((i : ℕ) → i < length task.actions → AllPartsFit (given_operations (layer_of t) (action_at task i)))
        → (u : Table) → WidensByAll (layer_of t) task.actions t u → IsAt task (suc n) u flags1 first1
    next-at f g u w = record {
      sized = next-sized task promised t u here.sized w.sizes;
      layer_is = next-is task promised t u here.sized w ∙ ap (next_layer task) here.layer_is;
      flag_size = tests.flag_size ∙ here.flag_size;
      first_size = tests.first_size ∙ here.first_size;
      flag_each = seen-next;
      first_each = first-next;
      fits = λ m i l k. by_place m i k (cases_lt m n) l;
    }
      where
        by_place : (m i : ℕ) → i < length task.actions → (m < n) ⊎ (n ≤ m) → m < suc n → AllPartsFit (operations_of task m (action_at task i))
        by_place m i k (inl l) j = here.fits m i l k
        by_place m i k (inr l) j = let same : n ≡ m = omega arith in subst (λ (p : ℕ). AllPartsFit (operations_of task p (action_at task i))) same (fits-here f g i k)

    pub same-ends : (u : Table) → WidensByAll (layer_of t) task.actions t u → t ≡ u → EndsAt task n
    same-ends u w e =
        ap (next_layer task) (sym here.layer_is) ∙ sym (next-is task promised t u here.sized w) ∙ sym (ap layer_of e) ∙ here.layer_is

  -- ---- an operation that passes
  pub test-passes : (n : ℕ) (t : Table) (flags : List Bool) (first : List (Option ℕ)) (e : LayerFail) → IsAt task n t flags first
      → TestFails n (layer_of t) task.actions flags e → IsPassing task e
  test-passes n t flags first Memory here h = tt
  test-passes n t flags first (RangeWide w) here h = (
    h.1,
    subst (λ (m : ℕ). IsOnePassing (operations_of task m (action_at task w.action)) w.part w.wide) (sym h.0)
        (one_left (tested_operations (is_seen task n (action_at task w.action)) (layer task n) (action_at task w.action)) (given_operations (layer task n) (action_at task w.action)) w.part w.wide
        (subst (λ (b : Bool). IsOnePassing (tested_operations b (layer task n) (action_at task w.action)) w.part w.wide) (here.flag_each w.action h.1)
        (subst (λ (y : Layer). IsOnePassing (tested_operations (flag_in flags w.action) y (action_at task w.action)) w.part w.wide) here.layer_is h.2))),
  )

  pub given-passes : (n : ℕ) (t : Table) (flags : List Bool) (first : List (Option ℕ)) (e : LayerFail) → IsAt task n t flags first
      → FailsAmong n (given_operations (layer_of t)) task.actions e → IsPassing task e
  given-passes n t flags first Memory here h = tt
  given-passes n t flags first (RangeWide w) here h = (
    h.1,
    subst (λ (m : ℕ). IsOnePassing (operations_of task m (action_at task w.action)) w.part w.wide) (sym h.0)
        (one_right (tested_operations (is_seen task n (action_at task w.action)) (layer task n) (action_at task w.action)) (given_operations (layer task n) (action_at task w.action)) w.part w.wide
        (subst (λ (y : Layer). IsOnePassing (given_operations y (action_at task w.action)) w.part w.wide) here.layer_is h.2)),
  )

  -- ---- the end
  fits_left : (xs ys : List (RangePart × Wide)) → AllPartsFit (xs ++ ys) → AllPartsFit xs
  fits_left [] ys h = tt
  fits_left (x ∷ xs) ys h = (h.0, fits_left xs ys h.1)

  fits_right : (xs ys : List (RangePart × Wide)) → AllPartsFit (xs ++ ys) → AllPartsFit ys
  fits_right [] ys h = h
  fits_right (x ∷ xs) ys h = fits_right xs ys h.1

  -- what isn't tested again has no operations
  tested_again : (y : Layer) (a : GAction) (seen supported : Bool) → AllPartsFit (tested_operations seen y a) → AllPartsFit (tested_operations (seen || supported) y a)
  tested_again y a true supported h = h
  tested_again y a false true h = tt
  tested_again y a false false h = h

  module _ (e : ℕ) (ends : EndsAt task e) (t : Table) (flags : List Bool) (first : List (Option ℕ)) (here : IsAt task (suc e) t flags first) where
    never : (a : GAction) → is_seen task (suc e) a ≡ false → (n : ℕ) → is_supported (layer task n) a ≡ false
    never a h n = by_test (is_supported (layer task n) a) refl
      where
        by_test : (b : Bool) → is_supported (layer task n) a ≡ b → b ≡ false
        by_test true s = let last = supported-at_end task e ends a n s in let seen = seen-supported task e a in absurd (cc)
        by_test false s = refl

    pub all-first : AreFirst task first
    all-first = record {
      size = here.first_size;
      each = λ i l. by_first (action_at task i) (first_in first i) (here.first_each i l);
    }
      where
        by_first : (a : GAction) (o : Option ℕ) → IsFirstBelow task (suc e) a o → IsFirst task a o
        by_first a (Some m) h = h
        by_first a None h = never a h

    pub all-fit : EachFits task
    all-fit n i l = by_place (cases_lt n (suc e))
      where
        at_end : AllPartsFit (operations_of task e (action_at task i))
        at_end = here.fits e i (omega arith) l

        later : (d : ℕ) → AllPartsFit (operations_of task (suc (d + e)) (action_at task i))
        later d =
            let a = action_at task i in
            let y = layer task e in
            let same : layer task (suc (d + e)) ≡ y = ap (next_layer task) (after-end task e ends d) ∙ ends in
            let seen : (is_seen task e a || is_supported y a) ≡ is_seen task (suc (d + e)) a =
            seen-supported task e a ∙ ap (λ (z : Layer). is_supported z a) (sym (after-end task e ends d)) ∙ sym (seen-supported task (d + e) a) in
            let tested : AllPartsFit (tested_operations (is_seen task e a) y a) = fits_left (tested_operations (is_seen task e a) y a) (given_operations y a) at_end in
            let given : AllPartsFit (given_operations y a) = fits_right (tested_operations (is_seen task e a) y a) (given_operations y a) at_end in
            parts_fit_then (tested_operations (is_seen task (suc (d + e)) a) (layer task (suc (d + e))) a) (given_operations (layer task (suc (d + e))) a)
            (subst (λ (z : Layer). AllPartsFit (tested_operations (is_seen task (suc (d + e)) a) z a)) (sym same)
            (subst (λ (b : Bool). AllPartsFit (tested_operations b y a)) seen (tested_again y a (is_seen task e a) (is_supported y a) tested)))
            (subst (λ (z : Layer). AllPartsFit (given_operations z a)) (sym same) given)

        by_place : (n < suc e) ⊎ (suc e ≤ n) → AllPartsFit (operations_of task n (action_at task i))
        by_place (inl k) = here.fits n i k l
        by_place (inr k) =
            let same : suc ((n - suc e) + e) ≡ n = omega arith in
            subst (λ (m : ℕ). AllPartsFit (operations_of task m (action_at task i))) same (later (n - suc e))
