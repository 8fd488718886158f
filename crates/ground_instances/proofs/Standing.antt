-- The objects that a static literal can have at a place stand there in facts.
use Rattle.std.proofs.Common.{◌≡◌, ℕ, zero, suc, ◌+◌, ◌<◌, ◌≤◌, Bool, true, false, not, ◌&&◌, ◌||◌, ◌==◌, nat_lt, List, [], ◌∷◌, ◌++◌, length, take, drop, Some, slice_get, refl, sym, ap, subst, ◌∙◌, add-one, arith}
use Rattle.std.specs.Prelude.{bytes_eq}
use Rattle.std.proofs.lemmas.Bool.Decides.{nat_tests}
use Rattle.std.proofs.lemmas.Option.{get_or_from_slice_get}
use Rattle.std.proofs.lemmas.List.{map-append, length-append}
use Rattle.std.specs.Cmp.Lexicographic.{bytes_decides}
use Rattle.std.specs.List.{list_all, list_any}
use Rattle.pddl_task.specs.declared.condition.Cond.TheVariants as cond_
use Rattle.pddl_task.specs.declared.expression.Term.{Term}
use Rattle.pddl_task.specs.declared.expression.Term.TheVariants as term
use Rattle.pddl_task.specs.declared.start.Fact.{Fact}
use Rattle.pddl_task.specs.declared.parts.TaskParts.{TaskParts}
use Rattle.pddl_task.specs.Task.{is_changing_pred}
use Rattle.plan_step.specs.State.{gives_truth}
use Rattle.plan_step.specs.Meaning.{object_of, objects_of}
use Rattle.ground_instances.specs.declared.index.FactIndex.{FactIndex}
use Rattle.ground_instances.specs.Index.{without, StandsIn, objects_at, is_among, IsIndexOf}
use Rattle.ground_instances.specs.inside.Open.{is_bound, met_so_far}
use Rattle.ground_instances.specs.inside.Places.{IsLeast, NoneAmong, IsBinding}
use Rattle.ground_instances.specs.inside.Search.{NoneOpen, IsNextObject}
use Rattle.ground_instances.proofs.Opening.{both_parts, objects_bound}

split_at : {A : Type 0} (xs : List A) (i : ℕ) (x : A) → slice_get xs i ≡ Some x → (xs ≡ take i xs ++ x ∷ drop (suc i) xs) × (i < length xs)
split_at [] i x e = cc
split_at (y ∷ xs) zero x e = let is : y ≡ x = cc in (ap (λ z. z ∷ xs) is, omega arith)
split_at (y ∷ xs) (suc i) x e = let rest = split_at xs i x e in (ap (λ l. y ∷ l) rest.0, omega (arith, rest.1))

around : {A : Type 0} (xs : List A) (x : A) (ys : List A) (n : ℕ) → length xs ≡ n → without (xs ++ x ∷ ys) n ≡ xs ++ ys
around [] x ys zero e = let one : 0 + 1 ≡ suc zero = omega arith in ap (λ m. drop m (x ∷ ys)) one
around [] x ys (suc n) e = absurd (omega (arith, e))
around (w ∷ xs) x ys zero e = absurd (omega (arith, e))
around (w ∷ xs) x ys (suc n) e =
    let more : suc n + 1 ≡ suc (n + 1) = omega arith in
    ap (λ m. (w ∷ take n (xs ++ x ∷ ys)) ++ drop m (w ∷ (xs ++ x ∷ ys))) more ∙ ap (λ l. w ∷ l) (around xs x ys n (omega (arith, e)))

middle : (xs : List ℕ) (x : ℕ) (ys : List ℕ) (n : ℕ) → length xs ≡ n → slice_get (xs ++ x ∷ ys) n ≡ Some x
middle [] x ys zero e = refl
middle [] x ys (suc n) e = absurd (omega (arith, e))
middle (w ∷ xs) x ys zero e = absurd (omega (arith, e))
middle (w ∷ xs) x ys (suc n) e = middle xs x ys n (omega (arith, e))

all_split : {A : Type 0} (p : A → Bool) (xs ys : List A) → list_all p xs ≡ true → list_all p ys ≡ true → list_all p (xs ++ ys) ≡ true
all_split p [] ys e f = f
all_split p (x ∷ xs) ys e f = let parts = both_parts (p x) (list_all p xs) e in ap (λ b. b && list_all p (xs ++ ys)) parts.0 ∙ all_split p xs ys parts.1 f

bound_later : (m n : ℕ) (terms : List Term) → m ≤ n → list_all (is_bound m) terms ≡ true → list_all (is_bound n) terms ≡ true
bound_later m n [] h e = refl
bound_later m n (t ∷ terms) h e =
    let parts = both_parts (is_bound m t) (list_all (is_bound m) terms) e in
    ap (λ b. b && list_all (is_bound n) terms) (one t parts.0) ∙ bound_later m n terms h parts.1
  where
    less : (p : ℕ) → nat_lt p m ≡ true → nat_lt p n ≡ true
    less p f = grind (arith, nat_tests)

    one : (s : Term) → is_bound m s ≡ true → is_bound n s ≡ true
    one (term.Param p) f = less p f
    one (term.Object o) f = refl

-- a fact that gives the truth
record Gives (facts : List Fact) (pred : ℕ) (args : List ℕ) : Type 0 where
  place : ℕ
  fact : Fact
  there : slice_get facts place ≡ Some fact
  of_pred : fact.pred ≡ pred
  with_args : fact.args ≡ args

given : (facts : List Fact) (pred : ℕ) (args : List ℕ) → list_any (gives_truth pred args) facts ≡ true → Gives facts pred args
given [] pred args e = cc
given (f ∷ facts) pred args e = by (gives_truth pred args f) refl (given facts pred args)
  where
    equal : (f.pred == pred) ≡ true → f.pred ≡ pred
    equal h = grind (arith, nat_tests)

    by : (b : Bool) → gives_truth pred args f ≡ b → (list_any (gives_truth pred args) facts ≡ true → Gives facts pred args) → Gives (f ∷ facts) pred args
    by true h rest =
        let parts = both_parts (f.pred == pred) (bytes_eq f.args args) h in
        record { place = 0; fact = f; there = refl; of_pred = equal parts.0; with_args = (bytes_decides f.args args).0 parts.1 }
    by false h rest =
        let later = rest (ap (λ b. b || list_any (gives_truth pred args) facts) (sym h) ∙ e) in
        record { place = suc later.place; fact = later.fact; there = later.there; of_pred = later.of_pred; with_args = later.with_args }

module _ (task : TaskParts) (args : List ℕ) (pred : ℕ) (terms : List Term) (place : ℕ) (binding : IsBinding (length args) terms place)
    (static : is_changing_pred task.actions pred ≡ false) where
  abbrev front : List Term
  front = take place terms

  abbrev back : List Term
  back = drop (place + 1) terms

  split : (terms ≡ front ++ term.Param (length args) ∷ back) × (place < length terms)
  split =
      let parts = split_at terms place (term.Param (length args)) binding.next in
      (parts.0 ∙ ap (λ m. front ++ term.Param (length args) ∷ drop m terms) (sym (add-one place)), parts.1)

  module _ (o : ℕ) (met : met_so_far task (args ++ o ∷ []) (cond_.Lit true pred terms) ≡ true) where
    abbrev before : List ℕ
    before = objects_of args front

    abbrev behind : List ℕ
    behind = objects_of args back

    next_object : object_of (args ++ o ∷ []) (term.Param (length args)) ≡ o
    next_object = get_or_from_slice_get (args ++ o ∷ []) (length args) o 0 (middle args o [] (length args) refl)

    objects_are : objects_of (args ++ o ∷ []) terms ≡ before ++ o ∷ behind
    objects_are =
        ap (objects_of (args ++ o ∷ [])) split.0 ∙ map-append (object_of (args ++ o ∷ [])) front (term.Param (length args) ∷ back)
        ∙ ap (λ l. l ++ objects_of (args ++ o ∷ []) (term.Param (length args) ∷ back)) (objects_bound args (o ∷ []) front binding.front)
        ∙ ap (λ p. before ++ p ∷ objects_of (args ++ o ∷ []) back) next_object
        ∙ ap (λ l. before ++ o ∷ l) (objects_bound args (o ∷ []) back binding.back)

    all_bound : list_all (is_bound (length (args ++ o ∷ []))) terms ≡ true
    all_bound =
        let n = length (args ++ o ∷ []) in
        let more : length args < n = omega (arith, length-append args (o ∷ [])) in
        let own : nat_lt (length args) n ≡ true = below (length args) n more in
        ap (list_all (is_bound n)) split.0
        ∙ all_split (is_bound n) front (term.Param (length args) ∷ back) (bound_later (length args) n front (omega arith) binding.front)
        (ap (λ b. b && list_all (is_bound n) back) own ∙ bound_later (length args) n back (omega arith) binding.back)
      where
        below : (m n : ℕ) → m < n → nat_lt m n ≡ true
        below m n h = grind (arith, nat_tests)

    true_there : list_any (gives_truth pred (objects_of (args ++ o ∷ []) terms)) task.facts ≡ true
    true_there =
        let truth = list_any (gives_truth pred (objects_of (args ++ o ∷ []) terms)) task.facts in
        sym (ap (λ b. not b || (is_changing_pred task.actions pred || truth)) all_bound ∙ ap (λ b. b || truth) static) ∙ met

    length_before : length before ≡ place
    length_before = length-map_take terms place (split.1)
      where
        length-map_take : (ts : List Term) (m : ℕ) → m < length ts → length (objects_of args (take m ts)) ≡ m
        length-map_take [] m h = absurd (omega arith)
        length-map_take (t ∷ ts) zero h = refl
        length-map_take (t ∷ ts) (suc m) h = ap suc (length-map_take ts m (omega (arith, h)))

    -- a fact has the object at the place
    stands : StandsIn task.facts place pred (before ++ behind) o
    stands =
        let fact = given task.facts pred (objects_of (args ++ o ∷ []) terms) true_there in
        let whole : fact.fact.args ≡ before ++ o ∷ behind = fact.with_args ∙ objects_are in
        record {
          number = fact.place;
          fact = fact.fact;
          there = fact.there;
          of_pred = fact.of_pred;
          around = ap (λ l. without l place) whole ∙ around before o behind place length_before;
          at = ap (λ l. slice_get l place) whole ∙ middle before o behind place length_before;
        }

  -- what an index of the facts has at the place
  module _ (index : FactIndex) (is_index : IsIndexOf index task.facts) (others objects : List ℕ) (made : others ≡ objects_of args (take place terms) ++ objects_of args (drop (place + 1) terms))
      (found : objects ≡ objects_at index place pred others) where
    abbrev meets : List ℕ → Bool
    meets more = met_so_far task more (cond_.Lit true pred terms)

    among : (o : ℕ) → meets (args ++ o ∷ []) ≡ true → is_among objects o ≡ true
    among o met = ap (λ l. is_among l o) (found ∙ ap (objects_at index place pred) made) ∙ is_index.listed place pred (objects_of args front ++ objects_of args back) o (stands o met)

    never_true : (b : Bool) → (b ≡ true → ⊥) → b ≡ false
    never_true true h = absurd (h refl)
    never_true false h = refl

    -- the next object is the least of them
    pub next_one : (n low high object : ℕ) → high ≡ n → IsLeast objects low high object → IsNextObject n meets args low object
    next_one n low high object count least = record {
      above = least.above;
      below = subst (λ m. object < m) count least.below;
      skipped = record { none = λ o a b. never_true (meets (args ++ o ∷ [])) (λ met. absurd (omega (arith, least.least o (among o met) a, b))) };
    }

    pub none_next : (n low high : ℕ) → high ≡ n → NoneAmong objects low high → NoneOpen n meets args low n
    none_next n low high count none = record { none = λ o a b. never_true (meets (args ++ o ∷ [])) (λ met. absurd (omega (arith, none.none o (among o met) a, b, count))) }
