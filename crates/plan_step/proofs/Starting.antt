-- The initial state, from facts and values one by one.
use Rattle.std.proofs.Common.{◌≡◌, ℕ, ◌+◌, ◌<◌, ◌==◌, Bool, true, false, ◌&&◌, ◌||◌, cond, List, [], ◌∷◌, ◌++◌, length, get_or, take, not, is_some, Option, Some, None, refl, sym, ap, ap₂, ◌∙◌}
use Rattle.std.proofs.lemmas.List.{take_more}
use Rattle.std.proofs.lemmas.List.Folds.{list_any_more}
use Rattle.std.specs.Prelude.{bytes_eq, find}
use Rattle.std.specs.List.{list_any}
use Rattle.std.specs.Option.{option_map}
use Rattle.rational.specs.Fraction.{Fraction}
use Rattle.pddl_task.specs.declared.start.Fact.{Fact}
use Rattle.pddl_task.specs.declared.start.Given.{Given}
use Rattle.pddl_task.specs.declared.parts.TaskParts.{TaskParts}
use Rattle.plan_step.specs.State.{PlanState, gives_truth, gives_value, initial}
use Rattle.plan_step.specs.Places.{with_atom, with_function}
use Rattle.plan_step.specs.inside.Start.{with_facts, or_else, with_given, with_given_values}
use Rattle.plan_step.proofs.Booleans.{flipped}
use Rattle.plan_step.proofs.Restoring.{chosen, one_call}
use Rattle.plan_step.proofs.Truths.{one_state}

added : (is was given : Bool) → cond is true (was || given) ≡ (was || (given || is))
added true true given = refl
added true false true = refl
added true false false = refl
added false true given = refl
added false false true = refl
added false false false = refl

pub facts_more : (facts : List Fact) (i : ℕ) (fact : Fact) (args : List ℕ) (s : PlanState) → i < length facts → fact ≡ get_or facts i fact → args ≡ fact.args
    → with_atom (with_facts (take i facts) s) fact.pred args true ≡ with_facts (take (i + 1) facts) s
facts_more facts i fact args s within is same = one_state _ _
    (λ q xs. ap (λ b. cond b true (s.truth q xs || list_any (gives_truth q xs) (take i facts))) (flipped q fact.pred xs args ∙ ap (λ ys. fact.pred == q && bytes_eq ys xs) same)
    ∙ added (gives_truth q xs fact) (s.truth q xs) (list_any (gives_truth q xs) (take i facts))
    ∙ ap (λ b. s.truth q xs || b) (ap (λ (f : Fact). list_any (gives_truth q xs) (take i facts) || gives_truth q xs f) is ∙ sym (list_any_more (gives_truth q xs) facts i fact within)))
    (λ f xs. refl)

pub has_none : (o r : Option Fraction) (n : Bool) → o ≡ r → is_some r ≡ not n → n ≡ true → o ≡ None
has_none o None n same test is = same
has_none o (Some x) n same test is = cc

or_none : (a : Option Fraction) → or_else a None ≡ a
or_none None = refl
or_none (Some x) = refl

or_on : (a b c : Option Fraction) → or_else (or_else a b) c ≡ or_else a (or_else b c)
or_on None b c = refl
or_on (Some x) b c = refl

-- a function without a value is given one
matches : (given : Given) (args : List ℕ) → args ≡ given.args → (g : ℕ) (xs : List ℕ) → (g == given.func && bytes_eq xs args) ≡ gives_value g xs given
matches given args same g xs = flipped g given.func xs args ∙ ap (λ ys. given.func == g && bytes_eq ys xs) same

pub given_more : (given : Given) (args : List ℕ) (s : PlanState) → args ≡ given.args → s.value given.func args ≡ None → with_function s given.func args (Some given.value) ≡ with_given given s
given_more given args s same none = one_state _ _ (λ p xs. refl)
    (λ g xs. chosen (g == given.func && bytes_eq xs args) (Some given.value) (s.value g xs) (or_else (s.value g xs) (cond (gives_value g xs given) (Some given.value) None))
    (λ here. sym (ap₂ (λ v b. or_else v (cond b (Some given.value) None)) (sym (one_call s.value g given.func xs args here) ∙ none) (sym (matches given args same g xs) ∙ here)))
    (λ apart. sym (ap (λ b. or_else (s.value g xs) (cond b (Some given.value) None)) (sym (matches given args same g xs) ∙ apart) ∙ or_none (s.value g xs))))

first : (b : Bool) (given : Given) → option_map (λ (g : Given). g.value) (cond b (Some given) None) ≡ or_else None (cond b (Some given.value) None)
first true given = refl
first false given = refl

later : (b : Bool) (v : Given) (all some : Option Given) (last : Option Fraction) → option_map (λ (g : Given). g.value) all ≡ or_else (option_map (λ (g : Given). g.value) some) last
    → option_map (λ (g : Given). g.value) (cond b (Some v) all) ≡ or_else (option_map (λ (g : Given). g.value) (cond b (Some v) some)) last
later true v all some last h = refl
later false v all some last h = h

find_push : (test : Given → Bool) (values : List Given) (given : Given)
    → option_map (λ (g : Given). g.value) (find test (values ++ given ∷ [])) ≡ or_else (option_map (λ (g : Given). g.value) (find test values)) (cond (test given) (Some given.value) None)
find_push test [] given = first (test given) given
find_push test (v ∷ values) given = later (test v) v (find test (values ++ given ∷ [])) (find test values) (cond (test given) (Some given.value) None) (find_push test values given)

pub values_more : (values : List Given) (i : ℕ) (given : Given) (s : PlanState) → i < length values → given ≡ get_or values i given → with_given given (with_given_values (take i values) s) ≡ with_given_values (take (i + 1) values) s
values_more values i given s within is = one_state _ _ (λ p xs. refl)
    (λ g xs. or_on (s.value g xs) (option_map (λ (v : Given). v.value) (find (gives_value g xs) (take i values))) (cond (gives_value g xs given) (Some given.value) None)
    ∙ ap (or_else (s.value g xs)) (sym (find_push (gives_value g xs) (take i values) given)
    ∙ ap (λ vs. option_map (λ (v : Given). v.value) (find (gives_value g xs) vs)) (ap (λ (v : Given). take i values ++ v ∷ []) is ∙ sym (take_more values i given within))))

pub initial_is : (task : TaskParts) (facts : List Fact) (values : List Given) (empty : PlanState) → facts ≡ task.facts → values ≡ task.values
    → ((p : ℕ) (args : List ℕ) → empty.truth p args ≡ false) → ((f : ℕ) (args : List ℕ) → empty.value f args ≡ None) → with_given_values values (with_facts facts empty) ≡ initial task
initial_is task facts values empty same alike falses nones = one_state _ _
    (λ p args. ap (λ b. b || list_any (gives_truth p args) facts) (falses p args) ∙ ap (λ fs. list_any (gives_truth p args) fs) same)
    (λ f args. ap (λ v. or_else v (option_map (λ (g : Given). g.value) (find (gives_value f args) values))) (nones f args) ∙ ap (λ vs. option_map (λ (g : Given). g.value) (find (gives_value f args) vs)) alike)
