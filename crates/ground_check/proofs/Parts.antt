-- What holds of each part holds of each number that stands in them.
use Rattle.std.proofs.Common.{ℕ, ◌<◌, ◌≤◌, List, [], ◌∷◌, ◌++◌, length, take, take_all, sym}
use Rattle.std.specs.List.{All, flat_map}
use Rattle.std.proofs.lemmas.List.Elements.{All-map, All-append, All-nil, All-head, All-tail, All-weaker, All-same}
use Rattle.std.proofs.lemmas.List.Sums.{AllPass-from_list_all}
use Rattle.std.proofs.lemmas.Bool.{ltb-true}
use Rattle.lin.specs.Linear.{AreBelow}
use Rattle.rational.specs.Linear.{Terms}
use Rattle.task_core.specs.declared.action.GAction.{GAction}
use Rattle.task_core.specs.Task.{numbers, variables, read_by}

pub all_numbers : {X : Type 0} (P : ℕ → Type 0) (ps : List (ℕ × X)) → All (λ p. P p.0) ps → All P (numbers ps)
all_numbers P ps h = All-map P (λ p. p.0) ps h

pub all_below : (funcs : ℕ) (ts : Terms) → AreBelow funcs ts → All (λ f. f < funcs) (numbers ts)
all_below funcs ts h =
    all_numbers (λ f. f < funcs) ts
    (All-weaker _ (λ t. t.0 < funcs) (λ t e. ltb-true t.0 funcs e) ts (AllPass-from_list_all _ ts h))

all_flat : {X : Type 0} (P : ℕ → Type 0) (f : X → List ℕ) (xs : List X) → All (λ x. All P (f x)) xs → All P (flat_map f xs)
all_flat P f [] h = All-nil P
all_flat P f (x ∷ xs) h = All-append P (f x) (flat_map f xs) (All-head (λ x. All P (f x)) x xs h) (all_flat P f xs (All-tail (λ x. All P (f x)) x xs h))

pub all_read : (P : ℕ → Type 0) (a : GAction) → All (λ c. All P (variables c.0)) a.cmps → All (λ s. All P (variables s.1)) a.sets
    → All (λ i. P i.0) a.incs → All P (read_by a)
all_read P a cs ss is =
    All-append P (flat_map (λ c. variables c.0) a.cmps) (flat_map (λ s. variables s.1) a.sets ++ numbers a.incs)
    (all_flat P (λ c. variables c.0) a.cmps cs)
    (All-append P (flat_map (λ s. variables s.1) a.sets) (numbers a.incs) (all_flat P (λ s. variables s.1) a.sets ss) (all_numbers P a.incs is))

pub taken_whole : {X : Type 0} (P : X → Type 0) (xs : List X) (n : ℕ) → length xs ≤ n → All P (take n xs) → All P xs
taken_whole P xs n h all = All-same P xs (take n xs) (sym (take_all n xs h)) all
