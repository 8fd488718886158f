-- An action of a task changes nothing beyond the task's numbers.
use Rattle.std.proofs.Common.{◌≡◌, ℕ, suc, ◌<◌, ◌≤◌, Bool, true, false, cond, ◌||◌, List, [], ◌∷◌, length, refl, ap, ◌∙◌, None, Some, nat_eq, nat_lt, arith}
use Rattle.std.specs.List.{All, AllByRecursion, list_all}
use Rattle.std.proofs.lemmas.Bool.{and_parts, lt-ltb, ltb-true, ne_eqb}
use lib.IntN.{pos}
use Rattle.algebra.proofs.Solve.{v, k, ◌⊕◌, solve_from, eq, done}
use Rattle.rational.specs.Fraction.{whole, ◌+ℚ◌}
use Rattle.rational.specs.Linear.{Terms, coefficient_of}
use Rattle.rational.proofs.FieldLaws.{fraction-ring}
use Rattle.task_core.specs.declared.action.GAction.{GAction}
use Rattle.task_core.specs.Step.{is_in, set_of}
use Rattle.task_core.specs.Task.{GroundParts, numbers, read_by, IsActionOf, IsGroundTask}
use Rattle.lin.specs.Linear.{Linear}
use Rattle.relaxed.proofs.ReadLaws.{all_from, reads-incs}

pub record IsInRange (atoms funcs : ℕ) (a : GAction) : Type 0 where
  pub adds_in : (p : ℕ) → atoms ≤ p → is_in p a.adds ≡ false
  pub dels_in : (p : ℕ) → atoms ≤ p → is_in p a.dels ≡ false
  pub sets_in : (f : ℕ) → funcs ≤ f → set_of a.sets f ≡ None
  pub incs_in : (f : ℕ) → funcs ≤ f → coefficient_of f a.incs ≡ whole (pos 0)

-- a number at least as great as a bound isn't in a list of lesser ones
beyond : (bound n : ℕ) (xs : List ℕ) → bound ≤ n → list_all (λ x. nat_lt x bound) xs ≡ true → is_in n xs ≡ false
beyond bound n [] l h = refl
beyond bound n (x ∷ xs) l h =
    let p = and_parts (nat_lt x bound) _ h in
    let below = ltb-true x bound p.0 in
    ap (λ b. b || is_in n xs) (ne_eqb x n (omega arith)) ∙ beyond bound n xs l p.1

all_below : (bound : ℕ) (xs : List ℕ) → All (λ x. x < bound) xs → list_all (λ x. nat_lt x bound) xs ≡ true
all_below bound xs h = all_from (λ x. nat_lt x bound) xs (λ n d l. lt-ltb _ bound (h n d l))

pub not_set : (ss : List (ℕ × Linear)) (f : ℕ) → is_in f (numbers ss) ≡ false → set_of ss f ≡ None
not_set [] f h = refl
not_set (s ∷ more) f h = by_test (nat_eq s.0 f) h (not_set more f)
  where
    by_test : (b : Bool) → (b || is_in f (numbers more)) ≡ false → (is_in f (numbers more) ≡ false → set_of more f ≡ None) → cond b (Some s.1) (set_of more f) ≡ None
    by_test true h ih = absurd (cc)
    by_test false h ih = ih h

pub not_counted : (is : Terms) (f : ℕ) → is_in f (numbers is) ≡ false → coefficient_of f is ≡ whole (pos 0)
not_counted [] f h = refl
not_counted (i ∷ more) f h = by_test (nat_eq i.0 f) h (not_counted more f)
  where
    by_test : (b : Bool) → (b || is_in f (numbers more)) ≡ false → (is_in f (numbers more) ≡ false → coefficient_of f more ≡ whole (pos 0))
        → cond b i.1 (whole (pos 0)) +ℚ coefficient_of f more ≡ whole (pos 0)
    by_test true h ih = absurd (cc)
    by_test false h ih = solve_from fraction-ring (k (pos 0) ⊕ v 0) (k (pos 0)) (coefficient_of f more ∷ []) (eq (k (pos 1)) (v 0) (k (pos 0)) (ih h) done) refl

pub in_range : (task : GroundParts) (a : GAction) → IsActionOf task a → IsInRange (length task.atoms) (length task.funcs) a
in_range task a of = record {
  adds_in = λ p l. beyond (length task.atoms) p a.adds l (all_below (length task.atoms) a.adds of.numbered.adds);
  dels_in = λ p l. beyond (length task.atoms) p a.dels l (all_below (length task.atoms) a.dels of.numbered.dels);
  sets_in = λ f l. not_set a.sets f (beyond (length task.funcs) f (numbers a.sets) l (all_below (length task.funcs) (numbers a.sets) of.numbered.sets));
  incs_in = λ f l. not_counted a.incs f (beyond (length task.funcs) f (numbers a.incs) l
      (reads-incs (λ x. nat_lt x (length task.funcs)) a (all_below (length task.funcs) (read_by a) of.numbered.reads)));
}

all_actions : (task : GroundParts) (acts : List GAction) → All (IsActionOf task) acts → AllByRecursion (IsInRange (length task.atoms) (length task.funcs)) acts
all_actions task [] h = tt
all_actions task (a ∷ more) h = (in_range task a (h 0 a (omega arith)), all_actions task more (λ n d l. h (suc n) d (omega arith)))

pub actions_in_range : (task : GroundParts) → IsGroundTask task → AllByRecursion (IsInRange (length task.atoms) (length task.funcs)) task.actions
actions_in_range task h = all_actions task task.actions h.actions
