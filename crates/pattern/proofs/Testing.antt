-- Tests, one after another.
use Rattle.std.proofs.Common.{◌≡◌, ◌≤◌, ℕ, ◌+◌, Bool, true, false, List, ◌++◌, length, drop, Result, Ok, Err, sym, subst}
use Rattle.std.proofs.lemmas.List.{drop_all}
use Rattle.std.specs.List.{AllByRecursion, flat_map}
use Rattle.frac128.specs.declared.operations.Wide.{Wide}
use Rattle.lin.specs.Operations.{AllFit, IsFirstPassing}
use Rattle.lin.proofs.Leading.{IsLeft, left-start, left-all_fit, left-none, left-first}
use Rattle.pattern.specs.Rolled.{Tests}
use Rattle.pattern.proofs.Turns.{IsItem}

-- the same, where another thing is so exactly then
pub tests-same : (ops : List Wide) (P Q : Type 0) (r : Result Bool Wide) → (P → Q) → (Q → P) → Tests ops P r → Tests ops Q r
tests-same ops P Q (Ok true) f g h = (h.0, f h.1)
tests-same ops P Q (Ok false) f g h = λ q. h (g q)
tests-same ops P Q (Err w) f g h = h

pub tests-true : (ops : List Wide) (P : Type 0) (b : Bool) → Tests ops P (Ok b) → b ≡ true → AllFit ops × P
tests-true ops P true h e = h
tests-true ops P false h e = absurd (cc)

module _ {X : Type 0} (ops : X → List Wide) (Is : X → Type 0) (xs : List X) where
  pub record IsTesting (i : ℕ) : Type 0 where
    pub so_far : AllByRecursion Is (drop i xs) → AllByRecursion Is xs
    pub rest : AllByRecursion Is xs → AllByRecursion Is (drop i xs)
    pub left : IsLeft (flat_map ops (drop i xs)) (flat_map ops xs)

  pub testing-start : IsTesting 0
  testing-start = record { so_far = λ h. h; rest = λ h. h; left = left-start (flat_map ops xs) }

  module _ (i : ℕ) (x : X) (n : IsItem xs i x) (h : IsTesting i) where
    left-here : IsLeft (ops x ++ flat_map ops (drop (i + 1) xs)) (flat_map ops xs)
    left-here = subst (λ (ys : List X). IsLeft (flat_map ops ys) (flat_map ops xs)) n h.left

    pub testing-passes : (w : Wide) → IsFirstPassing w (ops x) → IsFirstPassing w (flat_map ops xs)
    testing-passes w p = left-first w (ops x) _ (flat_map ops xs) left-here p

    pub testing-fails : (Is x → ⊥) → AllByRecursion Is xs → ⊥
    testing-fails never all = never (subst (AllByRecursion Is) n (h.rest all)).0

    pub testing-next : AllFit (ops x) × Is x → IsTesting (i + 1)
    testing-next p = record {
      so_far = λ more. h.so_far (subst (AllByRecursion Is) (sym n) (p.1, more));
      rest = λ all. (subst (AllByRecursion Is) n (h.rest all)).1;
      left = left-all_fit (ops x) _ (flat_map ops xs) left-here p.0;
    }

  pub testing-done : (i : ℕ) → length xs ≤ i → IsTesting i → AllFit (flat_map ops xs) × AllByRecursion Is xs
  testing-done i past h =
      let e = drop_all i xs past in (
        left-none (flat_map ops xs) (subst (λ (ys : List X). IsLeft (flat_map ops ys) (flat_map ops xs)) e h.left),
        h.so_far (subst (AllByRecursion Is) (sym e) tt),
      )
