-- A value that is made from items in turn, on its way.
use Rattle.std.proofs.Common.{◌≡◌, ◌≤◌, ◌<◌, ℕ, ◌+◌, List, ◌∷◌, ◌++◌, length, drop, get_or, sym, ap, subst as along, ◌∙◌}
use Rattle.std.proofs.lemmas.List.{drop_more, drop_all}
use Rattle.rational.specs.Fraction.{Fraction}
use Rattle.frac128.specs.declared.operations.Wide.{Wide}
use Rattle.lin.specs.Operations.{AllFit, IsFirstPassing}
use Rattle.lin.proofs.Leading.{IsLeft, left-start, left-all_fit, left-none, left-first}
use Rattle.pattern.specs.Rolled.{in_turn, ops_in_turn}

-- the item at a place
abbrev pub IsItem : {X : Type 0} → List X → ℕ → X → Type 0
IsItem xs i x = drop i xs ≡ x ∷ drop (i + 1) xs

pub item : {X : Type 0} (xs : List X) (i : ℕ) (x : X) → i < length xs → x ≡ get_or xs i x → IsItem xs i x
item xs i x within is = drop_more xs i x within ∙ ap (λ t. t ∷ drop (i + 1) xs) (sym is)

module _ {X : Type 0} (ops : Fraction → X → List Wide) (next : Fraction → X → Fraction) (start : Fraction) (xs : List X) where
  pub record IsInTurn (so_far : Fraction) (i : ℕ) : Type 0 where
    pub made : in_turn next so_far (drop i xs) ≡ in_turn next start xs
    pub left : IsLeft (ops_in_turn ops next so_far (drop i xs)) (ops_in_turn ops next start xs)

  pub turns-start : (so_far : Fraction) → so_far ≡ start → IsInTurn so_far 0
  turns-start so_far e = record {
    made = ap (λ (x : Fraction). in_turn next x xs) e;
    left = along (λ (x : Fraction). IsLeft (ops_in_turn ops next x xs) (ops_in_turn ops next start xs)) (sym e) (left-start (ops_in_turn ops next start xs));
  }

  module _ (so_far : Fraction) (i : ℕ) (x : X) (n : IsItem xs i x) (h : IsInTurn so_far i) where
    left-here : IsLeft (ops so_far x ++ ops_in_turn ops next (next so_far x) (drop (i + 1) xs)) (ops_in_turn ops next start xs)
    left-here = along (λ (ys : List X). IsLeft (ops_in_turn ops next so_far ys) (ops_in_turn ops next start xs)) n h.left

    pub turns-passes : (w : Wide) → IsFirstPassing w (ops so_far x) → IsFirstPassing w (ops_in_turn ops next start xs)
    turns-passes w p = left-first w (ops so_far x) _ (ops_in_turn ops next start xs) left-here p

    pub turns-next : (r : Fraction) → AllFit (ops so_far x) → r ≡ next so_far x → IsInTurn r (i + 1)
    turns-next r f e = record {
      made = ap (λ (y : Fraction). in_turn next y (drop (i + 1) xs)) e ∙ sym (ap (λ (ys : List X). in_turn next so_far ys) n) ∙ h.made;
      left = along (λ (y : Fraction). IsLeft (ops_in_turn ops next y (drop (i + 1) xs)) (ops_in_turn ops next start xs)) (sym e) (left-all_fit (ops so_far x) _ (ops_in_turn ops next start xs) left-here f);
    }

  pub turns-done : (so_far : Fraction) (i : ℕ) → length xs ≤ i → IsInTurn so_far i → AllFit (ops_in_turn ops next start xs) × (so_far ≡ in_turn next start xs)
  turns-done so_far i past h =
      let e = drop_all i xs past in (
        left-none (ops_in_turn ops next start xs) (along (λ (ys : List X). IsLeft (ops_in_turn ops next so_far ys) (ops_in_turn ops next start xs)) e h.left),
        sym (ap (λ (ys : List X). in_turn next so_far ys) e) ∙ h.made,
      )
