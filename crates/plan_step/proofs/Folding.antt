-- An operation folded over the values of parts, part by part.
use Rattle.std.proofs.Common.{◌≡◌, ℕ, ◌+◌, ◌<◌, ◌≤◌, List, map, length, get_or, drop, sym, ap, ◌∙◌}
use Rattle.std.proofs.lemmas.List.{at_drop_more, at_drop_all}
use Rattle.rational.specs.Fraction.{Fraction}
use Rattle.frac128.specs.declared.operations.Op.{Op}
use Rattle.frac128.specs.declared.operations.Wide.{Wide}
use Rattle.plan_step.specs.Met.{Met, found, passes, and_then, operated}
use Rattle.plan_step.specs.Evaluation.{folded_from}

module _ {E : Type 0} (f : E → Met Fraction) (op : Op) (all : Met Fraction) (x : Fraction) (parts : List E) (i : ℕ) where
  -- so far all is folded to x
  abbrev pub IsFolded : Type 0
  IsFolded = all ≡ folded_from op x (map f (drop i parts))

  pub fold_end : IsFolded → length parts ≤ i → found x ≡ all
  fold_end h e = sym (h ∙ at_drop_all (λ es. folded_from op x (map f es)) parts i e)

  module _ (h : IsFolded) (within : i < length parts) (part : E) (is : part ≡ get_or parts i part) where
    next : all ≡ and_then (f part) (λ y. and_then (operated op x y) (λ z. folded_from op z (map f (drop (i + 1) parts))))
    next = h ∙ at_drop_more (λ es. folded_from op x (map f es)) parts i part within ∙ ap (λ e. and_then (f e) (λ y. and_then (operated op x y) (λ z. folded_from op z (map f (drop (i + 1) parts))))) (sym is)

    pub fold_stops : (m : Met Fraction) → m ≡ f part → ((next : Fraction → Met Fraction) → and_then m next ≡ m) → m ≡ all
    fold_stops m met stops = sym (next ∙ ap (λ n. and_then n (λ y. and_then (operated op x y) (λ z. folded_from op z (map f (drop (i + 1) parts))))) (sym met) ∙ stops _)

    pub fold_passes : (y : Fraction) (w : Wide) → found y ≡ f part → passes w ≡ operated op x y → passes w ≡ all
    fold_passes y w met wide = sym (next
        ∙ ap (λ n. and_then n (λ y. and_then (operated op x y) (λ z. folded_from op z (map f (drop (i + 1) parts))))) (sym met)
        ∙ ap (λ n. and_then n (λ z. folded_from op z (map f (drop (i + 1) parts)))) (sym wide))

    pub fold_more : (y z : Fraction) → found y ≡ f part → found z ≡ operated op x y → all ≡ folded_from op z (map f (drop (i + 1) parts))
    fold_more y z met value =
        next
        ∙ ap (λ n. and_then n (λ y. and_then (operated op x y) (λ z. folded_from op z (map f (drop (i + 1) parts))))) (sym met)
        ∙ ap (λ n. and_then n (λ z. folded_from op z (map f (drop (i + 1) parts)))) (sym value)
