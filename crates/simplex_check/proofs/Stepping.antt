-- A step, and what stays true from pivot to pivot.
use Rattle.std.proofs.Common.{◌≡◌, ℕ, ◌++◌, Option, Some, List, [], ◌∷◌, length, set, refl, sym, subst, ◌∙◌, arith}
use Rattle.std.proofs.lemmas.List.{get_or-set_same, get_or-set_other}
use Rattle.tableau.specs.Table.{Table, width, IsTidy}
use Rattle.tableau.specs.Pivot.{Pivots}
use Rattle.simplex_law.specs.Pairs.{minus}
use Rattle.simplex_law.specs.Config.{Limits, lower_of, upper_of, pair_at, zero_pair, row_pair, IsPlaced, IsConsistent, violated_pair, IsLeastViolated, IsLeastHelp, IsNext}
use Rattle.simplex_law.specs.Runs.{Reaches, start, pivot}
use Rattle.simplex_law.specs.declared.pair.Pair.{Pair}
use Rattle.simplex_law.specs.declared.bound.Side.{Side}
use Rattle.simplex_law.proofs.Keeping.{next_placed}
use Rattle.simplex_check.specs.Checks.{LeadsTo}
use Rattle.simplex_check.specs.Known.{Says, known_at, IsKnown}
use Rattle.simplex_check.specs.inside.Moving.{Moves}
use Rattle.simplex_check.specs.inside.Choices.{IsMoved}
use Rattle.simplex_check.proofs.Knowing.{known_after}

module _ (l : Limits) (t : Table) (places : List Pair) (r e : ℕ) (side : Side) (after : Table) (bound : Pair) (tidy : IsTidy t) (long : length places ≡ width t)
    (v : IsLeastViolated l t (pair_at places) r side) (h : IsLeastHelp l t (pair_at places) r side e) (piv : Pivots t r e after) (is : bound ≡ violated_pair side (lower_of l r) (upper_of l r)) where
  at_r : pair_at (set places r bound) r ≡ bound
  at_r = get_or-set_same places r bound zero_pair (omega (arith, long, v.within))

  pub next : IsNext l t (pair_at places) r e after (pair_at (set places r bound))
  next = record { side = side; leaves = v; enters = h; pivoted = piv.pivoted; moved = at_r ∙ is; kept = λ j d. get_or-set_other places r j bound zero_pair d }

  pub is_moved : IsConsistent l (width t) → IsPlaced l t (pair_at places) → IsMoved l t (pair_at places) r e after (pair_at (set places r bound))
  is_moved c p = record { next = next; placed = next_placed l t (pair_at places) r e after (pair_at (set places r bound)) tidy next c p; same = piv.same }

  pub still_known : (known : List (Option Pair)) → length known ≡ width t → IsKnown t (pair_at places) known → (y : Pair) → y ≡ pair_at places e → (o : Option Pair) → o ≡ known_at known r
      → (way : Option Pair) → ((z : Pair) → Says o z → Says way (minus bound z)) → (moved : List (Option Pair)) → Moves after r way (width after) (set known e (Some y)) moved
      → IsKnown after (pair_at (set places r bound)) moved
  still_known known m k y ye o oe way w moved mv =
      let says : Says way (minus bound (row_pair t (pair_at places) r)) = w (row_pair t (pair_at places) r) (subst (λ (u : Option Pair). Says u (row_pair t (pair_at places) r)) (sym oe) (k r v.within v.basic)) in
      known_after l t (pair_at places) r e after (pair_at (set places r bound)) tidy next known m k y ye way
      (subst (λ (p : Pair). Says way (minus p (row_pair t (pair_at places) r))) (sym at_r) says) moved mv

-- ---- from pivot to pivot
pub leads_start : (l : Limits) (t : Table) (place : ℕ → Pair) (swaps : List (ℕ × ℕ)) → swaps ≡ [] → IsPlaced l t place → LeadsTo l t place swaps t place
leads_start l t place swaps e p =
    record { trace = subst (λ (s : List (ℕ × ℕ)). Reaches l t place s t place) (sym e) start; placed = p; same = λ point. ((λ h. h), (λ h. h)); wide = refl }

pub leads_more : (l : Limits) (t : Table) (place : ℕ → Pair) (swaps : List (ℕ × ℕ)) (u : Table) (q : ℕ → Pair) (w : LeadsTo l t place swaps u q) (r e : ℕ) (after : Table) (q' : ℕ → Pair) → IsMoved l u q r e after q'
    → (swaps' : List (ℕ × ℕ)) → swaps' ≡ swaps ++ (r, e) ∷ [] → LeadsTo l t place swaps' after q'
leads_more l t place swaps u q w r e after q' m swaps' s = record {
  trace = subst (λ (x : List (ℕ × ℕ)). Reaches l t place x after q') (sym s) (pivot r e w.trace m.next);
  placed = m.placed;
  same = λ point. ((λ h. (m.same point).0 ((w.same point).0 h)), (λ h. (w.same point).1 ((m.same point).1 h)));
  wide = m.next.pivoted.same_width ∙ w.wide;
}
