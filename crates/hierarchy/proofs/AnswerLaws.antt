-- What the entries of all types say of what is below what.
use Rattle.std.proofs.Common.{◌≡◌, ◌⊎◌, inl, inr, ℕ, ◌<◌, ◌≤◌, eqb, List, length, refl, sym, subst, arith}
use Rattle.std.specs.Prelude.{slice_index}
use Rattle.std.proofs.lemmas.Bool.{eqb-true, eq-eqb}
use Rattle.hierarchy.specs.Hierarchy.{parent_of, is_below, is_own_ancestor, IsBelow, itself, above}
use Rattle.hierarchy.specs.inside.Entries.{IsKnown, IsIndexed, IsPartlyIndexed}
use Rattle.hierarchy.proofs.BelowLaws.{below_same, below_trans, below_linear, below_in_range, sound, complete, same_test, same_below}
use Rattle.hierarchy.proofs.EntryLaws.{circle_kept, depth_falls, jump_is_above, jump_within}

module _ (parents depths circles jumps : List ℕ) (index : IsIndexed parents depths circles jumps) where
  to_circle : (t : ℕ) → t < length parents → IsBelow parents t (slice_index circles t)
  to_circle t within = sound parents t _ (index.entries t within).to_circle

  from_circle : (t : ℕ) → t < length parents → slice_index depths t ≡ 0 → IsBelow parents (slice_index circles t) t
  from_circle t within top = sound parents _ t ((index.entries t within).from_circle top)

  known : (t : ℕ) → t < length parents → IsKnown circles t
  known t within = omega (arith, below_in_range index.lengths.hierarchy within (to_circle t within), index.lengths.circles_length)

  partly : IsPartlyIndexed parents depths circles jumps
  partly = record { lengths = index.lengths; entries = λ t within _. index.entries t within }

  falls : {t u : ℕ} → t < length parents → IsBelow parents t u → slice_index depths u ≤ slice_index depths t
  falls {t} within b = depth_falls parents depths circles jumps partly within (known t within) b

  -- above a type on a circle is what has its circle
  pub below_circle : (t u : ℕ) → t < length parents → u < length parents → slice_index depths u ≡ 0 → eqb (slice_index circles t) (slice_index circles u) ≡ is_below parents t u
  below_circle t u t_within u_within top = same_test _ _
      (λ same. complete parents t u index.lengths.hierarchy t_within
      (below_trans (to_circle t t_within) (subst (λ (x : ℕ). IsBelow parents x u) (sym (eqb-true _ _ same)) (from_circle u u_within top))))
      (λ b. eq-eqb _ _ (sym (circle_kept parents depths circles jumps partly t_within (known t t_within) (sound parents t u b))))

  -- what is on a circle stands above itself, and nothing else
  pub own_ancestor : (t : ℕ) → t < length parents → eqb (slice_index depths t) 0 ≡ is_own_ancestor parents t
  unfolding is_own_ancestor
  own_ancestor t within =
      let entry = index.entries t within in
      let parent_in = index.lengths.hierarchy t within in
      same_test _ _
      (λ top. complete parents (parent_of parents t) t index.lengths.hierarchy parent_in
      (below_trans (to_circle (parent_of parents t) parent_in) (subst (λ (x : ℕ). IsBelow parents x t) (sym entry.circle) (from_circle t within (eqb-true _ _ top)))))
      (λ b. eq-eqb _ _ (omega (arith, falls parent_in (sound parents (parent_of parents t) t b), entry.depth)))

  -- a step of the climb from a type that is deeper than u
  past : (t u : ℕ) → slice_index depths u < slice_index depths t → IsBelow parents t u → IsBelow parents (parent_of parents t) u
  past t u deeper itself = absurd (omega arith)
  past t u deeper (above b) = b

  pub step_same : (t u : ℕ) → t < length parents → slice_index depths u < slice_index depths t → is_below parents (parent_of parents t) u ≡ is_below parents t u
  step_same t u within deeper = same_below parents (parent_of parents t) t u index.lengths.hierarchy (index.lengths.hierarchy t within) within above (past t u deeper)

  pub jump_same : (t u : ℕ) → t < length parents → 0 < slice_index depths u → u < length parents → slice_index depths u ≤ slice_index depths (slice_index jumps t)
      → is_below parents (slice_index jumps t) u ≡ is_below parents t u
  jump_same t u within positive u_within fits =
      let jump = jump_is_above parents depths circles jumps partly t within (known t within) in
      let jump_in = jump_within parents depths circles jumps partly t within (known t within) in
      same_below parents (slice_index jumps t) t u index.lengths.hierarchy jump_in within (λ b. below_trans jump b) (λ b. later (slice_index jumps t) u u_within positive fits (below_linear jump b))
    where
      later : (j u : ℕ) → u < length parents → 0 < slice_index depths u → slice_index depths u ≤ slice_index depths j → IsBelow parents j u ⊎ IsBelow parents u j → IsBelow parents j u
      later j u u_within positive fits (inl b) = b
      later j u u_within positive fits (inr itself) = itself
      later j u u_within positive fits (inr (above b)) = absurd (omega (arith, falls (index.lengths.hierarchy u u_within) b, (index.entries u u_within).depth))

  -- the climb's end
  pub end_same : (t u : ℕ) → t < length parents → 0 < slice_index depths u → slice_index depths t ≤ slice_index depths u → eqb t u ≡ is_below parents t u
  end_same t u within positive fits = same_test _ _
      (λ same. complete parents t u index.lengths.hierarchy within (below_same parents t u (eqb-true t u same)))
      (λ b. eq-eqb t u (equal t u within positive fits (sound parents t u b)))
    where
      equal : (t u : ℕ) → t < length parents → 0 < slice_index depths u → slice_index depths t ≤ slice_index depths u → IsBelow parents t u → t ≡ u
      equal t u within positive fits itself = refl
      equal t u within positive fits (above b) = absurd (omega (arith, falls (index.lengths.hierarchy t within) b, (index.entries t within).depth))

  pub jump_in_range : (t : ℕ) → t < length parents → slice_index jumps t < length parents
  jump_in_range t within = jump_within parents depths circles jumps partly t within (known t within)
