-- What follows from the entries of the known types.
use Rattle.std.proofs.Common.{◌≡◌, inl, inr, ℕ, zero, suc, ◌<◌, ◌≤◌, true, eqb, List, length, refl, ◌∙◌, arith}
use Rattle.std.specs.Prelude.{slice_index}
use Rattle.std.specs.List.{list_any}
use Rattle.std.proofs.lemmas.Bool.{eq-eqb, cases_lt}
use Rattle.std.proofs.lemmas.List.Folds.{list_any_at}
use Rattle.std.proofs.lemmas.Map.Steps.{le-length_from_below}
use Rattle.hierarchy.specs.Hierarchy.{parent_of, IsBelow, itself, above}
use Rattle.hierarchy.specs.inside.Entries.{IsKnown, IsPartlyIndexed, CanJump}
use Rattle.hierarchy.proofs.BelowLaws.{below_in_range, sound}

module _ (parents depths circles jumps : List ℕ) (index : IsPartlyIndexed parents depths circles jumps) where
  pub parent_within : (t : ℕ) → t < length parents → parent_of parents t < length parents
  parent_within t within = index.lengths.hierarchy t within

  pub parent_known : (t : ℕ) → t < length parents → IsKnown circles t → IsKnown circles (parent_of parents t)
  parent_known t within known = omega (arith, (index.entries t within known).circle)

  -- all above a type have its circle
  pub circle_kept : {t u : ℕ} → t < length parents → IsKnown circles t → IsBelow parents t u → slice_index circles u ≡ slice_index circles t
  circle_kept within known itself = refl
  circle_kept {t = t} within known (above b) = circle_kept (parent_within t within) (parent_known t within known) b ∙ (index.entries t within known).circle

  pub above_known : {t u : ℕ} → t < length parents → IsKnown circles t → IsBelow parents t u → IsKnown circles u
  above_known within known b = omega (arith, circle_kept within known b)

  -- none above a type is deeper
  pub depth_falls : {t u : ℕ} → t < length parents → IsKnown circles t → IsBelow parents t u → slice_index depths u ≤ slice_index depths t
  depth_falls within known itself = omega arith
  depth_falls {t = t} within known (above b) = omega (arith, depth_falls (parent_within t within) (parent_known t within known) b, (index.entries t within known).depth)

  pub jump_is_above : (t : ℕ) → t < length parents → IsKnown circles t → IsBelow parents t (slice_index jumps t)
  jump_is_above t within known = sound parents t (slice_index jumps t) (index.entries t within known).jump

  pub jump_within : (t : ℕ) → t < length parents → IsKnown circles t → slice_index jumps t < length parents
  jump_within t within known = below_in_range index.lengths.hierarchy within (jump_is_above t within known)

  pub jump_known : (t : ℕ) → t < length parents → IsKnown circles t → IsKnown circles (slice_index jumps t)
  jump_known t within known = above_known within known (jump_is_above t within known)

  pub can_jump : (t : ℕ) → t < length parents → IsKnown circles t → CanJump depths jumps t
  can_jump t within known = (omega (arith, jump_within t within known, index.lengths.jumps_length), omega (arith, (index.entries t within known).jump_depth))

  -- above a type there is one of each smaller depth
  has_depths : (d t : ℕ) → t < length parents → IsKnown circles t → slice_index depths t ≡ d → (q : ℕ) → q < suc d → list_any (eqb q) depths ≡ true
  has_depths zero t within known is q below =
      list_any_at (eqb q) depths t 0 (omega (arith, within, index.lengths.depths_length)) (eq-eqb q (slice_index depths t) (omega (arith, is, below)))
  has_depths (suc d) t within known is q below = elim (cases_lt q (suc d)) [
    | inl less ↦ has_depths d (parent_of parents t) (parent_within t within) (parent_known t within known) (omega (arith, (index.entries t within known).depth, is)) q less
    | inr equal ↦ list_any_at (eqb q) depths t 0 (omega (arith, within, index.lengths.depths_length)) (eq-eqb q (slice_index depths t) (omega (arith, is, below, equal)))
  ]

  pub depth_small : (t : ℕ) → t < length parents → IsKnown circles t → slice_index depths t < length parents
  depth_small t within known =
      let all = le-length_from_below depths (suc (slice_index depths t)) (has_depths (slice_index depths t) t within known refl) in
      omega (arith, all, index.lengths.depths_length)
