-- A type whose parent is known gets its entry, and the others keep theirs.
use Rattle.std.proofs.Common.{◌≡◌, ◌≢◌, ◌⊎◌, inl, inr, ℕ, ◌+◌, ◌-◌, ◌<◌, ◌≤◌, List, length, set, sym, ◌∙◌, ap, subst, arith, length-set, get_or-set_other, get_or-set_same}
use Rattle.std.specs.Prelude.{IsTrue, slice_index}
use Rattle.std.proofs.lemmas.Bool.{cases_eq, cases_lt}
use Rattle.hierarchy.specs.Hierarchy.{parent_of, is_below, IsBelow, above}
use Rattle.hierarchy.specs.inside.Entries.{HasEntry, IsKnown, IsUnknown, IsPartlyIndexed}
use Rattle.hierarchy.specs.inside.Walks.{StaysKnown}
use Rattle.hierarchy.proofs.BelowLaws.{below_same, below_trans, sound, complete}
use Rattle.hierarchy.proofs.EntryLaws.{parent_within, parent_known, above_known, depth_falls, jump_is_above, jump_within, jump_known}

-- what is kept of a type is what it was
pub record SameAt (old_depths depths old_circles circles old_jumps jumps : List ℕ) (t : ℕ) : Type 0 where
  pub depth : slice_index depths t ≡ slice_index old_depths t
  pub circle : slice_index circles t ≡ slice_index old_circles t
  pub jump : slice_index jumps t ≡ slice_index old_jumps t

-- an entry is kept where all is kept that it speaks of
pub entry_kept : (parents old_depths depths old_circles circles old_jumps jumps : List ℕ) (t : ℕ) → HasEntry parents old_depths old_circles old_jumps t
    → SameAt old_depths depths old_circles circles old_jumps jumps t → SameAt old_depths depths old_circles circles old_jumps jumps (parent_of parents t)
    → SameAt old_depths depths old_circles circles old_jumps jumps (slice_index old_jumps t) → HasEntry parents depths circles jumps t
entry_kept parents old_depths depths old_circles circles old_jumps jumps t entry here over there = record {
  circle = over.circle ∙ entry.circle ∙ sym here.circle;
  to_circle = subst (λ (x : ℕ). IsTrue (is_below parents t x)) (sym here.circle) entry.to_circle;
  from_circle = λ top. subst (λ (x : ℕ). IsTrue (is_below parents x t)) (sym here.circle) (entry.from_circle (sym here.depth ∙ top));
  depth = omega (arith, over.depth, entry.depth, here.depth);
  jump = subst (λ (x : ℕ). IsTrue (is_below parents t x)) (sym here.jump) entry.jump;
  jump_depth = omega (arith, ap (λ (x : ℕ). slice_index depths x) here.jump, there.depth, entry.jump_depth, here.depth);
}

module _ (parents depths circles jumps : List ℕ) (index : IsPartlyIndexed parents depths circles jumps) (t : ℕ) (within : t < length parents) (unknown : IsUnknown circles t)
    (known : IsKnown circles (parent_of parents t)) (jump : ℕ) (is_jump : (jump ≡ parent_of parents t) ⊎ (jump ≡ slice_index jumps (slice_index jumps (parent_of parents t)))) where
  parent_in : parent_of parents t < length parents
  parent_in = parent_within parents depths circles jumps index t within

  jump_above : IsBelow parents (parent_of parents t) jump
  jump_above = elim is_jump [
    | inl same ↦ below_same parents (parent_of parents t) jump (sym same)
    | inr far ↦
        let near = jump_is_above parents depths circles jumps index (parent_of parents t) parent_in known in
        let near_in = jump_within parents depths circles jumps index (parent_of parents t) parent_in known in
        let near_known = jump_known parents depths circles jumps index (parent_of parents t) parent_in known in
        subst (λ (x : ℕ). IsBelow parents (parent_of parents t) x) (sym far) (below_trans near (jump_is_above parents depths circles jumps index _ near_in near_known))
  ]

  differs : (v : ℕ) → IsKnown circles v → v ≢ t
  differs v v_known = λ same. absurd (omega (arith, v_known, unknown, ap (λ (x : ℕ). slice_index circles x) same))

  same_at : (depth circle : ℕ) (v : ℕ) → v ≢ t → SameAt depths (set depths t depth) circles (set circles t circle) jumps (set jumps t jump) v
  same_at depth circle v apart = record {
    depth = get_or-set_other depths t v depth 0 apart;
    circle = get_or-set_other circles t v circle 0 apart;
    jump = get_or-set_other jumps t v jump 0 apart;
  }

  module _ (depth circle : ℕ) (depth_is : depth ≡ slice_index depths (parent_of parents t) + 1) (circle_is : circle ≡ slice_index circles (parent_of parents t)) where
    new_entry : HasEntry parents (set depths t depth) (set circles t circle) (set jumps t jump) t
    new_entry =
        let hierarchy = index.lengths.hierarchy in
        let depth_at = get_or-set_same depths t depth 0 (omega (arith, within, index.lengths.depths_length)) in
        let circle_at = get_or-set_same circles t circle 0 (omega (arith, within, index.lengths.circles_length)) in
        let jump_at = get_or-set_same jumps t jump 0 (omega (arith, within, index.lengths.jumps_length)) in
        let over = same_at depth circle (parent_of parents t) (differs _ known) in
        let there = same_at depth circle jump (differs jump (above_known parents depths circles jumps index parent_in known jump_above)) in
        record {
          circle = over.circle ∙ sym (circle_at ∙ circle_is);
          to_circle = subst (λ (x : ℕ). IsTrue (is_below parents t x)) (sym (circle_at ∙ circle_is)) (complete parents t _ hierarchy within (above (sound parents (parent_of parents t) _ (index.entries _ parent_in known).to_circle)));
          from_circle = λ top. absurd (omega (arith, top, depth_at, depth_is));
          depth = omega (arith, over.depth, depth_at, depth_is);
          jump = subst (λ (x : ℕ). IsTrue (is_below parents t x)) (sym jump_at) (complete parents t jump hierarchy within (above jump_above));
          jump_depth = omega (arith, ap (λ (x : ℕ). slice_index (set depths t depth) x) jump_at, there.depth, depth_falls parents depths circles jumps index parent_in known jump_above, depth_at, depth_is);
        }

    pub settled : IsPartlyIndexed parents (set depths t depth) (set circles t circle) (set jumps t jump)
    settled = record {
      lengths = record {
        hierarchy = index.lengths.hierarchy;
        few = index.lengths.few;
        depths_length = length-set depths t depth ∙ index.lengths.depths_length;
        circles_length = length-set circles t circle ∙ index.lengths.circles_length;
        jumps_length = length-set jumps t jump ∙ index.lengths.jumps_length;
      };
      entries = λ v v_in v_known. elim (cases_eq v t) [
        | inl same ↦ subst (λ (x : ℕ). HasEntry parents (set depths t depth) (set circles t circle) (set jumps t jump) x) (sym same) new_entry
        | inr apart ↦
            let was_known : IsKnown circles v = omega (arith, v_known, (same_at depth circle v apart).circle, length-set circles t circle) in
            entry_kept parents depths (set depths t depth) circles (set circles t circle) jumps (set jumps t jump) v (index.entries v v_in was_known) (same_at depth circle v apart)
            (same_at depth circle _ (differs _ (parent_known parents depths circles jumps index v v_in was_known)))
            (same_at depth circle _ (differs _ (jump_known parents depths circles jumps index v v_in was_known)))
      ];
    }

-- the types of a path from this place on are known, and so is the parent of the one before
pub record Settled (parents path old_circles circles : List ℕ) (i : ℕ) : Type 0 where
  pub unknown : (j : ℕ) → j < i → IsUnknown circles (slice_index path j)
  pub known : (j : ℕ) → i ≤ j → j < length path → IsKnown circles (slice_index path j)
  pub last : 0 < i → IsKnown circles (parent_of parents (slice_index path (i - 1)))
  pub kept : StaysKnown old_circles circles

-- one type more
pub settled_more : (parents path old_circles circles new_circles : List ℕ) (i : ℕ) → 0 < i → i ≤ length path
    → ((i j : ℕ) → i < j → j < length path → slice_index path i ≢ slice_index path j)
    → ((j : ℕ) → j + 1 < length path → parent_of parents (slice_index path j) ≡ slice_index path (j + 1))
    → length new_circles ≡ length circles → IsKnown new_circles (slice_index path (i - 1))
    → ((v : ℕ) → v ≢ slice_index path (i - 1) → slice_index new_circles v ≡ slice_index circles v)
    → Settled parents path old_circles circles i → Settled parents path old_circles new_circles (i - 1)
settled_more parents path old_circles circles new_circles i positive fits distinct links lengths here others so_far = record {
  unknown = λ j below. omega (arith, so_far.unknown j (omega (arith, below)), lengths, others (slice_index path j) (distinct j (i - 1) below (omega arith)));
  known = λ j from below. elim (cases_lt j i) [
    | inl less ↦ let same : i - 1 ≡ j = omega (arith, less, from) in subst (λ (k : ℕ). IsKnown new_circles (slice_index path k)) same here
    | inr later ↦ omega (arith, so_far.known j later below, lengths, others (slice_index path j) (λ same. distinct (i - 1) j (omega (arith, later)) below (sym same)))
  ];
  last = λ more.
      let next : i - 1 - 1 + 1 ≡ i - 1 = omega arith in
      subst (IsKnown new_circles) (sym (links (i - 1 - 1) (omega arith) ∙ ap (λ (k : ℕ). slice_index path k) next)) here;
  kept = λ v known.
      let still = so_far.kept v known in
      let was = so_far.unknown (i - 1) (omega arith) in
      omega (arith, still, lengths, others v (λ same. absurd (omega (arith, still, was, ap (λ (x : ℕ). slice_index circles x) same))));
}
