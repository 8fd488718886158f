-- The types of a circle get their entries, and the others keep theirs.
use Rattle.std.proofs.Common.{◌≡◌, ◌≢◌, ◌⊎◌, inl, inr, ℕ, zero, suc, ◌+◌, ◌-◌, ◌<◌, List, length, get_or, take, drop, sym, ◌∙◌, ap, subst, arith, length-drop}
use Rattle.std.specs.Prelude.{IsTrue, slice_index}
use Rattle.std.proofs.lemmas.Bool.{cases_eq, cases_lt}
use Rattle.std.proofs.lemmas.List.{get_or_default, get_or_past, get_or-take, get_or-drop, length-take-le}
use Rattle.hierarchy.specs.Hierarchy.{parent_of, is_below, IsBelow, above}
use Rattle.hierarchy.specs.inside.Entries.{HasEntry, IsKnown, IsUnknown, IsPartlyIndexed}
use Rattle.hierarchy.specs.inside.Walks.{IsWalk, IsCircleStart, IsCircleWritten, IsClimb, StaysKnown}
use Rattle.hierarchy.proofs.BelowLaws.{below_same, below_trans, below_parent, complete, reflexive}
use Rattle.hierarchy.proofs.EntryLaws.{parent_known, jump_known}
use Rattle.hierarchy.proofs.SettleLaws.{SameAt, entry_kept}

-- the types of a list are unknown, each is below the next, and the last below the first, which has this name
pub record IsCircle (parents circles circle : List ℕ) (name : ℕ) : Type 0 where
  pub in_range : (j : ℕ) → j < length circle → slice_index circle j < length parents
  pub unknown : (j : ℕ) → j < length circle → IsUnknown circles (slice_index circle j)
  pub links : (j : ℕ) → j < length circle → parent_of parents (slice_index circle j) ≡ get_or circle (j + 1) name
  pub starts : 0 < length circle → slice_index circle 0 ≡ name

-- a number is at a place of a list, or at none below
on_or_off : (circle : List ℕ) (v n : ℕ) → ((j : ℕ) × (j < n) × (slice_index circle j ≡ v)) ⊎ ((j : ℕ) → j < n → slice_index circle j ≢ v)
on_or_off circle v zero = inr (λ j below. absurd (omega (arith, below)))
on_or_off circle v (suc n) = elim (on_or_off circle v n) [
  | inl on ↦ inl (on.0, omega (arith, on.1), on.2)
  | inr off ↦ elim (cases_eq (slice_index circle n) v) [
    | inl here ↦ inl (n, omega arith, here)
    | inr apart ↦ inr (λ j below. elim (cases_lt j n) [
      | inl less ↦ off j less
      | inr end ↦ let same : n ≡ j = omega (arith, below, end) in subst (λ (k : ℕ). slice_index circle k ≢ v) same apart
    ])
  ]
]

module _ (parents circles circle : List ℕ) (name : ℕ) (ring : IsCircle parents circles circle name) where
  -- the first is below each
  up_to : (j : ℕ) → j < length circle → IsBelow parents name (slice_index circle j)
  up_to zero below = below_same parents name (slice_index circle 0) (sym (ring.starts below))
  up_to (suc j) below =
      let before : j < length circle = omega (arith, below) in
      let next : j + 1 ≡ suc j = omega arith in
      let parent = ring.links j before ∙ ap (λ (k : ℕ). get_or circle k name) next ∙ get_or_default circle (suc j) name 0 below in
      subst (IsBelow parents name) parent (below_trans (up_to j before) (below_parent parents (slice_index circle j)))

  -- and each below the first
  down_from : (k j : ℕ) → j + k ≡ length circle → IsBelow parents (get_or circle j name) name
  down_from zero j end = below_same parents (get_or circle j name) name (get_or_past circle j name (omega (arith, end)))
  down_from (suc k) j end =
      let below : j < length circle = omega (arith, end) in
      let at = get_or_default circle j name 0 below in
      subst (λ (x : ℕ). IsBelow parents x name) (sym at) (above (subst (λ (x : ℕ). IsBelow parents x name) (sym (ring.links j below)) (down_from k (j + 1) (omega (arith, end)))))

  to_name : (j : ℕ) → j < length circle → IsBelow parents (slice_index circle j) name
  to_name j below = subst (λ (x : ℕ). IsBelow parents x name) (get_or_default circle j name 0 below) (down_from (length circle - j) j (omega (arith, below)))

  -- the place of a parent
  parent_on : (j : ℕ) → j < length circle → (i : ℕ) × (i < length circle) × (parent_of parents (slice_index circle j) ≡ slice_index circle i)
  parent_on j below = elim (cases_lt (j + 1) (length circle)) [
    | inl more ↦ (j + 1, more, ring.links j below ∙ get_or_default circle (j + 1) name 0 more)
    | inr end ↦ let some : 0 < length circle = omega (arith, below) in (0, some, ring.links j below ∙ get_or_past circle (j + 1) name end ∙ sym (ring.starts some))
  ]

  module _ (old_depths depths new_circles old_jumps jumps : List ℕ) (index : IsPartlyIndexed parents old_depths circles old_jumps)
      (written : IsCircleWritten circle (length circle) name old_depths depths circles new_circles old_jumps jumps) where
    on_entry : (j : ℕ) → j < length circle → HasEntry parents depths new_circles jumps (slice_index circle j)
    on_entry j below =
        let hierarchy = index.lengths.hierarchy in
        let within = ring.in_range j below in
        let name_in : name < length parents = let some : 0 < length circle = omega (arith, below) in omega (arith, ring.starts some, ring.in_range 0 some) in
        let parent = parent_on j below in
        let parent_depth = ap (λ (x : ℕ). slice_index depths x) parent.2 ∙ written.depth parent.0 parent.1 in
        record {
          circle = ap (λ (x : ℕ). slice_index new_circles x) parent.2 ∙ written.number parent.0 parent.1 ∙ sym (written.number j below);
          to_circle = subst (λ (x : ℕ). IsTrue (is_below parents (slice_index circle j) x)) (sym (written.number j below)) (complete parents _ name hierarchy within (to_name j below));
          from_circle = λ _. subst (λ (x : ℕ). IsTrue (is_below parents x (slice_index circle j))) (sym (written.number j below)) (complete parents name _ hierarchy name_in (up_to j below));
          depth = omega (arith, parent_depth, written.depth j below);
          jump = subst (λ (x : ℕ). IsTrue (is_below parents (slice_index circle j) x)) (sym (written.jump j below)) (reflexive parents (slice_index circle j));
          jump_depth = omega (arith, ap (λ (x : ℕ). slice_index depths x) (written.jump j below), written.depth j below);
        }

    -- what is known isn't on the circle
    away : (v : ℕ) → IsKnown circles v → (j : ℕ) → j < length circle → slice_index circle j ≢ v
    away v known j below = λ same. absurd (omega (arith, known, ring.unknown j below, ap (λ (x : ℕ). slice_index circles x) same))

    off : (v : ℕ) → ((j : ℕ) → j < length circle → slice_index circle j ≢ v) → SameAt old_depths depths circles new_circles old_jumps jumps v
    off v apart = record { depth = written.depths_kept v apart; circle = written.circles_kept v apart; jump = written.jumps_kept v apart }

    pub circle_settled : length depths ≡ length old_depths → length new_circles ≡ length circles → length jumps ≡ length old_jumps → IsPartlyIndexed parents depths new_circles jumps
    circle_settled depths_length circles_length jumps_length = record {
      lengths = record {
        hierarchy = index.lengths.hierarchy;
        few = index.lengths.few;
        depths_length = depths_length ∙ index.lengths.depths_length;
        circles_length = circles_length ∙ index.lengths.circles_length;
        jumps_length = jumps_length ∙ index.lengths.jumps_length;
      };
      entries = λ v v_in v_known. elim (on_or_off circle v (length circle)) [
        | inl on ↦ subst (HasEntry parents depths new_circles jumps) on.2 (on_entry on.0 on.1)
        | inr apart ↦
            let was_known : IsKnown circles v = omega (arith, v_known, circles_length, (off v apart).circle) in
            entry_kept parents old_depths depths circles new_circles old_jumps jumps v (index.entries v v_in was_known) (off v apart)
            (off _ (away _ (parent_known parents old_depths circles old_jumps index v v_in was_known)))
            (off _ (away _ (jump_known parents old_depths circles old_jumps index v v_in was_known)))
      ];
    }

    pub circle_keeps : (v : ℕ) → length new_circles ≡ length circles → IsKnown circles v → IsKnown new_circles v
    circle_keeps v circles_length known = omega (arith, known, circles_length, (off v (away v known)).circle)

-- the circle that a walk found is the end of its path
module _ (parents circles path : List ℕ) (start end from : ℕ) (walk : IsWalk parents circles path start end) (found : IsCircleStart circles path end from) where
  drop_length : length (drop from path) + from ≡ length path
  drop_length = omega (arith, length-drop from path, found.within)

  at_drop : (j : ℕ) → slice_index (drop from path) j ≡ slice_index path (from + j)
  at_drop j = get_or-drop from path j 0

  pub is_circle : IsCircle parents circles (drop from path) end
  is_circle = record {
    in_range = λ j below. omega (arith, at_drop j, walk.in_range (from + j) (omega (arith, below, drop_length)));
    unknown = λ j below. subst (IsUnknown circles) (sym (at_drop j)) (walk.unknown (from + j) (omega (arith, below, drop_length)));
    links = λ j below.
        let next : from + j + 1 ≡ from + (j + 1) = omega arith in
        ap (parent_of parents) (at_drop j) ∙ walk.links (from + j) (omega (arith, below, drop_length)) ∙ ap (λ (k : ℕ). get_or path k end) next ∙ sym (get_or-drop from path (j + 1) end);
    starts = λ some.
        let first : from + 0 ≡ from = omega arith in
        at_drop 0 ∙ ap (λ (k : ℕ). slice_index path k) first ∙ found.circle (omega (arith, some, drop_length));
  }

  take_length : length (take from path) ≡ from
  take_length = length-take-le from path found.within

  in_front : (j : ℕ) → j < length (take from path) → j < from
  in_front j below = omega (arith, below, take_length)

  at_take : (j : ℕ) → j < from → slice_index (take from path) j ≡ slice_index path j
  at_take j below = get_or-take from path j 0 below

  -- after the circle has its number
  module _ (new_circles : List ℕ) (lengths : length new_circles ≡ length circles) (circles_length : length circles ≡ length parents)
      (numbered : (j : ℕ) → j < length (drop from path) → slice_index new_circles (slice_index (drop from path) j) ≡ end)
      (kept : (t : ℕ) → ((j : ℕ) → j < length (drop from path) → slice_index (drop from path) j ≢ t) → slice_index new_circles t ≡ slice_index circles t) where
    known_end : IsKnown new_circles (get_or path from end)
    known_end = elim (cases_lt from (length path)) [
      | inl less ↦
          let some : 0 < length (drop from path) = omega (arith, less, drop_length) in
          let first : from + 0 ≡ from = omega arith in
          let number = sym (ap (λ (x : ℕ). slice_index new_circles x) (at_drop 0 ∙ ap (λ (k : ℕ). slice_index path k) first ∙ get_or_default path from 0 end less)) ∙ numbered 0 some in
          omega (arith, number, lengths, circles_length, walk.ends)
      | inr past ↦
          let whole : from ≡ length path = omega (arith, past, found.within) in
          let none = kept end (λ j below. absurd (omega (arith, below, drop_length, whole))) in
          let at = ap (λ (x : ℕ). slice_index new_circles x) (get_or_past path from end past) in
          omega (arith, found.no_circle whole, none, at, lengths)
    ]

    -- the types before it are unknown still, and lead to a known one
    pub is_climb : ((i j : ℕ) → i < j → j < length path → slice_index path i ≢ slice_index path j) → IsClimb parents new_circles (take from path)
    is_climb distinct = record {
      in_range = λ j below. omega (arith, at_take j (in_front j below), walk.in_range j (omega (arith, in_front j below, found.within)));
      unknown = λ j below.
          let before = in_front j below in
          let was = walk.unknown j (omega (arith, before, found.within)) in
          subst (IsUnknown new_circles) (sym (at_take j before))
          (omega (arith, was, lengths, kept (slice_index path j) (λ i more same. distinct j (from + i) (omega (arith, before)) (omega (arith, more, drop_length)) (sym (sym (at_drop i) ∙ same)))));
      distinct = λ i j less below.
          let before = in_front j below in
          λ same. distinct i j less (omega (arith, before, found.within)) (sym (at_take i (omega (arith, less, before))) ∙ same ∙ at_take j before);
      links = λ j below.
          let before = in_front (j + 1) below in
          ap (parent_of parents) (at_take j (omega (arith, before))) ∙ walk.links j (omega (arith, before, found.within)) ∙ get_or_default path (j + 1) end 0 (omega (arith, before, found.within))
          ∙ sym (at_take (j + 1) before);
      last = λ some.
          let positive : 0 < from = omega (arith, some, take_length) in
          let place : length (take from path) - 1 ≡ from - 1 = omega (arith, take_length) in
          let next : from - 1 + 1 ≡ from = omega (arith, positive) in
          let parent = ap (λ (k : ℕ). parent_of parents (slice_index (take from path) k)) place ∙ ap (parent_of parents) (at_take (from - 1) (omega (arith, positive)))
          ∙ walk.links (from - 1) (omega (arith, positive, found.within)) ∙ ap (λ (k : ℕ). get_or path k end) next in
          subst (IsKnown new_circles) (sym parent) known_end;
    }

    -- after the path is settled too, the start is known
    pub start_known : (last_circles : List ℕ) → ((j : ℕ) → j < length (take from path) → IsKnown last_circles (slice_index (take from path) j)) → StaysKnown new_circles last_circles → IsKnown last_circles start
    start_known last_circles settled stays = elim (cases_lt 0 from) [
      | inl some ↦
          let first = at_take 0 some ∙ get_or_default path 0 0 end (omega (arith, some, found.within)) ∙ walk.starts in
          subst (IsKnown last_circles) first (settled 0 (omega (arith, some, take_length)))
      | inr none ↦
          let at : from ≡ 0 = omega (arith, none) in
          stays start (subst (IsKnown new_circles) (ap (λ (k : ℕ). get_or path k end) at ∙ walk.starts) known_end)
    ]
