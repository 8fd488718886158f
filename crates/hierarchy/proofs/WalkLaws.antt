-- A step of a walk, and that a walk ends.
use Rattle.std.proofs.Common.{◌≡◌, ◌≢◌, inl, inr, ℕ, ◌+◌, ◌-◌, ◌<◌, ◌≤◌, eqb, List, [], ◌∷◌, ◌++◌, length, get_or, set, sym, ◌∙◌, ap, subst, arith, length-set, get_or-set_other, get_or-set_same}
use Rattle.std.specs.Prelude.{slice_index}
use Rattle.std.proofs.lemmas.Bool.{eq-eqb, cases_lt}
use Rattle.std.proofs.lemmas.List.{get_or_append_left, get_or_default, get_or_past, get_or_push, length_push}
use Rattle.std.proofs.lemmas.List.Folds.{list_any_at}
use Rattle.std.proofs.lemmas.Map.Steps.{le-length_from_below}
use Rattle.hierarchy.specs.Hierarchy.{parent_of, IsHierarchy}
use Rattle.hierarchy.specs.inside.Entries.{IsKnown, IsUnknown}
use Rattle.hierarchy.specs.inside.Walks.{IsWalk, HasPlaces, StandsAt}

-- the places tell the types of the path apart
pub distinct : (path places : List ℕ) → HasPlaces path places → (i j : ℕ) → i < j → j < length path → slice_index path i ≢ slice_index path j
distinct path places placed i j less below = λ same. absurd (omega (arith, placed i (omega (arith, less, below)), placed j below, ap (λ (t : ℕ). slice_index places t) same))

-- there are no more of them than types
pub path_short : (parents circles path places : List ℕ) (start at : ℕ) → length places ≡ length parents → IsWalk parents circles path start at → HasPlaces path places → length path ≤ length parents
path_short parents circles path places start at lengths walk placed =
    omega (
      arith,
      lengths,
      le-length_from_below places (length path)
          (λ q below. list_any_at (eqb q) places (slice_index path q) 0 (omega (arith, lengths, walk.in_range q below)) (eq-eqb q (slice_index places (slice_index path q)) (sym (placed q below)))),
    )

pushed_at : (path : List ℕ) (at d i : ℕ) → i ≤ length path → get_or (path ++ at ∷ []) i d ≡ get_or path i at
pushed_at path at d i fits = elim (cases_lt i (length path)) [
  | inl less ↦ get_or_append_left path (at ∷ []) d i less ∙ get_or_default path i d at less
  | inr end ↦ get_or_push path at d i (omega (arith, fits, end)) ∙ sym (get_or_past path i at end)
]

-- a step of the walk
module _ (parents circles path places : List ℕ) (start at : ℕ) (hierarchy : IsHierarchy parents) (walk : IsWalk parents circles path start at) where
  new : ℕ → ℕ
  new i = get_or (path ++ at ∷ []) i 0

  before : (j : ℕ) → j < length path → slice_index (path ++ at ∷ []) j ≡ slice_index path j
  before j below = get_or_append_left path (at ∷ []) 0 j below

  here : (j : ℕ) → length path ≤ j → j < length (path ++ at ∷ []) → slice_index (path ++ at ∷ []) j ≡ at
  here j end below = get_or_push path at 0 j (omega (arith, end, below, length_push path at))

  pub walk_pushed : IsUnknown circles at → IsWalk parents circles (path ++ at ∷ []) start (parent_of parents at)
  walk_pushed unknown = record {
    in_range = λ j below. elim (cases_lt j (length path)) [
      | inl less ↦ omega (arith, before j less, walk.in_range j less)
      | inr end ↦ omega (arith, here j end below, walk.ends)
    ];
    unknown = λ j below. elim (cases_lt j (length path)) [
      | inl less ↦ subst (IsUnknown circles) (sym (before j less)) (walk.unknown j less)
      | inr end ↦ subst (IsUnknown circles) (sym (here j end below)) unknown
    ];
    links = λ j below. elim (cases_lt j (length path)) [
      | inl less ↦ ap (parent_of parents) (before j less) ∙ walk.links j less ∙ sym (pushed_at path at (parent_of parents at) (j + 1) (omega (arith, less)))
      | inr end ↦ ap (parent_of parents) (here j end below) ∙ sym (get_or_past (path ++ at ∷ []) (j + 1) (parent_of parents at) (omega (arith, end, length_push path at)))
    ];
    starts = pushed_at path at (parent_of parents at) 0 (omega arith) ∙ walk.starts;
    ends = hierarchy at walk.ends;
  }

  pub places_pushed : length places ≡ length parents → HasPlaces path places → (StandsAt path places at → ⊥) → HasPlaces (path ++ at ∷ []) (set places at (length path))
  places_pushed lengths placed away j below = elim (cases_lt j (length path)) [
    | inl less ↦
        let apart : slice_index path j ≢ at = λ same. away (omega (arith, ap (λ (t : ℕ). slice_index places t) same, placed j less, less), ap (λ (t : ℕ). slice_index path (slice_index places t)) (sym same) ∙ ap (λ (i : ℕ). slice_index path i) (placed j less) ∙ same) in
        ap (λ (t : ℕ). slice_index (set places at (length path)) t) (before j less) ∙ get_or-set_other places at (slice_index path j) (length path) 0 apart ∙ placed j less
    | inr end ↦
        ap (λ (t : ℕ). slice_index (set places at (length path)) t) (here j end below)
        ∙ get_or-set_same places at (length path) 0 (omega (arith, lengths, walk.ends)) ∙ omega (arith, end, below, length_push path at)
  ]

-- the step as the code makes it
pub pushed : (parents circles path places new_path : List ℕ) (start at place : ℕ) → IsHierarchy parents → length places ≡ length parents → IsWalk parents circles path start at → HasPlaces path places
    → (IsKnown circles at → ⊥) → (StandsAt path places at → ⊥) → new_path ≡ path ++ at ∷ [] → place ≡ length path
    → IsWalk parents circles new_path start (parent_of parents at) × HasPlaces new_path (set places at place)
pushed parents circles path places new_path start at place hierarchy lengths walk placed unknown away is place_is =
    let unseen : IsUnknown circles at = elim (cases_lt (slice_index circles at) (length circles)) [ inl known ↦ absurd (unknown known) | inr over ↦ over ] in (
      subst (λ (l : List ℕ). IsWalk parents circles l start (parent_of parents at)) (sym is) (walk_pushed parents circles path places start at hierarchy walk unseen),
      subst (λ (l : List ℕ). HasPlaces l (set places at place)) (sym is)
          (subst (λ (n : ℕ). HasPlaces (path ++ at ∷ []) (set places at n)) (sym place_is) (places_pushed parents circles path places start at hierarchy walk lengths placed away)),
    )

-- a step brings the walk nearer to the number of types
pub pushed_nearer : (parents circles path places new_path : List ℕ) (start at place next : ℕ) → length places ≡ length parents → new_path ≡ path ++ at ∷ []
    → IsWalk parents circles new_path start next × HasPlaces new_path (set places at place) → length parents - length new_path < length parents - length path
pushed_nearer parents circles path places new_path start at place next lengths is both =
    omega (arith, path_short parents circles new_path (set places at place) start next (length-set places at place ∙ lengths) both.0 both.1, ap length is, length_push path at)
