-- The two ways to say that a type is another one or below it.
use Rattle.std.proofs.Common.{◌≡◌, ◌⊎◌, inl, inr, ℕ, zero, suc, ◌<◌, ◌≤◌, Bool, true, false, eqb, List, [], ◌∷◌, length, refl, sym, subst, arith}
use Rattle.std.specs.Prelude.{◌==◌, IsTrue}
use Rattle.std.specs.List.{list_any, AllByRecursion, IsDistinct}
use Rattle.std.proofs.lemmas.Bool.{false≢true, eqb-true, eq-eqb, cases_Bool, or_cases, or_parts, or_left, or_right}
use Rattle.std.proofs.lemmas.Map.Steps.{length-le_from_distinct_below}
use Rattle.hierarchy.specs.Hierarchy.{parent_of, IsHierarchy, chain, is_below, IsBelow, itself, above}

pub below_same : (parents : List ℕ) (t u : ℕ) → t ≡ u → IsBelow parents t u
below_same parents t u same = subst (λ (x : ℕ). IsBelow parents t x) same itself

pub below_trans : {parents : List ℕ} {t u v : ℕ} → IsBelow parents t u → IsBelow parents u v → IsBelow parents t v
below_trans itself b = b
below_trans (above a) b = above (below_trans a b)

pub below_parent : (parents : List ℕ) (t : ℕ) → IsBelow parents t (parent_of parents t)
below_parent parents t = above itself

-- of two types above one, one is above the other
pub below_linear : {parents : List ℕ} {t u v : ℕ} → IsBelow parents t u → IsBelow parents t v → IsBelow parents u v ⊎ IsBelow parents v u
below_linear itself b = inl b
below_linear (above a) itself = inr (above a)
below_linear (above a) (above b) = below_linear a b

pub below_in_range : {parents : List ℕ} {t u : ℕ} → IsHierarchy parents → t < length parents → IsBelow parents t u → u < length parents
below_in_range hierarchy within itself = within
below_in_range {t = t} hierarchy within (above b) = below_in_range hierarchy (hierarchy t within) b

-- what a search of so many steps finds is below
sound_in : (parents : List ℕ) (n t u : ℕ) → list_any (λ a. a == u) (chain parents n t) ≡ true → IsBelow parents t u
unfolding chain
sound_in parents zero t u found = elim (or_cases (eqb t u) false found) [
  | inl same ↦ below_same parents t u (eqb-true t u same)
  | inr never ↦ absurd (false≢true never)
]
sound_in parents (suc n) t u found = elim (or_cases (eqb t u) _ found) [
  | inl same ↦ below_same parents t u (eqb-true t u same)
  | inr later ↦ above (sound_in parents n (parent_of parents t) u later)
]

pub sound : (parents : List ℕ) (t u : ℕ) → IsTrue (is_below parents t u) → IsBelow parents t u
unfolding is_below
sound parents t u found = sound_in parents (length parents) t u found

-- the types on the way from one to another
data Path (parents : List ℕ) (u : ℕ) : ℕ → List ℕ → Type 0 where
  end : Path parents u u (u ∷ [])
  step : {t : ℕ} {path : List ℕ} → Path parents u (parent_of parents t) path → Path parents u t (t ∷ path)

path_some : {parents : List ℕ} {u t : ℕ} {path : List ℕ} → Path parents u t path → 0 < length path
path_some end = omega arith
path_some (step p) = omega arith

path_in_range : {parents : List ℕ} {u t : ℕ} {path : List ℕ} → IsHierarchy parents → t < length parents → Path parents u t path → (q : ℕ) → list_any (eqb q) path ≡ true → q < length parents
path_in_range {u = u} hierarchy within end q found = elim (or_cases (eqb q u) false found) [
  | inl same ↦ omega (arith, eqb-true q u same)
  | inr never ↦ absurd (false≢true never)
]
path_in_range {t = t} hierarchy within (step p) q found = elim (or_cases (eqb q t) _ found) [
  | inl same ↦ omega (arith, eqb-true q t same)
  | inr later ↦ path_in_range hierarchy (hierarchy t within) p q later
]

-- a path that starts at a type of another, and repeats nothing if that one doesn't
record Cut (parents path : List ℕ) (u t : ℕ) : Type 0 where
  list : List ℕ
  is_path : Path parents u t list
  distinct : IsDistinct eqb path → IsDistinct eqb list

cut_at : {parents : List ℕ} {u s : ℕ} {path : List ℕ} → Path parents u s path → (t : ℕ) → list_any (eqb t) path ≡ true → Cut parents path u t
unfolding IsDistinct
cut_at {parents} {u = u} end t found = elim (or_cases (eqb t u) false found) [
  | inl same ↦ subst (λ (x : ℕ). Cut parents (u ∷ []) u x) (sym (eqb-true t u same)) (record { list = u ∷ []; is_path = end; distinct = λ d. d })
  | inr never ↦ absurd (false≢true never)
]
cut_at {parents} {u} {s} {path} (step p) t found = elim (or_cases (eqb t s) _ found) [
  | inl same ↦ subst (λ (x : ℕ). Cut parents path u x) (sym (eqb-true t s same)) (record { list = path; is_path = step p; distinct = λ d. d })
  | inr later ↦ let rest = cut_at p t later in record { list = rest.list; is_path = rest.is_path; distinct = λ d. rest.distinct d.1 }
]

apart_from : (t : ℕ) (path : List ℕ) → list_any (eqb t) path ≡ false → AllByRecursion (λ y. eqb t y ≡ false) path
apart_from t [] none = tt
apart_from t (s ∷ path) none = let parts = or_parts (eqb t s) _ none in (parts.0, apart_from t path parts.1)

-- a path that repeats nothing
record Simple (parents : List ℕ) (u t : ℕ) : Type 0 where
  list : List ℕ
  is_path : Path parents u t list
  distinct : IsDistinct eqb list

simple : {parents : List ℕ} {t u : ℕ} → IsBelow parents t u → Simple parents u t
unfolding IsDistinct
simple {u = u} itself = record { list = u ∷ []; is_path = end; distinct = (tt, tt) }
simple {t = t} (above b) =
    let rest = simple b in
    elim (cases_Bool (list_any (eqb t) rest.list)) [
      | inl met ↦ let cut = cut_at rest.is_path t met in record { list = cut.list; is_path = cut.is_path; distinct = cut.distinct rest.distinct }
      | inr new ↦ record { list = t ∷ rest.list; is_path = step rest.is_path; distinct = (apart_from t rest.list new, rest.distinct) }
    ]

found_in : {parents : List ℕ} {u t : ℕ} {path : List ℕ} (n : ℕ) → Path parents u t path → length path ≤ suc n → list_any (λ a. a == u) (chain parents n t) ≡ true
unfolding chain
found_in {u = u} zero end fits = or_left (eqb u u) _ (eq-eqb u u refl)
found_in {u = u} (suc n) end fits = or_left (eqb u u) _ (eq-eqb u u refl)
found_in zero (step p) fits = absurd (omega (arith, path_some p))
found_in {u = u} {t = t} (suc n) (step p) fits = or_right (eqb t u) _ (found_in n p (omega arith))

-- a search of as many steps as there are types finds all that is above
pub complete : (parents : List ℕ) (t u : ℕ) → IsHierarchy parents → t < length parents → IsBelow parents t u → IsTrue (is_below parents t u)
unfolding is_below
complete parents t u hierarchy within b =
    let way = simple b in
    let few = length-le_from_distinct_below way.list (length parents) way.distinct (path_in_range hierarchy within way.is_path) in
    found_in (length parents) way.is_path (omega (arith, few))

reflexive_in : (parents : List ℕ) (n t : ℕ) → list_any (λ a. a == t) (chain parents n t) ≡ true
unfolding chain
reflexive_in parents zero t = or_left (eqb t t) _ (eq-eqb t t refl)
reflexive_in parents (suc n) t = or_left (eqb t t) _ (eq-eqb t t refl)

pub reflexive : (parents : List ℕ) (t : ℕ) → IsTrue (is_below parents t t)
unfolding is_below
reflexive parents t = reflexive_in parents (length parents) t

pub transitive : (parents : List ℕ) (t u v : ℕ) → IsHierarchy parents → t < length parents → IsTrue (is_below parents t u) → IsTrue (is_below parents u v) → IsTrue (is_below parents t v)
transitive parents t u v hierarchy within a b = complete parents t v hierarchy within (below_trans (sound parents t u a) (sound parents u v b))

-- two tests that pass alike are equal
pub same_test : (a b : Bool) → (a ≡ true → b ≡ true) → (b ≡ true → a ≡ true) → a ≡ b
same_test true true f g = refl
same_test true false f g = sym (f refl)
same_test false true f g = g refl
same_test false false f g = refl

-- two types are below u alike
pub same_below : (parents : List ℕ) (s t u : ℕ) → IsHierarchy parents → s < length parents → t < length parents → (IsBelow parents s u → IsBelow parents t u) → (IsBelow parents t u → IsBelow parents s u)
    → is_below parents s u ≡ is_below parents t u
same_below parents s t u hierarchy s_within t_within f g =
    same_test _ _ (λ a. complete parents t u hierarchy t_within (f (sound parents s u a))) (λ b. complete parents s u hierarchy s_within (g (sound parents t u b)))
