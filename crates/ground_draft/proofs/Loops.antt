-- Loops that make operations in order: what is so far, and what is left of the items.
use Rattle.std.proofs.Common.{◌≡◌, ℕ, zero, suc, ◌+◌, ◌<◌, ◌≤◌, Bool, true, false, cond, List, [], ◌∷◌, ◌++◌, length, drop, get_or, Option, Some, None, refl, sym, ap, subst, ◌∙◌, append_assoc, arith}
use Rattle.std.specs.Prelude.{is_some}
use Rattle.std.proofs.lemmas.List.{drop_more, drop_all, append-nil}
use Rattle.frac128.specs.declared.operations.Wide.{Wide}
use Rattle.lin.specs.declared.failure.LinFail.{LinFail}
use Rattle.lin.specs.Operations.{AllFit, IsFirstPassing, IsRefusal}
use Rattle.lin.proofs.Leading.{IsLeft, left-start, left-all_fit, left-none, left-first, refused_more}
use Rattle.ground_action.specs.Work.{until_end}
use Rattle.ground_draft.specs.inside.Running.{run, ops_run}
use Rattle.ground_draft.specs.inside.Made.{with_first, all_made}

next : {X : Type 0} (xs : List X) (i : ℕ) (x : X) → i < length xs → x ≡ get_or xs i x → drop i xs ≡ x ∷ drop (i + 1) xs
next {X} xs i x within is = drop_more xs i x within ∙ ap (λ (y : X). y ∷ drop (i + 1) xs) (sym is)

-- an item at its place, whatever stands for one beyond the last
pub same_item : {X : Type 0} (xs : List X) (i : ℕ) (d : X) → i < length xs → get_or xs i d ≡ get_or xs i (get_or xs i d)
same_item [] i d within = absurd (omega arith)
same_item (x ∷ xs) zero d within = refl
same_item (x ∷ xs) (suc i) d within = same_item xs i d (omega arith)

-- ---- each item, from a state to the next
pub record IsRunning {S X : Type 0} (step : S → X → S) (ops : S → X → List Wide) (s0 : S) (xs : List X) (s : S) (i : ℕ) : Type 0 where
  pub left : IsLeft (ops_run step ops s (drop i xs)) (ops_run step ops s0 xs)
  pub value : run step s (drop i xs) ≡ run step s0 xs

module _ {S X : Type 0} (step : S → X → S) (ops : S → X → List Wide) (s0 : S) (xs : List X) where
  abbrev all : List Wide
  all = ops_run step ops s0 xs

  pub running-start : (s : S) → s ≡ s0 → IsRunning step ops s0 xs s 0
  running-start s e = record {
    left = let P : S → Type 0 = λ t. IsLeft (ops_run step ops t xs) all in subst P (sym e) (left-start all);
    value = ap (λ t. run step t xs) e;
  }

  module _ (s : S) (i : ℕ) (x : X) (within : i < length xs) (is : x ≡ get_or xs i x) (h : IsRunning step ops s0 xs s i) where
    abbrev rest : List X
    rest = drop (i + 1) xs

    left-next : IsLeft (ops s x ++ ops_run step ops (step s x) rest) all
    left-next = let P : List X → Type 0 = λ ys. IsLeft (ops_run step ops s ys) all in subst P (next xs i x within is) h.left

    pub running-first : (w : Wide) → IsFirstPassing w (ops s x) → IsFirstPassing w all
    running-first w g = left-first w (ops s x) (ops_run step ops (step s x) rest) all left-next g

    pub running-refused : (e : LinFail) → IsRefusal (ops s x) e → IsRefusal all e
    running-refused e g = refused_more (ops s x) all e running-first g

    pub running-next : (t : S) → AllFit (ops s x) → t ≡ step s x → IsRunning step ops s0 xs t (i + 1)
    running-next t f e = record {
      left = let P : S → Type 0 = λ u. IsLeft (ops_run step ops u rest) all in subst P (sym e) (left-all_fit (ops s x) (ops_run step ops (step s x) rest) all left-next f);
      value = ap (λ u. run step u rest) e ∙ sym (ap (run step s) (next xs i x within is)) ∙ h.value;
    }

  pub running-done : (s : S) (i : ℕ) → length xs ≤ i → IsRunning step ops s0 xs s i → AllFit all × (s ≡ run step s0 xs)
  running-done s i l h =
      let e = drop_all i xs l in
      let P : List X → Type 0 = λ ys. IsLeft (ops_run step ops s ys) all in
      (left-none all (subst P e h.left), sym (ap (run step s) e) ∙ h.value)

-- ---- each item, up to the first that isn't made
abbrev pub behind : {B : Type 0} → List B → Option (List B) → Option (List B)
behind ys None = None
behind ys (Some zs) = Some (ys ++ zs)

behind-nil : {B : Type 0} (o : Option (List B)) → o ≡ behind [] o
behind-nil None = refl
behind-nil (Some zs) = refl

behind-more : {B : Type 0} (ys : List B) (y : B) (o : Option (List B)) → behind ys (with_first (Some y) o) ≡ behind (ys ++ y ∷ []) o
behind-more ys y None = refl
behind-more ys y (Some zs) = ap Some (sym (append_assoc ys (y ∷ []) zs))

pub record IsMaking {A B : Type 0} (made : A → Bool) (ops : A → List Wide) (f : A → Option B) (xs : List A) (ys : List B) (i : ℕ) : Type 0 where
  pub left : IsLeft (until_end made ops (drop i xs)) (until_end made ops xs)
  pub value : all_made f xs ≡ behind ys (all_made f (drop i xs))

module _ {A B : Type 0} (made : A → Bool) (ops : A → List Wide) (f : A → Option B) (agree : (x : A) → made x ≡ is_some (f x)) (xs : List A) where
  abbrev every : List Wide
  every = until_end made ops xs

  pub making-start : (ys : List B) → ys ≡ [] → IsMaking made ops f xs ys 0
  making-start ys e = record { left = left-start every; value = behind-nil (all_made f xs) ∙ ap (λ zs. behind zs (all_made f xs)) (sym e) }

  module _ (ys : List B) (i : ℕ) (x : A) (within : i < length xs) (is : x ≡ get_or xs i x) (h : IsMaking made ops f xs ys i) where
    abbrev later : List A
    later = drop (i + 1) xs

    left-on : IsLeft (ops x ++ cond (made x) (until_end made ops later) []) every
    left-on = let P : List A → Type 0 = λ zs. IsLeft (until_end made ops zs) every in subst P (next xs i x within is) h.left

    value-on : all_made f xs ≡ behind ys (with_first (f x) (all_made f later))
    value-on = h.value ∙ ap (λ zs. behind ys (all_made f zs)) (next xs i x within is)

    left-by : (b : Bool) → made x ≡ b → IsLeft (ops x ++ cond b (until_end made ops later) []) every
    left-by b e = let P : Bool → Type 0 = λ t. IsLeft (ops x ++ cond t (until_end made ops later) []) every in subst P e left-on

    pub making-refused : (e : LinFail) → IsRefusal (ops x) e → IsRefusal every e
    making-refused e g = refused_more (ops x) every e (λ w k. left-first w (ops x) _ every left-on k) g

    pub making-next : (y : B) (zs : List B) → AllFit (ops x) → Some y ≡ f x → zs ≡ ys ++ y ∷ [] → IsMaking made ops f xs zs (i + 1)
    making-next y zs fit e same = record {
      left = left-all_fit (ops x) (until_end made ops later) every (left-by true (agree x ∙ ap is_some (sym e))) fit;
      value = value-on ∙ ap (λ o. behind ys (with_first o (all_made f later))) (sym e) ∙ behind-more ys y (all_made f later) ∙ ap (λ vs. behind vs (all_made f later)) (sym same);
    }

    pub making-none : AllFit (ops x) → None ≡ f x → AllFit every × (None ≡ all_made f xs)
    making-none fit e =
        (left-none every (left-all_fit (ops x) [] every (left-by false (agree x ∙ ap is_some (sym e))) fit), sym (value-on ∙ ap (λ o. behind ys (with_first o (all_made f later))) (sym e)))

  pub making-done : (ys : List B) (i : ℕ) → length xs ≤ i → IsMaking made ops f xs ys i → AllFit every × (Some ys ≡ all_made f xs)
  making-done ys i l h =
      let e = drop_all i xs l in
      let P : List A → Type 0 = λ zs. IsLeft (until_end made ops zs) every in
      (left-none every (subst P e h.left), sym (h.value ∙ ap (λ zs. behind ys (all_made f zs)) e ∙ ap Some (append-nil ys)))
