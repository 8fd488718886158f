-- An action has one first layer; so a task has one pattern.
use Rattle.std.proofs.Common.{◌≡◌, ℕ, zero, suc, ◌<◌, ◌≤◌, Bool, true, false, not, ◌&&◌, List, [], ◌∷◌, refl, sym, ap, subst, ◌∙◌, ◌⊎◌, inl, inr, nat_eq, arith}
use Rattle.std.specs.List.{AllPairs, Contains}
use Rattle.std.proofs.lemmas.Bool.{cases_lt, eqb-true, eqb-false}
use Rattle.std.proofs.lemmas.Map.Made.{Contains-tail}
use Rattle.task_core.specs.declared.action.GAction.{GAction}
use Rattle.task_core.specs.Task.{GroundParts, action_at}
use Rattle.relaxed.specs.Layers.{is_supported, layer}
use Rattle.relaxed.specs.Supported.{is_seen, is_first}
use Rattle.relaxed.proofs.FirstLaws.{seen-supported, stays_supported}
use Rattle.pattern.specs.Pattern.{StandsBefore, IsPattern}

not_seen : (s b : Bool) → (not s && b) ≡ true → s ≡ false
not_seen true b e = absurd (cc)
not_seen false b e = refl

is_there : (s b : Bool) → (s && b) ≡ true → b ≡ true
is_there true b e = e
is_there false b e = absurd (cc)

module _ (task : GroundParts) where
  seen_after : (a : GAction) (m n : ℕ) → m < n → is_supported (layer task m) a ≡ true → is_seen task n a ≡ true
  seen_after a m zero l h = absurd (omega arith)
  seen_after a m (suc n) l h = seen-supported task n a ∙ stays_supported task a m n (omega arith) h

  no_later : (a : GAction) (m n : ℕ) → is_first task m a ≡ true → is_first task n a ≡ true → m < n → ⊥
  no_later a m n f g l =
      let seen = seen_after a m n l (is_there (not (is_seen task m a)) _ f) in
      let unseen = not_seen (is_seen task n a) _ g in
      absurd (cc)

  one_first : (a : GAction) (m n : ℕ) → is_first task m a ≡ true → is_first task n a ≡ true → m ≡ n
  one_first a m n f g = by_place (cases_lt m n) (cases_lt n m)
    where
      by_place : (m < n) ⊎ (n ≤ m) → (n < m) ⊎ (m ≤ n) → m ≡ n
      by_place (inl l) k = absurd (no_later a m n f g l)
      by_place (inr l) (inl k) = absurd (no_later a n m g f k)
      by_place (inr l) (inr k) = omega arith

  one_way : (a b : ℕ) → StandsBefore task a b → StandsBefore task b a → ⊥
  one_way a b x y = by_layers x.lower y.lower
    where
      at_a : x.layer_a ≡ y.layer_b
      at_a = one_first (action_at task a) x.layer_a y.layer_b x.first_a y.first_b

      at_b : x.layer_b ≡ y.layer_a
      at_b = one_first (action_at task b) x.layer_b y.layer_a x.first_b y.first_a

      by_layers : (x.layer_a < x.layer_b) ⊎ ((x.layer_a ≡ x.layer_b) × (a < b)) → (y.layer_a < y.layer_b) ⊎ ((y.layer_a ≡ y.layer_b) × (b < a)) → ⊥
      by_layers (inl l) (inl k) = let e = at_a in let f = at_b in omega arith
      by_layers (inl l) (inr k) = let e = at_a in let f = at_b in let g = k.0 in omega arith
      by_layers (inr l) (inl k) = let e = at_a in let f = at_b in let g = l.0 in omega arith
      by_layers (inr l) (inr k) = let e = l.1 in let f = k.1 in omega arith

-- ---- a list in which each stands before all later ones is told by its elements
module _ {R : ℕ → ℕ → Type 0} (one_way : (a b : ℕ) → R a b → R b a → ⊥) where
  at_head : (x : ℕ) (xs : List ℕ) → AllPairs R (x ∷ xs) → (a : ℕ) → Contains xs a → R x a
  at_head x xs h a c = subst (R x) c.2 (h 0 (suc c.0) a (omega arith) (let l = c.1 in omega arith))

  at_tail : (x : ℕ) (xs : List ℕ) → AllPairs R (x ∷ xs) → AllPairs R xs
  at_tail x xs h i j d l k = h (suc i) (suc j) d (omega arith) (omega arith)

  behind : (x : ℕ) (xs : List ℕ) (a : ℕ) → Contains xs a → Contains (x ∷ xs) a
  behind x xs a c = (suc c.0, (let l = c.1 in omega arith), c.2)

  tail_within : (x : ℕ) (xs ys : List ℕ) → AllPairs R (x ∷ xs) → ((a : ℕ) → Contains (x ∷ xs) a → Contains (x ∷ ys) a) → (a : ℕ) → Contains xs a → Contains ys a
  tail_within x xs ys h f a c =
      Contains-tail x ys a (λ e. let r = at_head x xs h a c in one_way x x (subst (R x) (sym e) r) (subst (R x) (sym e) r)) (f a (behind x xs a c))

  pub same_elements : (xs ys : List ℕ) → AllPairs R xs → AllPairs R ys → ((a : ℕ) → Contains xs a → Contains ys a) → ((a : ℕ) → Contains ys a → Contains xs a) → xs ≡ ys
  same_elements [] [] h k f g = refl
  same_elements [] (y ∷ ys) h k f g = let c = g y (0, omega arith, refl) in let l = c.1 in absurd (omega arith)
  same_elements (x ∷ xs) [] h k f g = let c = f x (0, omega arith, refl) in let l = c.1 in absurd (omega arith)
  same_elements (x ∷ xs) (y ∷ ys) h k f g = by_test (nat_eq x y) refl (same_elements xs ys (at_tail x xs h) (at_tail y ys k))
    where
      by_test : (b : Bool) → nat_eq x y ≡ b → (((a : ℕ) → Contains xs a → Contains ys a) → ((a : ℕ) → Contains ys a → Contains xs a) → xs ≡ ys) → (x ∷ xs) ≡ (y ∷ ys)
      by_test false e ih =
          let no = eqb-false x y e in
          absurd (one_way x y
          (at_head x xs h y (Contains-tail x xs y no (g y (0, omega arith, refl))))
          (at_head y ys k x (Contains-tail y ys x (λ w. no (sym w)) (f x (0, omega arith, refl)))))
      by_test true e ih =
          let same : x ≡ y = eqb-true x y e in
          let to : (a : ℕ) → Contains xs a → Contains ys a = tail_within x xs ys h (subst (λ (z : ℕ). (a : ℕ) → Contains (x ∷ xs) a → Contains (z ∷ ys) a) (sym same) f) in
          let from : (a : ℕ) → Contains ys a → Contains xs a = tail_within y ys xs k (subst (λ (z : ℕ). (a : ℕ) → Contains (y ∷ ys) a → Contains (z ∷ xs) a) same g) in
          ap (λ (z : ℕ). z ∷ xs) same ∙ ap (λ (zs : List ℕ). y ∷ zs) (ih to from)

pub one-pattern : (task : GroundParts) (ps qs : List ℕ) → IsPattern task ps → IsPattern task qs → ps ≡ qs
one-pattern task ps qs p q =
    same_elements {R = StandsBefore task} (one_way task) ps qs p.ordered q.ordered
    (λ a c. (q.supported a).1 ((p.supported a).0 c)) (λ a c. (p.supported a).1 ((q.supported a).0 c))
