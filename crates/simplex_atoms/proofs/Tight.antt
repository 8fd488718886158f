-- The tightest bounds, with one more literal.
use Rattle.std.proofs.Common.{◌≡◌, ◌≢◌, ◌<◌, ◌↔◌, IsTrue, ◌⊎◌, inl, inr, ℕ, Bool, true, false, List, [], ◌∷◌, ◌++◌, length, Option, Some, None, refl, sym, ap, subst, ◌∙◌, arith, nat_eq}
use Rattle.std.specs.Prelude.{slice_get}
use Rattle.std.specs.List.{Contains}
use Rattle.std.proofs.lemmas.List.Elements.{Contains-append_left, Contains-push, Contains-push_cases}
use Rattle.std.proofs.lemmas.Option.{same_Some}
use Rattle.formula.specs.declared.atom.Lit.{Lit}
use Rattle.tableau.proofs.SumLaws.{nat_eq-true, nat_eq-false}
use Rattle.simplex_law.specs.Pairs.{◌<ₚ◌}
use Rattle.simplex_law.specs.Bounds.{lower_pair, upper_pair}
use Rattle.simplex_law.specs.declared.bound.Bound.{Bound}
use Rattle.simplex_law.specs.declared.pair.Pair.{Pair}
use Rattle.simplex_law.proofs.PairLaws.{at_least, fails}
use Rattle.simplex_law.proofs.PairSums.{≤ₚ_same, ≤ₚ_trans, <ₚ-weaken}
use Rattle.simplex_atoms.specs.Sides.{bound_by}
use Rattle.simplex_atoms.specs.Tightest.{Gives, IsAsTight, lit_of, IsTightest, bound_at, number_at, AreTightest}
use Rattle.simplex_atoms.specs.inside.Noting.{TighterAnswers, IsNoted, IsNotedWhere}
use Rattle.simplex_atoms.specs.declared.sides.Sides.{Sides}

as_tight-same : (pos : Bool) (b c : Bound) → b ≡ c → IsAsTight pos b c
as_tight-same true b c e = ≤ₚ_same (upper_pair b) (upper_pair c) (ap upper_pair e)
as_tight-same false b c e = ≤ₚ_same (lower_pair c) (lower_pair b) (ap lower_pair (sym e))

as_tight-trans : (pos : Bool) (a b c : Bound) → IsAsTight pos a b → IsAsTight pos b c → IsAsTight pos a c
as_tight-trans true a b c h g = ≤ₚ_trans (upper_pair a) (upper_pair b) (upper_pair c) h g
as_tight-trans false a b c h g = ≤ₚ_trans (lower_pair c) (lower_pair b) (lower_pair a) g h

module _ (sides : List (Option Sides)) where
  pub one_side : (l : Lit) (s t : Sides) → slice_get sides l.boolean ≡ Some (Some s) → slice_get sides l.boolean ≡ Some (Some t) → s ≡ t
  one_side l s t e f = same_Some s t (same_Some (Some s) (Some t) (sym e ∙ f))

  pub one_bound : (l : Lit) (v : ℕ) (b c : Bound) → Gives sides l v b → Gives sides l v c → b ≡ c
  one_bound l v b c g h = g.bound ∙ ap (bound_by l.pos) (one_side l g.side h.side g.has h.has) ∙ sym h.bound

  module _ (pos : Bool) (ls : List Lit) (l : Lit) where
    -- a literal that doesn't bound v changes nothing of v
    stays : (v by : ℕ) (o : Option Bound) → ((b : Bound) → l.pos ≡ pos → Gives sides l v b → ⊥) → IsTightest sides ls pos v by o → IsTightest sides (ls ++ l ∷ []) pos v by o
    stays v by None never h = λ m b c p g. by_place m b p g (Contains-push_cases ls l m c)
      where
        by_place : (m : Lit) (b : Bound) → m.pos ≡ pos → Gives sides m v b → Contains ls m ⊎ (l ≡ m) → ⊥
        by_place m b p g (inl c) = h m b c p g
        by_place m b p g (inr e) = never b (ap (λ (k : Lit). k.pos) e ∙ p) (subst (λ (k : Lit). Gives sides k v b) (sym e) g)
    stays v by (Some d) never h = (Contains-append_left ls (l ∷ []) (lit_of by pos) h.0, h.1, λ m b c p g. by_place m b p g (Contains-push_cases ls l m c))
      where
        by_place : (m : Lit) (b : Bound) → m.pos ≡ pos → Gives sides m v b → Contains ls m ⊎ (l ≡ m) → IsAsTight pos d b
        by_place m b p g (inl c) = h.2 m b c p g
        by_place m b p g (inr e) = absurd (never b (ap (λ (k : Lit). k.pos) e ∙ p) (subst (λ (k : Lit). Gives sides k v b) (sym e) g))

    -- a bound that is as tight stays
    keeps : (v by : ℕ) (d b : Bound) → Gives sides l v b → IsAsTight pos d b → IsTightest sides ls pos v by (Some d) → IsTightest sides (ls ++ l ∷ []) pos v by (Some d)
    keeps v by d b gives t h = (Contains-append_left ls (l ∷ []) (lit_of by pos) h.0, h.1, λ m c k p g. by_place m c p g (Contains-push_cases ls l m k))
      where
        by_place : (m : Lit) (c : Bound) → m.pos ≡ pos → Gives sides m v c → Contains ls m ⊎ (l ≡ m) → IsAsTight pos d c
        by_place m c p g (inl k) = h.2 m c k p g
        by_place m c p g (inr e) =
            subst (λ (x : Bound). IsAsTight pos d x) (one_bound l v b c gives (subst (λ (k : Lit). Gives sides k v c) (sym e) g)) t

    -- a tighter one takes its place
    replaces : (v by : ℕ) (o : Option Bound) (b : Bound) → l.pos ≡ pos → Gives sides l v b → ((c : Bound) → o ≡ Some c → IsAsTight pos b c) → IsTightest sides ls pos v by o → IsTightest sides (ls ++ l ∷ []) pos v l.boolean (Some b)
    replaces v by o b sign gives t h = (
      subst (λ (k : Lit). Contains (ls ++ l ∷ []) k) own (Contains-push ls l),
      subst (λ (k : Lit). Gives sides k v b) own gives,
      λ m c k p g. by_place o t h m c p g (Contains-push_cases ls l m k),
    )
      where
        own : l ≡ lit_of l.boolean pos
        own = ap (λ (q : Bool). lit_of l.boolean q) sign

        by_place : (o : Option Bound) → ((c : Bound) → o ≡ Some c → IsAsTight pos b c) → IsTightest sides ls pos v by o → (m : Lit) (c : Bound) → m.pos ≡ pos → Gives sides m v c → Contains ls m ⊎ (l ≡ m) → IsAsTight pos b c
        by_place None t h m c p g (inl k) = absurd (h m c k p g)
        by_place (Some d) t h m c p g (inl k) = as_tight-trans pos b d c (t d refl) (h.2 m c k p g)
        by_place o t h m c p g (inr e) = as_tight-same pos b c (one_bound l v b c gives (subst (λ (k : Lit). Gives sides k v c) (sym e) g))

    -- one more literal
    module _ (n : ℕ) (bounds : List (Option Bound)) (by : List ℕ) (bounds' : List (Option Bound)) (by' : List ℕ) (h : AreTightest sides ls pos n bounds by) (w : IsNotedWhere sides l pos bounds by bounds' by') where
      other_at : ((s : Sides) → l.pos ≡ pos → slice_get sides l.boolean ≡ Some (Some s) → ⊥) → (v : ℕ) → v < n → IsTightest sides (ls ++ l ∷ []) pos v (number_at by' v) (bound_at bounds' v)
      other_at never v lv =
          let e = w.other never in
          subst (λ (xs : List (Option Bound)). IsTightest sides (ls ++ l ∷ []) pos v (number_at by' v) (bound_at xs v)) (sym e.0)
          (subst (λ (xs : List ℕ). IsTightest sides (ls ++ l ∷ []) pos v (number_at xs v) (bound_at bounds v)) (sym e.1)
          (stays v (number_at by v) (bound_at bounds v) (λ b p g. never g.side p g.has) (h.each v lv)))

      noted_at : (s : Sides) → l.pos ≡ pos → slice_get sides l.boolean ≡ Some (Some s) → (v : ℕ) → v < n → IsTightest sides (ls ++ l ∷ []) pos v (number_at by' v) (bound_at bounds' v)
      noted_at s sign has v lv = by_variable (nat_eq v s.variable) refl
        where
          i : IsNoted pos s.variable (bound_by pos s) l.boolean bounds by bounds' by'
          i = w.noted s sign has

          gives : Gives sides l s.variable (bound_by pos s)
          gives = record { side = s; has = has; variable = refl; bound = ap (λ (q : Bool). bound_by q s) (sym sign) }

          by_variable : (b : Bool) → nat_eq v s.variable ≡ b → IsTightest sides (ls ++ l ∷ []) pos v (number_at by' v) (bound_at bounds' v)
          by_variable true e =
              let same : v ≡ s.variable = nat_eq-true v s.variable e in
              subst (λ (u : ℕ). IsTightest sides (ls ++ l ∷ []) pos u (number_at by' u) (bound_at bounds' u)) (sym same) (by_kind i.at (subst (λ (u : ℕ). IsTightest sides ls pos u (number_at by u) (bound_at bounds u)) same (h.each v lv)))
            where
              by_kind : ((bound_at bounds' s.variable ≡ Some (bound_by pos s)) × (number_at by' s.variable ≡ l.boolean) × ((c : Bound) → bound_at bounds s.variable ≡ Some c → IsAsTight pos (bound_by pos s) c))
                  ⊎ ((c : Bound) × (bound_at bounds s.variable ≡ Some c) × IsAsTight pos c (bound_by pos s) × (bound_at bounds' s.variable ≡ Some c) × (number_at by' s.variable ≡ number_at by s.variable))
                  → IsTightest sides ls pos s.variable (number_at by s.variable) (bound_at bounds s.variable)
                  → IsTightest sides (ls ++ l ∷ []) pos s.variable (number_at by' s.variable) (bound_at bounds' s.variable)
              by_kind (inl (x, y, z)) old =
                  subst (λ (o : Option Bound). IsTightest sides (ls ++ l ∷ []) pos s.variable (number_at by' s.variable) o) (sym x)
                  (subst (λ (k : ℕ). IsTightest sides (ls ++ l ∷ []) pos s.variable k (Some (bound_by pos s))) (sym y)
                  (replaces s.variable (number_at by s.variable) (bound_at bounds s.variable) (bound_by pos s) sign gives z old))
              by_kind (inr (c, x, y, z, u)) old =
                  subst (λ (o : Option Bound). IsTightest sides (ls ++ l ∷ []) pos s.variable (number_at by' s.variable) o) (sym z)
                  (subst (λ (k : ℕ). IsTightest sides (ls ++ l ∷ []) pos s.variable k (Some c)) (sym u)
                  (keeps s.variable (number_at by s.variable) c (bound_by pos s) gives y
                  (subst (λ (o : Option Bound). IsTightest sides ls pos s.variable (number_at by s.variable) o) x old)))
          by_variable false e =
              let apart : v ≢ s.variable = nat_eq-false v s.variable e in
              let q = i.others v apart in
              subst (λ (o : Option Bound). IsTightest sides (ls ++ l ∷ []) pos v (number_at by' v) o) (sym q.0)
              (subst (λ (k : ℕ). IsTightest sides (ls ++ l ∷ []) pos v k (bound_at bounds v)) (sym q.1)
              (stays v (number_at by v) (bound_at bounds v) (λ b p g. apart (sym g.variable ∙ ap (λ (x : Sides). x.variable) (one_side l g.side s g.has has))) (h.each v lv)))

      pub tight_more : AreTightest sides (ls ++ l ∷ []) pos n bounds' by'
      tight_more = record { long = w.long ∙ h.long; long_by = w.long_by ∙ h.long_by; each = λ v lv. by_sign v lv l.pos refl pos refl (slice_get sides l.boolean) refl }
        where
          by_sign : (v : ℕ) → v < n → (p : Bool) → l.pos ≡ p → (q : Bool) → pos ≡ q → (o : Option (Option Sides)) → slice_get sides l.boolean ≡ o → IsTightest sides (ls ++ l ∷ []) pos v (number_at by' v) (bound_at bounds' v)
          by_sign v lv true e true f (Some (Some s)) g = noted_at s (e ∙ sym f) g v lv
          by_sign v lv false e false f (Some (Some s)) g = noted_at s (e ∙ sym f) g v lv
          by_sign v lv true e false f o g = other_at (λ s p k. cc) v lv
          by_sign v lv false e true f o g = other_at (λ s p k. cc) v lv
          by_sign v lv p e q f None g = other_at (λ s p k. cc) v lv
          by_sign v lv p e q f (Some None) g = other_at (λ s p k. cc) v lv

-- without literals there is never bound
pub tight_none : (sides : List (Option Sides)) (pos : Bool) (n : ℕ) (bounds : List (Option Bound)) (by : List ℕ) → length bounds ≡ n → length by ≡ n → ((v : ℕ) → v < n → bound_at bounds v ≡ None) → AreTightest sides [] pos n bounds by
tight_none sides pos n bounds by e f h = record {
  long = e;
  long_by = f;
  each = λ v lv. subst (λ (o : Option Bound). IsTightest sides [] pos v (number_at by v) o) (sym (h v lv)) (λ l b c p g. absurd (omega (arith, c.1)));
}

-- ---- the test whether a bound is tighter
open_test : (pos b : Bool) (x y : Bound) → (b ≡ true → IsAsTight pos x y) → (b ≡ false → IsAsTight pos y x) → TighterAnswers pos x (Some y) b
open_test pos true x y h g = h refl
open_test pos false x y h g = g refl

pub tighter_above : (pos : Bool) (x y : Bound) (b : Bool) (p q : Pair) → pos ≡ true → p ≡ upper_pair x → q ≡ upper_pair y → (IsTrue b ↔ (p <ₚ q)) → TighterAnswers pos x (Some y) b
tighter_above pos x y b p q sign e f h = subst (λ (s : Bool). TighterAnswers s x (Some y) b) (sym sign)
    (open_test true b x y
    (λ t. <ₚ-weaken (upper_pair x) (upper_pair y) (subst (λ (w : Pair). w <ₚ upper_pair y) e (subst (λ (w : Pair). p <ₚ w) f (h.0 t))))
    (λ t. at_least (upper_pair x) (upper_pair y) (λ g. fails b t (λ (l : p <ₚ q). h.1 l) (subst (λ (w : Pair). w <ₚ q) (sym e) (subst (λ (w : Pair). upper_pair x <ₚ w) (sym f) g)))))

pub tighter_below : (pos : Bool) (x y : Bound) (b : Bool) (p q : Pair) → pos ≡ false → p ≡ lower_pair y → q ≡ lower_pair x → (IsTrue b ↔ (p <ₚ q)) → TighterAnswers pos x (Some y) b
tighter_below pos x y b p q sign e f h = subst (λ (s : Bool). TighterAnswers s x (Some y) b) (sym sign)
    (open_test false b x y
    (λ t. <ₚ-weaken (lower_pair y) (lower_pair x) (subst (λ (w : Pair). w <ₚ lower_pair x) e (subst (λ (w : Pair). p <ₚ w) f (h.0 t))))
    (λ t. at_least (lower_pair y) (lower_pair x) (λ g. fails b t (λ (l : p <ₚ q). h.1 l) (subst (λ (w : Pair). w <ₚ q) (sym e) (subst (λ (w : Pair). lower_pair y <ₚ w) (sym f) g)))))

-- a bound that isn't tighter is not noted
pub not_noted : (pos : Bool) (v : ℕ) (b : Bound) (boolean : ℕ) (bounds : List (Option Bound)) (by : List ℕ) (o : Option Bound) → o ≡ bound_at bounds v → TighterAnswers pos b o false → IsNoted pos v b boolean bounds by bounds by
not_noted pos v b boolean bounds by None e h = absurd (cc)
not_noted pos v b boolean bounds by (Some c) e h = record {
  long = refl;
  long_by = refl;
  others = λ w d. (refl, refl);
  at = inr (c, sym e, h, sym e, refl);
}
