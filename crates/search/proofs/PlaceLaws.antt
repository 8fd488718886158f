-- A pattern has no more places than the ground task has actions, since no action stands before itself.
use Rattle.std.proofs.Common.{◌≡◌, ℕ, zero, suc, ◌<◌, ◌≤◌, Bool, true, false, not, ◌&&◌, List, length, get_or, refl, sym, ap, subst, ◌∙◌, ◌⊎◌, inl, inr, nat_eq, arith, map, ◌^◌}
use Rattle.std.specs.List.{AllPairs, Contains, IsDistinct, list_any}
use Rattle.std.proofs.lemmas.Bool.{eqb-true, eqb-false}
use Rattle.std.proofs.lemmas.Map.Keys.{IsDistinct-from_apart}
use Rattle.std.proofs.lemmas.Map.Views.{Contains-from_any}
use Rattle.std.proofs.lemmas.Map.Steps.{length-le_from_distinct_below}
use Rattle.task_core.specs.declared.action.GAction.{GAction}
use Rattle.task_core.specs.Task.{GroundParts, action_at}
use Rattle.relaxed.specs.Layers.{is_supported, layer}
use Rattle.relaxed.specs.Supported.{is_seen, is_first}
use Rattle.relaxed.proofs.FirstLaws.{seen-supported, stays_supported}
use Rattle.pattern.specs.Pattern.{StandsBefore, IsPattern}

not_seen : (s b : Bool) → (not s && b) ≡ true → s ≡ false
not_seen true b e = absurd (cc)
not_seen false b e = refl

is_there : (s b : Bool) → (s && b) ≡ true → b ≡ true
is_there true b e = e
is_there false b e = absurd (cc)

module _ (task : GroundParts) where
  seen_after : (a : GAction) (m n : ℕ) → m < n → is_supported (layer task m) a ≡ true → is_seen task n a ≡ true
  seen_after a m zero l h = absurd (omega arith)
  seen_after a m (suc n) l h = seen-supported task n a ∙ stays_supported task a m n (omega arith) h

  no_later : (a : GAction) (m n : ℕ) → is_first task m a ≡ true → is_first task n a ≡ true → m < n → ⊥
  no_later a m n f g l =
      let seen = seen_after a m n l (is_there (not (is_seen task m a)) _ f) in
      let unseen = not_seen (is_seen task n a) _ g in
      absurd (cc)

  not_before_itself : (a : ℕ) → StandsBefore task a a → ⊥
  not_before_itself a x = by_layers x.lower
    where
      by_layers : (x.layer_a < x.layer_b) ⊎ ((x.layer_a ≡ x.layer_b) × (a < a)) → ⊥
      by_layers (inl l) = no_later (action_at task a) x.layer_a x.layer_b x.first_a x.first_b l
      by_layers (inr l) = let e = l.1 in omega (arith, e)

  apart_by : (a b : ℕ) → StandsBefore task a b → (e : Bool) → nat_eq a b ≡ e → e ≡ false
  apart_by a b x true h = absurd (not_before_itself a (subst (λ (c : ℕ). StandsBefore task a c) (sym (eqb-true a b h)) x))
  apart_by a b x false h = refl

  distinct_places : (places : List ℕ) → AllPairs (StandsBefore task) places → IsDistinct nat_eq places
  distinct_places places ordered = IsDistinct-from_apart nat_eq places (λ i j d l k. apart_by (get_or places i d) (get_or places j d) (ordered i j d l k) (nat_eq (get_or places i d) (get_or places j d)) refl)

  pub few_places : (places : List ℕ) → IsPattern task places → length places ≤ length task.actions
  few_places places is = length-le_from_distinct_below places (length task.actions) (distinct_places places is.ordered) (λ q h. ((is.supported q).0 (Contains-from_any {eq = nat_eq} eqb-true q places h)).0)

-- so a number of 32 bits holds how many
pub places_fit : (task : GroundParts) (places shown : List ℕ) → IsPattern task places → length task.actions ≤ 1000000 → shown ≡ places → length shown < 2 ^ 32
places_fit task places shown is few same =
    let e : length shown ≡ length places = ap length same in
    let h = few_places task places is in
    omega (arith, e, h, few)
