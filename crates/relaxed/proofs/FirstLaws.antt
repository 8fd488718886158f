-- The first layer that supports an action: what any layer supports, each later one does, and after the end nothing is new.
use Rattle.std.proofs.Common.{◌≡◌, ℕ, zero, suc, ◌+◌, ◌-◌, ◌<◌, ◌≤◌, Bool, true, false, ◌||◌, refl, ap, sym, subst, ◌∙◌, ◌⊎◌, inl, inr, arith}
use Rattle.std.proofs.lemmas.Bool.{cases_lt}
use Rattle.task_core.specs.declared.action.GAction.{GAction}
use Rattle.task_core.specs.Task.{GroundParts}
use Rattle.relaxed.specs.Layers.{Layer, is_supported, next_layer, layer, EndsAt}
use Rattle.relaxed.specs.Supported.{is_seen}
use Rattle.relaxed.proofs.Wider.{supported-next}

pub seen-supported : (task : GroundParts) (n : ℕ) (a : GAction) → is_seen task (suc n) a ≡ is_supported (layer task n) a
seen-supported task zero a = refl
seen-supported task (suc n) a = ap (λ b. b || is_supported (layer task (suc n)) a) (seen-supported task n a) ∙ by_tests (is_supported (layer task n) a) (is_supported (layer task (suc n)) a) (supported-next task n a)
  where
    by_tests : (b c : Bool) → (b ≡ true → c ≡ true) → (b || c) ≡ c
    by_tests true c h = sym (h refl)
    by_tests false c h = refl

pub supported-later : (task : GroundParts) (a : GAction) (n d : ℕ) → is_supported (layer task n) a ≡ true → is_supported (layer task (d + n)) a ≡ true
supported-later task a n zero h = let same : n ≡ 0 + n = omega arith in subst (λ (m : ℕ). is_supported (layer task m) a ≡ true) same h
supported-later task a n (suc d) h =
    let same : suc (d + n) ≡ suc d + n = omega arith in
    subst (λ (m : ℕ). is_supported (layer task m) a ≡ true) same (supported-next task (d + n) a (supported-later task a n d h))

pub after-end : (task : GroundParts) (e : ℕ) → EndsAt task e → (d : ℕ) → layer task (d + e) ≡ layer task e
after-end task e h zero = let q : 0 + e ≡ e = omega arith in ap (layer task) q
after-end task e h (suc d) = let q : suc d + e ≡ suc (d + e) = omega arith in ap (layer task) q ∙ ap (next_layer task) (after-end task e h d) ∙ h

-- what any layer supports, the last one does
pub supported-at_end : (task : GroundParts) (e : ℕ) → EndsAt task e → (a : GAction) (n : ℕ) → is_supported (layer task n) a ≡ true → is_supported (layer task e) a ≡ true
supported-at_end task e h a n s = by_place (cases_lt n e)
  where
    by_place : (n < e) ⊎ (e ≤ n) → is_supported (layer task e) a ≡ true
    by_place (inl l) =
        let same : (e - n) + n ≡ e = omega arith in
        subst (λ (m : ℕ). is_supported (layer task m) a ≡ true) same (supported-later task a n (e - n) s)
    by_place (inr l) =
        let same : n ≡ (n - e) + e = omega arith in
        subst (λ (y : Layer). is_supported y a ≡ true) (after-end task e h (n - e)) (subst (λ (m : ℕ). is_supported (layer task m) a ≡ true) same s)

pub stays_supported : (task : GroundParts) (a : GAction) (m n : ℕ) → m ≤ n → is_supported (layer task m) a ≡ true → is_supported (layer task n) a ≡ true
stays_supported task a m n l h =
    let same : (n - m) + m ≡ n = omega arith in
    subst (λ (i : ℕ). is_supported (layer task i) a ≡ true) same (supported-later task a m (n - m) h)
