-- Touches one by one, and the places for what they touch.
use Rattle.std.proofs.Common.{◌≡◌, ℕ, ◌+◌, ◌<◌, List, [], ◌∷◌, ◌++◌, length, get_or, take, sym, ap, ◌∙◌}
use Rattle.std.proofs.lemmas.List.{map_more}
use Rattle.plan_step.specs.declared.touches.Touch.{Touch}
use Rattle.plan_step.specs.declared.touches.Touch.TheVariants as touch
use Rattle.plan_step.specs.Held.{Held}
use Rattle.plan_step.specs.Places.{KeepsPlaces}
use Rattle.plan_step.specs.Touches.{EachTouch, HasPlace, change_in, changes_of}

-- a fact of each of the first touches
abbrev pub EachBelow : (Touch → Type 0) → List Touch → ℕ → Type 0
EachBelow P touches n = (i : ℕ) (t : Touch) → i < n → t ≡ get_or touches i t → P t

pub changes_more : (touches : List Touch) (i : ℕ) (t : Touch) → i < length touches → t ≡ get_or touches i t → changes_of (take (i + 1) touches) ≡ changes_of (take i touches) ++ change_in t ∷ []
changes_more touches i t within is = map_more change_in touches i t within ∙ ap (λ (u : Touch). changes_of (take i touches) ++ change_in u ∷ []) (sym is)

pub place_kept : (old new : Held) → KeepsPlaces old new → (t : Touch) → HasPlace old t → HasPlace new t
place_kept old new keeps (touch.Atom sign p args kept) h = keeps.atoms p args h
place_kept old new keeps (touch.Function op f args by kept) h = keeps.functions f args h

pub keeps_on : (a b c : Held) → KeepsPlaces a b → KeepsPlaces b c → KeepsPlaces a c
keeps_on a b c h k = record { atoms = λ p args here. k.atoms p args (h.atoms p args here); functions = λ f args here. k.functions f args (h.functions f args here) }

-- a touch in a list of them still has its place
pub place_among : (old new : Held) (touches : List Touch) → EachTouch (HasPlace old) touches → KeepsPlaces old new
    → (i : ℕ) (t : Touch) → i < length touches → t ≡ get_or touches i t → HasPlace new t
place_among old new touches places keeps i t within is = place_kept old new keeps t (places i t within is)
