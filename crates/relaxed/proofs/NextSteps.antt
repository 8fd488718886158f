-- Making the next layer, action by action.
use Rattle.task_core.specs.declared.action.GAction.{GAction}
use Rattle.task_core.specs.Task.{idle}
use Rattle.relaxed.specs.declared.interval.Interval.{Interval}
use Rattle.relaxed.specs.Interval.{hull}
use Rattle.relaxed.specs.Layers.{Layer, is_supported, reached, widened}
use Rattle.relaxed.specs.inside.Nexting.{action_in, AreSupported}
use Rattle.std.proofs.Common.{◌≡◌, ℕ, ◌+◌, ◌<◌, ◌≤◌, Bool, true, false, cond, ◌||◌, List, length, drop, refl, sym, ap, ◌∙◌, Option, Some, slice_index_or}
use Rattle.std.specs.Prelude.{slice_get}
use Rattle.std.proofs.lemmas.Option.{slice_get_read, get_or_from_slice_get}
use Rattle.std.specs.List.{list_any}
use Rattle.relaxed.proofs.Dropping.{drop_next, drop_none}

or-assoc : (x y z : Bool) → ((x || y) || z) ≡ (x || (y || z))
or-assoc true y z = refl
or-assoc false y z = refl

or-false : (b : Bool) → (b || false) ≡ b
or-false true = refl
or-false false = refl

pub any-next : (p : GAction → Bool) (actions : List GAction) (i : ℕ) (a : GAction) (old new : Bool) → slice_get actions i ≡ Some a → new ≡ (old || p a)
    → (new || list_any p (drop (i + 1) actions)) ≡ (old || list_any p (drop i actions))
any-next p actions i a old new e n =
    ap (λ b. b || list_any p (drop (i + 1) actions)) n ∙ or-assoc old (p a) (list_any p (drop (i + 1) actions))
    ∙ sym (ap (λ (left : List GAction). old || list_any p left) (drop_next actions i a e))

pub any-end : (p : GAction → Bool) (actions : List GAction) (i : ℕ) (b : Bool) → length actions ≤ i → (b || list_any p (drop i actions)) ≡ b
any-end p actions i b h = ap (λ (left : List GAction). b || list_any p left) (drop_none actions i h) ∙ or-false b

pub widened-next : (y : Layer) (k : ℕ) (actions : List GAction) (i : ℕ) (a : GAction) (old new : Option Interval) → slice_get actions i ≡ Some a
    → new ≡ cond (is_supported y a) (hull old (reached y k a)) old → widened y k (drop (i + 1) actions) new ≡ widened y k (drop i actions) old
widened-next y k actions i a old new e n =
    ap (λ (o : Option Interval). widened y k (drop (i + 1) actions) o) n ∙ sym (ap (λ (left : List GAction). widened y k left old) (drop_next actions i a e))

pub widened-end : (y : Layer) (k : ℕ) (actions : List GAction) (i : ℕ) (o : Option Interval) → length actions ≤ i → widened y k (drop i actions) o ≡ o
widened-end y k actions i o h = ap (λ (left : List GAction). widened y k left o) (drop_none actions i h)

same_element : {X : Type 0} (xs : List X) (i : ℕ) (x d : X) → i < length xs → x ≡ slice_index_or xs i x → slice_index_or xs i d ≡ x
same_element xs i x d l e = get_or_from_slice_get xs i x d (slice_get_read xs (length xs) i x refl l e)

pub flag-is : (y : Layer) (actions : List GAction) (flags : List Bool) (i : ℕ) (a : GAction) → AreSupported y actions flags → i < length actions
    → a ≡ slice_index_or actions i a → slice_index_or flags i false ≡ is_supported y a
flag-is y actions flags i a h l e = h.each i l ∙ ap (is_supported y) (same_element actions i a idle l e)

pub action-is : (actions : List GAction) (i : ℕ) (a : GAction) → i < length actions → a ≡ slice_index_or actions i a → action_in actions i ≡ a
action-is actions i a l e = same_element actions i a idle l e
