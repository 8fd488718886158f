-- Clashes among touches.
use Rattle.std.proofs.Common.{◌≡◌, ℕ, ◌<◌, Bool, true, List, length, get_or, sym, ap, subst, ◌∙◌}
use Rattle.std.proofs.lemmas.List.{get_or-map, length-map}
use Rattle.std.proofs.lemmas.List.Folds.{list_any_at}
use Rattle.std.specs.List.{list_any}
use Rattle.plan_step.specs.declared.touches.Touch.{Touch}
use Rattle.plan_step.specs.Meaning.{Change}
use Rattle.plan_step.specs.Touches.{change_in, changes_of}

-- one that passes a test is among all
pub among : (test : Change → Bool) (touches : List Touch) (i : ℕ) (t : Touch) → i < length touches → t ≡ get_or touches i t → test (change_in t) ≡ true → list_any test (changes_of touches) ≡ true
among test touches i t within is passes =
    let n : i < length (changes_of touches) = subst (λ n. i < n) (sym (length-map touches change_in)) within in
    let e : get_or (changes_of touches) i (change_in t) ≡ change_in t = get_or-map change_in touches i t (change_in t) within ∙ ap change_in (sym is) in
    list_any_at test (changes_of touches) i (change_in t) n (ap test e ∙ passes)
