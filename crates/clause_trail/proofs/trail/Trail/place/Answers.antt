use Rattle.std.proofs.Common.{◌≡◌, ◌<◌, ℕ, subst, ap, ◌∙◌, sym, Option, List, length, refl, slice_get}
use Rattle.std.specs.List.{sum_by}
use Rattle.std.specs.Option.{option_flatten, MatchOption, IfSome}
use Rattle.formula.specs.declared.atom.Lit.{Lit}
use Rattle.clause_trail.specs.Standing.{Stands, Trailed, free_of}
use Rattle.clause_trail.proofs.Places.{place_found, place_within}
use Rattle.clause_trail.proofs.trail.Trail.place.Goals as goal

pub returns-clause-found : goal.returns-clause-found
returns-clause-found c =
    let Found : Trailed → Option ℕ → Type 0 = λ t r. MatchOption r ((p : ℕ) (l : Lit) → Stands t.entries p l → l.boolean ≡ c.args.boolean → ⊥) (λ p. (l : Lit) × Stands t.entries p l × (l.boolean ≡ c.args.boolean)) in
    let found = place_found c.self.inside.place.items c.self.inside.entries.items c.self.invariant.placed c.args.boolean _ refl in
    let is : option_flatten (slice_get c.self.inside.place.items c.args.boolean) ≡ c.place_in.result = sym (c.place_in.ensures ∙ ap (λ (l : List (Option ℕ)). option_flatten (slice_get l c.args.boolean)) c.as_slice.ensures.value) in
    subst (λ (t : Trailed). Found t c.place_in.result) c.self.view_is (subst (λ (r : Option ℕ). Found (record { entries = c.self.inside.entries.items; booleans = length c.self.inside.place.items; free = sum_by free_of c.self.inside.place.items }) r) is found)

pub returns-clause-within : goal.returns-clause-within
returns-clause-within c =
    let within = place_within c.self.inside.place.items c.self.inside.entries.items c.self.invariant.placed c.args.boolean _ refl in
    let is : option_flatten (slice_get c.self.inside.place.items c.args.boolean) ≡ c.place_in.result = sym (c.place_in.ensures ∙ ap (λ (l : List (Option ℕ)). option_flatten (slice_get l c.args.boolean)) c.as_slice.ensures.value) in
    subst (λ (t : Trailed). IfSome c.place_in.result (λ p. p < length t.entries)) c.self.view_is (subst (λ (r : Option ℕ). IfSome r (λ p. p < length c.self.inside.entries.items)) is within)
