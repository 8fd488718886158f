-- Parts joined from the left, part by part.
use Rattle.std.proofs.Common.{◌≡◌, ℕ, ◌+◌, ◌<◌, ◌≤◌, List, map, length, get_or, drop, sym, ap, ◌∙◌}
use Rattle.std.proofs.lemmas.List.{at_drop_more, at_drop_all}
use Rattle.lin.specs.declared.failure.LinFail.{LinFail}
use Rattle.plan_step.specs.Met.{Met, found, lacks, and_then}
use Rattle.ground_parts.specs.declared.part.Part.{Part}
use Rattle.ground_parts.specs.declared.joint.Joint.{Joint}
use Rattle.ground_parts.specs.inside.Giving.{FailsAs}
use Rattle.ground_parts.specs.inside.Parts.{joined, folded_from}
use Rattle.ground_parts.proofs.Making.{fails_then, fails_as}

module _ {E : Type 0} (f : E → Met Part) (j : Joint) (all : Met Part) (x : Part) (parts : List E) (i : ℕ) where
  -- so far all is joined to x
  abbrev pub IsFolded : Type 0
  IsFolded = all ≡ folded_from j x (map f (drop i parts))

  pub fold_end : IsFolded → length parts ≤ i → all ≡ found x
  fold_end h e = h ∙ at_drop_all (λ es. folded_from j x (map f es)) parts i e

  module _ (h : IsFolded) (within : i < length parts) (part : E) (is : part ≡ get_or parts i part) where
    rest : Part → Met Part
    rest q = and_then (joined j x q) (λ r. folded_from j r (map f (drop (i + 1) parts)))

    next : all ≡ and_then (f part) (λ q. and_then (joined j x q) (λ r. folded_from j r (map f (drop (i + 1) parts))))
    next = h ∙ at_drop_more (λ es. folded_from j x (map f es)) parts i part within ∙ ap (λ e. and_then (f e) (λ q. and_then (joined j x q) (λ r. folded_from j r (map f (drop (i + 1) parts))))) (sym is)

    pub fold_none : f part ≡ lacks → all ≡ lacks
    fold_none e = next ∙ ap (λ (m : Met Part). and_then m (λ q. and_then (joined j x q) (λ r. folded_from j r (map f (drop (i + 1) parts))))) e

    pub fold_fails : (e : LinFail) → FailsAs (f part) e → FailsAs all e
    fold_fails e g = fails_as _ all e (sym next) (fails_then (f part) _ e g)

    after : (q : Part) → f part ≡ found q → all ≡ and_then (joined j x q) (λ r. folded_from j r (map f (drop (i + 1) parts)))
    after q e = next ∙ ap (λ (m : Met Part). and_then m (λ q. and_then (joined j x q) (λ r. folded_from j r (map f (drop (i + 1) parts))))) e

    pub join_none : (q : Part) → f part ≡ found q → joined j x q ≡ lacks → all ≡ lacks
    join_none q e g = after q e ∙ ap (λ (m : Met Part). and_then m (λ r. folded_from j r (map f (drop (i + 1) parts)))) g

    pub join_fails : (q : Part) (e : LinFail) → f part ≡ found q → FailsAs (joined j x q) e → FailsAs all e
    join_fails q e d g = fails_as _ all e (sym (after q d)) (fails_then (joined j x q) _ e g)

    pub fold_more : (q r : Part) → f part ≡ found q → joined j x q ≡ found r → all ≡ folded_from j r (map f (drop (i + 1) parts))
    fold_more q r e g = after q e ∙ ap (λ (m : Met Part). and_then m (λ r. folded_from j r (map f (drop (i + 1) parts)))) g
