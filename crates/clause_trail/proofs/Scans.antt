-- What is left after the scan of a clause.
use Rattle.std.proofs.Common.{◌≡◌, ◌⊎◌, ◌<◌, ℕ, Some, get_or, inl, inr, refl, subst, List}
use Rattle.std.specs.List.{slice_get}
use Rattle.std.proofs.lemmas.Option.{get_or_from_slice_get}
use Rattle.formula.specs.declared.atom.Lit.{Lit}
use Rattle.clause_trail.specs.declared.trail.Entry.{Entry}
use Rattle.clause_trail.specs.declared.scanning.Scanned.{Scanned}
use Rattle.clause_trail.specs.declared.scanning.Scanned.TheVariants.{Satisfied, Falsified, Unit as UnitOf, Open}
use Rattle.clause_trail.specs.Scanning.{ScanHolds, IsSatisfied, HasTwoFree, AreQuietBefore}

pub scan_rest : (entries : List Entry) (clause : List Lit) (s : Scanned) → ScanHolds entries clause s → (s ≡ Falsified → ⊥) → ((l : Lit) → s ≡ UnitOf l → ⊥) → IsSatisfied entries clause ⊎ HasTwoFree entries clause
scan_rest entries clause Satisfied h a b = inl h
scan_rest entries clause Falsified h a b = absurd (a refl)
scan_rest entries clause (UnitOf l) h a b = absurd (b l refl)
scan_rest entries clause Open h a b = inr h

-- what a loop over the clauses knows of those before the place
pub quiet_before : (entries : List Entry) (clauses : List (List Lit)) (k : ℕ) → ((i : ℕ) (d : List Lit) → i < k → IsSatisfied entries (get_or clauses i d) ⊎ HasTwoFree entries (get_or clauses i d)) → AreQuietBefore entries clauses k
quiet_before entries clauses k each i c lt at = subst (λ (x : List Lit). IsSatisfied entries x ⊎ HasTwoFree entries x) (get_or_from_slice_get clauses i c c at) (each i c lt)
