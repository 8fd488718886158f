-- The step that a learned clause makes.
use Rattle.std.proofs.Common.{◌≡◌, ℕ, Bool, true, List, map, length, Option, subst, sym}
use Rattle.formula.specs.declared.atom.Lit.{Lit}
use Rattle.formula.specs.declared.atom.Atom.{Atom}
use Rattle.formula.specs.Contents.{Contents, is_clause}
use Rattle.theory_law.specs.declared.log.LogStep.TheVariants.{Learn}
use Rattle.formula.specs.Reading.{opposite}
use Rattle.theory_law.specs.Units.{Follows}
use Rattle.theory_law.specs.Licence.{IsNew}
use Rattle.clause_core.specs.Stepping.{StepHolds}

made_of : {W : Type 0} (Shown : List Bool → List (Option Atom) → List Lit → W → Type 0) (cuts : Bool) (f : Contents) (c : List Lit) (hints : List ℕ) → is_clause (length f.atoms) c ≡ true → Follows f.clauses (map opposite c) hints → IsNew f.clauses c → StepHolds Shown cuts f (Learn c hints)
made_of Shown cuts f c hints clause follows new' = record { sound = (clause, follows); licensed = new'; splits = tt }

pub made : {W : Type 0} {Shown : List Bool → List (Option Atom) → List Lit → W → Type 0} {cuts : Bool} (f : Contents) (c : List Lit) (hs : List ℕ) (lits : List Lit) (hints : List ℕ) → c ≡ lits → hs ≡ hints → is_clause (length f.atoms) lits ≡ true → Follows f.clauses (map opposite lits) hints → IsNew f.clauses lits → StepHolds Shown cuts f (Learn c hs)
made {Shown = Shown} {cuts = cuts} f c hs lits hints ec eh clause follows new' =
    subst (λ (x : List Lit). StepHolds Shown cuts f (Learn x hs)) (sym ec)
    (subst (λ (x : List ℕ). StepHolds Shown cuts f (Learn lits x)) (sym eh) (made_of Shown cuts f lits hints clause follows new'))
