-- What holds of every form: a tree without a fault has one syntax, and the fault that counts is the first.
use Rattle.std.specs.Prelude.{◌≡◌, ◌⊎◌, ◌<◌, ◌≤◌, List, []}
use Rattle.std.specs.List.{Contains}
use Rattle.pddl_form.specs.declared.fault.Fault.{Fault}
use Rattle.pddl_form.specs.Judged.{Judged, good, faults_of}

-- the syntax and no other
pub record IsOnly {A : Type 0} (j : Judged A) (a : A) : Type 0 where
  pub is : j ≡ good a
  pub only : (b : A) → j ≡ good b → b ≡ a

-- without a fault there is one syntax, and with a fault there is none
pub record HasOneSyntax {A : Type 0} (j : Judged A) : Type 0 where
  pub fine : faults_of j ≡ [] → (a : A) × IsOnly j a
  pub faulty : (faults_of j ≡ [] → ⊥) → (a : A) → j ≡ good a → ⊥

-- a fault stands at a lower place, or at the same place and is of no greater kind
abbrev pub IsNoLater : Fault → Fault → Type 0
IsNoLater f g = (f.place < g.place) ⊎ ((f.place ≡ g.place) × (f.kind ≤ g.kind))

-- one of these faults, and none is before it
pub record IsFirstOf (faults : List Fault) (first : Fault) : Type 0 where
  pub among : Contains faults first
  pub none_before : (other : Fault) → Contains faults other → IsNoLater first other
