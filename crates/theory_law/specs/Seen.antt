-- What is seen of a theory, and how its calls change it (this project).
use Rattle.std.specs.Prelude.{◌≡◌, ◌≢◌, ◌<◌, ℕ, ◌+◌, Bool, List, [], ◌∷◌, ◌++◌, Option, Some, None, IsTrue, slice_get}
use Rattle.std.specs.List.{All, Contains}
use Rattle.rational.specs.Fraction.{Fraction}
use Rattle.formula.specs.declared.atom.Lit.{Lit}
use Rattle.formula.specs.declared.atom.Atom.{Atom}
use Rattle.formula.specs.Contents.{Contents}
use Rattle.theory_law.specs.declared.verdict.StartFail.{StartFail}
use Rattle.theory_law.specs.declared.verdict.StartFail.TheVariants.{NotMine, Memory}

-- which variables are counts, the atoms by Boolean, how many pivots a check may make, and the asserted literals in order,
-- with None for a mark
pub record Seen : Type 0 where
  pub counts : List Bool
  pub atoms : List (Option Atom)
  pub pivots : ℕ
  pub asserted : List (Option Lit)

abbrev pub at_start : Contents → ℕ → Seen
at_start f pivots = record { counts = f.counts; atoms = f.atoms; pivots = pivots; asserted = [] }

-- a literal is asserted, or with None a mark is set
abbrev pub with_event : Seen → Option Lit → Seen
with_event s event = record s { asserted = s.asserted ++ event ∷ [] }

-- several, in order
abbrev pub with_events : Seen → List (Option Lit) → Seen
with_events s events = record s { asserted = s.asserted ++ events }

abbrev pub with_atom : Seen → Atom → Seen
with_atom s a = record s { atoms = s.atoms ++ Some a ∷ [] }

abbrev pub with_asserted : Seen → List (Option Lit) → Seen
with_asserted s events = record s { asserted = events }

abbrev pub IsAsserted : List (Option Lit) → Lit → Type 0
IsAsserted events l = Contains events (Some l)

-- how many marks are set
abbrev pub marks : List (Option Lit) → ℕ
marks [] = 0
marks (None ∷ events) = 1 + marks events
marks (Some l ∷ events) = marks events

-- the last mark is dropped, with all behind it
abbrev pub DropsLastMark : Seen → Seen → Type 0
DropsLastMark old new = (before behind : List (Option Lit)) → old.asserted ≡ before ++ None ∷ behind → All (λ e. e ≢ None) behind → new ≡ with_asserted old before

-- ---- starting

-- there is no atom, or the theory takes it
abbrev pub IsMine : (List Bool → Atom → Bool) → List Bool → Option Atom → Type 0
IsMine takes counts None = Unit {0}
IsMine takes counts (Some a) = IsTrue (takes counts a)

-- the first Boolean whose atom the theory doesn't take
pub record IsFirstForeign (takes : List Bool → Atom → Bool) (f : Contents) (b : ℕ) : Type 0 where
  pub atom : Atom
  pub has : slice_get f.atoms b ≡ Some (Some atom)
  pub foreign : IsTrue (takes f.counts atom) → ⊥
  pub first : (i : ℕ) (a : Option Atom) → i < b → slice_get f.atoms i ≡ Some a → IsMine takes f.counts a

abbrev pub StartFails : (List Bool → Atom → Bool) → Contents → StartFail → Type 0
StartFails takes f (NotMine b) = IsFirstForeign takes f b
StartFails takes f Memory = Unit {0}

-- it takes every atom, and nothing is asserted yet
pub record Starts (takes : List Bool → Atom → Bool) (f : Contents) (pivots : ℕ) (seen : Seen) (cut : Option (ℕ × Fraction)) : Type 0 where
  pub mine : All (IsMine takes f.counts) f.atoms
  pub seen_is : seen ≡ at_start f pivots
  pub uncut : cut ≡ None
