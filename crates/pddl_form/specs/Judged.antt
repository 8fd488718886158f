-- What a form makes of a tree.
use Rattle.std.specs.Prelude.{ℕ, ◌-◌, Bool, true, false, nat_le, List, [], ◌∷◌, ◌++◌, length, Option, Some, None}
use Rattle.pddl_form.specs.declared.fault.Fault.{Fault}
use Rattle.pddl_form.specs.Faults.{shape, feature, not_a_number, least}

-- its syntax, or its faults, of which there is at least one: its own, and those of its parts that are judged. Behind some
-- faults a part has no place in the form, and isn't judged
pub data Judged (A : Type 0) : Type 0 where
  good : A → Judged A
  bad : Fault → List Fault → Judged A

abbrev pub syntax_of : {A : Type 0} → Judged A → Option A
syntax_of (good a) = Some a
syntax_of (bad f more) = None

abbrev pub faults_of : {A : Type 0} → Judged A → List Fault
faults_of (good a) = []
faults_of (bad f more) = f ∷ more

-- the fault that counts, given the first of those in front
unfoldable pub noted : {A : Type 0} → Option Fault → Judged A → Option Fault
noted first j = least first (faults_of j)

-- a tree at this place isn't of the form
abbrev pub misshapen : {A : Type 0} → ℕ → Judged A
misshapen place = bad (shape place) []

-- the closing parenthesis of a list, by the place behind it
abbrev pub closing : ℕ → ℕ
closing end = end - 1

-- a list lacks a tree: at its closing parenthesis
abbrev pub lacking : {A : Type 0} → ℕ → Judged A
lacking end = misshapen (closing end)

abbrev pub unread_feature : {A : Type 0} → ℕ → List ℕ → Judged A
unread_feature place word = bad (feature place word) []

abbrev pub no_number : {A : Type 0} → ℕ → Judged A
no_number place = bad (not_a_number place) []

-- a function of the syntax
abbrev pub mapped : {A B : Type 0} → (A → B) → Judged A → Judged B
mapped g (good a) = good (g a)
mapped g (bad f more) = bad f more

-- a part with faults in front of it
abbrev pub behind : {A : Type 0} → Fault → List Fault → Judged A → Judged A
behind f more j = bad f (more ++ faults_of j)

-- two parts, or the faults of both
abbrev pub both : {A B C : Type 0} → (A → B → C) → Judged A → Judged B → Judged C
both g (good a) j = mapped (g a) j
both g (bad f more) j = bad f (more ++ faults_of j)

-- parts one behind another, or the faults of all
abbrev pub each : {A : Type 0} → List (Judged A) → Judged (List A)
each [] = good []
each (j ∷ js) = both ◌∷◌ j (each js)

-- a fault beside those of the parts
abbrev pub besides : {A : Type 0} → Fault → Judged A → Judged A
besides f (good a) = bad f []
besides f (bad g more) = bad g (more ++ f ∷ [])

-- the parts where this holds, and else a fault beside theirs
abbrev pub provided : {A : Type 0} → Bool → Fault → Judged A → Judged A
provided true f j = j
provided false f j = besides f j

-- a list of at least so many parts, each judged: it lacks what is missing
abbrev pub at_least : {A : Type 0} → ℕ → ℕ → List (Judged A) → Judged (List A)
at_least count end parts = provided (nat_le count (length parts)) (shape (closing end)) (each parts)
