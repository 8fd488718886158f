-- Faults of a tree's shape, and the one that counts.
use Rattle.std.specs.Prelude.{ℕ, Bool, ◌&&◌, ◌||◌, ◌==◌, nat_lt, List, [], ◌∷◌, Option, Some, None, if◌then◌else◌}
use Rattle.pddl_form.specs.declared.fault.Fault.{Fault}

-- a tree isn't of the form that is demanded in its place (kind 4)
abbrev pub shape : ℕ → Fault
shape place = record { kind = 4; place = place; word = [] }

-- a word stands for a feature of PDDL that isn't read (kind 5)
abbrev pub feature : ℕ → List ℕ → Fault
feature place word = record { kind = 5; place = place; word = word }

-- a word in the place of a number isn't one (kind 10)
abbrev pub not_a_number : ℕ → Fault
not_a_number place = record { kind = 10; place = place; word = [] }

-- the least place counts, and at one place the lower kind
abbrev pub is_before : Fault → Fault → Bool
is_before f g = nat_lt f.place g.place || (f.place == g.place && nat_lt f.kind g.kind)

abbrev pub first_of : Fault → Fault → Fault
first_of f g = if is_before g f then g else f

abbrev pub first_with : Option Fault → Fault → Fault
first_with None f = f
first_with (Some first) f = first_of first f

-- the first of these, given the first of those in front of them
abbrev pub least : Option Fault → List Fault → Option Fault
least first [] = first
least first (f ∷ faults) = least (Some (first_with first f)) faults
