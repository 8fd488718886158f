-- What a literal of an atom says, and when a constraint holds. The rounding of a count's bound is that of whole numbers: a whole
-- value that isn't at most k is at least k + 1.
use Rattle.std.specs.Prelude.{ℕ, Bool, false, not, List, if◌then◌else◌, slice_index_or, Option, Some, None, IsSome}
use lib.IntN.{pos}
use Rattle.rational.specs.Fraction.{Fraction, whole, neg_ℚ, ◌+ℚ◌}
use Rattle.rational.specs.Farkas.{InOrder}
use Rattle.lin.specs.Linear.{value_of, fixed}
use Rattle.lin.specs.Negative.{negative}
use Rattle.formula.specs.declared.atom.Atom.{Atom}
use Rattle.formula.specs.declared.atom.Constraint.{Constraint}
use Rattle.formula.specs.declared.atom.Lit.{Lit}
use Rattle.formula.specs.Atoms.{is_one_count}
use Rattle.formula.specs.Contents.{Contents}

-- `lin <= bound` or `lin < bound`, at a point
abbrev pub Holds : (ℕ → Fraction) → Constraint → Type 0
Holds at c = InOrder c.strict (value_of at c.lin) c.bound

-- where the atom is true
abbrev pub affirmed : Atom → Constraint
affirmed a = record { lin = a.lin; strict = a.strict; bound = a.bound }

-- where it is false: `-lin < -bound`, or `-lin <= -bound` where it is strict, or `-c <= -(k + 1)` for `c <= k` on one count
abbrev pub denied : List Bool → Atom → Constraint
denied counts a =
    if is_one_count counts a.lin.terms then record { lin = negative a.lin; strict = false; bound = neg_ℚ (a.bound +ℚ whole (pos 1)) }
    else record { lin = negative a.lin; strict = not a.strict; bound = neg_ℚ a.bound }

abbrev pub reading : List Bool → Atom → Bool → Constraint
reading counts a p = if p then affirmed a else denied counts a

-- the Boolean's atom, if any
abbrev pub atom_of : Contents → ℕ → Option Atom
atom_of f b = slice_index_or f.atoms b None

-- a truth variable says nothing
abbrev pub reading_where : List Bool → Option Atom → Bool → Constraint
reading_where counts None p = record { lin = fixed (whole (pos 0)); strict = false; bound = whole (pos 0) }
reading_where counts (Some a) p = reading counts a p

abbrev pub reading_of : Contents → Lit → Constraint
reading_of f l = reading_where f.counts (atom_of f l.boolean) l.pos

-- the literal is of an atom of the formula
abbrev pub IsOfAtom : Contents → Lit → Type 0
IsOfAtom f l = IsSome (atom_of f l.boolean)

-- the other literal of the Boolean
abbrev pub opposite : Lit → Lit
opposite l = record { boolean = l.boolean; pos = not l.pos }
