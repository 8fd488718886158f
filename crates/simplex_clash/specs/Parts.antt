-- The asserted literals of a clash with their coefficients, by variable; and the lemma that they make.
use Rattle.std.specs.Prelude.{◌≡◌, ℕ, zero, suc, true, false, List, [], ◌∷◌, ◌++◌, map, Option, Some, None, if◌then◌else◌}
use Rattle.std.specs.List.Sorted.{IsPermutation, IsNonDecreasingBy}
use lib.IntN.{pos, negsuc}
use Rattle.rational.specs.Fraction.{Fraction, whole, ◌*ℚ◌, neg_ℚ}
use Rattle.formula.specs.declared.atom.Lit.{Lit}
use Rattle.formula.specs.Reading.{opposite}
use Rattle.formula.specs.Farkas.{is_negative, is_positive}
use Rattle.simplex_law.specs.declared.bound.Side.{Side}
use Rattle.simplex_law.specs.declared.bound.Side.TheVariants.{Under, Over}
use Rattle.simplex_atoms.specs.Tightest.{lit_of}
use Rattle.theory_law.specs.declared.trace.Lemma.{Lemma}

-- an asserted literal with its coefficient
abbrev pub Part : Type 0
Part = Lit × Fraction

-- the direction in which a row under its lower bound has to move is 1, and that of one over its upper bound -1
abbrev pub sign_of : Side → Fraction
sign_of Under = whole (pos 1)
sign_of Over = whole (negsuc 0)

-- a variable whose cell would lift the row is held by its upper bound, and one whose cell would lower it by its lower bound
abbrev pub part_of : Fraction → ℕ → ℕ → Option Part
part_of s lower upper = if is_positive s then Some (lit_of upper true, s) else (if is_negative s then Some (lit_of lower false, neg_ℚ s) else None)

abbrev pub listed : Option Part → List Part
listed None = []
listed (Some p) = p ∷ []

-- those of the first n variables
abbrev pub parts_below : Side → (ℕ → Fraction) → (ℕ → ℕ) → (ℕ → ℕ) → ℕ → List Part
parts_below side c lower upper zero = []
parts_below side c lower upper (suc n) = parts_below side c lower upper n ++ listed (part_of (sign_of side *ℚ c n) (lower n) (upper n))

-- the literal of the bound that is violated
abbrev pub own_part : Side → ℕ → ℕ → Part
own_part Under lower upper = (lit_of lower false, whole (pos 1))
own_part Over lower upper = (lit_of upper true, whole (pos 1))

abbrev pub clause_of : List Part → List Lit
clause_of ps = map (λ p. opposite p.0) ps

abbrev pub coefs_of : List Part → List Fraction
coefs_of ps = map (λ p. p.1) ps

-- the parts in rising order of their Booleans are the lemma
abbrev pub IsMadeOf : List Part → Lemma → Type 0
IsMadeOf ps m = (qs : List Part) × IsPermutation ps qs × IsNonDecreasingBy (λ p. p.0.boolean) qs × (m.clause ≡ clause_of qs) × (m.coefs.list ≡ coefs_of qs)
