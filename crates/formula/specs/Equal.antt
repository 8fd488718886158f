-- Equal atoms, and the Boolean of an atom. The constant of an atom's expression is 0 and is not compared.
use Rattle.std.specs.Prelude.{ℕ, suc, Bool, true, false, not, ◌&&◌, nat_eq, List, [], ◌∷◌, Option, Some, None, is_some, if◌then◌else◌}
use Rattle.std.specs.Option.{option_map}
use lib.IntN.{ℤ, pos, negsuc}
use Rattle.rational.specs.Fraction.{Fraction}
use Rattle.rational.specs.Linear.{Terms}
use Rattle.formula.specs.declared.atom.Atom.{Atom}
use Rattle.formula.specs.Contents.{Contents, with_boolean}

abbrev pub same_ℤ : ℤ → ℤ → Bool
same_ℤ (pos m) (pos n) = nat_eq m n
same_ℤ (negsuc m) (negsuc n) = nat_eq m n
same_ℤ (pos m) (negsuc n) = false
same_ℤ (negsuc m) (pos n) = false

abbrev pub same_fraction : Fraction → Fraction → Bool
same_fraction x y = same_ℤ x.num y.num && nat_eq x.den y.den

abbrev pub same_terms : Terms → Terms → Bool
same_terms [] [] = true
same_terms [] (u ∷ us) = false
same_terms (t ∷ ts) [] = false
same_terms (t ∷ ts) (u ∷ us) = nat_eq t.0 u.0 && (same_fraction t.1 u.1 && same_terms ts us)

abbrev pub same_bool : Bool → Bool → Bool
same_bool true b = b
same_bool false b = not b

abbrev pub same_atom : Atom → Atom → Bool
same_atom a b = same_bool a.strict b.strict && (same_fraction a.bound b.bound && same_terms a.lin.terms b.lin.terms)

-- a truth variable is of no atom
abbrev pub is_of_atom : Atom → Option Atom → Bool
is_of_atom a None = false
is_of_atom a (Some b) = same_atom a b

-- the first Boolean of an equal atom, if there is one
abbrev pub boolean_of : Atom → List (Option Atom) → Option ℕ
boolean_of a [] = None
boolean_of a (x ∷ xs) = if is_of_atom a x then Some 0 else option_map suc (boolean_of a xs)

-- one more Boolean, unless an equal atom has one
abbrev pub with_atom : Atom → Contents → Contents
with_atom a f = if is_some (boolean_of a f.atoms) then f else with_boolean (Some a) f
