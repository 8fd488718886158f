-- Atoms as lists of numbers, by which they are hashed, and the table that has the first Boolean of each.
use Rattle.std.specs.Prelude.{◌≡◌, ℕ, suc, Bool, true, false, nat_eq, List, [], ◌∷◌, ◌++◌, Option}
use Rattle.std.specs.Cmp.Lexicographic.{pointwise}
use Rattle.std.specs.Global.{Vec}
use Rattle.std.specs.HashMap.{HashMap, get}
use lib.IntN.{ℤ, pos, negsuc}
use Rattle.rational.specs.Fraction.{Fraction}
use Rattle.rational.specs.Linear.{Terms}
use Rattle.formula.specs.declared.atom.Atom.{Atom}
use Rattle.formula.specs.Equal.{boolean_of}

abbrev pub flag : Bool → ℕ
flag true = 1
flag false = 0

-- whether a whole number is below 0, and its magnitude
abbrev pub sign_of : ℤ → ℕ
sign_of (pos n) = 0
sign_of (negsuc n) = 1

abbrev pub magnitude : ℤ → ℕ
magnitude (pos n) = n
magnitude (negsuc n) = suc n

abbrev pub fraction_key : Fraction → List ℕ
fraction_key x = sign_of x.num ∷ magnitude x.num ∷ x.den ∷ []

abbrev pub terms_key : Terms → List ℕ
terms_key [] = []
terms_key (t ∷ ts) = t.0 ∷ (fraction_key t.1 ++ terms_key ts)

abbrev pub key_of : Atom → List ℕ
key_of a = flag a.strict ∷ (fraction_key a.bound ++ terms_key a.lin.terms)

abbrev pub same_key : Vec ℕ → Vec ℕ → Bool
same_key x y = pointwise nat_eq x.items y.items

-- the table has at the key of each atom its first Boolean
abbrev pub IsIndex : {S : Type 0} → HashMap (Vec ℕ) ℕ S → List (Option Atom) → Type 0
IsIndex index atoms = (key : Vec ℕ) (a : Atom) → key.items ≡ key_of a → get same_key index key ≡ boolean_of a atoms
