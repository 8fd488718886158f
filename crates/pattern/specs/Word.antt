-- The word that counts of places spell (this project, after symbolic patterns: Cardellini, Giunchiglia and Maratea 2024).
use Rattle.std.specs.Prelude.{ℕ, zero, suc, List, [], ◌∷◌, ◌++◌, nat_eq, unsigned_abs, if◌then◌else◌}
use Rattle.rational.specs.Fraction.{Fraction}

-- the pattern so often in a row
abbrev pub copies : ℕ → List ℕ → List ℕ
copies zero places = []
copies (suc n) places = places ++ copies n places

-- a whole count of 0 or more
abbrev pub count_of : Fraction → ℕ
count_of c = unsigned_abs c.num

-- the count of a place with its action, where it is above 0
abbrev pub part_of : Fraction → ℕ → List (ℕ × ℕ)
part_of c action = if nat_eq (count_of c) 0 then [] else (count_of c, action) ∷ []

-- the parts of places with their counts
abbrev pub parts_of : List ℕ → List Fraction → List (ℕ × ℕ)
parts_of [] cs = []
parts_of (p ∷ ps) [] = []
parts_of (p ∷ ps) (c ∷ cs) = part_of c p ++ parts_of ps cs
