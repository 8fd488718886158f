-- Counts of the places of n copies of a pattern, and the word that they spell (this project, after symbolic patterns:
-- Cardellini, Giunchiglia and Maratea 2024).
use Rattle.std.specs.Prelude.{◌≡◌, ◌⊎◌, ℕ, ◌≤◌, Bool, IsTrue, List, [], ◌∷◌, pos}
use Rattle.rational.specs.Fraction.{Fraction, whole}
use Rattle.task_core.specs.Words.{written_out}
use Rattle.pattern.specs.Word.{copies, parts_of}

-- a whole count of 0 or more, at most 1 unless the place rolls
pub record IsCountOf (rolls : ℕ → Bool) (place : ℕ) (count : Fraction) : Type 0 where
  pub times : ℕ
  pub is : count ≡ whole (pos times)
  pub few : IsTrue (rolls place) ⊎ (times ≤ 1)

-- one for each place
abbrev pub AreCountsOf : (ℕ → Bool) → List ℕ → List Fraction → Type 0
AreCountsOf rolls [] [] = Unit {0}
AreCountsOf rolls [] (c ∷ cs) = ⊥
AreCountsOf rolls (p ∷ ps) [] = ⊥
AreCountsOf rolls (p ∷ ps) (c ∷ cs) = IsCountOf rolls p c × AreCountsOf rolls ps cs

-- each place of the copies, as often as it counts
abbrev pub spelled : List ℕ → ℕ → List Fraction → List ℕ
spelled places n counts = written_out (parts_of (copies n places) counts)
