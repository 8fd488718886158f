-- The operations of a basic variable's value, and what `row_pair` answers.
use Rattle.std.specs.Prelude.{◌≡◌, ◌≢◌, ◌⊎◌, ℕ, ◌<◌, Result, Ok, Err}
use lib.IntN.{pos}
use Rattle.rational.specs.Fraction.{Fraction, whole, ◌+ℚ◌, ◌*ℚ◌}
use Rattle.frac128.specs.declared.operations.Op.TheVariants.{Mul, Add}
use Rattle.frac128.specs.declared.operations.Wide.{Wide}
use Rattle.tableau.specs.FiniteSums.{sum_below}
use Rattle.tableau.specs.Named.{FitsAt, PassesAt}
use Rattle.tableau.specs.Table.{Table, width, cell}
use Rattle.simplex_law.specs.Config.{row_pair}
use Rattle.simplex_law.specs.declared.pair.Pair.{Pair}

-- the product of cell and value, and its sum with those before
pub data ValueStep : Type 0 where
  Product : ℕ → ValueStep
  Sum : ℕ → ValueStep

abbrev pub operation : (ℕ → Fraction) → (ℕ → Fraction) → ValueStep → Wide
operation c f (Product j) = record { op = Mul; x = c j; y = f j }
operation c f (Sum j) = record { op = Add; x = sum_below j (λ i. c i *ℚ f i); y = c j *ℚ f j }

-- they are made where the cell isn't 0
abbrev pub IsMade : (ℕ → Fraction) → ℕ → ValueStep → Type 0
IsMade c n (Product j) = (j < n) × (c j ≢ whole (pos 0))
IsMade c n (Sum j) = (j < n) × (c j ≢ whole (pos 0))

abbrev pub SumFits : (ℕ → Fraction) → (ℕ → Fraction) → ℕ → Type 0
SumFits c f n = (s : ValueStep) → IsMade c n s → FitsAt (operation c f s)

abbrev pub SumPasses : (ℕ → Fraction) → (ℕ → Fraction) → ℕ → Wide → Type 0
SumPasses c f n w = (s : ValueStep) × IsMade c n s × (w ≡ operation c f s) × PassesAt w

-- one more product, which isn't made where the cell is 0
abbrev pub ProductAnswers : Fraction → Fraction → Fraction → Result Fraction Wide → Type 0
ProductAnswers sum c x (Ok y) = (c ≢ whole (pos 0) → FitsAt (record { op = Mul; x = c; y = x }) × FitsAt (record { op = Add; x = sum; y = c *ℚ x })) × (y ≡ sum +ℚ c *ℚ x)
ProductAnswers sum c x (Err w) = (c ≢ whole (pos 0)) × ((w ≡ record { op = Mul; x = c; y = x }) ⊎ (w ≡ record { op = Add; x = sum; y = c *ℚ x })) × PassesAt w

abbrev pub PairFits : Table → (ℕ → Pair) → ℕ → Type 0
PairFits t place r = SumFits (cell t r) (λ j. (place j).main) (width t) × SumFits (cell t r) (λ j. (place j).small) (width t)

abbrev pub PairPasses : Table → (ℕ → Pair) → ℕ → Wide → Type 0
PairPasses t place r w = SumPasses (cell t r) (λ j. (place j).main) (width t) w ⊎ SumPasses (cell t r) (λ j. (place j).small) (width t) w

abbrev pub PairAnswers : Table → (ℕ → Pair) → ℕ → Result Pair Wide → Type 0
PairAnswers t place r (Ok x) = PairFits t place r × (x ≡ row_pair t place r)
PairAnswers t place r (Err w) = PairPasses t place r w
