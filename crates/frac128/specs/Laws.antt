-- Laws of the texts and of the answers, above the definitions.
use Rattle.std.specs.Prelude.{◌≡◌, ◌↔◌, ℕ, List, Result, Ok}
use Rattle.rational.specs.Fraction.{Fraction}
use Rattle.frac128.specs.Bounds.{IsFrac}
use Rattle.frac128.specs.Decimal.{ReadsDecimal}
use Rattle.frac128.specs.Operations.{Answers}
use Rattle.frac128.specs.Text.{text_of, ReadsFraction}
use Rattle.frac128.specs.declared.operations.Op.{Op}
use Rattle.frac128.specs.declared.operations.Wide.{Wide}
use Rattle.frac128.specs.declared.text.NumFault.{NumFault}

abbrev pub TextsTellFractions : Type 0
TextsTellFractions = (x y : Fraction) → text_of x ≡ text_of y → x ≡ y

-- a text gives x exactly where it is that of x, and x fits
abbrev pub ReadsWhatIsWritten : Type 0
ReadsWhatIsWritten = (text : List ℕ) (r : Result Fraction NumFault) (x : Fraction) → ReadsFraction text r → (r ≡ Ok x) ↔ ((text ≡ text_of x) × IsFrac x)

-- the clauses of each call leave one answer, so that each answer comes exactly where its case says
abbrev pub FractionTextHasOneAnswer : Type 0
FractionTextHasOneAnswer = (text : List ℕ) (r s : Result Fraction NumFault) → ReadsFraction text r → ReadsFraction text s → r ≡ s

abbrev pub DecimalHasOneAnswer : Type 0
DecimalHasOneAnswer = (text : List ℕ) (r s : Result Fraction NumFault) → ReadsDecimal text r → ReadsDecimal text s → r ≡ s

abbrev pub OperationHasOneAnswer : Type 0
OperationHasOneAnswer = (op : Op) (x y : Fraction) (r s : Result Fraction Wide) → Answers op x y r → Answers op x y s → r ≡ s
