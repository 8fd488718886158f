-- A lemma that Farkas' lemma shows: multiples of the readings of its negated literals add up to `0 <= b` with b below 0, or to
-- `0 < 0`. The multiples are made and added in order.
use Rattle.std.specs.Prelude.{◌≡◌, ◌↔◌, zero, suc, Bool, true, false, List, [], ◌∷◌, ◌++◌, map, Result, Ok, Err, IsTrue}
use Rattle.std.specs.List.{list_any}
use lib.IntN.{ℤ, pos, negsuc}
use Rattle.rational.specs.Fraction.{Fraction, whole, ◌+ℚ◌, ◌*ℚ◌}
use Rattle.rational.specs.Farkas.{Row, IsRefutation}
use Rattle.frac128.specs.declared.operations.Wide.{Wide}
use Rattle.lin.specs.declared.failure.LinFail.{LinFail}
use Rattle.lin.specs.Linear.{Linear, fixed, add, scale}
use Rattle.lin.specs.Operations.{AllFit, IsRefusal, adding, multiplying}
use Rattle.lin.specs.Made.{add_ops, scale_ops}
use Rattle.formula.specs.declared.atom.Constraint.{Constraint}
use Rattle.formula.specs.declared.atom.Lit.{Lit}
use Rattle.formula.specs.Contents.{Contents}
use Rattle.formula.specs.Reading.{reading_of, opposite}

-- a constraint, and the factor that it is taken with
abbrev pub Taken : Type 0
Taken = Constraint × Fraction

-- the readings of the negated literals, each with its coefficient
abbrev pub taken : Contents → List Lit → List Fraction → List Taken
taken f [] cs = []
taken f (l ∷ ls) [] = []
taken f (l ∷ ls) (c ∷ cs) = (reading_of f (opposite l), c) ∷ taken f ls cs

-- the inequality of a constraint; of an atom's reading the expression has the constant 0
abbrev pub row_of : Taken → Row
row_of t = record { terms = t.0.lin.terms; bound = t.0.bound; strict = t.0.strict; factor = t.1 }

-- the factors show the lemma
abbrev pub IsFarkas : List Taken → Type 0
IsFarkas ts = IsRefutation (map row_of ts)

-- ---- what is computed: signs first, and then multiples and their sums
abbrev pub is_negative_ℤ : ℤ → Bool
is_negative_ℤ (pos n) = false
is_negative_ℤ (negsuc n) = true

abbrev pub is_negative : Fraction → Bool
is_negative x = is_negative_ℤ x.num

abbrev pub is_positive_ℤ : ℤ → Bool
is_positive_ℤ (pos zero) = false
is_positive_ℤ (pos (suc n)) = true
is_positive_ℤ (negsuc n) = false

abbrev pub is_positive : Fraction → Bool
is_positive x = is_positive_ℤ x.num

-- the multiple of the left side and its sum with those so far, and then the same of the bound
abbrev pub multiple_ops : Linear → Fraction → Taken → List Wide
multiple_ops so_far bound t =
    scale_ops t.1 t.0.lin ++ (add_ops so_far (scale t.1 t.0.lin) ++ multiplying t.1 t.0.bound ∷ adding bound (t.1 *ℚ t.0.bound) ∷ [])

abbrev pub farkas_ops_from : Linear → Fraction → List Taken → List Wide
farkas_ops_from so_far bound [] = []
farkas_ops_from so_far bound (t ∷ ts) = multiple_ops so_far bound t ++ farkas_ops_from (add so_far (scale t.1 t.0.lin)) (bound +ℚ t.1 *ℚ t.0.bound) ts

abbrev pub farkas_ops : List Taken → List Wide
farkas_ops ts = farkas_ops_from (fixed (whole (pos 0))) (whole (pos 0)) ts

-- whether P, where all operations fit, and else the first that passes
abbrev pub AnswersWhether : List Wide → Type 0 → Result Bool LinFail → Type 0
AnswersWhether ops P (Ok b) = AllFit ops × (IsTrue b ↔ P)
AnswersWhether ops P (Err e) = IsRefusal ops e

-- no, where a coefficient is negative
abbrev pub FarkasAnswersWhere : Bool → List Taken → Result Bool LinFail → Type 0
FarkasAnswersWhere true ts r = r ≡ Ok false
FarkasAnswersWhere false ts r = AnswersWhether (farkas_ops ts) (IsFarkas ts) r

abbrev pub FarkasAnswers : Contents → List Lit → List Fraction → Result Bool LinFail → Type 0
FarkasAnswers f lits coefs r = FarkasAnswersWhere (list_any is_negative coefs) (taken f lits coefs) r
