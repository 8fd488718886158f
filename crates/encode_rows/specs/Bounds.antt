-- The literal of a comparison with 0, as the code makes it.
use Rattle.std.specs.Prelude.{◌≡◌, ℕ, Bool, true, false, not, List, [], ◌∷◌, Result, Ok, Err, if◌then◌else◌, ⊤}
use lib.IntN.{pos, negsuc, ◌+ℤ◌}
use Rattle.rational.specs.Fraction.{Fraction, whole, neg_ℚ, inv_ℚ, ◌/ℚ◌, ◌+ℚ◌, ◌-ℚ◌}
use Rattle.rational.specs.Floor.{floor_of, ceil_of}
use Rattle.frac128.specs.Bounds.{IsFrac}
use Rattle.frac128.specs.declared.operations.Wide.{Wide}
use Rattle.lin.specs.Linear.{Linear, var, scale, fixed, add}
use Rattle.lin.specs.Operations.{AllFit, IsFirstPassing, IsRefusal, AnswersInMemory, adding, dividing}
use Rattle.lin.specs.declared.failure.LinFail.{LinFail}
use Rattle.formula.specs.Atoms.{IsAtom}
use Rattle.encode_rows.specs.declared.bound.Bound.{Bound}
use Rattle.encode_rows.specs.declared.bound.Bound.TheVariants.{Always, Never, Of}
use Rattle.encode_laws.specs.Rows.{is_at_most, is_below}
use Rattle.encode_laws.specs.Numbering.{atom, Plain, always, never, of, constant_plain, is_positive, at_most_terms, below_terms}
use Rattle.encode_laws.specs.Refusals.{subtracting, rounding_ops, quotient_ops, bound_ops}

-- the bound of a count, rounded down or up
abbrev pub rounded : Bool → Fraction → Fraction
rounded true b = whole (floor_of b)
rounded false b = whole (ceil_of b +ℤ negsuc 0)

-- the next whole number, and the one before
abbrev pub SuccessorAnswers : Fraction → Result Fraction Wide → Type 0
SuccessorAnswers k (Ok n) = AllFit (adding k (whole (pos 1)) ∷ []) × IsFrac (k +ℚ whole (pos 1))
SuccessorAnswers k (Err w) = IsFirstPassing w (adding k (whole (pos 1)) ∷ [])

abbrev pub PredecessorAnswers : Fraction → Result Fraction Wide → Type 0
PredecessorAnswers k (Ok n) = AllFit (subtracting k (whole (pos 1)) ∷ []) × (n ≡ k -ℚ whole (pos 1))
PredecessorAnswers k (Err w) = IsFirstPassing w (subtracting k (whole (pos 1)) ∷ [])

-- the rounded bound, where its operations fit
abbrev pub RoundingAnswers : Bool → Fraction → Result Fraction Wide → Type 0
RoundingAnswers down b (Ok k) = AllFit (rounding_ops down b) × (k ≡ rounded down b) × IsFrac (k +ℚ whole (pos 1))
RoundingAnswers down b (Err w) = IsFirstPassing w (rounding_ops down b)

-- the literal that a bound stands for
abbrev pub plain_of : Bound → Plain
plain_of Always = always
plain_of Never = never
plain_of (Of s a) = of s (atom a)

abbrev pub HasAtom : List Bool → Bound → Type 0
HasAtom counts Always = ⊤
HasAtom counts Never = ⊤
HasAtom counts (Of s a) = IsAtom counts a

-- ---- an expression without a variable
abbrev pub compares : Bool → Fraction → Bool
compares strict k = if strict then is_below k (whole (pos 0)) else is_at_most k (whole (pos 0))

abbrev pub constant_compared : Bool → Fraction → Plain
constant_compared strict k = constant_plain (compares strict k)

-- ---- a count c with the coefficient a and the constant k
abbrev pub rounds_down : Bool → Fraction → Bool
rounds_down strict a = if strict then not (is_positive a) else is_positive a

abbrev pub count_ops : Fraction → Fraction → Bool → List Wide
count_ops a k strict = dividing (neg_ℚ k) a ∷ rounding_ops (rounds_down strict a) (neg_ℚ k /ℚ a)

abbrev pub count_bound : ℕ → Fraction → Fraction → Bool → Bound
count_bound c a k strict = Of (is_positive a) (record { lin = var c; strict = false; bound = rounded (rounds_down strict a) (neg_ℚ k /ℚ a) })

abbrev pub CountAnswers : ℕ → Fraction → Fraction → Bool → Result Bound LinFail → Type 0
CountAnswers c a k strict (Ok b) = AllFit (count_ops a k strict) × (b ≡ count_bound c a k strict) × IsFrac (rounded (rounds_down strict a) (neg_ℚ k /ℚ a) +ℚ whole (pos 1))
CountAnswers c a k strict (Err e) = IsRefusal (count_ops a k strict) e

-- ---- any other expression, whose first coefficient is a
abbrev pub linear_bound : Fraction → Linear → Bool → Bound
linear_bound a l strict = Of (is_positive a) (record {
  lin = scale (inv_ℚ a) (add l (fixed (neg_ℚ l.constant)));
  strict = if strict then is_positive a else not (is_positive a);
  bound = neg_ℚ l.constant /ℚ a;
})

abbrev pub LinearAnswers : Fraction → Linear → Bool → Result Bound LinFail → Type 0
LinearAnswers a l strict r = AnswersInMemory (quotient_ops a l) (linear_bound a l strict) r

-- `l < 0` where it is strict, else `l <= 0`
abbrev pub compared : List Bool → Bool → Linear → Plain
compared counts strict l = if strict then below_terms counts l.terms l.constant else at_most_terms counts l.terms l.constant

abbrev pub BoundAnswers : List Bool → Bool → Linear → Result Bound LinFail → Type 0
BoundAnswers counts strict l (Ok b) = AllFit (bound_ops counts strict l l.terms) × (plain_of b ≡ compared counts strict l) × HasAtom counts b
BoundAnswers counts strict l (Err e) = IsRefusal (bound_ops counts strict l l.terms) e
