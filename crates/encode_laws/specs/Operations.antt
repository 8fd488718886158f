-- The operations that make an expression of a row, each call of `lin` in the order that is written.
use Rattle.std.specs.Prelude.{ℕ, List, [], ◌∷◌, ◌++◌, if◌then◌else◌}
use lib.IntN.{pos}
use Rattle.rational.specs.Fraction.{Fraction, whole, neg_ℚ, ◌+ℚ◌, ◌*ℚ◌}
use Rattle.rational.specs.Linear.{Terms, coefficient_of}
use Rattle.frac128.specs.declared.operations.Wide.{Wide}
use Rattle.lin.specs.Normal.{is_zero}
use Rattle.lin.specs.Linear.{Linear, fixed, var, add, scale}
use Rattle.lin.specs.Negative.{negative}
use Rattle.lin.specs.Operations.{adding, multiplying}
use Rattle.lin.specs.Made.{add_ops, scale_ops}

-- l - m; a negation always fits
abbrev pub minus : Linear → Linear → Linear
minus l m = add l (negative m)

abbrev pub minus_ops : Linear → Linear → List Wide
minus_ops l m = add_ops l (negative m)

-- the change per repetition: for each increment of a function that the expression reads, a product and then a sum
abbrev pub change_ops_from : Fraction → Terms → Terms → List Wide
change_ops_from so_far ts [] = []
change_ops_from so_far ts (q ∷ qs) =
    if is_zero (coefficient_of q.0 ts) then change_ops_from so_far ts qs
    else (multiplying (coefficient_of q.0 ts) q.1 ∷ adding so_far (coefficient_of q.0 ts *ℚ q.1) ∷ change_ops_from (so_far +ℚ coefficient_of q.0 ts *ℚ q.1) ts qs)

abbrev pub change_ops : Terms → Linear → List Wide
change_ops incs l = change_ops_from (whole (pos 0)) l.terms incs

-- l + d * c - d
abbrev pub at_last : Fraction → ℕ → Linear → Linear
at_last d c l = add (add l (scale d (var c))) (fixed (neg_ℚ d))

abbrev pub at_last_ops : Fraction → ℕ → Linear → List Wide
at_last_ops d c l = scale_ops d (var c) ++ (add_ops l (scale d (var c)) ++ add_ops (add l (scale d (var c))) (fixed (neg_ℚ d)))
