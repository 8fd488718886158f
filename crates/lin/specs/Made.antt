-- The operations that each call makes, in order: over the coefficients in rising variable, and then the constant. The order is
-- this project's own.
use Rattle.std.specs.Prelude.{ℕ, List, [], ◌∷◌, ◌++◌, map, nat_eq}
use Rattle.std.specs.List.{flat_map, filter}
use Rattle.rational.specs.Fraction.{Fraction, ◌+ℚ◌, ◌*ℚ◌}
use Rattle.rational.specs.Linear.{Terms}
use Rattle.frac128.specs.declared.operations.Wide.{Wide}
use Rattle.lin.specs.Linear.{Linear, fixed, add, scale}
use Rattle.lin.specs.Operations.{adding, multiplying, dividing}

-- the terms of variable n
abbrev pub terms_of : ℕ → Terms → Terms
terms_of n ts = filter (λ t. nat_eq t.0 n) ts

-- the coefficients of each variable that both have are added
abbrev pub shared_ops : Terms → Terms → List Wide
shared_ops ts us = flat_map (λ t. map (λ u. adding t.1 u.1) (terms_of t.0 us)) ts

abbrev pub add_ops : Linear → Linear → List Wide
add_ops l m = shared_ops l.terms m.terms ++ adding l.constant m.constant ∷ []

-- the factor stands first
abbrev pub scale_ops : Fraction → Linear → List Wide
scale_ops c l = map (λ t. multiplying c t.1) l.terms ++ multiplying c l.constant ∷ []

-- the divisor stands second
abbrev pub div_ops : Fraction → Linear → List Wide
div_ops c l = map (λ t. dividing t.1 c) l.terms ++ dividing l.constant c ∷ []

-- for each term the multiple of its variable's replacement, and then its sum with what is so far
abbrev pub subst_ops_from : (ℕ → Linear) → Linear → Terms → List Wide
subst_ops_from of so_far [] = []
subst_ops_from of so_far (t ∷ ts) =
    scale_ops t.1 (of t.0) ++ (add_ops so_far (scale t.1 (of t.0)) ++ subst_ops_from of (add so_far (scale t.1 (of t.0))) ts)

abbrev pub subst_ops : (ℕ → Linear) → Linear → List Wide
subst_ops of l = subst_ops_from of (fixed l.constant) l.terms

-- for each term its coefficient times the value, and then the sum with what is so far
abbrev pub value_ops_from : (ℕ → Fraction) → Fraction → Terms → List Wide
value_ops_from at so_far [] = []
value_ops_from at so_far (t ∷ ts) = multiplying t.1 (at t.0) ∷ adding so_far (t.1 *ℚ at t.0) ∷ value_ops_from at (so_far +ℚ t.1 *ℚ at t.0) ts

abbrev pub value_ops : (ℕ → Fraction) → Linear → List Wide
value_ops at l = value_ops_from at l.constant l.terms
