use Rattle.std.proofs.Common.{◌≡◌, ℕ, ◌<◌, length, Option, None, Result, Ok, Err, refl, subst, arith}
use Rattle.std.proofs.lemmas.Result.{err_from_is_err_and}
use Rattle.std.proofs.lemmas.List.{get_or_read}
use Rattle.rational.specs.Fraction.{Fraction}
use Rattle.frac128.specs.declared.operations.Wide.{Wide}
use Rattle.simplex_law.specs.Config.{pair_at, zero_pair, lower_of, upper_of}
use Rattle.simplex_law.specs.declared.pair.Pair.{Pair}
use Rattle.simplex_law.specs.declared.bound.Bound.{Bound}
use Rattle.simplex_check.specs.Checks.{limits}
use Rattle.simplex_point.specs.inside.Narrowing.{LowerAnswers, UpperAnswers}
use Rattle.simplex_point.proofs.Narrow.{least_none, least_more, lower_lowers, upper_lowers, lower_passes, upper_passes}
use Rattle.simplex_point.proofs.small.infinitesimal.Goals as goal

lower_at : (d : Fraction) (o o' : Option Bound) (x x' : Pair) (r : Result Fraction Wide) → o ≡ o' → x ≡ x' → LowerAnswers d o x r → LowerAnswers d o' x' r
lower_at d o o' x x' r p q h = subst (λ (b : Option Bound). LowerAnswers d b x' r) p (subst (λ (y : Pair). LowerAnswers d o y r) q h)

upper_at : (d : Fraction) (o o' : Option Bound) (x x' : Pair) (r : Result Fraction Wide) → o ≡ o' → x ≡ x' → UpperAnswers d o x r → UpperAnswers d o' x' r
upper_at d o o' x x' r p q h = subst (λ (b : Option Bound). UpperAnswers d b x' r) p (subst (λ (y : Pair). UpperAnswers d o y r) q h)

pub loop-i-init : goal.loop-i-init
loop-i-init c = least_none _ _ _ c.one-d.ensures

pub loop-i-preserved : goal.loop-i-preserved
loop-i-preserved c =
    let l = limits c.args.lower.now c.args.upper.now in
    let i = c.loop-i.i in
    let value : ℕ → Pair = pair_at c.args.values.now in
    let lt : c.loop-i.i < length c.args.values.now = omega arith in
    let lo : c.index-lower-i.result ≡ lower_of l i = get_or_read c.args.lower.now i c.index-lower-i.result (omega (arith, c.requires.lower)) c.index-lower-i.is None in
    let up : c.index-upper-i.result ≡ upper_of l i = get_or_read c.args.upper.now i c.index-upper-i.result (omega (arith, c.requires.upper)) c.index-upper-i.is None in
    let x : c.index-values-i.result ≡ pair_at c.args.values.now i = get_or_read c.args.values.now i c.index-values-i.result lt c.index-values-i.is zero_pair in
    let y : c.index-values-i-in-loop-i.result ≡ pair_at c.args.values.now i = get_or_read c.args.values.now i c.index-values-i-in-loop-i.result lt c.index-values-i-in-loop-i.is zero_pair in
    least_more l value i c.loop-i.d c.in_ok-below.below c.in_ok-d.d c.loop-i.invariant
    (lower_lowers l value i c.loop-i.d c.in_ok-below.below (lower_of l i) refl (lower_at c.loop-i.d _ _ _ _ (Ok c.in_ok-below.below) lo x c.in_ok-below.ensures))
    (upper_lowers l value i c.in_ok-below.below c.in_ok-d.d (upper_of l i) refl (upper_at c.in_ok-below.below _ _ _ _ (Ok c.in_ok-d.d) up y c.in_ok-d.ensures))

pub returns-in_err-below : goal.returns-in_err-below
returns-in_err-below c =
    let p = err_from_is_err_and c.from_residual.result c.from_residual.ensures.1 in
    let l = limits c.args.lower.now c.args.upper.now in
    let i = c.loop-i.i in
    let lt : c.loop-i.i < length c.args.values.now = omega arith in
    let lo : c.index-lower-i.result ≡ lower_of l i = get_or_read c.args.lower.now i c.index-lower-i.result (omega (arith, c.requires.lower)) c.index-lower-i.is None in
    let x : c.index-values-i.result ≡ pair_at c.args.values.now i = get_or_read c.args.values.now i c.index-values-i.result lt c.index-values-i.is zero_pair in
    rw (p.1, p.2)
    (lower_passes l (pair_at c.args.values.now) i (length c.args.values.now) c.loop-i.d _ lt (lower_of l i) refl (lower_at c.loop-i.d _ _ _ _ (Err c.in_err-below.field-0.0) lo x c.in_err-below.ensures))

pub returns-in_err-d : goal.returns-in_err-d
returns-in_err-d c =
    let p = err_from_is_err_and c.from_residual-in_err-d.result c.from_residual-in_err-d.ensures.1 in
    let l = limits c.args.lower.now c.args.upper.now in
    let i = c.loop-i.i in
    let lt : c.loop-i.i < length c.args.values.now = omega arith in
    let up : c.index-upper-i.result ≡ upper_of l i = get_or_read c.args.upper.now i c.index-upper-i.result (omega (arith, c.requires.upper)) c.index-upper-i.is None in
    let y : c.index-values-i-in-loop-i.result ≡ pair_at c.args.values.now i = get_or_read c.args.values.now i c.index-values-i-in-loop-i.result lt c.index-values-i-in-loop-i.is zero_pair in
    rw (p.1, p.2)
    (upper_passes l (pair_at c.args.values.now) i (length c.args.values.now) c.in_ok-below.below _ lt (upper_of l i) refl (upper_at c.in_ok-below.below _ _ _ _ (Err c.in_err-d.field-0.0) up y c.in_err-d.ensures))
