-- What a point's making and its test answer, together.
use Rattle.std.proofs.Common.{inl, ℕ, Bool, false, List, length, sym, subst}
use Rattle.std.specs.Prelude.{Ok, Err, Result, Vec, map, unwrap_or}
use Rattle.rational.specs.Fraction.{Fraction}
use Rattle.formula.specs.declared.atom.Lit.{Lit}
use Rattle.formula.specs.declared.point.Point.{Point}
use Rattle.simplex_fit.specs.Assigned.{AreSigns}
use Rattle.simplex_judge.specs.Points.{AreValues}
use Rattle.simplex_judge.proofs.SettleLaws.{point_at}
use Rattle.std.specs.Global.{Global}
use Rattle.frac128.specs.declared.fraction.Frac.{Frac}
use Rattle.formula.specs.Contents.{Contents}
use Rattle.simplex_law.specs.Config.{pair_at}
use Rattle.simplex_law.specs.declared.pair.Pair.{Pair}
use Rattle.simplex_law.specs.declared.bound.Bound.{Bound}
use Rattle.simplex_check.specs.Checks.{limits}
use Rattle.simplex_clash.specs.Setting.{limits_of}
use Rattle.std.proofs.Common.{◌≡◌, Option}
use Rattle.simplex_judge.specs.declared.beginning.Begun.{Begun}
use Rattle.simplex_judge.specs.declared.pointing.PointFail.{PointFail}
use Rattle.simplex_judge.specs.declared.pointing.PointFail.TheVariants as fail
use Rattle.simplex_judge.specs.inside.Pointed.{PointAnswers}
use Rattle.simplex_judge.specs.inside.Solved.{SolutionAnswers}

pub refused : (f : Contents) (b : Begun) (pairs : List Pair) (e : PointFail) → PointAnswers (limits_of b.both.lower b.both.upper) (pair_at pairs) (length pairs) (length f.counts) (Err e) → SolutionAnswers f b pairs (Err e)
refused f b pairs (fail.Wide w) h = inl h
refused f b pairs fail.Memory h = tt

pub answers_at : (b : Begun) (pairs : List Pair) (lower upper : List (Option Bound)) (n m : ℕ) (r : Result (Vec Frac Global) PointFail) → lower ≡ b.both.lower.bounds.items → upper ≡ b.both.upper.bounds.items → n ≡ m
    → PointAnswers (limits lower upper) (pair_at pairs) (length pairs) n r → PointAnswers (limits_of b.both.lower b.both.upper) (pair_at pairs) (length pairs) m r
answers_at b pairs lower upper n m r e g h a =
    subst (λ (x : ℕ). PointAnswers (limits_of b.both.lower b.both.upper) (pair_at pairs) (length pairs) x r) h
    (subst (λ (x : List (Option Bound)). PointAnswers (limits b.both.lower.bounds.items x) (pair_at pairs) (length pairs) n r) g
    (subst (λ (x : List (Option Bound)). PointAnswers (limits x upper) (pair_at pairs) (length pairs) n r) e a))

pub made_point : (f : Contents) (b : Begun) (pairs : List Pair) (events : List (Option Lit)) → AreSigns events (length f.atoms) b.signs.items → (values : Vec Frac Global) (p : Point)
    → PointAnswers (limits_of b.both.lower b.both.upper) (pair_at pairs) (length pairs) (length f.counts) (Ok values) → p.values ≡ values.items → p.truth ≡ map (λ (x : Option Bool). unwrap_or x false) b.signs.items → SolutionAnswers f b pairs (Ok p)
made_point f b pairs events signs values p h e g =
    (h.0, h.1, point_at f events b.signs.items (pair_at pairs) h.0 p signs (subst (λ (xs : List Fraction). AreValues (pair_at pairs) (length f.counts) h.0 xs) (sym e) h.2) g)
