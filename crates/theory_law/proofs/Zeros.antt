-- Points of zeros alone.
use Rattle.std.proofs.Common.{◌≡◌, ℕ, zero, suc, ◌<◌, List, Some, Bool, replicate, refl, sym, arith, subst}
use Rattle.std.specs.List.{slice_get}
use lib.IntN.{pos}
use Rattle.rational.specs.Fraction.{whole, quotient}
use Rattle.rational.specs.Floor.{IsWhole}
use Rattle.rational.proofs.FieldLaws.{is_quotient, whole_is}
use Rattle.lin.specs.Linear.{point_of}
use Rattle.formula.specs.Meets.{AreWhole}

pub get-replicate : {A : Type 0} (n i : ℕ) (x : A) → i < n → slice_get (replicate n x) i ≡ Some x
get-replicate zero i x h = absurd (omega arith)
get-replicate (suc n) zero x h = refl
get-replicate (suc n) (suc i) x h = get-replicate n i x (omega arith)

pub zero_quotient : quotient (pos 0) 1 ≡ whole (pos 0)
zero_quotient = sym (is_quotient (whole (pos 0)) (pos 0) 1 (whole_is (pos 0)))

zero_at : (n v : ℕ) → point_of (replicate n (whole (pos 0))) v ≡ whole (pos 0)
zero_at zero v = refl
zero_at (suc n) zero = refl
zero_at (suc n) (suc v) = zero_at n v

pub zeros_whole : (counts : List Bool) (n : ℕ) → AreWhole counts (replicate n (whole (pos 0)))
zeros_whole counts n v c = subst IsWhole (sym (zero_at n v)) refl
