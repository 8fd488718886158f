use Rattle.std.proofs.Common.{◌≡◌, ℕ, ◌<◌, IsTrue, length, Option, None, subst, arith, below_more}
use Rattle.std.proofs.lemmas.List.{get_or_read}
use Rattle.simplex_law.specs.Config.{lower_of, upper_of, IsConsistentAt}
use Rattle.simplex_law.specs.declared.bound.Bound.{Bound}
use Rattle.simplex_check.specs.Checks.{limits}
use Rattle.simplex_check.specs.Starts.{Crosses}
use Rattle.simplex_check.proofs.Consistent.{consistent_at}
use Rattle.simplex_check.proofs.starting.crossing.Goals as goal

pub loop-i-preserved : goal.loop-i-preserved
loop-i-preserved c =
    let i = c.loop-i.i in
    let l = limits c.args.lower.now c.args.upper.now in
    let lt : c.loop-i.i < length c.args.lower.now = omega arith in
    let lt' : c.loop-i.i < length c.args.upper.now = omega (arith, c.requires) in
    let lo : c.index-lower-i.result ≡ lower_of l i = get_or_read c.args.lower.now i c.index-lower-i.result lt c.index-lower-i.is None in
    let up : c.index-upper-i.result ≡ upper_of l i = get_or_read c.args.upper.now i c.index-upper-i.result lt' c.index-upper-i.is None in
    let f : Option Bound → Type 0 = λ o. Crosses o c.index-upper-i.result → IsTrue c.crosses.result in
    let g : Option Bound → Type 0 = λ o. Crosses (lower_of l i) o → IsTrue c.crosses.result in
    let P : ℕ → Type 0 = λ k. IsConsistentAt (lower_of l k) (upper_of l k) in
    below_more P c.loop-i.i c.loop-i.invariant (consistent_at (lower_of l i) (upper_of l i) c.crosses.result c.if-crosses.false (subst g up (subst f lo c.crosses.ensures.1)))
