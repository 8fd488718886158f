use Rattle.std.proofs.Common.{◌≡◌, ℕ, ◌<◌, Bool, slice_index_or}
use Rattle.relaxed.proofs.same.are_same_flags.Given as goal

abbrev pub invariant-loop-i : goal.invariant-loop-i
invariant-loop-i l = (n : ℕ) (d : Bool) → n < l.i → slice_index_or l.a n d ≡ slice_index_or l.b n d
