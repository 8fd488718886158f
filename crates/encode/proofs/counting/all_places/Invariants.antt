use Rattle.std.proofs.Common.{◌≡◌}
use Rattle.encode_laws.specs.Encoding.{copies}
use Rattle.encode.proofs.counting.all_places.Given as goal

abbrev pub invariant-loop-copy : goal.invariant-loop-copy
invariant-loop-copy l = l.all.items ≡ copies l.copy l.places
