-- Room for the names whose taking failed.
use Rattle.std.specs.Prelude.{◌<◌, vec_len}
use Rattle.std.specs.Vec.{vec_capacity}
use Rattle.patty_io.specs.declared.failures.Failures.{Failures}

-- one more name has room
abbrev pub HasRoom : Failures → Type 0
HasRoom failures = vec_len failures.names < vec_capacity failures.names
