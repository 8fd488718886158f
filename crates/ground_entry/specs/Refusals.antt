-- A refusal of grounding.
use Rattle.lin.specs.declared.failure.LinFail.{LinFail}
use Rattle.lin.specs.declared.failure.LinFail.TheVariants as lin
use Rattle.ground_entry.specs.declared.failure.GroundFail.{GroundFail}
use Rattle.ground_entry.specs.declared.failure.GroundFail.TheVariants.{CoefWide, Memory}

-- what a refusal of an instance or of the goal is to the whole
abbrev pub refusal_of : LinFail → GroundFail
refusal_of (lin.Wide w) = CoefWide w
refusal_of lin.Memory = Memory
