-- What taking one file comes to.
use Rattle.std.specs.Prelude.{◌≡◌, ℕ, List, Vec, Ok, Err, Result}
use Rattle.std.specs.declared.alloc.Global.{Global}
use Rattle.patty_run.specs.declared.input.Input.{Input}
use Rattle.patty_run.specs.declared.stop.Stop.{Stop}
use Rattle.patty_run.specs.declared.stop.Stop.TheVariants as stop
use Rattle.patty_run.specs.Outside.{Files, FailsAlone}
use Rattle.patty_run.specs.Files.{IsHeld, IsTooLong}

abbrev pub IsNotTaken : Files → List ℕ → Input → Stop → Type 0
IsNotTaken files name input stop.Usage = ⊥
IsNotTaken files name input (stop.ReadFault i) = (i ≡ input) × FailsAlone files name
IsNotTaken files name input (stop.Long i) = (i ≡ input) × IsTooLong (files.content name)
IsNotTaken files name input (stop.Fault fault) = ⊥
IsNotTaken files name input stop.Memory = Unit {0}

-- the bytes of a file, or why there are none
abbrev pub IsTaken : Files → List ℕ → Input → Result (Vec ℕ Global) Stop → Type 0
IsTaken files name input (Ok bytes) = IsHeld (files.content name) bytes.items
IsTaken files name input (Err why) = IsNotTaken files name input why
