-- What taking the files of a program comes to: the contents of all, or why one isn't taken (this project).
use Rattle.std.specs.Prelude.{ℕ, List, Vec, Ok, Err, Result, map}
use Rattle.std.specs.declared.alloc.Global.{Global}
use Rattle.patty_run.specs.declared.stop.Stop.{Stop}
use Rattle.patty_run.specs.declared.stop.Stop.TheVariants as stop
use Rattle.patty_run.specs.Inputs.{InputFile}
use Rattle.patty_run.specs.Outside.{Files}
use Rattle.patty_run.specs.Files.{AreHeld, IsLong, FailsAt}

abbrev pub AreNotTaken : Files → List InputFile → Stop → Type 0
AreNotTaken files named stop.Usage = ⊥
AreNotTaken files named (stop.ReadFault input) = FailsAt files named input
AreNotTaken files named (stop.Long input) = IsLong files named input
AreNotTaken files named (stop.Fault fault) = ⊥
AreNotTaken files named stop.Memory = Unit {0}

-- the contents of vectors
abbrev pub contents_of : List (Vec ℕ Global) → List (List ℕ)
contents_of vecs = map (λ v. v.items) vecs

abbrev pub AreTaken : Files → List InputFile → Result (Vec (Vec ℕ Global) Global) Stop → Type 0
AreTaken files named (Ok all) = AreHeld files.content named (contents_of all.items)
AreTaken files named (Err why) = AreNotTaken files named why
