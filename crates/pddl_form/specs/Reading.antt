-- What a reader answers.
use Rattle.std.specs.Prelude.{◌≡◌, Option, Result, IfOk}
use Rattle.std.specs.declared.alloc.AllocError.{AllocError}
use Rattle.pddl_form.specs.declared.fault.Fault.{Fault}
use Rattle.pddl_form.specs.Judged.{Judged, syntax_of, noted}

-- the syntax, or none where there is a fault, and the first fault so far
pub record IsRead {A : Type 0} (j : Judged A) (old new : Option Fault) (answer : Option A) : Type 0 where
  pub syntax_is : answer ≡ syntax_of j
  pub first_is : new ≡ noted old j

-- unless memory ran out
abbrev pub Reads : {A : Type 0} → Judged A → Option Fault → Option Fault → Result (Option A) AllocError → Type 0
Reads j old new result = IfOk result (λ answer. IsRead j old new answer)
