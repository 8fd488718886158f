-- What `encode` answers: the formula of n copies where all operations fit that are named in making it, and else one that passes
-- with its row.
use Rattle.std.specs.Prelude.{◌≡◌, ℕ, ◌+◌, List, Result, Ok, Err, ⊤}
use Rattle.lin.specs.declared.failure.LinFail.{LinFail}
use Rattle.lin.specs.declared.failure.LinFail.TheVariants as fail
use Rattle.task_core.specs.Task.{GroundParts}
use Rattle.formula.specs.Contents.{Contents}
use Rattle.encode_laws.specs.Encoding.{formula_of}
use Rattle.encode_laws.specs.Refusals.{operations_of, AllNamedFit, IsNamedPassing}
use Rattle.encode.specs.declared.failure.EncodeFail.{EncodeFail}
use Rattle.encode.specs.declared.failure.EncodeFail.TheVariants.{AtomWide, Memory}

-- an operation that passes is answered with the number of the next clause
abbrev pub refusal_of : ℕ → LinFail → EncodeFail
refusal_of clauses (fail.Wide w) = AtomWide (record { row = clauses + 1; wide = w })
refusal_of clauses fail.Memory = Memory

abbrev pub EncodeAnswers : GroundParts → List ℕ → ℕ → Result Contents EncodeFail → Type 0
EncodeAnswers task pattern n (Ok f) = AllNamedFit (operations_of task pattern n) × (f ≡ formula_of task pattern n)
EncodeAnswers task pattern n (Err (AtomWide w)) = IsNamedPassing (operations_of task pattern n) w.row w.wide
EncodeAnswers task pattern n (Err Memory) = ⊤
