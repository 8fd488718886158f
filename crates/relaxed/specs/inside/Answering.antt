-- What a step over the parts of an action answers: its result where all named operations fit, and else one that passes.
use Rattle.std.specs.Prelude.{◌≡◌, ℕ, List, Result, Ok, Err}
use Rattle.frac128.specs.declared.operations.Wide.{Wide}
use Rattle.relaxed.specs.declared.failure.RangePart.{RangePart}
use Rattle.relaxed.specs.declared.failure.LayerFail.{LayerFail}
use Rattle.relaxed.specs.declared.failure.LayerFail.TheVariants.{RangeWide, Memory}
use Rattle.relaxed.specs.Named.{AllPartsFit, IsOnePassing}

-- of layer n and action a; want of memory needs no reason
abbrev pub FailsIn : ℕ → ℕ → List (RangePart × Wide) → LayerFail → Type 0
FailsIn n a ops (RangeWide w) = (w.layer ≡ n) × (w.action ≡ a) × IsOnePassing ops w.part w.wide
FailsIn n a ops Memory = Unit {0}

abbrev pub AnswersParts : {X : Type 0} → ℕ → ℕ → List (RangePart × Wide) → X → Result X LayerFail → Type 0
AnswersParts n a ops x (Ok r) = AllPartsFit ops × (r ≡ x)
AnswersParts n a ops x (Err e) = FailsIn n a ops e
