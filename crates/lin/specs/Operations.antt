-- What a call answers that makes operations on fractions in a fixed order: the exact value where all fit, and else the first
-- that passes 128 bits. Every crate that computes with expressions says its refusals in these words.
use Rattle.std.specs.Prelude.{◌≡◌, List, ◌∷◌, ◌++◌, Result, Ok, Err, ⊤}
use Rattle.std.specs.List.{AllByRecursion}
use Rattle.rational.specs.Fraction.{Fraction}
use Rattle.frac128.specs.Operations.{Fits, Passes}
use Rattle.frac128.specs.declared.operations.Op.TheVariants.{Add, Mul, Div}
use Rattle.frac128.specs.declared.operations.Wide.{Wide}
use Rattle.lin.specs.declared.failure.LinFail.{LinFail}
use Rattle.lin.specs.declared.failure.LinFail.TheVariants as fail

-- the operations x + y, x * y and x / y
abbrev pub adding : Fraction → Fraction → Wide
adding x y = record { op = Add; x = x; y = y }

abbrev pub multiplying : Fraction → Fraction → Wide
multiplying x y = record { op = Mul; x = x; y = y }

abbrev pub dividing : Fraction → Fraction → Wide
dividing x y = record { op = Div; x = x; y = y }

-- no operation passes
abbrev pub AllFit : List Wide → Type 0
AllFit ops = AllByRecursion (λ o. Fits o.op o.x o.y) ops

-- w is one of the operations, all in front of it fit, and it passes
pub record IsFirstPassing (w : Wide) (ops : List Wide) : Type 0 where
  pub front : List Wide
  pub behind : List Wide
  pub place : ops ≡ front ++ w ∷ behind
  pub fit : AllFit front
  pub passes : Passes w.op w.x w.y

-- the value where all operations fit, and else the first that passes
abbrev pub AnswersInOrder : {T : Type 0} → List Wide → T → Result T Wide → Type 0
AnswersInOrder ops value (Ok r) = AllFit ops × (r ≡ value)
AnswersInOrder ops value (Err w) = IsFirstPassing w ops

-- a refusal: the first operation that passes, or want of memory
abbrev pub IsRefusal : List Wide → LinFail → Type 0
IsRefusal ops (fail.Wide w) = IsFirstPassing w ops
IsRefusal ops fail.Memory = ⊤

-- the same answers of a call that may want memory
abbrev pub AnswersInMemory : {T : Type 0} → List Wide → T → Result T LinFail → Type 0
AnswersInMemory ops value (Ok r) = AllFit ops × (r ≡ value)
AnswersInMemory ops value (Err e) = IsRefusal ops e
