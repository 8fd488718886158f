-- How an operation on fractions is written: `OP X Y` (this project's texts).
use Rattle.std.specs.Prelude.{ℕ, List, ◌++◌, codes}
use Rattle.frac128.specs.Text.{text_of}
use Rattle.frac128.specs.declared.operations.Op.{Op}
use Rattle.frac128.specs.declared.operations.Op.TheVariants as op
use Rattle.frac128.specs.declared.operations.Wide.{Wide}

abbrev pub operator_text : Op → List ℕ
operator_text op.Add = codes "add"
operator_text op.Sub = codes "sub"
operator_text op.Mul = codes "mul"
operator_text op.Div = codes "div"

-- the operator and its two operands
abbrev pub operation_text : Wide → List ℕ
operation_text w = operator_text w.op ++ (codes " " ++ (text_of w.x ++ (codes " " ++ text_of w.y)))
