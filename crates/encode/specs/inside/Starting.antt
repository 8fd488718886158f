-- What the code holds of the symbolic state at the start.
use Rattle.std.specs.Prelude.{◌≡◌, Bool, true, false, map, Option, unwrap_or, pos}
use Rattle.rational.specs.Fraction.{Fraction, whole}
use Rattle.lin.specs.Linear.{Linear, fixed}
use Rattle.task_core.specs.Task.{GroundParts}
use Rattle.encode_rows.specs.declared.clause.Truth.{Truth}
use Rattle.encode_rows.specs.declared.clause.Truth.TheVariants.{Yes, No}
use Rattle.encode_rows.specs.declared.symbols.Symbols.{Symbols}

abbrev pub constant_truth : Bool → Truth
constant_truth true = Yes
constant_truth false = No

abbrev pub constant_value : Option Fraction → Linear
constant_value v = fixed (unwrap_or v (whole (pos 0)))

pub record AreAtStart (task : GroundParts) (s : Symbols) : Type 0 where
  pub truths : s.truths ≡ map constant_truth task.atoms
  pub values : s.values ≡ map constant_value task.funcs
