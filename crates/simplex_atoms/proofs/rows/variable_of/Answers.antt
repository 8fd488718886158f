use Rattle.std.proofs.Common.{arith}
use Rattle.simplex_atoms.proofs.RowPlaces.{row_with-most}
use Rattle.simplex_atoms.proofs.rows.variable_of.Goals as goal

pub overflow_add-result : goal.overflow_add-result
overflow_add-result c = omega (arith, row_with-most c.args.side.now.terms c.args.rows.now)
