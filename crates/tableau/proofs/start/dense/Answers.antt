use Rattle.std.proofs.Common.{arith}
use Rattle.tableau.proofs.Dense.{variable_below, dense_more}
use Rattle.tableau.proofs.start.dense.Goals as goal

pub index_mut-requires : goal.index_mut-requires
index_mut-requires c = omega (arith, variable_below c.args.n c.args.row.now.terms c.loop-i.i c.term-j.result c.requires c.term-j.ensures, c.loop-i.invariant.long, c.loop-i.v.ok.0)

pub loop-i-preserved : goal.loop-i-preserved
loop-i-preserved c =
    dense_more c.args.n c.args.row.now.terms c.loop-i.v.items c.loop-i.i c.term-j.result c.args.row.now.normal c.requires c.term-j.ensures c.loop-i.invariant
