use Rattle.std.proofs.lemmas.Result.{err_from_is_err_and}
use Rattle.lin.specs.Linear.{point_of}
use Rattle.pattern.specs.Rolled.{plus_term, term_ops}
use Rattle.relaxed.proofs.Dropping.{drop_next}
use Rattle.pattern.proofs.Turns.{turns-passes, turns-next}
use Rattle.pattern.proofs.AtLast.{variable_below}
use Rattle.pattern.proofs.rolling.value_at_last.Goals as goal

pub plus_term-requires : goal.plus_term-requires
plus_term-requires c = variable_below _ c.args.l.now.terms _ _ c.requires c.term-term.ensures

pub returns-in_err-sum : goal.returns-in_err-sum
returns-in_err-sum c =
    let p = err_from_is_err_and c.from_residual.result c.from_residual.ensures.1 in
    rw (p.1, p.2)
    (turns-passes (term_ops c.args.incs.now c.args.count.now (point_of c.args.values.now)) (plus_term c.args.incs.now c.args.count.now (point_of c.args.values.now)) c.args.l.now.constant c.args.l.now.terms _ _ _
    (drop_next c.args.l.now.terms c.loop-i.i _ c.term-term.ensures) c.loop-i.invariant _ c.in_err-sum.ensures)

pub loop-i-preserved : goal.loop-i-preserved
loop-i-preserved c =
    turns-next (term_ops c.args.incs.now c.args.count.now (point_of c.args.values.now)) (plus_term c.args.incs.now c.args.count.now (point_of c.args.values.now)) c.args.l.now.constant c.args.l.now.terms _ _ _
    (drop_next c.args.l.now.terms c.loop-i.i _ c.term-term.ensures) c.loop-i.invariant _ c.in_ok-sum.ensures.0 c.in_ok-sum.ensures.1
