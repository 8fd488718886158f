use Rattle.std.proofs.Common.{subst}
use Rattle.formula.specs.Contents.{Contents}
use Rattle.search.specs.inside.Blocks.{Solves}
use Rattle.search.proofs.BlockLaws.{solves, can_be_written, is_made}
use Rattle.search.proofs.block.solved_block.Goals as goal

pub end_at-requires-clause-solution : goal.end_at-requires-clause-solution
end_at-requires-clause-solution c =
    subst (λ (f : Contents). Solves f c.in_ok-attempt.attempt.came) c.requires.formula (solves c.args.limits.now c.args.formula c.in_ok-attempt.ensures.log c.in_ok-attempt.attempt.came c.in_ok-attempt.ensures.came)

pub block_lines-requires : goal.block_lines-requires
block_lines-requires c = can_be_written c.args.task.now c.args.opened.now.pattern c.args.n c.in_ok-attempt.attempt.came c.in_ok-end.end c.in_ok-end.ensures

pub returns : goal.returns
returns c =
    is_made c.args.task.now c.args.opened.now.pattern c.args.n c.args.limits.now c.args.formula c.in_ok-attempt.attempt c.in_ok-end.end c.in_ok-lines.lines
    c.requires.formula c.requires.is_formula c.in_ok-attempt.ensures c.in_ok-end.ensures c.in_ok-lines.ensures

pub solve-requires-clause-stops : goal.solve-requires-clause-stops
solve-requires-clause-stops c = λ counts atoms t h. absurd h
