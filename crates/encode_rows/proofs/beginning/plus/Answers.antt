use Rattle.std.proofs.Common.{subst}
use Rattle.std.specs.Prelude.{Ok, Err}
use Rattle.std.proofs.lemmas.Result.{err_from_is_err_and}
use Rattle.lin.specs.Linear.{Linear, add}
use Rattle.lin.specs.Made.{add_ops}
use Rattle.lin.specs.Operations.{AnswersInMemory}
use Rattle.encode_rows.proofs.BeginningLaws.{sum-made}
use Rattle.encode_rows.proofs.beginning.plus.Goals as goal

pub returns-in_err-sum : goal.returns-in_err-sum
returns-in_err-sum c =
    let p = err_from_is_err_and c.from_residual-in_err-sum.result c.from_residual-in_err-sum.ensures.1 in
    rw (p.1, p.2)
    (sum-made c.args.c c.args.k c.in_ok-own.own (Err c.in_err-sum.field-0.0) c.requires c.in_ok-own.ensures
    (subst (λ (w : Linear). AnswersInMemory (add_ops c.in_ok-own.own w) (add c.in_ok-own.own w) (Err c.in_err-sum.field-0.0)) c.fixed.ensures c.in_err-sum.ensures))

pub returns : goal.returns
returns c =
    sum-made c.args.c c.args.k c.in_ok-own.own (Ok c.in_ok-sum.sum) c.requires c.in_ok-own.ensures
    (subst (λ (w : Linear). AnswersInMemory (add_ops c.in_ok-own.own w) (add c.in_ok-own.own w) (Ok c.in_ok-sum.sum)) c.fixed.ensures c.in_ok-sum.ensures)
