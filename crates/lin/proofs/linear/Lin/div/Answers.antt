use Rattle.std.proofs.Common.{refl}
use Rattle.std.proofs.lemmas.Result.{err_from_is_err_and}
use Rattle.lin.proofs.Leading.{refused_more}
use Rattle.lin.specs.Linear.{times}
use Rattle.rational.specs.Fraction.{inv_ℚ}
use Rattle.lin.proofs.SumAnswers.{normal-at}
use Rattle.lin.proofs.Quotients.{div-first, div-last, div-done}
use Rattle.lin.proofs.linear.Lin.div.Goals as goal

pub returns-in_err-terms : goal.returns-in_err-terms
returns-in_err-terms c =
    let p = err_from_is_err_and c.from_residual.result c.from_residual.ensures.1 in
    rw (p.1, p.2) (refused_more _ _ _ (div-first c.args.by.now c.args.self.now _ c.args.self.now.constant c.all_terms.ensures.value refl) c.in_err-terms.ensures)

pub returns-in_err-constant : goal.returns-in_err-constant
returns-in_err-constant c =
    let p = err_from_is_err_and c.from_residual-in_err-constant.result c.from_residual-in_err-constant.ensures.1 in
    rw (p.1, p.2)
    (div-last c.args.by.now c.args.self.now _ _ c.all_terms.ensures.value c.constant.ensures _ c.in_ok-terms.ensures.0 c.in_err-constant.ensures.0 c.in_err-constant.ensures.1)

pub made-requires : goal.made-requires
made-requires c = normal-at _ (times (inv_ℚ c.args.by.now) c.all_terms.result.now) c.in_ok-terms.ensures.1

pub returns : goal.returns
returns c =
    div-done c.args.by.now c.args.self.now _ _ c.all_terms.ensures.value c.constant.ensures _ _ _ c.in_ok-terms.ensures.0 c.in_ok-terms.ensures.1 c.in_ok-constant.ensures.0
    c.in_ok-constant.ensures.1 c.made.ensures.terms c.made.ensures.constant
