use Rattle.std.proofs.Common.{List, Ok, sym, subst}
use Rattle.rational.specs.Fraction.{Fraction}
use Rattle.formula.specs.declared.atom.Lit.{Lit}
use Rattle.formula.specs.Contents.{Contents}
use Rattle.formula.specs.Farkas.{taken, IsFarkas, FarkasAnswers}
use Rattle.simplex_judge.proofs.SumLaws.{made}
use Rattle.simplex_judge.proofs.summing.sum.Goals as goal

pub returns-in-Ok : goal.returns-in-Ok
returns-in-Ok c =
    let f = c.args.formula.now in
    let ls = c.args.m.now.clause in
    let cs = c.args.m.now.coefs.list in
    made f ls cs c.in-Ok._holds c.requires.shown.many (subst (λ (g : Contents). IsFarkas (taken g ls cs)) (sym c.requires.bare) c.requires.shown.shows)
    (subst (λ (ys : List Fraction). FarkasAnswers f ls ys (Ok c.in-Ok._holds)) c.as_slice.ensures
    (subst (λ (xs : List Lit). FarkasAnswers f xs c.as_slice.result.now (Ok c.in-Ok._holds)) c.lits.ensures c.in-Ok.ensures))
