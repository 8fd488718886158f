use Rattle.std.proofs.Common.{Some, subst}
use Rattle.lin.specs.declared.failure.LinFail.{LinFail}
use Rattle.lin.specs.Operations.{IsRefusal}
use Rattle.formula.specs.Farkas.{taken, farkas_ops}
use Rattle.theory_law.specs.declared.trace.Site.TheVariants.{Farkas}
use Rattle.simplex_judge.proofs.StuckLaws.{stuck_at, clash_holds, not_pivots}
use Rattle.simplex_judge.proofs.judging.clash.Goals as goal

pub returns-in-Err-Wide : goal.returns-in-Err-Wide
returns-in-Err-Wide c = λ pivots full. (
  stuck_at c.args.formula.now c.args.events.now c.args.begun c.requires.checking pivots c.in_ok-t-in-Err-Wide.t c.args.swaps.now Farkas (Some c.in-Err-Wide.w) (Some c.args.m) c.in_ok-t-in-Err-Wide.ensures tt tt
      (c.requires.lemma, subst (λ (e : LinFail). IsRefusal (farkas_ops (taken c.args.formula.now c.args.m.clause c.args.m.coefs.list)) e) c.in-Err-Wide.field-0-is c.in-Err-Wide.ensures),
  not_pivots c.in_ok-t-in-Err-Wide.t.site Farkas tt c.in_ok-t-in-Err-Wide.ensures.site_is,
)

pub returns : goal.returns
returns c = λ pivots full. clash_holds c.args.formula.now c.args.events.now c.args.begun c.requires.checking pivots full c.args.m c.requires.lemma c.in-Ok.ensures
