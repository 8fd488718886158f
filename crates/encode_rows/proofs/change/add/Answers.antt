use Rattle.std.proofs.Common.{true, sym, subst}
use Rattle.std.specs.Prelude.{Ok}
use Rattle.encode_rows.specs.declared.clause.Truth.{Truth}
use Rattle.encode_rows.specs.declared.clause.Truth.TheVariants.{Yes}
use Rattle.encode_rows.specs.Changing.{Chooses, Changes}
use Rattle.encode_rows.proofs.ChangeLaws.{added-yes, added-no, added-of}
use Rattle.encode_rows.proofs.change.add.Goals as goal

pub returns-in-Yes : goal.returns-in-Yes
returns-in-Yes c = subst (λ (u : Truth). Changes true c.args.formula.now c.args.on u c.args.formula.now (Ok Yes)) (sym c.in-Yes.is) (added-yes c.args.formula.now c.args.on)

pub returns-in-No : goal.returns-in-No
returns-in-No c = subst (λ (u : Truth). Changes true c.args.formula.now c.args.on u c.args.formula.now (Ok c.args.on)) (sym c.in-No.is) (added-no c.args.formula.now c.args.on)

pub returns-in-Of : goal.returns-in-Of
returns-in-Of c =
    subst (λ (u : Truth). Changes true c.args.formula.now c.args.on u c.choose_added.new.formula c.choose_added.result) (sym c.in-Of.is)
    (added-of c.args.formula.now c.args.on c.in-Of.field-0 c.choose_added.new.formula c.choose_added.result
    (subst (λ (u : Truth). Chooses true c.args.formula.now c.args.on u c.choose_added.new.formula c.choose_added.result) c.in-Of.is c.choose_added.ensures))
