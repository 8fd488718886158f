use Rattle.std.proofs.Common.{false, sym, subst}
use Rattle.std.specs.Prelude.{Ok}
use Rattle.encode_rows.specs.declared.clause.Truth.{Truth}
use Rattle.encode_rows.specs.declared.clause.Truth.TheVariants.{Yes, No}
use Rattle.encode_rows.specs.Changing.{Chooses, Changes}
use Rattle.encode_rows.proofs.ChangeLaws.{deleted-yes, deleted-no, deleted-of}
use Rattle.encode_rows.proofs.change.delete.Goals as goal

pub returns-in-Yes : goal.returns-in-Yes
returns-in-Yes c =
    subst (λ (u : Truth). Changes false c.args.formula.now c.args.on u c.args.formula.now (Ok c.opposite.result)) (sym c.in-Yes.is)
    (subst (λ (v : Truth). Changes false c.args.formula.now c.args.on Yes c.args.formula.now (Ok v)) (sym c.opposite.ensures) (deleted-yes c.args.formula.now c.args.on))

pub returns-in-No : goal.returns-in-No
returns-in-No c = subst (λ (u : Truth). Changes false c.args.formula.now c.args.on u c.args.formula.now (Ok No)) (sym c.in-No.is) (deleted-no c.args.formula.now c.args.on)

pub returns-in-Of : goal.returns-in-Of
returns-in-Of c =
    subst (λ (u : Truth). Changes false c.args.formula.now c.args.on u c.choose_deleted.new.formula c.choose_deleted.result) (sym c.in-Of.is)
    (deleted-of c.args.formula.now c.args.on c.in-Of.field-0 c.choose_deleted.new.formula c.choose_deleted.result
    (subst (λ (u : Truth). Chooses false c.args.formula.now c.args.on u c.choose_deleted.new.formula c.choose_deleted.result) c.in-Of.is c.choose_deleted.ensures))
