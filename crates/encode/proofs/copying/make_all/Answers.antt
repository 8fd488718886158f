use Rattle.std.proofs.Common.{◌∙◌, length, sym, subst}
use Rattle.std.proofs.lemmas.Result.{err_from_is_err_and}
use Rattle.task_core.specs.declared.action.GAction.{GAction}
use Rattle.task_core.specs.Task.{IsActionOf}
use Rattle.encode_laws.specs.Encoding.{copies}
use Rattle.encode.specs.inside.Copying.{actions_of, MakesGoal}
use Rattle.encode.proofs.CopyingLaws.{all-stop, all-next, all-made, sized-by}
use Rattle.encode.proofs.copying.make_all.Goals as goal

pub returns-in_err-occur_copies : goal.returns-in_err-occur_copies
returns-in_err-occur_copies c =
    let e = err_from_is_err_and c.from_residual.result c.from_residual.ensures.1 in
    rw (e.1, e.2)
    (all-stop (actions_of c.args.task.now (copies c.args.n c.args.places.now)) c.args.task.now.goal c.args.formula.now c.occur_copies.new.formula c.args.symbols.now c.occur_copies.new.symbols (Unit {0}) (Unit {0})
    c.in_err-occur_copies.field-0.0 c.in_err-occur_copies.ensures.makes)

pub reach-requires-clause-next : goal.reach-requires-clause-next
reach-requires-clause-next c =
    all-next (actions_of c.args.task.now (copies c.args.n c.args.places.now)) c.args.task.now.goal c.args.formula.now c.occur_copies.new.formula c.args.symbols.now c.occur_copies.new.symbols (Unit {0}) tt
    c.in_ok-occur_copies.ensures.makes c.requires.next

pub reach-requires-clause-sized : goal.reach-requires-clause-sized
reach-requires-clause-sized c =
    sized-by c.args.task.now c.goal.result.now (length c.occur_copies.new.symbols.truths) (length c.occur_copies.new.symbols.values) (subst (IsActionOf c.args.task.now) (sym c.goal.ensures.value) c.goal.ensures.promised.goal)
    (c.in_ok-occur_copies.ensures.kept.truths ∙ c.requires.sized.truths) (c.in_ok-occur_copies.ensures.kept.values ∙ c.requires.sized.values)

pub returns : goal.returns
returns c =
    all-made (actions_of c.args.task.now (copies c.args.n c.args.places.now)) c.args.task.now.goal c.args.formula.now c.occur_copies.new.formula c.args.symbols.now c.occur_copies.new.symbols (Unit {0}) tt c.reach.new.formula
    c.reach.result c.in_ok-occur_copies.ensures.makes
    (subst (λ (g : GAction). MakesGoal g c.occur_copies.new.formula c.occur_copies.new.symbols c.reach.new.formula c.reach.result) c.goal.ensures.value c.reach.ensures)
