-- The condition is the literal that the choice is made by.
use Rattle.std.proofs.Common.{◌≡◌, ◌∙◌, sym, ap, subst, true, length, IfOk}
use Rattle.pddl_task.specs.declared.condition.Cond.{Cond}
use Rattle.pddl_task.specs.declared.condition.Cond.TheVariants as leaf
use Rattle.ground_instances.specs.inside.Open.{met_so_far}
use Rattle.ground_instances.specs.inside.Places.{IsChoice}
use Rattle.ground_instances.proofs.choosing.choose.Goals as goal

pub returns : goal.returns
returns c =
    let lit : c.args.cond.now ≡ leaf.Lit true c.in-Lit-true-default-default.pred c.in-Lit-true-default-default.terms = cc in
    let same : leaf.Lit true c.in-Lit-true-default-default.pred c.as_slice-2.result.now ≡ c.args.cond.now = ap (leaf.Lit true c.in-Lit-true-default-default.pred) c.as_slice-2.ensures ∙ sym lit in
    subst (λ (d : Cond). IfOk c.choose_at.result (λ choice. IsChoice (length c.args.task.now.objects) (λ more. met_so_far c.args.task.now more d) c.args.args.now c.args.low choice)) same c.choose_at.ensures
