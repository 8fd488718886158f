use Rattle.std.proofs.Common.{List, sym, ap, subst, ◌∙◌}
use Rattle.pddl_task.specs.declared.expression.Term.{Term}
use Rattle.pddl_task.specs.declared.effect.Effect.{Effect}
use Rattle.pddl_task.specs.declared.effect.Effect.TheVariants as effect
use Rattle.plan_step.specs.Held.{state_of}
use Rattle.plan_step.specs.Effects.{change_met}
use Rattle.plan_step.specs.Touches.{change_in}
use Rattle.plan_step.specs.inside.Touching.{Answers, leaf_answer}
use Rattle.plan_step.proofs.touches.touch_leaf.Goals as goal

pub returns-in-Change-clause-meant : goal.returns-in-Change-clause-meant
returns-in-Change-clause-meant c =
    subst (λ (e : Effect). Answers change_in (leaf_answer c.args.leaf (change_met (state_of c.args.state.now) c.args.args.now e)) c.touch_function.result)
    (ap (λ (terms : List Term). effect.Change c.in-Change.op c.in-Change.func terms c.in-Change.by) c.as_slice-in-Change.ensures ∙ sym c.in-Change.is)
    c.touch_function.ensures.meant
