-- What an instance or the goal names: ground atoms of changing predicates and ground changing functions, in text order (this
-- project). Within a comparison the left side comes first, within an effect the target, within an expression the text order.
use Rattle.std.specs.Prelude.{ℕ, Bool, List, [], ◌∷◌, ◌++◌, if◌then◌else◌}
use Rattle.std.specs.List.{flat_map}
use Rattle.pddl_task.specs.declared.action.Action.{Action}
use Rattle.pddl_task.specs.declared.condition.Cond.{Cond}
use Rattle.pddl_task.specs.declared.condition.Cond.TheVariants as cond
use Rattle.pddl_task.specs.declared.effect.Effect.{Effect}
use Rattle.pddl_task.specs.declared.effect.Effect.TheVariants as effect
use Rattle.pddl_task.specs.declared.expression.Expr.{Expr}
use Rattle.pddl_task.specs.declared.expression.Expr.TheOpen.{Expr-F}
use Rattle.pddl_task.specs.declared.expression.Expr.TheFolds.{fold-Expr}
use Rattle.pddl_task.specs.declared.parts.TaskParts.{TaskParts}
use Rattle.pddl_task.specs.Task.{is_changing_pred, is_changing_func}
use Rattle.plan_step.specs.Meaning.{objects_of}
use Rattle.ground_numbers.specs.declared.named.Named.{Named}
use Rattle.ground_numbers.specs.Numbers.{named}

abbrev pub joined : List (List Named) → List Named
joined lists = flat_map (λ l. l) lists

abbrev pub if_changing : Bool → Named → List Named
if_changing changing k = if changing then k ∷ [] else []

abbrev pub names_step : TaskParts → List ℕ → Expr-F (List Named) → List Named
names_step task args (Expr-F.Num n) = []
names_step task args (Expr-F.Call func terms) = if_changing (is_changing_func task.actions func) (named func (objects_of args terms))
names_step task args (Expr-F.Add parts) = joined parts
names_step task args (Expr-F.Mul parts) = joined parts
names_step task args (Expr-F.Neg a) = a
names_step task args (Expr-F.Sub a b) = a ++ b
names_step task args (Expr-F.Div a b) = a ++ b

-- the changing functions of an expression
unfoldable pub names_of : TaskParts → List ℕ → Expr → List Named
names_of task args = fold-Expr (List Named) (names_step task args)

abbrev pub cond_funcs : TaskParts → List ℕ → Cond → List Named
cond_funcs task args (cond.Lit sign pred terms) = []
cond_funcs task args (cond.Same sign left right) = []
cond_funcs task args (cond.Compare rel left right) = names_of task args left ++ names_of task args right

abbrev pub cond_atoms : TaskParts → List ℕ → Cond → List Named
cond_atoms task args (cond.Lit sign pred terms) = if_changing (is_changing_pred task.actions pred) (named pred (objects_of args terms))
cond_atoms task args (cond.Same sign left right) = []
cond_atoms task args (cond.Compare rel left right) = []

-- what an effect names changes
abbrev pub effect_funcs : TaskParts → List ℕ → Effect → List Named
effect_funcs task args (effect.Put sign pred terms) = []
effect_funcs task args (effect.Change op func terms by) = named func (objects_of args terms) ∷ names_of task args by

abbrev pub effect_atoms : List ℕ → Effect → List Named
effect_atoms args (effect.Put sign pred terms) = named pred (objects_of args terms) ∷ []
effect_atoms args (effect.Change op func terms by) = []

-- the condition's leaves, then the effect's
abbrev pub instance_funcs : TaskParts → Action → List ℕ → List Named
instance_funcs task a args = flat_map (cond_funcs task args) a.conds ++ flat_map (effect_funcs task args) a.effs

abbrev pub instance_atoms : TaskParts → Action → List ℕ → List Named
instance_atoms task a args = flat_map (cond_atoms task args) a.conds ++ flat_map (effect_atoms args) a.effs
