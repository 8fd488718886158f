-- The lists of a draft.
use Rattle.std.specs.Prelude.{ℕ, Bool, true, false, not, List, [], ◌∷◌, ◌++◌, Option, Some, None, if◌then◌else◌}
use Rattle.std.specs.List.{flat_map, filter_map}
use Rattle.lin.specs.Linear.{Linear}
use Rattle.lin.specs.declared.comparison.Cmp.{Cmp}
use Rattle.frac128.specs.declared.operations.Wide.{Wide}
use Rattle.task_core.specs.Step.{is_in}
use Rattle.pddl_task.specs.declared.condition.Cond.{Cond}
use Rattle.pddl_task.specs.declared.condition.Cond.TheVariants as cond
use Rattle.pddl_task.specs.declared.effect.Effect.{Effect}
use Rattle.pddl_task.specs.declared.effect.Effect.TheVariants as effect
use Rattle.pddl_task.specs.declared.effect.NumOp.{NumOp}
use Rattle.pddl_task.specs.declared.effect.NumOp.TheVariants as op
use Rattle.pddl_task.specs.declared.expression.Expr.{Expr}
use Rattle.pddl_task.specs.declared.expression.Expr.TheOpen.{Expr-F}
use Rattle.pddl_task.specs.declared.expression.Expr.TheFolds.{fold-Expr}
use Rattle.plan_step.specs.Meaning.{objects_of}
use Rattle.ground_numbers.specs.declared.named.Named.{Named}
use Rattle.ground_numbers.specs.Numbers.{named, with_seen}
use Rattle.ground_action.specs.Setting.{Setting, func_number}
use Rattle.ground_action.specs.Parts as spec
use Rattle.ground_action.specs.Leaves.{compared_parts}
use Rattle.ground_action.specs.GroundAction.{same_literal}
use Rattle.ground_action.specs.Work.{parts_ops}
use Rattle.ground_parts.specs.declared.part.Part.{Part}
use Rattle.ground_parts.specs.declared.part.Part.TheVariants.{Constant, Linear as Line}
use Rattle.ground_parts.specs.declared.comparison.Compared.{Compared}
use Rattle.ground_parts.specs.declared.comparison.Compared.TheVariants.{Settled, Left}
use Rattle.ground_parts.specs.Forms.{comparison_made}
use Rattle.ground_draft.specs.Drafts.{is_missing}
use Rattle.ground_draft.specs.declared.leaves.Leaf.{Leaf}
use Rattle.ground_draft.specs.declared.leaves.Leaf.TheVariants.{Nothing, Literal, Sides}
use Rattle.ground_draft.specs.declared.moves.Move.{Move}
use Rattle.ground_draft.specs.declared.moves.Move.TheVariants.{Put, Change}
use Rattle.ground_draft.specs.inside.Running.{run, ops_run}
use Rattle.ground_draft.specs.inside.Rising.{rising}

-- ---- literals: a repeated one once
abbrev pub with_literal : List (ℕ × Bool) → Leaf → List (ℕ × Bool)
with_literal lits Nothing = lits
with_literal lits (Literal n sign) = with_seen same_literal lits (n, sign)
with_literal lits (Sides r p q) = lits

abbrev pub literals_in : List Leaf → List (ℕ × Bool)
literals_in leaves = run with_literal [] leaves

-- ---- comparisons
-- a part that has forgotten what it reads
abbrev pub part_from : Part → spec.Part
part_from (Constant a) = spec.constant a
part_from (Line l) = spec.linear [] l

abbrev pub left_over : List (Linear × Cmp) → Compared → List (Linear × Cmp)
left_over cmps (Settled b) = cmps
left_over cmps (Left l c) = cmps ++ (l, c) ∷ []

abbrev pub leaf_compared : Leaf → Compared
leaf_compared Nothing = Settled true
leaf_compared (Literal n sign) = Settled true
leaf_compared (Sides r p q) = comparison_made (compared_parts r (part_from p) (part_from q))

abbrev pub with_comparison : List (Linear × Cmp) → Leaf → List (Linear × Cmp)
with_comparison cmps leaf = left_over cmps (leaf_compared leaf)

abbrev pub leaf_ops : Leaf → List Wide
leaf_ops Nothing = []
leaf_ops (Literal n sign) = []
leaf_ops (Sides r p q) = parts_ops r (part_from p) (part_from q)

abbrev pub comparisons_in : List Leaf → List (Linear × Cmp)
comparisons_in leaves = run with_comparison [] leaves

abbrev pub comparisons_ops_in : List Leaf → List Wide
comparisons_ops_in leaves = ops_run with_comparison (λ cmps leaf. leaf_ops leaf) [] leaves

-- ---- atoms that are added, and those that are deleted and not added
abbrev pub put_at : Bool → Move → Option ℕ
put_at want (Put sign n) = if (if want then sign else not sign) then Some n else None
put_at want (Change n a) = None

abbrev pub added_in : List Move → List ℕ
added_in moves = rising (filter_map (put_at true) moves)

abbrev pub unless_in : List ℕ → ℕ → Option ℕ
unless_in others n = if is_in n others then None else Some n

abbrev pub deleted_in : List Move → List ℕ
deleted_in moves = rising (filter_map (unless_in (added_in moves)) (filter_map (put_at false) moves))

-- ---- changed functions, and assigned ones
abbrev pub changed_at : Move → Option ℕ
changed_at (Put sign n) = None
changed_at (Change n a) = Some n

abbrev pub changed_in : List Move → List ℕ
changed_in moves = rising (filter_map changed_at moves)

-- ---- functions that are read and have no initial value
abbrev pub if_missing : Setting → Named → List ℕ
if_missing set k = if is_missing set k then func_number set k ∷ [] else []

abbrev pub call_reads : Setting → Named → List ℕ
call_reads set k = if set.changing_func k.symbol then if_missing set k else []

abbrev pub joined : List (List ℕ) → List ℕ
joined lists = flat_map (λ l. l) lists

abbrev pub reads_step : Setting → List ℕ → Expr-F (List ℕ) → List ℕ
reads_step set args (Expr-F.Num n) = []
reads_step set args (Expr-F.Call func terms) = call_reads set (named func (objects_of args terms))
reads_step set args (Expr-F.Add parts) = joined parts
reads_step set args (Expr-F.Mul parts) = joined parts
reads_step set args (Expr-F.Neg a) = a
reads_step set args (Expr-F.Sub a b) = a ++ b
reads_step set args (Expr-F.Div a b) = a ++ b

unfoldable pub expression_reads : Setting → List ℕ → Expr → List ℕ
expression_reads set args = fold-Expr (List ℕ) (reads_step set args)

abbrev pub condition_reads : Setting → List ℕ → Cond → List ℕ
condition_reads set args (cond.Lit sign pred terms) = []
condition_reads set args (cond.Same sign left right) = []
condition_reads set args (cond.Compare r left right) = expression_reads set args left ++ expression_reads set args right

abbrev pub is_assign : NumOp → Bool
is_assign op.Assign = true
is_assign op.Increase = false
is_assign op.Decrease = false
is_assign op.ScaleUp = false
is_assign op.ScaleDown = false

abbrev pub target_reads : Setting → NumOp → Named → List ℕ
target_reads set o k = if is_assign o then [] else if_missing set k

abbrev pub change_reads : Setting → List ℕ → Effect → List ℕ
change_reads set args (effect.Put sign pred terms) = []
change_reads set args (effect.Change o func terms by) = target_reads set o (named func (objects_of args terms)) ++ expression_reads set args by

abbrev pub instance_reads : Setting → List ℕ → List Cond → List Effect → List ℕ
instance_reads set args conds effs = rising (flat_map (condition_reads set args) conds ++ flat_map (change_reads set args) effs)

abbrev pub assigned_at : Setting → List ℕ → Effect → List ℕ
assigned_at set args (effect.Put sign pred terms) = []
assigned_at set args (effect.Change o func terms by) = if is_assign o then if_missing set (named func (objects_of args terms)) else []

abbrev pub assigned_in : Setting → List ℕ → List Effect → List ℕ
assigned_in set args effs = rising (flat_map (assigned_at set args) effs)
