-- The goal's draft, leaf by leaf.
use Rattle.std.specs.Prelude.{ℕ, Bool, pos, ◌==◌, List, [], ◌∷◌, ◌++◌, Option, Some, None, if◌then◌else◌}
use Rattle.rational.specs.Fraction.{whole}
use Rattle.frac128.specs.declared.operations.Wide.{Wide}
use Rattle.lin.specs.Linear.{Linear, fixed}
use Rattle.lin.specs.declared.comparison.Cmp.{Cmp}
use Rattle.lin.specs.declared.comparison.Cmp.TheVariants as cmp
use Rattle.pddl_task.specs.declared.condition.Cond.{Cond}
use Rattle.pddl_task.specs.declared.condition.Cond.TheVariants as cond
use Rattle.plan_step.specs.Meaning.{object_of, objects_of, signed}
use Rattle.ground_numbers.specs.declared.named.Named.{Named}
use Rattle.ground_numbers.specs.Numbers.{named, same, number_in, with_seen}
use Rattle.ground_action.specs.Setting.{Setting}
use Rattle.ground_action.specs.GroundAction.{same_literal}
use Rattle.ground_action.specs.Work.{work_of, sides_ops, cond_has_values}
use Rattle.ground_parts.specs.declared.comparison.Compared.{Compared}
use Rattle.ground_parts.specs.declared.comparison.Compared.TheVariants.{Settled, Left}
use Rattle.ground_parts.specs.Forms.{part_made}
use Rattle.ground_draft.specs.declared.draft.Draft.{Draft}
use Rattle.ground_draft.specs.declared.leaves.Leaf.{Leaf}
use Rattle.ground_draft.specs.declared.goal.Target.{Target}
use Rattle.ground_draft.specs.declared.goal.Target.TheVariants as target
use Rattle.ground_draft.specs.declared.goal.Targets.{Targets}
use Rattle.ground_draft.specs.inside.Running.{run, ops_run}
use Rattle.ground_draft.specs.inside.Rising.{rising}
use Rattle.ground_draft.specs.inside.Made.{sides_made}
use Rattle.ground_draft.specs.inside.Lists.{leaf_compared, leaf_ops, condition_reads}

abbrev pub settled : Bool → Target
settled b = if b then target.Nothing else target.Fails

abbrev pub compared : Compared → Target
compared (Settled b) = settled b
compared (Left l c) = target.Compared l c

-- two sides, where both are parts
abbrev pub sides_target : Option Leaf → Target
sides_target None = target.Fails
sides_target (Some leaf) = compared (leaf_compared leaf)

abbrev pub sides_target_ops : Option Leaf → List Wide
sides_target_ops None = []
sides_target_ops (Some leaf) = leaf_ops leaf

abbrev pub atom_target : Setting → List Named → Bool → Named → Target
atom_target set atoms sign k = if set.changing_pred k.symbol then target.Literal (number_in same atoms k) sign else settled (signed sign (set.start.truth k.symbol k.args))

abbrev pub target_of : Setting → List Named → Cond → Target
target_of set atoms (cond.Lit sign pred terms) = atom_target set atoms sign (named pred (objects_of [] terms))
target_of set atoms (cond.Same sign left right) = settled (signed sign (object_of [] left == object_of [] right))
target_of set atoms (cond.Compare r left right) =
    if cond_has_values set [] (cond.Compare r left right) then sides_target (sides_made r (part_made (work_of set [] left).outcome) (part_made (work_of set [] right).outcome)) else target.Fails

abbrev pub target_ops : Setting → Cond → List Wide
target_ops set (cond.Lit sign pred terms) = []
target_ops set (cond.Same sign left right) = []
target_ops set (cond.Compare r left right) =
    if cond_has_values set [] (cond.Compare r left right)
    then sides_ops set [] left right ++ sides_target_ops (sides_made r (part_made (work_of set [] left).outcome) (part_made (work_of set [] right).outcome))
    else []

-- ---- one after the other
abbrev pub no_targets : Targets
no_targets = record { lits = []; cmps = []; reads = [] }

-- 1 <= 0
abbrev pub never : Linear × Cmp
never = (fixed (whole (pos 1)), cmp.Le)

abbrev pub with_target : Targets → List ℕ → Target → Targets
with_target s reads target.Nothing = s
with_target s reads target.Fails = record { lits = s.lits; cmps = s.cmps ++ never ∷ []; reads = s.reads }
with_target s reads (target.Literal n sign) = record { lits = with_seen same_literal s.lits (n, sign); cmps = s.cmps; reads = s.reads }
with_target s reads (target.Compared l c) = record { lits = s.lits; cmps = s.cmps ++ (l, c) ∷ []; reads = s.reads ++ reads }

abbrev pub next_target : Setting → List Named → Targets → Cond → Targets
next_target set atoms s c = with_target s (condition_reads set [] c) (target_of set atoms c)

abbrev pub targets_of : Setting → List Named → List Cond → Targets
targets_of set atoms goal = run (next_target set atoms) no_targets goal

abbrev pub targets_ops : Setting → List Named → List Cond → List Wide
targets_ops set atoms goal = ops_run (next_target set atoms) (λ s c. target_ops set c) no_targets goal

abbrev pub targets_draft : Targets → Draft
targets_draft s = record {
  action = record { lits = s.lits; cmps = s.cmps; adds = []; dels = []; incs = []; sets = [] };
  reads = rising s.reads;
  assigns = [];
}
