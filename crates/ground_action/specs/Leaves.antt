-- The leaves of an instance: what is left of a condition leaf and of an effect leaf once the static part is settled.
use Rattle.std.specs.Prelude.{ℕ, Bool, true, false, not, ◌&&◌, ◌==◌, List, [], ◌∷◌, pos, if◌then◌else◌}
use Rattle.std.specs.List.{list_all}
use Rattle.rational.specs.Fraction.{Fraction, whole}
use Rattle.lin.specs.Linear.{Linear}
use Rattle.lin.specs.declared.comparison.Cmp.{Cmp}
use Rattle.lin.specs.declared.comparison.Cmp.TheVariants as cmp
use Rattle.pddl_task.specs.declared.condition.Cond.{Cond}
use Rattle.pddl_task.specs.declared.condition.Cond.TheVariants as cond
use Rattle.pddl_task.specs.declared.condition.Rel.{Rel}
use Rattle.pddl_task.specs.declared.condition.Rel.TheVariants as rel
use Rattle.pddl_task.specs.declared.effect.Effect.{Effect}
use Rattle.pddl_task.specs.declared.effect.Effect.TheVariants as effect
use Rattle.pddl_task.specs.declared.effect.NumOp.{NumOp}
use Rattle.pddl_task.specs.declared.effect.NumOp.TheVariants.{Assign, Increase, Decrease, ScaleUp, ScaleDown}
use Rattle.plan_step.specs.Order.{related}
use Rattle.plan_step.specs.Meaning.{object_of, objects_of, signed, Change, put, change, clashes}
use Rattle.ground_numbers.specs.declared.named.Named.{Named}
use Rattle.ground_numbers.specs.Numbers.{named}
use Rattle.ground_action.specs.Setting.{Setting, Proposition, atom}
use Rattle.ground_action.specs.Parts.{Part, constant, linear, Outcome, ends, bent, part, is_zero, difference, part_of, reads_of, linear_of}

-- ---- conditions: a leaf fails in each state of the instance, isn't linear, holds in each, or is left to the ground state
pub data Leaf : Type 0 where
  fails unclear nothing : Leaf
  literal : Proposition → Bool → Leaf
  compared : List Named → Linear → Cmp → Leaf

abbrev pub settled : Bool → Leaf
settled true = nothing
settled false = fails

-- how the difference of two sides compares with 0: for `<`, `<=` and `=` it is left minus right, for `>=` and `>` right minus
-- left
abbrev pub comparison_of : Rel → Cmp
comparison_of rel.Lt = cmp.Lt
comparison_of rel.Le = cmp.Le
comparison_of rel.Eq = cmp.Eq
comparison_of rel.Ge = cmp.Le
comparison_of rel.Gt = cmp.Lt

abbrev pub side_by_side : Rel → Part → Part → Part
side_by_side rel.Lt p q = difference p q
side_by_side rel.Le p q = difference p q
side_by_side rel.Eq p q = difference p q
side_by_side rel.Ge p q = difference q p
side_by_side rel.Gt p q = difference q p

abbrev pub compared_part : Cmp → Part → Leaf
compared_part c p = compared (reads_of p) (linear_of p) c

-- two constants are compared as they are
abbrev pub compared_parts : Rel → Part → Part → Leaf
compared_parts r (constant a) (constant b) = settled (related r a b)
compared_parts r (constant a) (linear q m) = compared_part (comparison_of r) (side_by_side r (constant a) (linear q m))
compared_parts r (linear p l) q = compared_part (comparison_of r) (side_by_side r (linear p l) q)

abbrev pub compared_outcomes : Rel → Outcome → Outcome → Leaf
compared_outcomes r ends b = fails
compared_outcomes r bent b = unclear
compared_outcomes r (part p) ends = fails
compared_outcomes r (part p) bent = unclear
compared_outcomes r (part p) (part q) = compared_parts r p q

abbrev pub atom_leaf : Setting → Bool → Named → Leaf
atom_leaf set sign k = if set.changing_pred k.symbol then literal (atom k) sign else settled (signed sign (set.start.truth k.symbol k.args))

abbrev pub leaf_of : Setting → List ℕ → Cond → Leaf
leaf_of set args (cond.Lit sign pred terms) = atom_leaf set sign (named pred (objects_of args terms))
leaf_of set args (cond.Same sign left right) = settled (signed sign (object_of args left == object_of args right))
leaf_of set args (cond.Compare r left right) = compared_outcomes r (part_of set args left) (part_of set args right)

abbrev pub leaf_reads : Leaf → List Named
leaf_reads fails = []
leaf_reads unclear = []
leaf_reads nothing = []
leaf_reads (literal x sign) = []
leaf_reads (compared r l c) = r

-- ---- effects: what becomes of an atom, or of a function; a factor and a divisor are constants
pub data Act : Type 0 where
  assign increase decrease : Part → Act
  scale_up scale_down : Fraction → Act

pub data Move : Type 0 where
  puts_atom : Bool → Named → Move
  acts : Named → Act → Move

-- it has no value in any state of the instance, it isn't linear, or it is a move
pub data MoveOutcome : Type 0 where
  move_ends move_bent : MoveOutcome
  move : Move → MoveOutcome

abbrev pub scaled : Part → (Fraction → MoveOutcome) → MoveOutcome
scaled (constant a) f = f a
scaled (linear r l) f = move_bent

-- a `scale-down` by 0 needs an amount that isn't there
abbrev pub moved : NumOp → Named → Part → MoveOutcome
moved Assign k p = move (acts k (assign p))
moved Increase k p = move (acts k (increase p))
moved Decrease k p = move (acts k (decrease p))
moved ScaleUp k p = scaled p (λ a. move (acts k (scale_up a)))
moved ScaleDown k p = scaled p (λ a. if is_zero a then move_ends else move (acts k (scale_down a)))

abbrev pub moved_by : NumOp → Named → Outcome → MoveOutcome
moved_by op k ends = move_ends
moved_by op k bent = move_bent
moved_by op k (part p) = moved op k p

abbrev pub move_of : Setting → List ℕ → Effect → MoveOutcome
move_of set args (effect.Put sign pred terms) = move (puts_atom sign (named pred (objects_of args terms)))
move_of set args (effect.Change op func terms by) = moved_by op (named func (objects_of args terms)) (part_of set args by)

-- what it reads: the target, but of an assignment, and what the amount reads
abbrev pub act_reads : Named → Act → List Named
act_reads k (assign p) = reads_of p
act_reads k (increase p) = k ∷ reads_of p
act_reads k (decrease p) = k ∷ reads_of p
act_reads k (scale_up a) = k ∷ []
act_reads k (scale_down a) = k ∷ []

abbrev pub move_reads : Move → List Named
move_reads (puts_atom sign k) = []
move_reads (acts k a) = act_reads k a

-- ---- clean: what an effect leaf writes, whatever its amount, and no two writes clash
abbrev pub written : List ℕ → Effect → Change
written args (effect.Put sign pred terms) = put sign pred (objects_of args terms)
written args (effect.Change op func terms by) = change op func (objects_of args terms) (whole (pos 0))

abbrev pub are_clean : List Change → Bool
are_clean [] = true
are_clean (c ∷ more) = list_all (λ d. not (clashes d c)) more && are_clean more
