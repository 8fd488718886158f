-- What is made of the leaves of an instance. A literal has the number of its atom, a comparison its two sides as parts, and a
-- static leaf is nothing; a change has the number of its atom or function. Which functions the parts read isn't kept.
use Rattle.std.specs.Prelude.{ℕ, Bool, true, List, [], ◌∷◌, Option, Some, None, if◌then◌else◌}
use Rattle.rational.specs.Fraction.{Fraction}
use Rattle.pddl_task.specs.declared.condition.Cond.{Cond}
use Rattle.pddl_task.specs.declared.condition.Cond.TheVariants as cond
use Rattle.pddl_task.specs.declared.condition.Rel.{Rel}
use Rattle.pddl_task.specs.declared.effect.Effect.{Effect}
use Rattle.pddl_task.specs.declared.effect.Effect.TheVariants as effect
use Rattle.pddl_task.specs.declared.effect.NumOp.{NumOp}
use Rattle.pddl_task.specs.declared.effect.NumOp.TheVariants as op
use Rattle.plan_step.specs.Meaning.{objects_of}
use Rattle.plan_step.specs.Order.{related}
use Rattle.ground_numbers.specs.declared.named.Named.{Named}
use Rattle.ground_numbers.specs.Numbers.{named, same, number_in}
use Rattle.ground_action.specs.Setting.{Setting}
use Rattle.ground_action.specs.Parts as spec
use Rattle.ground_action.specs.Work.{work_of}
use Rattle.ground_parts.specs.declared.part.Part.{Part}
use Rattle.ground_parts.specs.declared.part.Part.TheVariants.{Constant, Linear as Line}
use Rattle.ground_parts.specs.Forms.{part_made}
use Rattle.ground_draft.specs.declared.leaves.Leaf.{Leaf}
use Rattle.ground_draft.specs.declared.leaves.Leaf.TheVariants.{Nothing, Literal, Sides}
use Rattle.ground_draft.specs.declared.moves.Act.{Act}
use Rattle.ground_draft.specs.declared.moves.Act.TheVariants as act
use Rattle.ground_draft.specs.declared.moves.Move.{Move}
use Rattle.ground_draft.specs.declared.moves.Move.TheVariants.{Put, Change}

-- ---- conditions
abbrev pub sides_made : Rel → Option Part → Option Part → Option Leaf
sides_made r None b = None
sides_made r (Some p) None = None
sides_made r (Some p) (Some q) = Some (Sides r p q)

abbrev pub literal_made : Setting → List Named → Bool → Named → Leaf
literal_made set atoms sign k = if set.changing_pred k.symbol then Literal (number_in same atoms k) sign else Nothing

abbrev pub leaf_made : Setting → List Named → List ℕ → Cond → Option Leaf
leaf_made set atoms args (cond.Lit sign pred terms) = Some (literal_made set atoms sign (named pred (objects_of args terms)))
leaf_made set atoms args (cond.Same sign left right) = Some Nothing
leaf_made set atoms args (cond.Compare r left right) = sides_made r (part_made (work_of set args left).outcome) (part_made (work_of set args right).outcome)

-- a comparison of two constants holds
abbrev pub sides_hold : Rel → Part → Part → Bool
sides_hold r (Constant a) (Constant b) = related r a b
sides_hold r (Constant a) (Line m) = true
sides_hold r (Line l) q = true

abbrev pub leaf_holds : Leaf → Bool
leaf_holds Nothing = true
leaf_holds (Literal n sign) = true
leaf_holds (Sides r p q) = sides_hold r p q

-- ---- effects
abbrev pub scale_made : (Fraction → Act) → Part → Option Act
scale_made f (Constant a) = Some (f a)
scale_made f (Line l) = None

abbrev pub divisor_made : Part → Option Act
divisor_made (Constant a) = if spec.is_zero a then None else Some (act.ScaleDown a)
divisor_made (Line l) = None

abbrev pub act_made : NumOp → Part → Option Act
act_made op.Assign p = Some (act.Assign p)
act_made op.Increase p = Some (act.Increase p)
act_made op.Decrease p = Some (act.Decrease p)
act_made op.ScaleUp p = scale_made (λ a. act.ScaleUp a) p
act_made op.ScaleDown p = divisor_made p

abbrev pub acts_made : NumOp → Option Part → Option Act
acts_made o None = None
acts_made o (Some p) = act_made o p

abbrev pub on_func : ℕ → Option Act → Option Move
on_func n None = None
on_func n (Some a) = Some (Change n a)

abbrev pub move_made : Setting → List Named → List ℕ → Effect → Option Move
move_made set atoms args (effect.Put sign pred terms) = Some (Put sign (number_in same atoms (named pred (objects_of args terms))))
move_made set atoms args (effect.Change o func terms by) = on_func (number_in same set.funcs (named func (objects_of args terms))) (acts_made o (part_made (work_of set args by).outcome))

-- ---- all of them, or none where one isn't made
abbrev pub with_first : {B : Type 0} → Option B → Option (List B) → Option (List B)
with_first None more = None
with_first (Some x) None = None
with_first (Some x) (Some xs) = Some (x ∷ xs)

abbrev pub all_made : {A B : Type 0} → (A → Option B) → List A → Option (List B)
all_made f [] = Some []
all_made f (x ∷ xs) = with_first (f x) (all_made f xs)
