-- Parts of expressions as the program has them: without those that they read.
use Rattle.std.specs.Prelude.{ℕ, List, [], ◌∷◌, Option, Some, None, pos, if◌then◌else◌}
use Rattle.rational.specs.Fraction.{Fraction, whole, neg_ℚ, ◌+ℚ◌, ◌*ℚ◌, inv_ℚ, ◌/ℚ◌}
use Rattle.lin.specs.Linear.{Linear, fixed, var, add, scale}
use Rattle.lin.specs.Negative.{negative}
use Rattle.lin.specs.Made.{add_ops, scale_ops, div_ops}
use Rattle.pddl_task.specs.declared.expression.Expr.{Expr}
use Rattle.plan_step.specs.Met.{Met, found, lacks, and_then}
use Rattle.ground_numbers.specs.declared.named.Named.{Named}
use Rattle.ground_action.specs.Setting.{Setting, value_in, func_number}
use Rattle.ground_action.specs.Parts as spec
use Rattle.ground_action.specs.Work.{Work, work_of}
use Rattle.ground_parts.specs.declared.part.Part.{Part}
use Rattle.ground_parts.specs.declared.part.Part.TheVariants.{Constant, Linear as Line}
use Rattle.ground_parts.specs.Forms.{form_of}
use Rattle.ground_parts.specs.declared.joint.Joint.{Joint}
use Rattle.ground_parts.specs.declared.joint.Joint.TheVariants as joint
use Rattle.ground_parts.specs.inside.Giving.{made_by}

abbrev pub form_in : spec.Outcome → Met Part
form_in spec.ends = lacks
form_in spec.bent = lacks
form_in (spec.part p) = found (form_of p)

-- what a work comes to
abbrev pub met_in : Work → Met Part
met_in w = and_then (made_by w.ops w.outcome) form_in

unfoldable pub part_met : Setting → List ℕ → Expr → Met Part
part_met set args e = met_in (work_of set args e)

-- ---- two parts
abbrev pub linear_form : Part → Linear
linear_form (Constant a) = fixed a
linear_form (Line l) = l

abbrev pub sum_form : Part → Part → Part
sum_form (Constant a) (Constant b) = Constant (a +ℚ b)
sum_form (Constant a) (Line l) = Line (add (fixed a) l)
sum_form (Line l) (Constant b) = Line (add l (fixed b))
sum_form (Line l) (Line m) = Line (add l m)

abbrev pub negative_form : Part → Part
negative_form (Constant a) = Constant (neg_ℚ a)
negative_form (Line l) = Line (negative l)

abbrev pub plus_met : Part → Part → Met Part
plus_met p q = made_by (add_ops (linear_form p) (linear_form q)) (sum_form p q)

abbrev pub minus_met : Part → Part → Met Part
minus_met p q = plus_met p (negative_form q)

abbrev pub times_met : Part → Part → Met Part
times_met (Constant a) (Constant b) = made_by (scale_ops a (fixed b)) (Constant (a *ℚ b))
times_met (Constant a) (Line l) = made_by (scale_ops a l) (Line (scale a l))
times_met (Line l) (Constant b) = made_by (scale_ops b l) (Line (scale b l))
times_met (Line l) (Line m) = lacks

abbrev pub quotient_form : Part → Fraction → Part
quotient_form (Constant a) c = Constant (a /ℚ c)
quotient_form (Line l) c = Line (scale (inv_ℚ c) l)

abbrev pub over_met : Part → Part → Met Part
over_met p (Constant c) = if spec.is_zero c then lacks else made_by (div_ops c (linear_form p)) (quotient_form p c)
over_met p (Line m) = lacks

abbrev pub joined : Joint → Part → Part → Met Part
joined joint.Plus p q = plus_met p q
joined joint.Minus p q = minus_met p q
joined joint.Times p q = times_met p q
joined joint.Over p q = over_met p q

-- folded from the left
abbrev pub folded_from : Joint → Part → List (Met Part) → Met Part
folded_from j p [] = found p
folded_from j p (m ∷ more) = and_then m (λ q. and_then (joined j p q) (λ r. folded_from j r more))

-- over no parts
abbrev pub unit_of : Joint → Fraction
unit_of joint.Plus = whole (pos 0)
unit_of joint.Minus = whole (pos 0)
unit_of joint.Times = whole (pos 1)
unit_of joint.Over = whole (pos 1)

abbrev pub folded : Joint → List (Met Part) → Met Part
folded j [] = found (Constant (unit_of j))
folded j (m ∷ more) = and_then m (λ p. folded_from j p more)

abbrev pub given_form : Option Fraction → Met Part
given_form None = lacks
given_form (Some x) = found (Constant x)

abbrev pub call_met : Setting → Named → Met Part
call_met set k = if set.changing_func k.symbol then found (Line (var (func_number set k))) else given_form (value_in set.start k)
