-- What the crates below say of a task and the places of its pattern: the laws that the meaning of texts is made of.
use Rattle.std.specs.Prelude.{◌≡◌, Bool, ℕ, List, length, Option}
use Rattle.std.specs.List.{Any}
use Rattle.rational.specs.Fraction.{Fraction}
use Rattle.pddl_task.specs.declared.parts.TaskParts.{TaskParts}
use Rattle.task_core.specs.Plan.{Reaches}
use Rattle.ground_laws.specs.Result.{task_from}
use Rattle.ground_plans.specs.Plans.{ReachesGoal}
use Rattle.formula.specs.declared.atom.Atom.{Atom}
use Rattle.formula.specs.declared.atom.Lit.{Lit}
use Rattle.formula.specs.declared.point.Point.{Point}
use Rattle.formula.specs.Meets.{IsSolution, AreWhole}
use Rattle.farkas_law.specs.Lemma.{IsShown}
use Rattle.theory_law.specs.declared.trace.Coefs.{Coefs}
use Rattle.theory_law.specs.Readings.{Reads}
use Rattle.planner_text.specs.Text.{formula_for}

pub record Known (task : TaskParts) (places : List ℕ) : Type 0 where
  -- a lemma holds at whole counts
  pub means : (counts : List Bool) (atoms : List (Option Atom)) (clause : List Lit) (why : Coefs) → IsShown counts atoms clause why
      → (values : List Fraction) → length values ≡ length counts → AreWhole counts values → Any (Reads counts atoms values) clause
  -- what reaches the goal does so in the ground task
  pub reached : (n : ℕ) → ReachesGoal task places n → Reaches (task_from task) places n
  -- and then some point meets the formula
  pub point : (n : ℕ) → Reaches (task_from task) places n → (p : Point) × IsSolution (formula_for task places n) p
