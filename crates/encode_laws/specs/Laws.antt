-- What the formula of n copies says: the counts of each point that meets it spell a valid plan.
use Rattle.std.specs.Prelude.{◌≡◌, ℕ, List, map, pos}
use Rattle.rational.specs.Fraction.{whole}
use Rattle.task_core.specs.Task.{GroundParts}
use Rattle.task_core.specs.Words.{written_out, IsWord}
use Rattle.task_core.specs.Plan.{rolls, IsValidPlan}
use Rattle.formula.specs.declared.point.Point.{Point}
use Rattle.pattern.specs.Word.{copies, parts_of}
use Rattle.encode_laws.specs.Encoding.{counts_at}

-- the word that the counts at a point spell, written out
abbrev pub spelled : GroundParts → List ℕ → ℕ → Point → List ℕ
spelled task pattern n p = written_out (parts_of (copies n pattern) (counts_at task pattern n p))

-- the counts at a point are whole and not below 0, and spell a word of n copies that is a valid plan
pub record SpellsPlan (task : GroundParts) (pattern : List ℕ) (n : ℕ) (p : Point) : Type 0 where
  pub counts : List ℕ
  pub at_point : counts_at task pattern n p ≡ map (λ k. whole (pos k)) counts
  pub word : IsWord (rolls task) pattern n (spelled task pattern n p)
  pub valid : IsValidPlan task (spelled task pattern n p)
