-- The formula of n copies of a pattern of a ground task, and the counts that a point gives to its occurrences.
use Rattle.std.specs.Prelude.{ℕ, suc, List, [], ◌∷◌, map, if◌then◌else◌}
use lib.IntN.{pos}
use Rattle.rational.specs.Fraction.{Fraction, whole}
use Rattle.lin.specs.Linear.{point_of}
use Rattle.task_core.specs.declared.action.GAction.{GAction}
use Rattle.task_core.specs.Task.{GroundParts, start, action_at}
pub use Rattle.pattern.specs.Word.{copies}
use Rattle.formula.specs.declared.point.Point.{Point}
use Rattle.formula.specs.Contents.{Contents}
use Rattle.formula.specs.Meets.{truth_at}
use Rattle.encode_laws.specs.Rows.{is_done, Item}
use Rattle.encode_laws.specs.Symbolic.{is_counted, next_after, rows_of}
use Rattle.encode_laws.specs.Numbering.{truth, index_of, table_of, numbered}

-- the action of each occurrence
abbrev pub occurrences : GroundParts → List ℕ → ℕ → List GAction
occurrences task pattern n = map (action_at task) (copies n pattern)

abbrev pub items_of : GroundParts → List ℕ → ℕ → List Item
items_of task pattern n = rows_of (start task) task.goal (occurrences task pattern n)

abbrev pub formula_of : GroundParts → List ℕ → ℕ → Contents
formula_of task pattern n = numbered (items_of task pattern n)

-- ---- the count of an occurrence: its count variable, or 1 and 0 where its truth variable is true and false
abbrev pub count_at : Point → List Item → ℕ → GAction → ℕ → Fraction
count_at p items i a c =
    if is_counted a then point_of p.values c else (if truth_at p.truth (index_of (truth (is_done i)) (table_of items)) then whole (pos 1) else whole (pos 0))

abbrev pub counts_from : Point → List Item → ℕ → List GAction → ℕ → List Fraction
counts_from p items i [] c = []
counts_from p items i (a ∷ more) c = count_at p items i a c ∷ counts_from p items (suc i) more (next_after a c)

abbrev pub counts_at : GroundParts → List ℕ → ℕ → Point → List Fraction
counts_at task pattern n p = counts_from p (items_of task pattern n) 0 (occurrences task pattern n) 0
