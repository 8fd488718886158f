-- The counts that a point gives to occurrences, one after the other.
use Rattle.std.specs.Prelude.{◌≡◌, ℕ, suc, List, [], ◌∷◌, ◌++◌, pos, Result, IfOk, if◌then◌else◌}
use Rattle.rational.specs.Fraction.{Fraction, whole}
use Rattle.lin.specs.Linear.{point_of}
use Rattle.lin.specs.declared.failure.LinFail.{LinFail}
use Rattle.task_core.specs.declared.action.GAction.{GAction}
use Rattle.formula.specs.declared.point.Point.{Point}
use Rattle.formula.specs.Contents.{Contents}
use Rattle.formula.specs.Meets.{truth_at}
use Rattle.encode_rows.specs.declared.symbols.Symbols.{Symbols}
use Rattle.encode_laws.specs.Rows.{is_done}
use Rattle.encode_laws.specs.Symbolic.{Symbolic, is_counted, next_after}
use Rattle.encode_laws.specs.Numbering.{Key, truth, index_of}
use Rattle.encode_laws.specs.Made.{Made, made_from, IsIn}
use Rattle.encode_rows.specs.Standing.{Makes}
use Rattle.encode.specs.inside.Occurring.{IsNext}
use Rattle.encode.specs.inside.Copying.{occurrences_from}

-- 1 where a Boolean is true, else 0
abbrev pub truth_count : Point → ℕ → Fraction
truth_count p b = if truth_at p.truth b then whole (pos 1) else whole (pos 0)

-- by the numbers of the count variable and of the truth variable
abbrev pub count_by : Point → GAction → ℕ → ℕ → Fraction
count_by p a c b = if is_counted a then point_of p.values c else truth_count p b

-- by a table of keys, from occurrence i on, whose first numeric variable is c
abbrev pub counts_by : Point → List Key → ℕ → List GAction → ℕ → List Fraction
counts_by p table i [] c = []
counts_by p table i (a ∷ more) c = count_by p a c (index_of (truth (is_done i)) table) ∷ counts_by p table (suc i) more (next_after a c)

-- a key keeps its number in the table
abbrev pub KeepsNumbers : List Key → List Key → Type 0
KeepsNumbers old new = (key : Key) → IsIn key old → IsIn key new × (index_of key new ≡ index_of key old)

-- the counts are read by each table that the keys grow to
abbrev pub ReadsInTurn : {X : Type 0} → Point → List GAction → Contents → Symbols → List Fraction → Contents → List Fraction → Result X LinFail → Type 0
ReadsInTurn p acts old s olds new news r = (m : Made) (i : ℕ) (y : Symbolic) → IsNext i m y old s
    → Makes (occurrences_from i acts y) m new r
    × IfOk r (λ _. (table : List Key) → KeepsNumbers (made_from (occurrences_from i acts y) m).keys table → news ≡ olds ++ counts_by p table i acts y.next)
