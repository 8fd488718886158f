-- The operations that are named in making the formula, each with the row for which it is made: the number of rows so far and 1.
-- An expression's operations stand before its row. Each literal of a row names the operations of its bound, also where its atom
-- was made before, and where the row is left out. The choice of what is named is this project's own.
use Rattle.std.specs.Prelude.{ℕ, suc, Bool, true, false, not, List, [], ◌∷◌, ◌++◌, map, Option, Some, None, if◌then◌else◌}
use Rattle.std.specs.List.{flat_map, AllByRecursion, Contains}
use lib.IntN.{pos, negsuc, ◌+ℤ◌}
use Rattle.rational.specs.Fraction.{Fraction, whole, ◌/ℚ◌, neg_ℚ}
use Rattle.rational.specs.Floor.{floor_of, ceil_of}
use Rattle.rational.specs.Linear.{Terms}
use Rattle.frac128.specs.Operations.{Fits, Passes}
use Rattle.frac128.specs.declared.operations.Wide.{Wide}
use Rattle.lin.specs.Linear.{Linear, fixed, add}
use Rattle.lin.specs.Operations.{adding, dividing}
use Rattle.lin.specs.Made.{add_ops, div_ops}
use Rattle.task_core.specs.Task.{GroundParts}
pub use Rattle.pattern.specs.Rolled.{subtracting}
use Rattle.formula.specs.declared.atom.Lit.{Lit}
use Rattle.formula.specs.Atoms.{is_one_count}
use Rattle.encode_laws.specs.Rows.{Fact, at_most, below, named, Literal, yes, no, lit, Item, number, boolean, row, needs}
use Rattle.encode_laws.specs.Numbering.{Key, is_positive, clause_of, counts_of, table_of}
use Rattle.encode_laws.specs.Encoding.{items_of}

-- the bound of a count: rounded down, or up and then less 1; one more is named too, so that its negation is in range
abbrev pub rounding_ops : Bool → Fraction → List Wide
rounding_ops true b = adding (whole (floor_of b)) (whole (pos 1)) ∷ []
rounding_ops false b = subtracting (whole (ceil_of b)) (whole (pos 1)) ∷ adding (whole (ceil_of b +ℤ negsuc 0)) (whole (pos 1)) ∷ []

-- any other expression without its constant k, divided by its first coefficient a, and then -k divided by it
abbrev pub quotient_ops : Fraction → Linear → List Wide
quotient_ops a l = (add_ops l (fixed (neg_ℚ l.constant)) ++ div_ops a (add l (fixed (neg_ℚ l.constant)))) ++ dividing (neg_ℚ l.constant) a ∷ []

abbrev pub bound_ops_of : Bool → Bool → Fraction → Linear → List Wide
bound_ops_of true down a l = dividing (neg_ℚ l.constant) a ∷ rounding_ops down (neg_ℚ l.constant /ℚ a)
bound_ops_of false down a l = quotient_ops a l

-- those of `l <= 0`, or `l < 0` where it is strict; ts are the terms
abbrev pub bound_ops : List Bool → Bool → Linear → Terms → List Wide
bound_ops counts strict l [] = []
bound_ops counts strict l (t ∷ ts) = bound_ops_of (is_one_count counts (t ∷ ts)) (if strict then not (is_positive t.1) else is_positive t.1) t.1 l

abbrev pub fact_ops : List Bool → Fact → List Wide
fact_ops counts (at_most l) = bound_ops counts false l l.terms
fact_ops counts (below l) = bound_ops counts true l l.terms
fact_ops counts (named n) = []

abbrev pub literal_ops : List Bool → Literal → List Wide
literal_ops counts yes = []
literal_ops counts no = []
literal_ops counts (lit s f) = fact_ops counts f

abbrev pub item_ops : List Bool → Item → List Wide
item_ops counts (number v c) = []
item_ops counts (boolean f) = fact_ops counts f
item_ops counts (row ls) = flat_map (literal_ops counts) ls
item_ops counts (needs ops) = ops

-- ---- with their rows
abbrev pub one_more : Option (List Lit) → ℕ → ℕ
one_more None r = r
one_more (Some c) r = suc r

abbrev pub rows_behind : List Key → List Bool → ℕ → Item → ℕ
rows_behind table counts r (number v c) = r
rows_behind table counts r (boolean f) = r
rows_behind table counts r (needs ops) = r
rows_behind table counts r (row ls) = one_more (clause_of table counts ls) r

abbrev pub operations_from : List Key → List Bool → ℕ → List Item → List (ℕ × Wide)
operations_from table counts r [] = []
operations_from table counts r (x ∷ xs) = map (λ o. (suc r, o)) (item_ops counts x) ++ operations_from table counts (rows_behind table counts r x) xs

abbrev pub operations_of : GroundParts → List ℕ → ℕ → List (ℕ × Wide)
operations_of task pattern n = operations_from (table_of (items_of task pattern n)) (counts_of (items_of task pattern n)) 0 (items_of task pattern n)

-- all of them fit
abbrev pub AllNamedFit : List (ℕ × Wide) → Type 0
AllNamedFit ops = AllByRecursion (λ o. Fits o.1.op o.1.x o.1.y) ops

-- it is one of them, and passes
pub record IsNamedPassing (ops : List (ℕ × Wide)) (r : ℕ) (w : Wide) : Type 0 where
  pub named : Contains ops (r, w)
  pub passes : Passes w.op w.x w.y
