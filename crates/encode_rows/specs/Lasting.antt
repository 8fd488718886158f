-- The comparisons of a rollable action at its last repetition.
use Rattle.std.specs.Prelude.{ℕ, List, [], ◌∷◌, if◌then◌else◌}
use Rattle.rational.specs.Fraction.{Fraction, ◌*ℚ◌}
use Rattle.rational.specs.Linear.{Terms}
use Rattle.frac128.specs.declared.operations.Wide.{Wide}
use Rattle.lin.specs.Normal.{is_zero}
use Rattle.lin.specs.Linear.{Linear, replacement_of, subst}
use Rattle.lin.specs.Made.{subst_ops}
use Rattle.lin.specs.Operations.{adding, multiplying, AllFit}
use Rattle.lin.specs.declared.comparison.Cmp.{Cmp}
use Rattle.task_core.specs.Growth.{change_of}
use Rattle.encode_rows.specs.declared.symbols.Symbols.{Symbols}
use Rattle.encode_laws.specs.Rows.{Literal, Item, needs}
use Rattle.encode_laws.specs.Symbolic.{Symbolic, compared_rows, last_rows}
use Rattle.encode_laws.specs.Operations.{change_ops, at_last, at_last_ops}

-- the operations of one increment whose function the expression reads with this coefficient
abbrev pub amount_ops : Fraction → Fraction → Fraction → List Wide
amount_ops sum coefficient amount = if is_zero coefficient then [] else (multiplying coefficient amount ∷ adding sum (coefficient *ℚ amount) ∷ [])

-- a comparison that changes by d, where the count has this number
abbrev pub changed_row : Fraction → ℕ → Linear × Cmp → Literal → Symbolic → List Item
changed_row d count c f y = needs (at_last_ops d count (subst y.value c.0)) ∷ compared_rows (f ∷ []) c.1 (at_last d count (subst y.value c.0))

abbrev pub last_row : Terms → ℕ → Linear × Cmp → Literal → Symbolic → List Item
last_row incs count c f y =
    needs (change_ops incs c.0) ∷ (if is_zero (change_of incs c.0.terms) then [] else changed_row (change_of incs c.0.terms) count c f y)

abbrev pub last_rows_at : Terms → ℕ → List (Linear × Cmp) → Literal → Symbolic → List Item
last_rows_at incs count cmps f y = last_rows (f ∷ []) incs (record { truth = y.truth; value = y.value; next = count }) cmps

-- the expression's replacements were made before
abbrev pub IsReplaced : Symbols → Linear × Cmp → Type 0
IsReplaced s c = AllFit (subst_ops (replacement_of s.values) c.0)
