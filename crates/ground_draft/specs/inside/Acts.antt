-- Changes of functions by number: a function is given a part as its value, is increased or decreased by one, or is scaled by a
-- fraction. Which functions the parts read isn't kept.
use Rattle.std.specs.Prelude.{ℕ, Bool, true, false, pos, ◌==◌, List, [], ◌∷◌, ◌++◌, if◌then◌else◌}
use Rattle.std.specs.List.{list_all}
use Rattle.rational.specs.Fraction.{Fraction, whole, neg_ℚ, ◌+ℚ◌, inv_ℚ}
use Rattle.frac128.specs.declared.operations.Wide.{Wide}
use Rattle.lin.specs.Linear.{Linear, var, add, scale}
use Rattle.lin.specs.Negative.{negative}
use Rattle.lin.specs.Operations.{adding}
use Rattle.lin.specs.Made.{add_ops, scale_ops, div_ops}
use Rattle.ground_action.specs.Parts.{is_zero}
use Rattle.ground_parts.specs.declared.part.Part.{Part}
use Rattle.ground_parts.specs.declared.part.Part.TheVariants.{Constant, Linear as Line}
use Rattle.ground_parts.specs.inside.Parts.{linear_form}
use Rattle.ground_draft.specs.declared.moves.Act.{Act}
use Rattle.ground_draft.specs.declared.moves.Act.TheVariants.{Assign, Increase, Decrease, ScaleUp, ScaleDown}
use Rattle.ground_draft.specs.declared.moves.Move.{Move}
use Rattle.ground_draft.specs.declared.moves.Move.TheVariants.{Put, Change}
use Rattle.ground_draft.specs.declared.rows.Row.{Row}
use Rattle.ground_draft.specs.declared.rows.Row.TheVariants.{Same, Grows, Becomes}
use Rattle.ground_draft.specs.declared.rows.Rows.{Rows}
use Rattle.ground_draft.specs.inside.Running.{run, ops_run}

abbrev pub is_constant : Part → Bool
is_constant (Constant a) = true
is_constant (Line l) = false

abbrev pub amount_of : Part → Fraction
amount_of (Constant a) = a
amount_of (Line l) = whole (pos 0)

-- an increase or a decrease by a constant
abbrev pub is_step : Act → Bool
is_step (Assign p) = false
is_step (Increase p) = is_constant p
is_step (Decrease p) = is_constant p
is_step (ScaleUp a) = false
is_step (ScaleDown a) = false

-- ---- one act on a sum, and on a new value
abbrev pub grow : Act → Fraction → Fraction
grow (Assign p) q = q
grow (Increase p) q = q +ℚ amount_of p
grow (Decrease p) q = q +ℚ neg_ℚ (amount_of p)
grow (ScaleUp a) q = q
grow (ScaleDown a) q = q

abbrev pub grow_ops : Act → Fraction → List Wide
grow_ops (Assign p) q = []
grow_ops (Increase p) q = adding q (amount_of p) ∷ []
grow_ops (Decrease p) q = adding q (neg_ℚ (amount_of p)) ∷ []
grow_ops (ScaleUp a) q = []
grow_ops (ScaleDown a) q = []

abbrev pub become : Act → Linear → Linear
become (Assign p) l = linear_form p
become (Increase p) l = add l (linear_form p)
become (Decrease p) l = add l (negative (linear_form p))
become (ScaleUp a) l = scale a l
become (ScaleDown a) l = if is_zero a then l else scale (inv_ℚ a) l

abbrev pub become_ops : Act → Linear → List Wide
become_ops (Assign p) l = []
become_ops (Increase p) l = add_ops l (linear_form p)
become_ops (Decrease p) l = add_ops l (negative (linear_form p))
become_ops (ScaleUp a) l = scale_ops a l
become_ops (ScaleDown a) l = if is_zero a then [] else div_ops a l

-- ---- of all moves those on one function, in text order
abbrev pub step_by : ℕ → Move → Bool
step_by n (Put sign m) = true
step_by n (Change m a) = if m == n then is_step a else true

abbrev pub grow_by : ℕ → Fraction → Move → Fraction
grow_by n q (Put sign m) = q
grow_by n q (Change m a) = if m == n then grow a q else q

abbrev pub grow_ops_by : ℕ → Fraction → Move → List Wide
grow_ops_by n q (Put sign m) = []
grow_ops_by n q (Change m a) = if m == n then grow_ops a q else []

abbrev pub become_by : ℕ → Linear → Move → Linear
become_by n l (Put sign m) = l
become_by n l (Change m a) = if m == n then become a l else l

abbrev pub become_ops_by : ℕ → Linear → Move → List Wide
become_ops_by n l (Put sign m) = []
become_ops_by n l (Change m a) = if m == n then become_ops a l else []

abbrev pub is_stepped_at : List Move → ℕ → Bool
is_stepped_at moves n = list_all (step_by n) moves

abbrev pub sum_at : List Move → ℕ → Fraction
sum_at moves n = run (grow_by n) (whole (pos 0)) moves

abbrev pub sum_ops_at : List Move → ℕ → List Wide
sum_ops_at moves n = ops_run (grow_by n) (grow_ops_by n) (whole (pos 0)) moves

abbrev pub value_at : List Move → ℕ → Linear
value_at moves n = run (become_by n) (var n) moves

abbrev pub value_ops_at : List Move → ℕ → List Wide
value_ops_at moves n = ops_run (become_by n) (become_ops_by n) (var n) moves

-- ---- rows
abbrev pub sum_row : Fraction → Row
sum_row q = if is_zero q then Same else Grows q

abbrev pub row_at : List Move → ℕ → Row
row_at moves n = if is_stepped_at moves n then sum_row (sum_at moves n) else Becomes (value_at moves n)

abbrev pub row_ops_at : List Move → ℕ → List Wide
row_ops_at moves n = if is_stepped_at moves n then sum_ops_at moves n else value_ops_at moves n

abbrev pub no_rows : Rows
no_rows = record { incs = []; sets = [] }

abbrev pub with_row : Rows → ℕ → Row → Rows
with_row rows n Same = rows
with_row rows n (Grows q) = record { incs = rows.incs ++ (n, q) ∷ []; sets = rows.sets }
with_row rows n (Becomes l) = record { incs = rows.incs; sets = rows.sets ++ (n, l) ∷ [] }

abbrev pub next_row : List Move → Rows → ℕ → Rows
next_row moves rows n = with_row rows n (row_at moves n)

abbrev pub rows_at : List Move → List ℕ → Rows
rows_at moves ns = run (next_row moves) no_rows ns

abbrev pub rows_ops_at : List Move → List ℕ → List Wide
rows_ops_at moves ns = ops_run (next_row moves) (λ rows n. row_ops_at moves n) no_rows ns
