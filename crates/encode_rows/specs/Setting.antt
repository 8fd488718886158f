-- The new values of functions: a numeric variable each, which is the expression's value where the occurrence happens, else the
-- old value.
use Rattle.std.specs.Prelude.{ℕ, suc, true, false, List, [], ◌∷◌, ◌++◌, Result}
use Rattle.lin.specs.Linear.{Linear, var, subst}
use Rattle.lin.specs.Made.{subst_ops}
use Rattle.lin.specs.declared.failure.LinFail.{LinFail}
use Rattle.formula.specs.Contents.{Contents}
use Rattle.encode_rows.specs.declared.clause.Truth.{Truth}
use Rattle.encode_laws.specs.Rows.{at_most, Literal, lit, opposite, Item, number, row, needs}
use Rattle.encode_laws.specs.Operations.{minus, minus_ops}
use Rattle.encode_laws.specs.Symbolic.{Symbolic}
use Rattle.encode_laws.specs.Made.{Made}
use Rattle.encode_rows.specs.Standing.{Stands, Knows, Makes}

-- the row of x - y <= 0, behind a front
abbrev pub difference : Literal → Linear → Linear → List Item
difference f x y = needs (minus_ops x y) ∷ row (f ∷ lit true (at_most (minus x y)) ∷ []) ∷ []

abbrev pub MakesDifference : {X : Type 0} → Contents → Truth → Linear → Linear → Contents → Result X LinFail → Type 0
MakesDifference old front x y new r = (m : Made) (f : Literal) → Stands m old → Knows m f front → Makes (difference f x y) m new r

-- both ways
abbrev pub equation : Literal → Linear → Linear → List Item
equation f x y = difference f x y ++ difference f y x

abbrev pub MakesEquation : {X : Type 0} → Contents → Truth → Linear → Linear → Contents → Result X LinFail → Type 0
MakesEquation old front x y new r = (m : Made) (f : Literal) → Stands m old → Knows m f front → Makes (equation f x y) m new r

-- one function, whose new value has the numeric variable w, and the rows behind its making
abbrev pub equations : ℕ → Linear → Linear → Literal → List Item
equations w v u o = equation (opposite o) (var w) v ++ equation o (var w) u

abbrev pub MakesEquations : {X : Type 0} → Contents → Truth → ℕ → Linear → Linear → Contents → Result X LinFail → Type 0
MakesEquations old on w v u new r = (m : Made) (o : Literal) → Stands m old → Knows m o on → Makes (equations w v u o) m new r

abbrev pub set_row : ℕ → ℕ × Linear → Literal → Symbolic → List Item
set_row w s o y = number w false ∷ needs (subst_ops y.value s.1) ∷ equations w (subst y.value s.1) (y.value s.0) o

-- the functions of a list; their variables are the next ones
abbrev pub set_list : ℕ → List (ℕ × Linear) → Literal → Symbolic → List Item
set_list w [] o y = []
set_list w (s ∷ ss) o y = set_row w s o y ++ set_list (suc w) ss o y
