-- What the code holds of a symbolic state: a truth for each atom and an expression for each function.
use Rattle.std.specs.Prelude.{◌≡◌, ℕ, Bool, true, List, [], ◌∷◌, length, slice_index_or, Result}
use Rattle.lin.specs.Linear.{Linear, replacement_of, subst}
use Rattle.lin.specs.Made.{subst_ops}
use Rattle.lin.specs.declared.comparison.Cmp.{Cmp}
use Rattle.lin.specs.declared.failure.LinFail.{LinFail}
use Rattle.formula.specs.Contents.{Contents}
use Rattle.encode_rows.specs.declared.clause.Truth.{Truth}
use Rattle.encode_rows.specs.declared.clause.Truth.TheVariants.{No}
use Rattle.encode_rows.specs.declared.symbols.Symbols.{Symbols}
use Rattle.encode_laws.specs.Rows.{Literal, lit, Item, row, needs}
use Rattle.encode_laws.specs.Symbolic.{Symbolic, literal_rows, compared_rows, comparison_rows}
use Rattle.encode_laws.specs.Made.{Made, TermsBelow}
use Rattle.encode_rows.specs.Standing.{Stands, Knows, AreKnown, Makes, compared_fact}

-- each truth is known, and each expression is held; its variables are made
pub record Shows (m : Made) (y : Symbolic) (s : Symbols) : Type 0 where
  pub truths : (p : ℕ) → Knows m (y.truth p) (slice_index_or s.truths p No)
  pub values : y.value ≡ replacement_of s.values
  pub below : (f : ℕ) → TermsBelow (length m.counts) (y.value f).terms

-- something is made so far for which the formula and the truth of a front stand
pub record HasFront (f : Contents) (front : Truth) : Type 0 where
  pub made : Made
  pub literal : Literal
  pub stands : Stands made f
  pub knows : Knows made literal front

-- and the symbols
pub record HasState (f : Contents) (s : Symbols) (front : Truth) : Type 0 where
  pub made : Made
  pub literal : Literal
  pub symbolic : Symbolic
  pub stands : Stands made f
  pub knows : Knows made literal front
  pub shows : Shows made symbolic s

-- ---- rows
pub record HasRow (f : Contents) (ts : List Truth) : Type 0 where
  pub made : Made
  pub literals : List Literal
  pub stands : Stands made f
  pub known : AreKnown made literals ts

-- the row of these literals
abbrev pub PutsRow : {X : Type 0} → Contents → List Truth → Contents → Result X LinFail → Type 0
PutsRow old ts new r = (m : Made) (ls : List Literal) → Stands m old → AreKnown m ls ts → Makes (row ls ∷ []) m new r

-- a fact behind a front
abbrev pub fact_row : Literal → Bool → Linear → List Item
fact_row f strict l = row (f ∷ lit true (compared_fact strict l) ∷ []) ∷ []

abbrev pub Compares : {X : Type 0} → Contents → Truth → Bool → Linear → Contents → Result X LinFail → Type 0
Compares old front strict l new r = (m : Made) (f : Literal) → Stands m old → Knows m f front → Makes (fact_row f strict l) m new r

-- ---- comparisons
abbrev pub ComparesAs : {X : Type 0} → Contents → Truth → Linear → Cmp → Contents → Result X LinFail → Type 0
ComparesAs old front l cmp new r = (m : Made) (f : Literal) → Stands m old → Knows m f front → Makes (compared_rows (f ∷ []) cmp l) m new r

-- ---- rows by the truth of a front and the symbols
abbrev pub MakesRows : {X : Type 0} → Contents → Symbols → Truth → (Literal → Symbolic → List Item) → Contents → Result X LinFail → Type 0
MakesRows old s front items new r = (m : Made) (f : Literal) (y : Symbolic) → Stands m old → Knows m f front → Shows m y s → Makes (items f y) m new r

-- a literal that is asked for
abbrev pub asked_row : ℕ × Bool → Literal → Symbolic → List Item
asked_row l f y = literal_rows (f ∷ []) y (l ∷ [])

abbrev pub asked_rows : List (ℕ × Bool) → Literal → Symbolic → List Item
asked_rows lits f y = literal_rows (f ∷ []) y lits

-- comparisons at the first repetition
abbrev pub first_row : Linear × Cmp → Literal → Symbolic → List Item
first_row c f y = needs (subst_ops y.value c.0) ∷ compared_rows (f ∷ []) c.1 (subst y.value c.0)

abbrev pub first_rows : List (Linear × Cmp) → Literal → Symbolic → List Item
first_rows cmps f y = comparison_rows (f ∷ []) y cmps
