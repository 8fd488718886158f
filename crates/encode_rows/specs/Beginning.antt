-- How an occurrence begins: whether and how often it happens.
use Rattle.std.specs.Prelude.{◌≡◌, ℕ, ◌<◌, Bool, true, false, List, [], ◌∷◌, ◌++◌, length, Result, Ok, Err, IfOk, pos, negsuc, if◌then◌else◌}
use Rattle.rational.specs.Fraction.{Fraction, whole}
use Rattle.lin.specs.Linear.{Linear, fixed, var, add}
use Rattle.lin.specs.declared.failure.LinFail.{LinFail}
use Rattle.lin.specs.declared.failure.LinFail.TheVariants as fail
use Rattle.task_core.specs.declared.action.GAction.{GAction}
use Rattle.formula.specs.Contents.{Contents}
use Rattle.encode_rows.specs.declared.clause.Truth.{Truth}
use Rattle.encode_laws.specs.Rows.{Name, is_done, at_most, named, lit, Item, number, boolean, row}
use Rattle.encode_laws.specs.Symbolic.{Symbolic, on_of, first_items}
use Rattle.encode_laws.specs.Made.{Made, put, made_from}
use Rattle.encode_rows.specs.Standing.{Stands, Knows, Makes, IsNew}

-- something is made so far for which the formula stands
pub record IsStanding (f : Contents) : Type 0 where
  pub made : Made
  pub stands : Stands made f

-- a numeric variable is made, with the next number
abbrev pub AddsNumber : Bool → Contents → Contents → Result ℕ LinFail → Type 0
AddsNumber count old new r = (m : Made) (n : ℕ) → Stands m old → Makes (number n count ∷ []) m new r × IfOk r (λ v. v ≡ length m.counts)

-- ---- bounds of a count
-- c + k, or want of memory
abbrev pub MakesSum : ℕ → Fraction → Result Linear LinFail → Type 0
MakesSum c k (Ok l) = l ≡ add (var c) (fixed k)
MakesSum c k (Err e) = e ≡ fail.Memory

-- the row of `l <= 0`, or of its negation
abbrev pub Bounds : {X : Type 0} → Contents → Bool → Linear → Contents → Result X LinFail → Type 0
Bounds old s l new r = (m : Made) → Stands m old → Makes (row (lit s (at_most l) ∷ []) ∷ []) m new r

-- a row of the count plus k
abbrev pub bound_row : ℕ → Bool → Fraction → List Item
bound_row c s k = row (lit s (at_most (add (var c) (fixed k))) ∷ []) ∷ []

-- it isn't below 0
abbrev pub least_row : ℕ → List Item
least_row c = bound_row c false (whole (pos 1))

-- and at most 1, unless the action is rollable
abbrev pub most_rows : Bool → ℕ → List Item
most_rows rolls c = if rolls then [] else bound_row c true (whole (negsuc 0))

abbrev pub MakesItems : {X : Type 0} → List Item → Contents → Contents → Result X LinFail → Type 0
MakesItems items old new r = (m : Made) → Stands m old → Makes items m new r

-- ---- whether it happens
abbrev pub Happens : ℕ → Contents → Contents → Result Truth LinFail → Type 0
Happens c old new r = (m : Made) → Stands m old → c < length m.counts
    → Makes (boolean (at_most (var c)) ∷ []) m new r × IfOk r (Knows (put (boolean (at_most (var c))) m) (lit false (at_most (var c))))

abbrev pub counted_items : Bool → ℕ → List Item
counted_items rolls c = (number c true ∷ (least_row c ++ most_rows rolls c)) ++ boolean (at_most (var c)) ∷ []

abbrev pub BeginsCounted : Bool → Contents → Contents → Result Truth LinFail → Type 0
BeginsCounted rolls old new r = (m : Made) (c : ℕ) → Stands m old → c ≡ length m.counts
    → Makes (counted_items rolls c) m new r × IfOk r (Knows (made_from (counted_items rolls c) m) (lit false (at_most (var c))))

abbrev pub BeginsNamed : Contents → Contents → Result Truth LinFail → Type 0
BeginsNamed old new r = (m : Made) (n : Name) → Stands m old → IsNew n m.keys
    → Makes (boolean (named n) ∷ []) m new r × IfOk r (Knows (put (boolean (named n)) m) (lit true (named n)))

-- the literal that the occurrence happens is known
abbrev pub Begins : GAction → Contents → Contents → Result Truth LinFail → Type 0
Begins a old new r = (m : Made) (i : ℕ) (y : Symbolic) → Stands m old → y.next ≡ length m.counts → IsNew (is_done i) m.keys
    → Makes (first_items i a y) m new r × IfOk r (Knows (made_from (first_items i a y) m) (on_of i a y))
