-- What a formula says before its Booleans are numbered: facts, literals of facts and rows of literals, and when an assignment
-- meets them. The clause form is that of propositional satisfiability; what its truth variables stand for is this project's own.
use Rattle.std.specs.Prelude.{◌≡◌, ℕ, Bool, true, false, not, ◌||◌, List, [], ◌∷◌, if◌then◌else◌, ⊤}
use Rattle.std.specs.List.{AllByRecursion}
use lib.IntN.{pos}
use Rattle.rational.specs.Fraction.{Fraction, whole}
use Rattle.rational.specs.Floor.{IsWhole}
use Rattle.frac128.specs.declared.operations.Wide.{Wide}
use Rattle.lin.specs.Linear.{Linear, value_of}
pub use Rattle.relaxed.specs.Interval.{is_at_most, is_below}

-- the truth variables, each named for what it means: occurrence i is done; the truth of atom p behind occurrence i
pub data Name : Type 0 where
  is_done : ℕ → Name
  behind : ℕ → ℕ → Name

-- `l <= 0`, `l < 0`, or what a truth variable says
pub data Fact : Type 0 where
  at_most : Linear → Fact
  below : Linear → Fact
  named : Name → Fact

-- always true, always false, or a fact or where it is false its negation
pub data Literal : Type 0 where
  yes no : Literal
  lit : Bool → Fact → Literal

abbrev pub opposite : Literal → Literal
opposite yes = no
opposite no = yes
opposite (lit b f) = lit (not b) f

-- a fraction for each numeric variable and a truth for each truth variable
pub record Assignment : Type 0 where
  pub value : ℕ → Fraction
  pub truth : Name → Bool

abbrev pub fact_at : Assignment → Fact → Bool
fact_at pt (at_most l) = is_at_most (value_of pt.value l) (whole (pos 0))
fact_at pt (below l) = is_below (value_of pt.value l) (whole (pos 0))
fact_at pt (named n) = pt.truth n

abbrev pub signed : Bool → Bool → Bool
signed b t = if b then t else not t

abbrev pub true_at : Assignment → Literal → Bool
true_at pt yes = true
true_at pt no = false
true_at pt (lit b f) = signed b (fact_at pt f)

abbrev pub row_at : Assignment → List Literal → Bool
row_at pt [] = false
row_at pt (l ∷ ls) = true_at pt l || row_at pt ls

-- what is made, in order: a numeric variable, which may be a count, a Boolean, a row, or operations on fractions
pub data Item : Type 0 where
  number : ℕ → Bool → Item
  boolean : Fact → Item
  row : List Literal → Item
  needs : List Wide → Item

abbrev pub MeetsItem : Assignment → Item → Type 0
MeetsItem pt (number v true) = IsWhole (pt.value v)
MeetsItem pt (number v false) = ⊤
MeetsItem pt (boolean f) = ⊤
MeetsItem pt (needs ops) = ⊤
MeetsItem pt (row ls) = row_at pt ls ≡ true

-- counts are whole and each row is true
abbrev pub MeetsAll : Assignment → List Item → Type 0
MeetsAll pt items = AllByRecursion (MeetsItem pt) items
