-- Values that are whole so far.
use Rattle.std.proofs.Common.{◌≡◌, ◌<◌, ◌+◌, ℕ, ◌≤◌, Bool, true, List, length, get_or, Some, sym, ap, arith, below_more, ◌∙◌}
use Rattle.std.specs.Prelude.{slice_get}
use Rattle.std.proofs.lemmas.Option.{slice_get-get_or, slice_get_within}
use lib.IntN.{pos}
use Rattle.rational.specs.Fraction.{Fraction, whole}
use Rattle.rational.specs.Floor.{IsWhole}
use Rattle.lin.specs.Linear.{point_of}
use Rattle.formula.specs.Meets.{AreWhole}

abbrev pub AreWholeBelow : List Bool → List Fraction → ℕ → Type 0
AreWholeBelow counts values n = (i : ℕ) → i < n → (x : Fraction) → slice_get counts i ≡ Some true → slice_get values i ≡ Some x → IsWhole x

-- what an index reads
pub read_is : {A : Type 0} (xs : List A) (i : ℕ) (x : A) → i < length xs → x ≡ get_or xs i x → slice_get xs i ≡ Some x
read_is xs i x lt e = slice_get-get_or xs i x lt ∙ ap Some (sym e)

pub whole_next : (counts : List Bool) (values : List Fraction) (n : ℕ) → AreWholeBelow counts values n → ((x : Fraction) → slice_get counts n ≡ Some true → slice_get values n ≡ Some x → IsWhole x) → AreWholeBelow counts values (n + 1)
whole_next counts values n h here = below_more (λ (i : ℕ). (x : Fraction) → slice_get counts i ≡ Some true → slice_get values i ≡ Some x → IsWhole x) n h here

pub are_whole : (counts : List Bool) (values : List Fraction) (n : ℕ) → length counts ≤ n → length values ≡ length counts → AreWholeBelow counts values n → AreWhole counts values
are_whole counts values n few same h i count =
    let lt : i < length counts = slice_get_within counts i true count in
    h i (omega arith) (point_of values i) count (slice_get-get_or values i (whole (pos 0)) (omega arith))
