-- Readings of bounds at values, and values that are whole so far.
use Rattle.std.proofs.Common.{◌≡◌, ◌<◌, ◌+◌, ℕ, ◌≤◌, Bool, true, false, not, cond, List, [], ◌∷◌, length, get_or, take, Option, Some, refl, sym, ap, subst, ◌∙◌, arith, below_more}
use Rattle.std.specs.Prelude.{slice_get, unwrap_or}
use Rattle.std.proofs.lemmas.Option.{get_or_from_slice_get, slice_get-get_or, slice_get_within}
use Rattle.std.proofs.lemmas.List.Elements.{All-contains}
use Rattle.std.proofs.lemmas.List.{take_all}
use Rattle.std.specs.List.{All}
use lib.IntN.{pos, negsuc}
use Rattle.algebra.proofs.Solve.{v, k, ◌⊗◌, inv, bound_from, le, done}
use Rattle.rational.specs.Fraction.{Fraction, whole, neg_ℚ, ◌+ℚ◌, ◌*ℚ◌, ◌≤ℚ◌}
use Rattle.rational.specs.Floor.{IsWhole}
use Rattle.rational.proofs.Signs.{fraction-order}
use Rattle.lin.specs.Linear.{point_of, var}
use Rattle.lin.proofs.ValueLaws.{value_scale, value_var}
use Rattle.formula.specs.declared.atom.Atom.{Atom}
use Rattle.formula.specs.declared.atom.Lit.{Lit}
use Rattle.formula.specs.Meets.{AreWhole}
use Rattle.formula.specs.declared.atom.Constraint.{Constraint}
use Rattle.formula.specs.Reading.{Holds, reading}
use Rattle.lin.specs.Negative.{negative}
use Rattle.theory_law.specs.Splits.{at_most}
use Rattle.theory_law.specs.Readings.{Reads, BooleanReads}
use Rattle.theory_law.specs.Seen.{IsAsserted}
use Rattle.bound_theory.specs.declared.bound.Bound.{Bound}
use Rattle.bound_theory.specs.Bounds.{IsBound}
use Rattle.bound_theory.specs.Points.{IsNext, EventReads}

turn : (x b : Fraction) → b ≤ℚ x → (whole (negsuc 0) *ℚ x) ≤ℚ neg_ℚ b
turn x b h = bound_from fraction-order (k (negsuc 0) ⊗ v 0) (inv (v 1)) (x ∷ b ∷ []) (le (k (pos 1)) (v 1) (v 0) tt h done) refl

-- the value of a variable
value_is : (values : List Fraction) (n : ℕ) (x : Fraction) → slice_get values n ≡ Some x → point_of values n ≡ x
value_is values n x at = get_or_from_slice_get values n x (whole (pos 0)) at

pub upper_reads : (counts : List Bool) (atoms : List (Option Atom)) (values : List Fraction) (l : Lit) (bound : Bound) (x : Fraction) → IsBound counts atoms l.boolean bound → l.pos ≡ true → slice_get values bound.var ≡ Some x → x ≤ℚ bound.most → Reads counts atoms values l
upper_reads counts atoms values l bound x is p at below =
    subst (λ (o : Option (Option Atom)). BooleanReads counts values o l.pos) (sym is.at)
    (subst (λ (s : Bool). Holds (point_of values) (reading counts (at_most bound.var bound.most) s)) (sym p)
    (subst (λ w. w ≤ℚ bound.most) (sym (value_var (point_of values) bound.var ∙ value_is values bound.var x at)) below))

-- the reading of an atom that is false, by whether it is of one count
abbrev denied_as : Bool → Atom → Constraint
denied_as one a =
    cond one (record { lin = negative a.lin; strict = false; bound = neg_ℚ (a.bound +ℚ whole (pos 1)) }) (record { lin = negative a.lin; strict = not a.strict; bound = neg_ℚ a.bound })

holds_above : (at : ℕ → Fraction) (n : ℕ) (b : Fraction) → (b +ℚ whole (pos 1)) ≤ℚ at n → Holds at (denied_as true (at_most n b))
holds_above at n b h =
    subst (λ w. w ≤ℚ neg_ℚ (b +ℚ whole (pos 1))) (sym (value_scale at (whole (negsuc 0)) (var n) ∙ ap (λ w. whole (negsuc 0) *ℚ w) (value_var at n)))
    (turn (at n) (b +ℚ whole (pos 1)) h)

pub lower_reads : (counts : List Bool) (atoms : List (Option Atom)) (values : List Fraction) (l : Lit) (bound : Bound) (next x : Fraction) → IsBound counts atoms l.boolean bound → l.pos ≡ false → slice_get values bound.var ≡ Some x → IsNext bound.most next → next ≤ℚ x → Reads counts atoms values l
lower_reads counts atoms values l bound next x is p at n below =
    let above : (bound.most +ℚ whole (pos 1)) ≤ℚ point_of values bound.var =
    subst (λ w. (bound.most +ℚ whole (pos 1)) ≤ℚ w) (sym (value_is values bound.var x at)) (subst (λ w. w ≤ℚ x) n.is below) in
    subst (λ (o : Option (Option Atom)). BooleanReads counts values o l.pos) (sym is.at)
    (subst (λ (s : Bool). Holds (point_of values) (reading counts (at_most bound.var bound.most) s)) (sym p)
    (subst (λ (one : Bool). Holds (point_of values) (denied_as one (at_most bound.var bound.most))) (sym (ap (λ o. unwrap_or o false) is.splits.count)) (holds_above (point_of values) bound.var bound.most above)))

-- ---- whole so far

abbrev pub AreWholeBelow : List Bool → List Fraction → ℕ → Type 0
AreWholeBelow counts values n = (i : ℕ) → i < n → (x : Fraction) → slice_get counts i ≡ Some true → slice_get values i ≡ Some x → IsWhole x

-- what an index reads
pub read_is : {A : Type 0} (xs : List A) (i : ℕ) (x : A) → i < length xs → x ≡ get_or xs i x → slice_get xs i ≡ Some x
read_is xs i x lt e = slice_get-get_or xs i x lt ∙ ap Some (sym e)

pub whole_next : (counts : List Bool) (values : List Fraction) (n : ℕ) → AreWholeBelow counts values n → ((x : Fraction) → slice_get counts n ≡ Some true → slice_get values n ≡ Some x → IsWhole x) → AreWholeBelow counts values (n + 1)
whole_next counts values n h here = below_more (λ (i : ℕ). (x : Fraction) → slice_get counts i ≡ Some true → slice_get values i ≡ Some x → IsWhole x) n h here

pub are_whole : (counts : List Bool) (values : List Fraction) (n : ℕ) → length counts ≤ n → length values ≡ length counts → AreWholeBelow counts values n → AreWhole counts values
are_whole counts values n few same h i count =
    let lt : i < length counts = slice_get_within counts i true count in
    h i (omega arith) (point_of values i) count (slice_get-get_or values i (whole (pos 0)) (omega arith))

pub event_reads : (counts : List Bool) (atoms : List (Option Atom)) (values : List Fraction) (events : List (Option Lit)) (n : ℕ) → length events ≤ n → All (EventReads counts atoms values) (take n events) → (l : Lit) → IsAsserted events l → Reads counts atoms values l
event_reads counts atoms values events n few h l a =
    let all : All (EventReads counts atoms values) events = subst (λ (es : List (Option Lit)). All (EventReads counts atoms values) es) (take_all n events few) h in
    All-contains (EventReads counts atoms values) events (Some l) all a
