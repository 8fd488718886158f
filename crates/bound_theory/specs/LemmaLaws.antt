-- Of two bounds that exclude each other one is false at each point with whole counts.
use Rattle.std.proofs.Common.{◌≡◌, ℕ, Bool, true, false, not, List, length, Option, Some, sym, ap, subst}
use Rattle.std.specs.Prelude.{slice_get}
use Rattle.std.specs.List.{Any, Contains}
use Rattle.rational.specs.Fraction.{Fraction, ◌≤ℚ◌}
use Rattle.rational.proofs.OrderLaws.{≤ℚ_trans}
use Rattle.lin.specs.Linear.{point_of}
use Rattle.formula.specs.declared.atom.Atom.{Atom}
use Rattle.formula.specs.declared.atom.Lit.{Lit}
use Rattle.formula.specs.Meets.{AreWhole}
use Rattle.formula.specs.Reading.{Holds, reading, affirmed, opposite}
use Rattle.theory_law.specs.Splits.{at_most}
use Rattle.theory_law.specs.Readings.{Reads, BooleanReads}
use Rattle.theory_law.specs.declared.trace.Coefs.{Coefs}
use Rattle.log_laws.proofs.Readings.{one_truth, split_reads}
use Rattle.bound_theory.specs.Bounds.{Exclude, IsBoundLemma}

any_of : {X : Type 0} (P : X → Type 0) (xs : List X) (x : X) → Contains xs x → P x → Any P xs
any_of P xs x (k, lt, e) h = (k, x, lt, e, h)

reads_at : (counts : List Bool) (atoms : List (Option Atom)) (values : List Fraction) (l : Lit) (a : Atom) (s : Bool) → slice_get atoms l.boolean ≡ Some (Some a) → l.pos ≡ s → Holds (point_of values) (reading counts a s) → Reads counts atoms values l
reads_at counts atoms values l a s at is h =
    subst (λ (o : Option (Option Atom)). BooleanReads counts values o l.pos) (sym at)
    (subst (λ (t : Bool). Holds (point_of values) (reading counts a t)) (sym is) h)

-- the greater bound holds where the lesser does
wider : (at : ℕ → Fraction) (v : ℕ) (k m : Fraction) → k ≤ℚ m → Holds at (affirmed (at_most v k)) → Holds at (affirmed (at_most v m))
wider at v k m h holds = ≤ℚ_trans _ k m holds h

by_truths : (counts : List Bool) (atoms : List (Option Atom)) (values : List Fraction) (clause : List Lit) (upper lower : Lit) (e : Exclude counts atoms upper lower)
    → Contains clause (opposite upper) → Contains clause (opposite lower) → (s t : Bool)
    → Holds (point_of values) (reading counts (at_most e.var e.k) s) → Holds (point_of values) (reading counts (at_most e.var e.m) t) → Any (Reads counts atoms values) clause
by_truths counts atoms values clause upper lower e first second false t below above =
    any_of (Reads counts atoms values) clause (opposite upper) first
    (reads_at counts atoms values (opposite upper) (at_most e.var e.k) false e.upper_is.at (ap not e.affirmed) below)
by_truths counts atoms values clause upper lower e first second true true below above =
    any_of (Reads counts atoms values) clause (opposite lower) second
    (reads_at counts atoms values (opposite lower) (at_most e.var e.m) true e.lower_is.at (ap not e.denied) above)
by_truths counts atoms values clause upper lower e first second true false below above =
    let both : true ≡ false = one_truth (point_of values) counts (at_most e.var e.m) true false (wider (point_of values) e.var e.k e.m e.order below) above in
    absurd (cc)

pub lemma_holds : (counts : List Bool) (atoms : List (Option Atom)) (clause : List Lit) (why : Coefs) → IsBoundLemma counts atoms clause why
    → (values : List Fraction) → length values ≡ length counts → AreWhole counts values → Any (Reads counts atoms values) clause
lemma_holds counts atoms clause why (upper, lower, e, first, second) values same whole_counts =
    let upper_side = split_reads (point_of values) counts e.var e.k e.upper_is.splits.count e.upper_is.splits.integral (whole_counts e.var e.upper_is.splits.count) in
    let lower_side = split_reads (point_of values) counts e.var e.m e.lower_is.splits.count e.lower_is.splits.integral (whole_counts e.var e.lower_is.splits.count) in
    by_truths counts atoms values clause upper lower e first second upper_side.0 lower_side.0 upper_side.1 lower_side.1
