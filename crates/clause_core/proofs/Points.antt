-- The point of a full trail, and what a search stopped at.
use Rattle.std.proofs.Common.{◌≡◌, ℕ, ◌<◌, Bool, true, false, not, List, length, Option, Some, None, refl, sym, ap, inl, inr, rules, subst, ◌∙◌, ◌⊎◌, get_or, cond}
use Rattle.std.specs.List.{slice_get, Contains, All}
use Rattle.std.proofs.lemmas.Option.{same_Some, get_or_from_slice_get}
use Rattle.std.proofs.lemmas.List.Elements.{All-contains}
use Rattle.std.specs.Option.{IsSome}
use Rattle.formula.specs.declared.atom.Lit.{Lit}
use Rattle.formula.specs.declared.atom.Atom.{Atom}
use Rattle.formula.specs.declared.point.Point.{Point}
use Rattle.formula.specs.Contents.{Contents}
use Rattle.rational.specs.Fraction.{Fraction}
use Rattle.lin.specs.Linear.{point_of}
use Rattle.formula.specs.Reading.{opposite, Holds, reading, reading_where, atom_of}
use Rattle.formula.specs.Meets.{is_true, truth_at, constraint_at, HoldsAt, Meets}
use Rattle.formula.proofs.Truths.{met_iff}
use Rattle.formula.proofs.MeetingSteps.{nothing_holds}
use Rattle.theory_law.specs.Readings.{Reads, BooleanReads, IsExact}
use Rattle.clause_trail.specs.declared.trail.Entry.{Entry}
use Rattle.clause_trail.specs.Standing.{Stands}
use Rattle.clause_core.specs.Cored.{Cored}
use Rattle.clause_trail.specs.Propagation.{IsComplete, IsQuiet}
use Rattle.clause_core.specs.inside.Asking.{IsPoint, AtPoint, IsFull}
use Rattle.clause_trail.specs.Decisions.{lits_of, IsWithin}
use Rattle.clause_core.specs.inside.Searching.{IsDone}
use Rattle.clause_trail.proofs.Gets.{get-at}
use Rattle.clause_trail.proofs.Lits.{lit_same}
use Rattle.clause_trail.proofs.Bridge.{stand_lits}

bool_cases : (a b : Bool) → (a ≡ b) ⊎ (a ≡ not b)
bool_cases true true = inl refl
bool_cases true false = inr refl
bool_cases false true = inr refl
bool_cases false false = inl refl

-- two literals of one Boolean
lit_cases : (l m : Lit) → l.boolean ≡ m.boolean → (l ≡ m) ⊎ (l ≡ opposite m)
lit_cases l m e = elim (bool_cases l.pos m.pos) [ inl same ↦ inl (lit_same l m e same) | inr other ↦ inr (lit_same l (opposite m) e other) ]

true_one : (n : ℕ) (trail clause : List Lit) → IsFull n trail → IsWithin n clause → IsQuiet trail clause → (m : Lit) × Contains clause m × Contains trail m
true_one n trail clause full low (inl t) = t
true_one n trail clause full low (inr t) =
    let f = full t.first.boolean (All-contains (λ (m : Lit). m.boolean < n) clause t.first low t.first_in) in
    absurd (elim (lit_cases f.0 t.first f.2) as (λ _. ⊥) [
      | inl same ↦ t.first_open.not_true (subst (λ (x : Lit). Contains trail x) same f.1)
      | inr other ↦ t.first_open.not_false (subst (λ (x : Lit). Contains trail x) other f.1)
    ])

pub exact : (f : Contents) (values : List Fraction) (point : Point) → length values ≡ length f.counts → point.values ≡ values → length point.truth ≡ length f.atoms → IsExact f point
exact f values point so_many is lengths = record { values = ap length is ∙ so_many; truths = lengths }

by_truth : (p t : Bool) → t ≡ p → cond p t (not t) ≡ true
by_truth true t e = e
by_truth false t e = ap not e

truth_is : (truth : List Bool) (l : Lit) → slice_get truth l.boolean ≡ Some l.pos → is_true truth l ≡ true
truth_is truth l h = by_truth l.pos (truth_at truth l.boolean) (get_or_from_slice_get truth l.boolean l.pos false h)

holds_where : (counts : List Bool) (values : List Fraction) (o : Option Atom) (t : Bool) → ((a : Atom) → o ≡ Some a → Holds (point_of values) (reading counts a t)) → Holds (point_of values) (reading_where counts o t)
holds_where counts values None t h = nothing_holds (point_of values)
holds_where counts values (Some a) t h = h a refl

holds_at : (f : Contents) (p : Point) (values : List Fraction) (b : ℕ) (o : Option Atom) (t : Bool) → p.values ≡ values → atom_of f b ≡ o → truth_at p.truth b ≡ t → Holds (point_of values) (reading_where f.counts o t) → HoldsAt f p b
holds_at f p values b o t ev eo et h =
    let h1 = subst (λ (y : Bool). Holds (point_of values) (reading_where f.counts o y)) (sym et) h in
    let h2 = subst (λ (x : Option Atom). Holds (point_of values) (reading_where f.counts x (truth_at p.truth b))) (sym eo) h1 in
    record { holds = subst (λ (v : List Fraction). Holds (point_of v) (constraint_at f p b)) (sym ev) h2 }

reads_holds : (counts : List Bool) (atoms : List (Option Atom)) (values : List Fraction) (l : Lit) (a : Atom) → slice_get atoms l.boolean ≡ Some (Some a) → Reads counts atoms values l → Holds (point_of values) (reading counts a l.pos)
reads_holds counts atoms values l a e h = subst (λ (x : Option (Option Atom)). BooleanReads counts values x l.pos) e h

pub meets : (f : Contents) (entries : List Entry) (values : List Fraction) (point : Point) → IsComplete f.clauses (lits_of entries) → IsFull (length f.atoms) (lits_of entries) → All (IsWithin (length f.atoms)) f.clauses → IsPoint f (lits_of entries) values → point.values ≡ values → ((p : ℕ) (l : Lit) → Stands entries p l → slice_get point.truth l.boolean ≡ Some l.pos) → Meets f point
meets f entries values point quiet full low at is truths =
    let truth : (l : Lit) → Contains (lits_of entries) l → slice_get point.truth l.boolean ≡ Some l.pos = λ l c. let s = stand_lits entries l c in truths s.0 l s.1 in
    record {
      clauses = (met_iff point.truth f.clauses).1 (λ k d lt.
          let t = true_one (length f.atoms) (lits_of entries) (get_or f.clauses k d) full (low k d lt) (quiet k d lt) in
          (t.1.0, t.0, t.1.1, t.1.2, truth_is point.truth t.0 (truth t.0 t.2)));
      atoms = λ b lt.
          let o = get-at f.atoms b lt in
          let m = full b lt in
          let sign : slice_get point.truth b ≡ Some m.0.pos = ap (slice_get point.truth) (sym m.2) ∙ truth m.0 m.1 in
          holds_at f point values b o.0 m.0.pos is (get_or_from_slice_get f.atoms b o.0 None o.1) (get_or_from_slice_get point.truth b m.0.pos false sign)
          (holds_where f.counts values o.0 m.0.pos (λ a e.
          let here : slice_get f.atoms m.0.boolean ≡ Some (Some a) = ap (slice_get f.atoms) m.2 ∙ o.1 ∙ ap (λ (x : Option Atom). Some x) e in
          reads_holds f.counts f.atoms values m.0 a here (at.readings m.0 a m.1 here)));
    }

-- the same formula and trail
pub moved : {T : Type 0} (P : Contents → List Lit → Type 0) (a b : Cored T) → b.formula ≡ a.formula → b.trail ≡ a.trail → P a.formula a.trail → P b.formula b.trail
moved P a b ef et p = subst (λ (x : List Lit). P b.formula x) (sym et) (subst (λ (x : Contents). P x a.trail) (sym ef) p)

pub done : {T : Type 0} (a b : Cored T) (values : List Fraction) → b.formula ≡ a.formula → b.trail ≡ a.trail → IsComplete a.formula.clauses a.trail → IsFull (length a.formula.atoms) a.trail → IsPoint a.formula a.trail values → IsDone b values
done a b values ef et quiet full point = record {
  quiet = moved (λ f trail. IsComplete f.clauses trail) a b ef et quiet;
  full = moved (λ f trail. IsFull (length f.atoms) trail) a b ef et full;
  point = moved (λ f trail. IsPoint f trail values) a b ef et point;
}

-- the values that the theory fixed are these alone
pub at_fixed : {point : Option (List Fraction)} (P : List Fraction → Type 0) → AtPoint point P → (values : List Fraction) → point ≡ Some values → P values
at_fixed P h values e = subst P (same_Some _ _ (sym h.1 ∙ e)) h.2

some_some : (v : List Fraction) → IsSome (Some v)
some_some v = search rules

pub some_is : (o : Option (List Fraction)) → IsSome o → (v : List Fraction) × (o ≡ Some v)
some_is None h = absurd (cc)
some_is (Some v) h = (v, refl)

pub is_fixed : {point : Option (List Fraction)} {P : List Fraction → Type 0} → AtPoint point P → IsSome point
is_fixed {point = point} h = subst (λ (o : Option (List Fraction)). IsSome o) (sym h.1) (some_some h.0)
