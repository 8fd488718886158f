-- The point of a settled configuration meets the readings of the asserted literals.
use Rattle.std.proofs.Common.{◌≡◌, ◌<◌, ◌≤◌, ℕ, zero, suc, Bool, false, List, [], ◌∷◌, length, Option, Some, None, refl, sym, ap, subst, ◌∙◌, arith}
use Rattle.std.specs.Prelude.{map, unwrap_or, slice_get}
use Rattle.std.specs.List.{Contains}
use Rattle.std.proofs.lemmas.Option.{same_Some, slice_get-get_or}
use Rattle.std.proofs.lemmas.List.{length-map}
use lib.IntN.{pos}
use Rattle.algebra.proofs.Solve.{k, ◌⊕◌, solve}
use Rattle.rational.specs.Fraction.{Fraction}
use Rattle.rational.proofs.FieldLaws.{fraction-ring}
use Rattle.rational.proofs.OrderLaws.{≤ℚ-same}
use Rattle.lin.specs.Linear.{point_of}
use Rattle.formula.specs.declared.atom.Atom.{Atom}
use Rattle.formula.specs.declared.atom.Lit.{Lit}
use Rattle.formula.specs.declared.point.Point.{Point}
use Rattle.formula.specs.Contents.{Contents}
use Rattle.formula.specs.Reading.{Holds, reading, reading_where, atom_of}
use Rattle.formula.specs.Meets.{HoldsAt, truth_at}
use Rattle.theory_law.specs.Readings.{Reads, BooleanReads}
use Rattle.tableau.specs.Table.{Table, width}
use Rattle.simplex_law.specs.Pairs.{at_small}
use Rattle.simplex_law.specs.Bounds.{MeetsLower, MeetsUpper}
use Rattle.simplex_law.specs.Config.{Limits, lower_of, upper_of, IsPlaced, IsSettled, IsOn, MeetsAll, value_of}
use Rattle.simplex_law.specs.declared.pair.Pair.{Pair}
use Rattle.simplex_law.proofs.Fitting.{values_solve, settled_small, all_on}
use Rattle.simplex_law.proofs.Small.{some_small}
use Rattle.simplex_point.specs.Point.{IsInfinitesimal}
use Rattle.simplex_point.proofs.Narrow.{makes_a_point}
use Rattle.simplex_atoms.specs.declared.sides.Sides.{Sides}
use Rattle.simplex_fit.specs.Fit.{IsFit, AreLimits}
use Rattle.simplex_fit.specs.Assigned.{AreSigns, literals_of}
use Rattle.simplex_fit.proofs.SignLaws.{listed_asserted}
use Rattle.simplex_fit.proofs.ReadingLaws.{reads}
use Rattle.simplex_judge.specs.Points.{AreValues, IsPointAt, DecideAtoms}

-- ---- truths
truth_some : (signs : List (Option Bool)) (b : ℕ) (s : Bool) → slice_get signs b ≡ Some (Some s) → truth_at (map (λ (x : Option Bool). unwrap_or x false) signs) b ≡ s
truth_some [] b s e = absurd (cc)
truth_some (x ∷ xs) zero s e = ap (λ (o : Option Bool). unwrap_or o false) (same_Some x (Some s) e)
truth_some (x ∷ xs) (suc b) s e = truth_some xs b s e

pub point_at : (f : Contents) (events : List (Option Lit)) (signs : List (Option Bool)) (value : ℕ → Pair) (d : Fraction) (p : Point) → AreSigns events (length f.atoms) signs → AreValues value (length f.counts) d p.values
    → p.truth ≡ map (λ (x : Option Bool). unwrap_or x false) signs → IsPointAt f (literals_of signs) value d p
point_at f events signs value d p are values e = record {
  exact = record { values = values.long; truths = ap length e ∙ length-map signs (λ (x : Option Bool). unwrap_or x false) ∙ are.long };
  values = values;
  truths = λ m c.
      ap (λ (ts : List Bool). truth_at ts m.boolean) e
      ∙ truth_some signs m.boolean m.pos ((are.each m.boolean m.pos).1 (listed_asserted events (length f.atoms) signs are m c));
}

module _ (f : Contents) (sides : List (Option Sides)) (t : Table) (fit : IsFit f sides t) (lits : List Lit) (l : Limits) (are : AreLimits f lits (width t) l) (place : ℕ → Pair) (placed : IsPlaced l t place) (settled : IsSettled l t place) where
  few : length f.counts ≤ width t
  few = omega (arith, fit.tableau.covers)

  -- with some infinitesimal
  pub some_values : (d : Fraction) × MeetsAll l (width t) (λ i. at_small (value_of t place i) d)
  some_values = let x = some_small (λ d. MeetsAll l (width t) (λ i. at_small (value_of t place i) d)) (settled_small t fit.tableau.tidy place l placed settled) in (x.0, x.2)

  pub reads_at : (d : Fraction) → MeetsAll l (width t) (λ i. at_small (value_of t place i) d) → (values : List Fraction) → ((w : ℕ) → w < length f.counts → point_of values w ≡ at_small (value_of t place w) d)
      → (m : Lit) → Contains lits m → (a : Atom) → slice_get f.atoms m.boolean ≡ Some (Some a) → Reads f.counts f.atoms values m
  reads_at d meets values same m c a has = reads f sides t fit lits l are (λ i. at_small (value_of t place i) d) (values_solve t fit.tableau.tidy place d) meets values same m c a has

  module _ (value : ℕ → Pair) (same : (i : ℕ) → i < width t → value i ≡ value_of t place i) (d : Fraction) (least : IsInfinitesimal l value (width t) d) where
    all_met : MeetsAll l (width t) (λ i. at_small (value_of t place i) d)
    all_met i lt =
        let on : (j : ℕ) → j < width t → IsOn l j (value j) = λ j lj. subst (λ (x : Pair). IsOn l j x) (sym (same j lj)) (all_on t fit.tableau.tidy place l placed settled j lj) in
        subst (λ (x : Pair). MeetsLower (lower_of l i) (at_small x d) × MeetsUpper (upper_of l i) (at_small x d)) (same i lt) ((makes_a_point l value (width t) d least on).1 i lt)

    values_same : (values : List Fraction) → AreValues value (length f.counts) d values → (w : ℕ) → w < length f.counts → point_of values w ≡ at_small (value_of t place w) d
    values_same values h w lt = h.each w lt ∙ ap (λ (x : Pair). at_small x d) (same w (omega (arith, few)))

    pub point_reads : (p : Point) → IsPointAt f lits value d p → (m : Lit) → Contains lits m → (a : Atom) → slice_get f.atoms m.boolean ≡ Some (Some a) → Reads f.counts f.atoms p.values m
    point_reads p h m c a has = reads_at d all_met p.values (values_same p.values h.values) m c a has

    pub point_holds : DecideAtoms f lits → (p : Point) → IsPointAt f lits value d p → (b : ℕ) → b < length f.atoms → HoldsAt f p b
    point_holds decide p h b lt = record { holds = by_atom (atom_of f b) (slice_get-get_or f.atoms b None lt) }
      where
        by_atom : (o : Option Atom) → slice_get f.atoms b ≡ Some o → Holds (point_of p.values) (reading_where f.counts o (truth_at p.truth b))
        by_atom None e = ≤ℚ-same _ _ (solve fraction-ring (k (pos 0) ⊕ k (pos 0)) (k (pos 0)) [] refl)
        by_atom (Some a) e =
            let m = decide b a e in
            let lit : Lit = m.0 in
            let has : slice_get f.atoms lit.boolean ≡ Some (Some a) = ap (slice_get f.atoms) m.2 ∙ e in
            let truth : truth_at p.truth b ≡ lit.pos = ap (truth_at p.truth) (sym m.2) ∙ h.truths lit m.1 in
            subst (λ (s : Bool). Holds (point_of p.values) (reading f.counts a s)) (sym truth)
            (subst (λ (o : Option (Option Atom)). BooleanReads f.counts p.values o lit.pos) has (point_reads p h lit m.1 a has))
