-- What follows where the pivots have led to a configuration in which nothing is violated.
use Rattle.std.proofs.Common.{◌≡◌, ◌⊎◌, ◌<◌, ℕ, true, List, length, Option, Some, None, refl, sym, ap, subst, ◌∙◌}
use Rattle.std.specs.Prelude.{Ok}
use Rattle.std.proofs.lemmas.Option.{same_Some}
use Rattle.rational.specs.Fraction.{Fraction}
use Rattle.frac128.specs.declared.operations.Wide.{Wide}
use Rattle.formula.specs.declared.atom.Lit.{Lit}
use Rattle.formula.specs.declared.point.Point.{Point}
use Rattle.formula.specs.Contents.{Contents}
use Rattle.theory_law.specs.Verdicts.{IsStuckAt, MeetsAsserted}
use Rattle.theory_law.specs.declared.trace.Trace.{Trace}
use Rattle.theory_law.specs.declared.trace.Coefs.{Coefs}
use Rattle.theory_law.specs.declared.trace.Site.TheVariants.{Value, Point as AtPoint}
use Rattle.theory_law.specs.declared.verdict.Verdict.{Verdict}
use Rattle.theory_law.specs.declared.verdict.Verdict.TheVariants.{Fits, Clash, Cut}
use Rattle.tableau.specs.Table.{Table, width}
use Rattle.simplex_law.specs.Config.{Limits, pair_at, value_of}
use Rattle.simplex_law.specs.declared.pair.Pair.{Pair}
use Rattle.simplex_check.specs.Checks.{CheckAnswers, LeadsTo, ValuePasses}
use Rattle.simplex_check.specs.declared.checking.Verdict.TheVariants as found
use Rattle.simplex_point.specs.Point.{IsInfinitesimal}
use Rattle.simplex_atoms.specs.declared.sides.Sides.{Sides}
use Rattle.simplex_clash.specs.Setting.{limits_of}
use Rattle.simplex_fit.specs.Fit.{AreLimits}
use Rattle.simplex_fit.specs.Assigned.{literals_of}
use Rattle.simplex_fit.proofs.SignLaws.{asserted_listed}
use Rattle.simplex_judge.specs.Points.{IsPointAt, DecideAtoms, MakingPasses, TestPasses}
use Rattle.simplex_judge.specs.Stuck.{EndsWith}
use Rattle.simplex_judge.specs.Judged.{seen_of, StuckOver, JudgedHolds}
use Rattle.simplex_judge.specs.declared.beginning.Begun.{Begun}
use Rattle.simplex_judge.specs.declared.running.Ran.{Ran}
use Rattle.simplex_judge.specs.inside.Checking.{IsAt}
use Rattle.simplex_judge.specs.inside.Traced.{IsTraced}
use Rattle.simplex_judge.specs.inside.Solved.{MakesPoint}
use Rattle.simplex_judge.specs.inside.Cuts.{WholeOrCut}
use Rattle.simplex_judge.proofs.StuckLaws.{stuck_at}
use Rattle.simplex_judge.proofs.SettleLaws.{point_reads, point_holds}

module _ (f : Contents) (sides : List (Option Sides)) (events : List (Option Lit)) (pivots : ℕ) (t : Table) (b : Begun) (r : Ran) (here : IsAt f sides events pivots t b r) where
  abbrev l : Limits
  l = limits_of b.both.lower b.both.upper

  pub limits_are : AreLimits f b.lits.items (width t) (limits_of b.both.lower b.both.upper)
  limits_are = record { lower = (b.both.lower.by.items, here.setting.lower_is); upper = (b.both.upper.by.items, here.setting.upper_is) }

  pub ends_with : (Ends : Limits → Table → (ℕ → Pair) → Type 0) → LeadsTo (limits_of b.both.lower b.both.upper) here.first here.ran.first_place r.swaps.items t (pair_at r.place.items) → Ends (limits_of b.both.lower b.both.upper) t (pair_at r.place.items)
      → EndsWith Ends f b.basis.items b.lits.items r.swaps.items
  ends_with Ends leads ends = record {
    limits = limits_of b.both.lower b.both.upper;
    first = here.first;
    first_place = here.ran.first_place;
    begins = here.begins;
    last = t;
    last_place = pair_at r.place.items;
    reaches = leads.trace;
    ends = ends;
  }

  module _ (fits : r.answer ≡ Ok found.Fits) where
    answers : CheckAnswers (limits_of b.both.lower b.both.upper) here.first here.ran.first_place pivots r.swaps.items t (pair_at r.place.items) (Ok found.Fits)
    answers = subst (λ a. CheckAnswers (limits_of b.both.lower b.both.upper) here.first here.ran.first_place pivots r.swaps.items t (pair_at r.place.items) a) fits here.ran.answers

    pub value_stuck : (tr : Trace) (w : Wide) → IsTraced b r.swaps.items Value (Some w) None tr → ValuePasses t (pair_at r.place.items) w → IsStuckAt StuckOver (seen_of f pivots events) tr
    value_stuck stopped w is h = stuck_at f events b here.checking pivots stopped r.swaps.items Value (Some w) None is tt refl (ends_with _ answers.0 h)

    module _ (decide : DecideAtoms f b.lits.items) (pairs : List Pair) (long : length pairs ≡ width t) (same : (i : ℕ) → i < width t → pair_at pairs i ≡ value_of t (pair_at r.place.items) i) where
      least_at : (d : Fraction) → IsInfinitesimal (limits_of b.both.lower b.both.upper) (pair_at pairs) (length pairs) d → IsInfinitesimal (limits_of b.both.lower b.both.upper) (pair_at pairs) (width t) d
      least_at d h = subst (λ (n : ℕ). IsInfinitesimal (limits_of b.both.lower b.both.upper) (pair_at pairs) n d) long h

      point_is : (d : Fraction) (p : Point) → IsPointAt f (literals_of b.signs.items) (pair_at pairs) d p → IsPointAt f b.lits.items (pair_at pairs) d p
      point_is d p h = subst (λ (ls : List Lit). IsPointAt f ls (pair_at pairs) d p) (sym here.checking.lits_are) h

      pub makes_point : MakesPoint f b pairs
      makes_point d p least is n lt =
          point_holds f sides t here.fit b.lits.items (limits_of b.both.lower b.both.upper) limits_are (pair_at r.place.items) answers.0.placed answers.2 (pair_at pairs) same d (least_at d least) decide p (point_is d p is) n lt

      pub point_stuck : (tr : Trace) (w : Wide) → IsTraced b r.swaps.items AtPoint (Some w) None tr
          → MakingPasses (limits_of b.both.lower b.both.upper) (pair_at pairs) (length pairs) (length f.counts) w ⊎ TestPasses f (literals_of b.signs.items) (limits_of b.both.lower b.both.upper) (pair_at pairs) (length pairs) w
          → IsStuckAt StuckOver (seen_of f pivots events) tr
      point_stuck stopped w is h =
          stuck_at f events b here.checking pivots stopped r.swaps.items AtPoint (Some w) None is tt refl
          (ends_with _ answers.0 (
            answers.2,
            decide,
            (
              pair_at pairs,
              same,
              subst (λ (n : ℕ). MakingPasses (limits_of b.both.lower b.both.upper) (pair_at pairs) n (length f.counts) w ⊎ TestPasses f b.lits.items (limits_of b.both.lower b.both.upper) (pair_at pairs) n w) long
                  (subst (λ (ls : List Lit). MakingPasses (limits_of b.both.lower b.both.upper) (pair_at pairs) (length pairs) (length f.counts) w ⊎ TestPasses f ls (limits_of b.both.lower b.both.upper) (pair_at pairs) (length pairs) w) (sym here.checking.lits_are) h),
            ),
          ))

      meets : (d : Fraction) (p : Point) → IsInfinitesimal (limits_of b.both.lower b.both.upper) (pair_at pairs) (length pairs) d → IsPointAt f (literals_of b.signs.items) (pair_at pairs) d p → MeetsAsserted (seen_of f pivots events) p.values
      meets d p least is = (
        is.exact.values,
        λ m a.
            let atom = here.checking.of_atoms.atom m a in
            point_reads f sides t here.fit (literals_of b.signs.items) (limits_of b.both.lower b.both.upper) (subst (λ (ls : List Lit). AreLimits f ls (width t) (limits_of b.both.lower b.both.upper)) here.checking.lits_are limits_are) (pair_at r.place.items) answers.0.placed answers.2 (pair_at pairs) same d (least_at d least) p is m
            (asserted_listed events (length f.atoms) b.signs.items here.checking.signs_are m a) atom.0 atom.1,
      )

      pub full_holds : (d : Fraction) (p : Point) → IsInfinitesimal (limits_of b.both.lower b.both.upper) (pair_at pairs) (length pairs) d → IsPointAt f (literals_of b.signs.items) (pair_at pairs) d p → (v : Verdict Coefs) → WholeOrCut f.counts p.values v
          → JudgedHolds f pivots events true (record { verdict = v; point = Some p.values })
      full_holds d p least is Fits h = record {
        verdict = ((p.values, meets d p least is), λ e. (p.values, refl, meets d p least is, h));
        sized = λ xs e. ap length (sym (same_Some p.values xs e)) ∙ is.exact.values;
      }
      full_holds d p least is (Cut var k) h = record {
        verdict = (refl, refl, (p.values, refl, meets d p least is, h));
        sized = λ xs e. ap length (sym (same_Some p.values xs e)) ∙ is.exact.values;
      }
      full_holds d p least is (Clash clause why) h = absurd h

pub pairs_at : (t : Table) (xs items place place' : List Pair) → xs ≡ items → place ≡ place' → (length items ≡ width t) × ((i : ℕ) → i < width t → pair_at items i ≡ value_of t (pair_at place) i)
    → (length xs ≡ width t) × ((i : ℕ) → i < width t → pair_at xs i ≡ value_of t (pair_at place') i)
pairs_at t xs items place place' e g h =
    subst (λ (ys : List Pair). (length ys ≡ width t) × ((i : ℕ) → i < width t → pair_at ys i ≡ value_of t (pair_at place') i)) (sym e)
    (subst (λ (ys : List Pair). (length items ≡ width t) × ((i : ℕ) → i < width t → pair_at items i ≡ value_of t (pair_at ys) i)) g h)
