-- What follows from where the pivots led.
use Rattle.std.proofs.Common.{◌≡◌, ℕ, zero, suc, ◌+◌, false, List, [], ◌∷◌, ◌++◌, length, Option, Some, None, refl, sym, subst, arith}
use Rattle.std.specs.Prelude.{Ok, Err, Result}
use Rattle.std.specs.List.{Contains}
use Rattle.rational.specs.Fraction.{Fraction}
use Rattle.frac128.specs.declared.operations.Wide.{Wide}
use Rattle.formula.specs.declared.atom.Lit.{Lit}
use Rattle.formula.specs.Contents.{Contents}
use Rattle.theory_law.specs.Verdicts.{IsStuckAt, MeetsAsserted}
use Rattle.theory_law.specs.declared.trace.Trace.{Trace}
use Rattle.theory_law.specs.declared.trace.Site.TheVariants.{Pivots, Pivot, Value as AtValue}
use Rattle.theory_law.specs.declared.verdict.Verdict.TheVariants.{Fits}
use Rattle.tableau.specs.Table.{Table}
use Rattle.simplex_law.specs.Pairs.{at_small}
use Rattle.simplex_law.specs.Config.{pair_at, value_of, IsPlaced, IsStuck}
use Rattle.simplex_law.specs.declared.pair.Pair.{Pair}
use Rattle.simplex_law.specs.declared.bound.Side.{Side}
use Rattle.simplex_check.specs.Checks.{CheckAnswers}
use Rattle.simplex_check.specs.declared.checking.Verdict.{Verdict}
use Rattle.simplex_check.specs.declared.checking.Verdict.TheVariants as found
use Rattle.simplex_check.specs.declared.checking.CheckFail.{CheckFail}
use Rattle.simplex_check.specs.declared.checking.CheckFail.TheVariants.{Value, Pivot as PivotFail}
use Rattle.simplex_atoms.specs.declared.sides.Sides.{Sides}
use Rattle.simplex_clash.specs.Setting.{limits_of}
use Rattle.simplex_fit.proofs.SignLaws.{asserted_listed}
use Rattle.simplex_judge.specs.Points.{AreValues}
use Rattle.simplex_judge.specs.Judged.{seen_of, StuckOver, JudgedHolds}
use Rattle.simplex_judge.specs.declared.beginning.Begun.{Begun}
use Rattle.simplex_judge.specs.declared.running.Ran.{Ran}
use Rattle.simplex_judge.specs.inside.Checking.{IsAt}
use Rattle.simplex_judge.specs.inside.Traced.{IsTraced}
use Rattle.simplex_judge.proofs.ValueLists.{values_none, values_more}
use Rattle.simplex_judge.proofs.StuckLaws.{stuck_at}
use Rattle.simplex_judge.proofs.SettleLaws.{some_values, reads_at}
use Rattle.simplex.proofs.AtLaws.{limits_are, ends_with}

-- a list of values at an infinitesimal
tabulated : (value : ℕ → Pair) (d : Fraction) (n : ℕ) → (xs : List Fraction) × AreValues value n d xs
tabulated value d zero = ([], values_none value d [] refl)
tabulated value d (suc n) =
    let r = tabulated value d n in
    let one : n + 1 ≡ suc n = omega arith in
    (r.0 ++ at_small (value n) d ∷ [], subst (λ (m : ℕ). AreValues value m d (r.0 ++ at_small (value n) d ∷ [])) one (values_more value n d r.0 _ (at_small (value n) d) r.1 refl refl))

module _ (f : Contents) (sides : List (Option Sides)) (events : List (Option Lit)) (pivots : ℕ) (t : Table) (b : Begun) (r : Ran) (here : IsAt f sides events pivots t b r) where
  answers : (a : Result Verdict CheckFail) → r.answer ≡ a → CheckAnswers (limits_of b.both.lower b.both.upper) here.first here.ran.first_place pivots r.swaps.items t (pair_at r.place.items) a
  answers a is = subst (λ x. CheckAnswers (limits_of b.both.lower b.both.upper) here.first here.ran.first_place pivots r.swaps.items t (pair_at r.place.items) x) is here.ran.answers

  pub fits_holds : r.answer ≡ Ok found.Fits → JudgedHolds f pivots events false (record { verdict = Fits; point = None })
  fits_holds is =
      let a = answers (Ok found.Fits) is in
      let some = some_values f sides t here.fit b.lits.items (limits_of b.both.lower b.both.upper) (limits_are f sides events pivots t b r here) (pair_at r.place.items) a.0.placed a.2 in
      let made = tabulated (value_of t (pair_at r.place.items)) some.0 (length f.counts) in
      let meets : MeetsAsserted (seen_of f pivots events) made.0 = (
        made.1.long,
        λ m c.
            let atom = here.checking.of_atoms.atom m c in
            reads_at f sides t here.fit b.lits.items (limits_of b.both.lower b.both.upper) (limits_are f sides events pivots t b r here) (pair_at r.place.items) a.0.placed a.2 some.0 some.1 made.0 made.1.each m
            (subst (λ (ls : List Lit). Contains ls m) (sym here.checking.lits_are) (asserted_listed events (length f.atoms) b.signs.items here.checking.signs_are m c)) atom.0 atom.1,
      ) in
      record { verdict = ((made.0, meets), λ e. absurd (cc)); sized = λ x e. absurd (cc) }

  pub stuck_is : (row : ℕ) (side : Side) → r.answer ≡ Ok (found.Clash row side) → IsPlaced (limits_of b.both.lower b.both.upper) t (pair_at r.place.items) × IsStuck (limits_of b.both.lower b.both.upper) t (pair_at r.place.items) row side
  stuck_is row side is = let a = answers (Ok (found.Clash row side)) is in (a.0.placed, a.2.1)

  pub spent_stuck : r.answer ≡ Ok found.Spent → (stopped : Trace) → IsTraced b r.swaps.items Pivots None None stopped → IsStuckAt StuckOver (seen_of f pivots events) stopped
  spent_stuck is stopped traced =
      let a = answers (Ok found.Spent) is in
      stuck_at f events b here.checking pivots stopped r.swaps.items Pivots None None traced refl refl (ends_with f sides events pivots t b r here _ a.0 a.2)

  pub value_stops : (w : Wide) → r.answer ≡ Err (Value w) → (stopped : Trace) → IsTraced b r.swaps.items AtValue (Some w) None stopped → IsStuckAt StuckOver (seen_of f pivots events) stopped
  value_stops w is stopped traced =
      let a = answers (Err (Value w)) is in
      stuck_at f events b here.checking pivots stopped r.swaps.items AtValue (Some w) None traced tt refl (ends_with f sides events pivots t b r here _ a.0 a.2)

  pub pivot_stops : (w : Wide) → r.answer ≡ Err (PivotFail w) → (stopped : Trace) → IsTraced b r.swaps.items Pivot (Some w) None stopped → IsStuckAt StuckOver (seen_of f pivots events) stopped
  pivot_stops w is stopped traced =
      let a = answers (Err (PivotFail w)) is in
      stuck_at f events b here.checking pivots stopped r.swaps.items Pivot (Some w) None traced tt refl (ends_with f sides events pivots t b r here _ a.0 a.2.1)
