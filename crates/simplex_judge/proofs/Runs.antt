-- Whatever a check answers, the solutions stay.
use Rattle.std.proofs.Common.{◌≡◌, ◌↔◌, ℕ, List, Option, length, sym, ap, subst, ◌∙◌}
use Rattle.std.specs.Prelude.{Result, Ok, Err}
use Rattle.rational.specs.Fraction.{Fraction}
use Rattle.tableau.specs.Table.{Table, width, Solves}
use Rattle.simplex_law.specs.Config.{Limits, IsConsistent, IsPlaced, IsStart, pair_at}
use Rattle.simplex_law.specs.declared.pair.Pair.{Pair}
use Rattle.simplex_law.proofs.Placing.{start_placed}
use Rattle.simplex_check.specs.Checks.{CheckAnswers}
use Rattle.simplex_check.specs.Known.{IsKnown}
use Rattle.simplex_judge.specs.declared.running.Ran.{Ran}
use Rattle.simplex_judge.specs.inside.Ran.{IsRan}
use Rattle.simplex_check.specs.declared.checking.Verdict.{Verdict}
use Rattle.simplex_check.specs.declared.checking.CheckFail.{CheckFail}
use Rattle.simplex_check.specs.declared.checking.CheckFail.TheVariants.{Value, Pivot, Memory}

pub keeps : (l : Limits) (t : Table) (place : ℕ → Pair) (pivots : ℕ) (swaps : List (ℕ × ℕ)) (after : Table) (place' : ℕ → Pair) (r : Result Verdict CheckFail) → CheckAnswers l t place pivots swaps after place' r
    → (width after ≡ width t) × ((point : ℕ → Fraction) → Solves t point ↔ Solves after point)
keeps l t place pivots swaps after place' (Ok verdict) h = (h.0.wide, h.0.same)
keeps l t place pivots swaps after place' (Err (Value w)) h = (h.0.wide, h.0.same)
keeps l t place pivots swaps after place' (Err (Pivot w)) h = (h.0.wide, h.0.same)
keeps l t place pivots swaps after place' (Err Memory) h = h

pub placed : (l : Limits) (t : Table) (place place' : List Pair) → IsConsistent l (width t) → IsStart l t (pair_at place') → place ≡ place' → IsPlaced l t (pair_at place)
placed l t place place' consistent start e = start_placed l t (pair_at place) consistent (subst (λ (xs : List Pair). IsStart l t (pair_at xs)) (sym e) start)

pub ran : (l : Limits) (first : Table) (pivots : ℕ) (last : Table) (run : Ran) (begun place : List Pair) (known : List (Option Pair)) → IsStart l first (pair_at begun) → run.place.items ≡ place → run.known.items ≡ known → length place ≡ width first → length known ≡ width first
    → IsKnown last (pair_at place) known → CheckAnswers l first (pair_at begun) pivots run.swaps.items last (pair_at place) run.answer → IsRan l first pivots last run
ran l first pivots last run begun place known start e f long long_known is answers =
    let wide : width last ≡ width first = (keeps l first (pair_at begun) pivots run.swaps.items last (pair_at place) run.answer answers).0 in
    record {
      first_place = pair_at begun;
      start = start;
      long = ap length e ∙ long ∙ sym wide;
      long_known = ap length f ∙ long_known ∙ sym wide;
      known = subst (λ (xs : List Pair). IsKnown last (pair_at xs) run.known.items) (sym e) (subst (λ (ks : List (Option Pair)). IsKnown last (pair_at place) ks) (sym f) is);
      answers = subst (λ (xs : List Pair). CheckAnswers l first (pair_at begun) pivots run.swaps.items last (pair_at xs) run.answer) (sym e) answers;
    }
