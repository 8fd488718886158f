use Rattle.std.proofs.Common.{◌≡◌, inl, inr, ℕ, ◌<◌, length, ap, subst, ◌∙◌, arith}
use Rattle.std.proofs.lemmas.Result.{err_from_is_err_and}
use Rattle.std.proofs.lemmas.List.{get_or_read}
use Rattle.rational.specs.Fraction.{Fraction}
use Rattle.tableau.specs.Table.{cell, width}
use Rattle.simplex_law.specs.Config.{pair_at, zero_pair, row_pair}
use Rattle.simplex_law.specs.declared.pair.Pair.{Pair}
use Rattle.simplex_check.proofs.Running.{IsRunning, running_more, running_wide}
use Rattle.simplex_check.proofs.value.row_pair.Goals as goal

main_of : Pair → Fraction
main_of p = p.main

small_of : Pair → Fraction
small_of p = p.small

pub loop-j-preserved : goal.loop-j-preserved
unfolding main_of small_of
loop-j-preserved c =
    let l : c.loop-j.j < length c.args.place.now = omega (arith, c.width-j-end.ensures.value, c.requires.placed) in
    let x : c.index-place-j.result ≡ pair_at c.args.place.now c.loop-j.j = get_or_read c.args.place.now c.loop-j.j c.index-place-j.result l c.index-place-j.is zero_pair in (
      running_more (cell c.args.t.now c.args.r) (λ j. (pair_at c.args.place.now j).main) c.loop-j.j c.loop-j.main c.loop-j.invariant.0 c.cell-c.result c.index-place-j.result.main c.cell-c.ensures (ap main_of x) c.in_ok-main.main c.in_ok-main.ensures,
      running_more (cell c.args.t.now c.args.r) (λ j. (pair_at c.args.place.now j).small) c.loop-j.j c.loop-j.small c.loop-j.invariant.1 c.cell-c.result c.index-place-j.result.small c.cell-c.ensures (ap small_of x) c.in_ok-small.small c.in_ok-small.ensures,
    )

pub returns-in_err-main : goal.returns-in_err-main
unfolding main_of small_of
returns-in_err-main c =
    let p = err_from_is_err_and c.from_residual.result c.from_residual.ensures.1 in
    let l : c.loop-j.j < length c.args.place.now = omega (arith, c.width-j-end.ensures.value, c.requires.placed) in
    let x : c.index-place-j.result ≡ pair_at c.args.place.now c.loop-j.j = get_or_read c.args.place.now c.loop-j.j c.index-place-j.result l c.index-place-j.is zero_pair in
    rw (p.1, p.2) (inl (running_wide (cell c.args.t.now c.args.r) (λ j. (pair_at c.args.place.now j).main) c.loop-j.j c.loop-j.main c.loop-j.invariant.0 c.cell-c.result c.index-place-j.result.main c.cell-c.ensures (ap main_of x) (width c.args.t.now) (omega (arith, c.requires.placed)) _ c.in_err-main.ensures))

pub returns-in_err-small : goal.returns-in_err-small
unfolding main_of small_of
returns-in_err-small c =
    let p = err_from_is_err_and c.from_residual-in_err-small.result c.from_residual-in_err-small.ensures.1 in
    let l : c.loop-j.j < length c.args.place.now = omega (arith, c.width-j-end.ensures.value, c.requires.placed) in
    let x : c.index-place-j.result ≡ pair_at c.args.place.now c.loop-j.j = get_or_read c.args.place.now c.loop-j.j c.index-place-j.result l c.index-place-j.is zero_pair in
    rw (p.1, p.2) (inr (running_wide (cell c.args.t.now c.args.r) (λ j. (pair_at c.args.place.now j).small) c.loop-j.j c.loop-j.small c.loop-j.invariant.1 c.cell-c.result c.index-place-j.result.small c.cell-c.ensures (ap small_of x) (width c.args.t.now) (omega (arith, c.requires.placed)) _ c.in_err-small.ensures))

pub returns : goal.returns
returns c =
    let e : c.loop-j.j ≡ width c.args.t.now = omega (arith, c.width-j-end.ensures.value) in
    let a = subst (λ (n : ℕ). IsRunning (cell c.args.t.now c.args.r) (λ j. (pair_at c.args.place.now j).main) n c.loop-j.main) e c.loop-j.invariant.0 in
    let b = subst (λ (n : ℕ). IsRunning (cell c.args.t.now c.args.r) (λ j. (pair_at c.args.place.now j).small) n c.loop-j.small) e c.loop-j.invariant.1 in
    let f : Fraction → Pair = λ m. record { main = m; small = c.loop-j.small } in
    let g : Fraction → Pair = λ m. record { main = (row_pair c.args.t.now (pair_at c.args.place.now) c.args.r).main; small = m } in
    ((a.1, b.1), ap f a.0 ∙ ap g b.0)
