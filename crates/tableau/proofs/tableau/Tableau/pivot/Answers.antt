use Rattle.std.proofs.Common.{Vec, Global, cond, Bool, true, false, ◌≡◌, ◌≢◌, ℕ, ◌<◌, Ok, Err, List, length, get_or, refl, sym, ap, ◌∙◌, arith}
use Rattle.std.proofs.lemmas.Result.{err_from_is_err_and}
use Rattle.std.proofs.lemmas.List.{with_items_is}
use Rattle.std.specs.Vec.{with_items}
use Rattle.rational.specs.Fraction.{Fraction}
use Rattle.frac128.specs.declared.fraction.Frac.{Frac}
use Rattle.tableau.specs.Table.{at}
use Rattle.tableau.specs.Pivot.{Pivots}
use Rattle.tableau.specs.inside.Basis.{numbers_of}
use Rattle.tableau.proofs.FilledRows.{cells}
use Rattle.tableau.proofs.TableFacts.{items, width_is, width_rows, basic_is, cell_is, in_rows, in_basic, row_is, row_long}
use Rattle.tableau.proofs.Exchanging.{length-flags, still_shaped}
use Rattle.tableau.proofs.PivotSteps.{leaves_other, pivot_passes, solve_passes, pivots}
use Rattle.tableau.proofs.PivotFields.{solve_at, answers_at, still_room, numbers_as_long}
use Rattle.tableau.proofs.tableau.Tableau.pivot.Goals as goal

pub index-requires : goal.index-requires
index-requires c = in_rows c.self.inside c.self.invariant _ c.self.view_is _ c.requires.leaving

pub solve-requires-clause-entering : goal.solve-requires-clause-entering
solve-requires-clause-entering c =
    omega (arith, c.requires.entering, ap length c.deref.ensures.value, row_long c.self.inside c.self.invariant _ c.self.view_is c.args.r c.index.result.now c.requires.leaving c.index.ensures c.requires.basic)

pub solve-requires-clause-pivot : goal.solve-requires-clause-pivot
solve-requires-clause-pivot c h =
    let f : List Fraction → Fraction = λ xs. at xs c.args.e in
    c.requires.nonzero (sym (ap (λ (g : ℕ → Fraction). g c.args.e) (row_is c.self.inside c.self.invariant _ c.self.view_is c.args.r c.index.result.now c.requires.leaving c.index.ensures)) ∙ sym (ap f c.deref.ensures.value) ∙ h)

pub solve-requires-clause-as_long : goal.solve-requires-clause-as_long
solve-requires-clause-as_long c =
    ap length c.deref_mut.ensures.value ∙ c.self.invariant.solved ∙ sym (width_is c.self.inside c.self.invariant _ c.self.view_is)
    ∙ sym (ap length c.deref.ensures.value ∙ row_long c.self.inside c.self.invariant _ c.self.view_is c.args.r c.index.result.now c.requires.leaving c.index.ensures c.requires.basic)

pub returns-in_err-solve : goal.returns-in_err-solve
returns-in_err-solve c =
    let p = err_from_is_err_and c.from_residual.result c.from_residual.ensures.1 in
    let t = c.args.self.now in
    rw (p.1, p.2) (
      solve_passes t c.args.r c.args.e c.self.inside.rows.items c.solve.new.into (cell_is c.self.inside c.self.invariant t c.self.view_is) (width_rows c.self.inside c.self.invariant t c.self.view_is) (at c.solve.new.into) _
          (solve_at c.self.inside c.self.invariant t c.self.view_is c.args.r c.args.e c.requires.leaving c.requires.basic c.index.result.now c.index.ensures c.deref.result.now c.solve.new.into c.solve.new.into c.deref.ensures.value refl (Err c.in_err-solve.field-0.0) c.in_err-solve.ensures),
      c.self.view_is,
    )

pub fill-requires-clause-entering : goal.fill-requires-clause-entering
fill-requires-clause-entering c =
    let long : length c.solve.new.into ≡ c.self.inside.solved.len = c.solve.auto.into ∙ c.deref_mut.ensures.len in
    let size : length c.deref-3.result.now ≡ length c.self.inside.basic.items =
    ap length (c.deref-3.ensures.value ∙ with_items_is c.self.inside.solved c.solve.new.into long) ∙ c.solve.auto.into ∙ ap length c.deref_mut.ensures.value ∙ c.self.invariant.solved in
    omega (arith, c.requires.entering, size, width_is c.self.inside c.self.invariant _ c.self.view_is)

pub returns-in_err-fill : goal.returns-in_err-fill
returns-in_err-fill c =
    let p = err_from_is_err_and c.from_residual-in_err-fill.result c.from_residual-in_err-fill.ensures.1 in
    let t = c.args.self.now in
    let long : length c.solve.new.into ≡ c.self.inside.solved.len = c.solve.auto.into ∙ c.deref_mut.ensures.len in
    let is : c.deref-3.result.now ≡ c.solve.new.into = c.deref-3.ensures.value ∙ with_items_is c.self.inside.solved c.solve.new.into long in
    rw (p.1, p.2) (
      pivot_passes t c.args.r c.args.e c.self.inside.rows.items c.solve.new.into (cell_is c.self.inside c.self.invariant t c.self.view_is) (width_rows c.self.inside c.self.invariant t c.self.view_is)
          (solve_at c.self.inside c.self.invariant t c.self.view_is c.args.r c.args.e c.requires.leaving c.requires.basic c.index.result.now c.index.ensures c.deref.result.now c.solve.new.into c.solve.new.into c.deref.ensures.value refl (Ok c.in_ok-solve.field-0) c.in_ok-solve.ensures)
          (cells items c.fill.new.into) _
          (answers_at c.deref-2.result.now c.self.inside.rows.items c.deref-3.result.now c.solve.new.into c.fill.new.into c.fill.new.into c.deref-2.ensures.value is refl c.args.r c.args.e (Err c.in_err-fill.field-0.0) c.in_err-fill.ensures.answers),
      c.self.view_is,
    )

pub invariant_of-self-in_err-fill : goal.invariant_of-self-in_err-fill
invariant_of-self-in_err-fill c =
    let long : length c.solve.new.into ≡ c.self.inside.solved.len = c.solve.auto.into ∙ c.deref_mut.ensures.len in
    let longer : length c.fill.new.into ≡ c.self.inside.next.len = c.fill.auto.into ∙ c.deref_mut-2.ensures.len in
    let is = with_items_is c.self.inside.next c.fill.new.into longer in
    record {
      rows = c.self.invariant.rows;
      each_row = c.self.invariant.each_row;
      next = ap length is ∙ c.in_err-fill.ensures.many ∙ ap length c.deref-2.ensures.value ∙ c.self.invariant.rows;
      each_next = still_room c.self.inside c.self.invariant c.deref-2.result.now c.fill.new.into _ c.deref-2.ensures.value is c.in_err-fill.ensures.many c.in_err-fill.ensures.as_long;
      solved = ap length (with_items_is c.self.inside.solved c.solve.new.into long) ∙ c.solve.auto.into ∙ ap length c.deref_mut.ensures.value ∙ c.self.invariant.solved;
      basis = c.self.invariant.basis;
      tidy = c.self.invariant.tidy;
    }

pub exchange-requires-clause-leaving : goal.exchange-requires-clause-leaving
exchange-requires-clause-leaving c =
    let longer : length c.fill.new.into ≡ c.self.inside.next.len = c.fill.auto.into ∙ c.deref_mut-2.ensures.len in
    let size : length (with_items c.self.inside.next c.fill.new.into).items ≡ length c.self.inside.rows.items = ap length (with_items_is c.self.inside.next c.fill.new.into longer) ∙ c.in_ok-fill.ensures.many ∙ ap length c.deref-2.ensures.value in
    omega (arith, size, c.requires.leaving, width_rows c.self.inside c.self.invariant _ c.self.view_is)

pub exchange-requires-clause-entering : goal.exchange-requires-clause-entering
exchange-requires-clause-entering c =
    let longer : length c.fill.new.into ≡ c.self.inside.next.len = c.fill.auto.into ∙ c.deref_mut-2.ensures.len in
    let size : length (with_items c.self.inside.next c.fill.new.into).items ≡ length c.self.inside.rows.items = ap length (with_items_is c.self.inside.next c.fill.new.into longer) ∙ c.in_ok-fill.ensures.many ∙ ap length c.deref-2.ensures.value in
    omega (arith, size, c.requires.entering, width_rows c.self.inside c.self.invariant _ c.self.view_is)

pub exchange-requires-clause-apart : goal.exchange-requires-clause-apart
exchange-requires-clause-apart c = leaves_other c.self.inside c.self.invariant _ c.self.view_is c.args.r c.args.e c.requires.leaving c.requires.entering c.requires.basic c.requires.other c.requires.nonzero

pub exchange-requires-clause-many : goal.exchange-requires-clause-many
exchange-requires-clause-many c =
    let longer : length c.fill.new.into ≡ c.self.inside.next.len = c.fill.auto.into ∙ c.deref_mut-2.ensures.len in
    sym (ap length (with_items_is c.self.inside.next c.fill.new.into longer) ∙ c.in_ok-fill.ensures.many ∙ ap length c.deref-2.ensures.value)

pub index_mut-requires : goal.index_mut-requires
index_mut-requires c = in_basic c.self.inside c.self.invariant _ c.self.view_is _ c.requires.leaving

pub index_mut-requires-2 : goal.index_mut-requires-2
index_mut-requires-2 c = in_basic c.self.inside c.self.invariant _ c.self.view_is _ c.requires.entering

pub list_again-requires : goal.list_again-requires
list_again-requires c =
    let t = c.args.self.now in
    let w = width_is c.self.inside c.self.invariant t c.self.view_is in
    ap (λ (bs : List Bool). length (numbers_of bs)) c.deref-4.ensures.value
    ∙ numbers_as_long c.self.inside.basic.items c.args.r c.args.e (omega (arith, w, c.requires.leaving)) (omega (arith, w, c.requires.entering))
    (leaves_other c.self.inside c.self.invariant t c.self.view_is c.args.r c.args.e c.requires.leaving c.requires.entering c.requires.basic c.requires.other c.requires.nonzero)
    (sym (basic_is c.self.inside c.self.invariant t c.self.view_is c.args.r) ∙ c.requires.basic) (sym (basic_is c.self.inside c.self.invariant t c.self.view_is c.args.e) ∙ c.requires.other)
    ∙ sym (ap length c.self.invariant.basis) ∙ sym (ap length c.deref_mut-3.ensures.value)

pub returns : goal.returns
returns c =
    let t = c.args.self.now in
    let long : length c.solve.new.into ≡ c.self.inside.solved.len = c.solve.auto.into ∙ c.deref_mut.ensures.len in
    let put = with_items c.self.inside.solved c.solve.new.into in
    let put_is : put.items ≡ c.solve.new.into = with_items_is c.self.inside.solved c.solve.new.into long in
    let longer : length c.fill.new.into ≡ c.self.inside.next.len = c.fill.auto.into ∙ c.deref_mut-2.ensures.len in
    let into : List (Vec Frac Global) = (with_items c.self.inside.next c.fill.new.into).items in
    let into_is : into ≡ c.fill.new.into = with_items_is c.self.inside.next c.fill.new.into longer in
    pivots c.self.inside c.self.invariant t c.self.view_is c.args.r c.args.e c.requires.leaving c.requires.entering c.requires.basic c.requires.other c.requires.nonzero put
    (solve_at c.self.inside c.self.invariant t c.self.view_is c.args.r c.args.e c.requires.leaving c.requires.basic c.index.result.now c.index.ensures c.deref.result.now c.solve.new.into put.items c.deref.ensures.value put_is (Ok c.in_ok-solve.field-0) c.in_ok-solve.ensures)
    into c.exchange.new.rows.items (ap length into_is ∙ c.in_ok-fill.ensures.many ∙ ap length c.deref-2.ensures.value)
    (answers_at c.deref-2.result.now c.self.inside.rows.items c.deref-3.result.now put.items c.fill.new.into into c.deref-2.ensures.value c.deref-3.ensures.value (sym into_is) c.args.r c.args.e (Ok c.in_ok-fill.field-0) c.in_ok-fill.ensures.answers)
    c.exchange.ensures.rows

pub invariant_of-self-2 : goal.invariant_of-self-2
invariant_of-self-2 c =
    let t = c.args.self.now in
    let long : length c.solve.new.into ≡ c.self.inside.solved.len = c.solve.auto.into ∙ c.deref_mut.ensures.len in
    let put = with_items c.self.inside.solved c.solve.new.into in
    let put_long : length put.items ≡ length c.self.inside.basic.items = ap length (with_items_is c.self.inside.solved c.solve.new.into long) ∙ c.solve.auto.into ∙ ap length c.deref_mut.ensures.value ∙ c.self.invariant.solved in
    let longer : length c.fill.new.into ≡ c.self.inside.next.len = c.fill.auto.into ∙ c.deref_mut-2.ensures.len in
    let into : List (Vec Frac Global) = (with_items c.self.inside.next c.fill.new.into).items in
    let into_is : into ≡ c.fill.new.into = with_items_is c.self.inside.next c.fill.new.into longer in
    let many : length into ≡ length c.self.inside.basic.items = ap length into_is ∙ c.in_ok-fill.ensures.many ∙ ap length c.deref-2.ensures.value ∙ c.self.invariant.rows in
    let w = width_is c.self.inside c.self.invariant t c.self.view_is in
    let lr : c.args.r < length c.self.inside.basic.items = omega (arith, w, c.requires.leaving) in
    let le : c.args.e < length c.self.inside.basic.items = omega (arith, w, c.requires.entering) in
    let d : c.args.r ≢ c.args.e = leaves_other c.self.inside c.self.invariant t c.self.view_is c.args.r c.args.e c.requires.leaving c.requires.entering c.requires.basic c.requires.other c.requires.nonzero in
    let br : get_or c.self.inside.basic.items c.args.r false ≡ true = sym (basic_is c.self.inside c.self.invariant t c.self.view_is c.args.r) ∙ c.requires.basic in
    let be : get_or c.self.inside.basic.items c.args.e false ≡ false = sym (basic_is c.self.inside c.self.invariant t c.self.view_is c.args.e) ∙ c.requires.other in
    let room = still_room c.self.inside c.self.invariant c.deref-2.result.now c.fill.new.into into c.deref-2.ensures.value into_is c.in_ok-fill.ensures.many c.in_ok-fill.ensures.as_long in
    let old : Vec Frac Global = get_or c.self.inside.rows.items c.args.r put in
    let flag_long = length-flags c.self.inside.basic.items c.args.r c.args.e lr le d in
    let full : Bool → ℕ = λ b. cond b (length c.self.inside.basic.items) 0 in
    let basis_long : length c.list_again.new.into ≡ c.self.inside.basis.len = c.list_again.auto.into ∙ c.deref_mut-3.ensures.len in
    let p : Pivots t c.args.r c.args.e _ = returns c in
    record {
      rows = c.exchange.ensures.rows.long ∙ many ∙ sym flag_long;
      each_row = still_shaped c.self.inside.basic.items c.args.r c.args.e lr le d items into put c.exchange.new.rows.items c.exchange.ensures.rows many be put_long room;
      next = (c.exchange.ensures.next put).long ∙ c.self.invariant.rows ∙ sym flag_long;
      each_next = still_shaped c.self.inside.basic.items c.args.r c.args.e lr le d items c.self.inside.rows.items old c.exchange.new.next.items (c.exchange.ensures.next put) c.self.invariant.rows be
          (c.self.invariant.each_row c.args.r put (omega (arith, lr, c.self.invariant.rows)) ∙ ap full br) c.self.invariant.each_row;
      solved = ap (λ (v : Vec Frac Global). length v.items) (c.exchange.ensures.solved put) ∙ room c.args.r put (omega (arith, lr, many)) ∙ ap full br ∙ sym flag_long;
      basis = with_items_is c.self.inside.basis c.list_again.new.into basis_long ∙ c.list_again.ensures ∙ ap numbers_of c.deref-4.ensures.value;
      tidy = p.tidy;
    }
