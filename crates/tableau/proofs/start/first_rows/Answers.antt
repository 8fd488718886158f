use Rattle.std.proofs.Common.{Vec, Global, ◌+◌, ◌<◌, List, length, map, sym, ap, subst, ◌∙◌, arith}
use Rattle.rational.specs.Fraction.{Fraction}
use Rattle.rational.specs.Linear.{Terms}
use Rattle.frac128.specs.declared.fraction.Frac.{Frac}
use Rattle.lin.specs.Linear.{Linear}
use Rattle.tableau.specs.inside.Start.{IsDense, IsBegun}
use Rattle.tableau.proofs.TableFacts.{items}
use Rattle.tableau.proofs.Starting.{more_given, map-push, terms_are}
use Rattle.tableau.proofs.start.first_rows.Goals as goal

pub loop-row-preserved : goal.loop-row-preserved
loop-row-preserved c =
    let k = c.loop-row.row-index in
    let w = c.in_ok-dense.field-0 in
    let f : Linear → Terms = λ l. l.terms in
    let l : c.loop-row.row-index < length c.args.rows.now = omega arith in
    let d : IsDense c.args.n (f c.row-item.result) w.items = c.in_ok-dense.ensures in
    let g : List (Vec Frac Global) → Type 0 = λ vs. IsBegun c.args.vars c.args.n c.args.rows.now (k + 1) (map items vs) in
    let h : List (List Fraction) → Type 0 = λ vs. IsBegun c.args.vars c.args.n c.args.rows.now (k + 1) vs in
    let q : Terms → Type 0 = λ ts. IsDense c.args.n ts w.items in
    subst g (sym c.in_ok-push-2.ensures.items) (subst h (sym (map-push items c.loop-row.all.items w))
    (more_given (map items c.loop-row.all.items) w.items c.args.vars c.args.n c.args.rows.now k c.loop-row.invariant
    (subst q (ap f c.row-item.is ∙ sym (terms_are c.args.rows.now k c.row-item.result l)) d)))
