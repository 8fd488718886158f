use Rattle.std.proofs.Common.{arith, ap, ◌∙◌, ℕ, ◌<◌, length}
use lib.IntN.{pos}
use Rattle.std.proofs.lemmas.List.{get_or_read}
use Rattle.rational.specs.Fraction.{Fraction, whole}
use Rattle.tableau.proofs.TableFacts.{in_rows, in_row, row_is, row_long}
use Rattle.tableau.proofs.tableau.Tableau.cell.Goals as goal

pub index-requires : goal.index-requires
index-requires c = in_rows c.self.inside c.self.invariant _ c.self.view_is _ c.requires.row

pub index-requires-2 : goal.index-requires-2
index-requires-2 c = in_row c.self.inside c.self.invariant _ c.self.view_is c.args.r c.index.result.now c.requires.row c.index.ensures c.requires.basic c.args.j c.requires.column

pub returns : goal.returns
returns c =
    let h : c.args.j < length c.index.result.now.items = omega (arith, c.requires.column, row_long c.self.inside c.self.invariant _ c.self.view_is c.args.r c.index.result.now c.requires.row c.index.ensures c.requires.basic) in
    get_or_read c.index.result.now.items _ _ h c.index-2.ensures (whole (pos 0))
    ∙ ap (λ (f : ℕ → Fraction). f c.args.j) (row_is c.self.inside c.self.invariant _ c.self.view_is c.args.r c.index.result.now c.requires.row c.index.ensures)
