-- What the fields of a tableau say of its table.
use Rattle.std.proofs.Common.{Vec, Global, cond, Bool, false, ◌≡◌, ℕ, ◌<◌, List, length, get_or, sym, ap, ◌∙◌, arith, IsTrue, vec_len}
use Rattle.rational.specs.Fraction.{Fraction}
use Rattle.frac128.specs.declared.fraction.Frac.{Frac}
use Rattle.tableau.specs.Table.{Table, at, width, cell, is_basic, basis}
use Rattle.tableau.specs.Fields.{table_of, IsShaped}
use Rattle.tableau.specs.declared.tableau.Tableau.TheInside.{Inside}
use Rattle.tableau.proofs.FilledRows.{cells, cells-at}

abbrev pub items : Vec Frac Global → List Fraction
items w = w.items

module _ (a : Inside) (sh : IsShaped a) (t : Table) (is : table_of a ≡ t) where
  pub width_is : width t ≡ length a.basic.items
  unfolding width
  width_is = sym (ap width is)

  pub basic_is : (i : ℕ) → is_basic t i ≡ get_or a.basic.items i false
  unfolding is_basic
  basic_is i = sym (ap (λ (u : Table). is_basic u i) is)

  pub basis_is : a.basis.items ≡ basis t
  unfolding width is_basic
  basis_is = sh.basis ∙ ap basis is

  pub cell_is : cell t ≡ cells items a.rows.items
  unfolding cell
  cell_is = sym (ap cell is)

  pub width_rows : width t ≡ length a.rows.items
  width_rows = width_is ∙ sym sh.rows

  pub in_rows : (r : ℕ) → r < width t → r < vec_len a.rows
  in_rows r h = omega (arith, width_rows, a.rows.ok.0)

  pub in_basic : (r : ℕ) → r < width t → r < vec_len a.basic
  in_basic r h = omega (arith, width_is, a.basic.ok.0)

  module _ (r : ℕ) (row : Vec Frac Global) (h : r < width t) (e : row ≡ get_or a.rows.items r row) where
    pub row_is : at row.items ≡ cell t r
    row_is =
        let f : Vec Frac Global → ℕ → Fraction = λ w j. at w.items j in
        ap f e ∙ sym (cells-at items a.rows.items r row (omega (arith, width_rows))) ∙ sym (ap (λ (c : ℕ → ℕ → Fraction). c r) cell_is)

    pub row_long : IsTrue (is_basic t r) → length row.items ≡ width t
    row_long b =
        ap (λ (w : Vec Frac Global). length w.items) e ∙ sh.each_row r row (omega (arith, width_rows))
        ∙ ap (λ (x : Bool). cond x (length a.basic.items) 0) (sym (basic_is r) ∙ b) ∙ sym width_is

    pub in_row : IsTrue (is_basic t r) → (j : ℕ) → j < width t → j < vec_len row
    in_row b j l = omega (arith, row_long b, row.ok.0)
