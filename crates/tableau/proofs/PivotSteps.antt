-- A pivot from its steps: the solved row, the other rows, and the exchange of both.
use Rattle.std.proofs.Common.{nat_eq, cond, Vec, Global, Bool, true, false, ◌≡◌, ◌≢◌, ◌⊎◌, inl, inr, ℕ, ◌<◌, Ok, Err, List, [], ◌∷◌, length, map, get_or, refl, sym, ap, subst, ◌∙◌, arith, IsTrue}
use lib.Dec.{T}
use lib.IntN.{pos}
use Rattle.std.proofs.lemmas.Bool.{cases_eq}
use Rattle.algebra.proofs.Solve.{v, k, ◌⊕◌, ◌⊗◌, solve_from, eq, done}
use Rattle.rational.specs.Fraction.{Fraction, whole, ◌+ℚ◌, ◌*ℚ◌}
use Rattle.rational.proofs.FieldLaws.{fraction-ring}
use Rattle.frac128.specs.declared.fraction.Frac.{Frac}
use Rattle.frac128.specs.declared.operations.Wide.{Wide}
use Rattle.lin.specs.Operations.{adding, multiplying}
use Rattle.tableau.specs.Named.{FitsAt}
use Rattle.tableau.specs.Table.{Table, at, width, cell, is_basic, IsTidy}
use Rattle.tableau.specs.Pivot.{Share, Multiple, Sum, solved, replaced, pivoted, PivotFits, PivotPasses, IsPivoted, Pivots}
use Rattle.tableau.specs.Fields.{table_of, IsShaped}
use Rattle.tableau.specs.inside.Exchange.{IsExchanged}
use Rattle.tableau.specs.inside.Rows.{SolveAnswers, RowFits, RowsAnswer}
use Rattle.tableau.specs.declared.tableau.Tableau.TheInside.{Inside}
use Rattle.tableau.proofs.SumLaws.{nat_eq-same, nat_eq-apart}
use Rattle.tableau.proofs.FilledRows.{cells, cells-at}
use Rattle.tableau.proofs.TableFacts.{items, width_is, width_rows, basic_is, cell_is}
use Rattle.tableau.proofs.Exchanging.{flags, length-flags, flag-e, flag-r, flag-other}
use Rattle.tableau.proofs.PivotLaws.{still_tidy, same_solutions}

replaced-put : (row put put' : ℕ → Fraction) (e j : ℕ) → put j ≡ put' j → replaced row put e j ≡ replaced row put' e j
replaced-put row put put' e j h = let f : Fraction → Fraction = λ x. cond (nat_eq j e) (whole (pos 0)) (row j +ℚ row e *ℚ x) in ap f h

-- a row of zeros stays so
replaced-blank : (row put : ℕ → Fraction) (e j : ℕ) → row j ≡ whole (pos 0) → row e ≡ whole (pos 0) → replaced row put e j ≡ whole (pos 0)
replaced-blank row put e j z y = by_test (nat_eq j e) refl
  where
    by_test : (b : Bool) → nat_eq j e ≡ b → replaced row put e j ≡ whole (pos 0)
    by_test true q = ap (λ (b : Bool). cond b (whole (pos 0)) (row j +ℚ row e *ℚ put j)) q
    by_test false q =
        ap (λ (b : Bool). cond b (whole (pos 0)) (row j +ℚ row e *ℚ put j)) q
        ∙ solve_from fraction-ring (v 0 ⊕ v 1 ⊗ v 2) (k (pos 0)) (row j ∷ row e ∷ put j ∷ []) (eq (k (pos 1)) (v 0) (k (pos 0)) z (eq (v 2) (v 1) (k (pos 0)) y done)) refl

module _ (t : Table) (r e : ℕ) (rows : List (Vec Frac Global)) (put : List Fraction) (same : cell t ≡ cells items rows) (long : width t ≡ length rows) where
  module _ (s : SolveAnswers (cell t r) (width t) r e (at put) (Ok tt)) where
    put_is : (j : ℕ) → j < width t → at put j ≡ solved (cell t r) r e j
    put_is j h = s.1 j h

    fits_row : (into : ℕ → ℕ → Fraction) → RowsAnswer (cells items rows) (at put) (length rows) r e into (Ok tt) → (i : ℕ) → i < width t → i ≢ r → RowFits (cell t i) (at put) (width t) e
    fits_row into h i l d =
        let f : (ℕ → ℕ → Fraction) → Type 0 = λ c. RowFits (c i) (at put) (width t) e in
        subst f (sym same) (subst (λ (n : ℕ). RowFits (cells items rows i) (at put) n e) (sym long) (h.0 i (omega (arith, long)) d))

    pub pivot_fits : (into : ℕ → ℕ → Fraction) → RowsAnswer (cells items rows) (at put) (length rows) r e into (Ok tt) → PivotFits (cell t) (width t) r e
    pivot_fits into h (Share j) m = s.0 j m.0 m.1 m.2
    pivot_fits into h (Multiple i j) m =
        subst (λ (x : Fraction). FitsAt (multiplying (cell t i e) x)) (put_is j m.3)
        (fits_row into h i m.0 m.1 m.2 j m.3 m.4 (λ z. m.5 (sym (put_is j m.3) ∙ z))).0
    pivot_fits into h (Sum i j) m =
        subst (λ (x : Fraction). FitsAt (adding (cell t i j) (cell t i e *ℚ x))) (put_is j m.3)
        (fits_row into h i m.0 m.1 m.2 j m.3 m.4 (λ z. m.5 (sym (put_is j m.3) ∙ z))).1

    pub pivot_passes : (into : ℕ → ℕ → Fraction) (w : Wide) → RowsAnswer (cells items rows) (at put) (length rows) r e into (Err w) → PivotPasses (cell t) (width t) r e w
    pivot_passes into w (i, l, d, (nz, j, lj, (de, pz, inl q, p))) =
        let l' : i < width t = omega (arith, long) in
        let lj' : j < width t = omega (arith, long) in (
          Multiple i j,
          (l', d, (λ z. nz (ap (λ (c : ℕ → ℕ → Fraction). c i e) (sym same) ∙ z)), lj', de, (λ z. pz (put_is j lj' ∙ z))),
          q ∙ ap (λ (c : ℕ → ℕ → Fraction). multiplying (c i e) (at put j)) (sym same) ∙ ap (λ (x : Fraction). multiplying (cell t i e) x) (put_is j lj'),
          p,
        )
    pivot_passes into w (i, l, d, (nz, j, lj, (de, pz, inr q, p))) =
        let l' : i < width t = omega (arith, long) in
        let lj' : j < width t = omega (arith, long) in (
          Sum i j,
          (l', d, (λ z. nz (ap (λ (c : ℕ → ℕ → Fraction). c i e) (sym same) ∙ z)), lj', de, (λ z. pz (put_is j lj' ∙ z))),
          q ∙ ap (λ (c : ℕ → ℕ → Fraction). adding (c i j) (c i e *ℚ at put j)) (sym same) ∙ ap (λ (x : Fraction). adding (cell t i j) (cell t i e *ℚ x)) (put_is j lj'),
          p,
        )

  -- the row of r can't be solved
  pub solve_passes : (into : ℕ → Fraction) (w : Wide) → SolveAnswers (cell t r) (width t) r e into (Err w) → PivotPasses (cell t) (width t) r e w
  solve_passes into w h = (Share h.0, (h.1, h.2, h.3), h.4, h.5)

-- ---- the tableau after it
module _ (a : Inside) (sh : IsShaped a) (t : Table) (is : table_of a ≡ t) (r e : ℕ) (lr : r < width t) (le : e < width t) (br : IsTrue (is_basic t r)) (oe : is_basic t e ≡ false) (nz : cell t r e ≢ whole (pos 0)) where
  pub leaves_other : r ≢ e
  leaves_other m = absurd (subst T (sym br ∙ ap (is_basic t) m ∙ oe) tt)

  tidy : IsTidy t
  tidy = subst IsTidy is sh.tidy

  lr' : r < length a.basic.items
  lr' = omega (arith, lr, width_is a sh t is)

  le' : e < length a.basic.items
  le' = omega (arith, le, width_is a sh t is)

  module _ (put : Vec Frac Global) (so : SolveAnswers (cell t r) (width t) r e (at put.items) (Ok tt)) (into rows : List (Vec Frac Global)) (many : length into ≡ length a.rows.items)
      (h : RowsAnswer (cells items a.rows.items) (at put.items) (length a.rows.items) r e (cells items into) (Ok tt)) (x : IsExchanged into put r e rows) where
    at_place : (i : ℕ) → i < width t → cells items rows i ≡ at (items (get_or rows i put))
    at_place i l = cells-at items rows i put (omega (arith, x.long, many, width_rows a sh t is))

    of : Vec Frac Global → ℕ → Fraction
    of w j = at w.items j

    cell_before : (i j : ℕ) → i < width t → i ≢ r → j < width t → cells items into i j ≡ replaced (cell t i) (at put.items) e j
    cell_before i j li d lj =
        h.1 i j (omega (arith, width_rows a sh t is)) d (omega (arith, width_rows a sh t is))
        ∙ ap (λ (c : ℕ → ℕ → Fraction). replaced (c i) (at put.items) e j) (sym (cell_is a sh t is))

    cell_after : (i j : ℕ) → i < width t → j < width t → (i ≡ e) ⊎ (i ≡ e → ⊥) → (i ≡ r) ⊎ (i ≡ r → ⊥) → cells items rows i j ≡ pivoted (cell t) r e i j
    cell_after i j li lj (inl p) q =
        let P : ℕ → Type 0 = λ m. cells items rows m j ≡ pivoted (cell t) r e m j in
        subst P (sym p) (ap (λ (f : ℕ → Fraction). f j) (at_place e le) ∙ ap (λ (w : Vec Frac Global). at w.items j) (x.at_e put) ∙ so.1 j lj ∙ sym (rw (nat_eq-same e)))
    cell_after i j li lj (inr n) (inl q) =
        let P : ℕ → Type 0 = λ m. cells items rows m j ≡ pivoted (cell t) r e m j in
        subst P (sym q) (ap (λ (f : ℕ → Fraction). f j) (at_place r lr) ∙ ap (λ (w : Vec Frac Global). at w.items j) (x.at_r put)
        ∙ sym (ap (λ (f : ℕ → Fraction). f j) (cells-at items into e put (omega (arith, many, width_rows a sh t is))))
        ∙ cell_before e j le (λ s. leaves_other (sym s)) lj ∙ replaced-blank (cell t e) (at put.items) e j (tidy.other_row e j le lj oe) (tidy.other_row e e le le oe)
        ∙ sym (rw (nat_eq-apart r e leaves_other, nat_eq-same r)))
    cell_after i j li lj (inr n) (inr m) =
        ap (λ (f : ℕ → Fraction). f j) (at_place i li) ∙ ap (λ (w : Vec Frac Global). at w.items j) (x.others i put m n)
        ∙ sym (ap (λ (f : ℕ → Fraction). f j) (cells-at items into i put (omega (arith, many, width_rows a sh t is))))
        ∙ cell_before i j li m lj ∙ replaced-put (cell t i) (at put.items) (solved (cell t r) r e) e j (so.1 j lj)
        ∙ sym (rw (nat_eq-apart i e n, nat_eq-apart i r m))

    abbrev pub after : Table
    after = record { rows = map items rows; basic = flags a.basic.items r e }

    is_pivoted : IsPivoted t r e after
    unfolding width cell is_basic
    is_pivoted = record {
      same_width = length-flags a.basic.items r e lr' le' leaves_other ∙ sym (width_is a sh t is);
      leaves = flag-r a.basic.items r e lr' le' leaves_other;
      enters = flag-e a.basic.items r e lr' le' leaves_other;
      stays = λ i dr de. flag-other a.basic.items r e lr' le' leaves_other i dr de ∙ sym (basic_is a sh t is i);
      cells = λ i j li lj. cell_after i j li lj (cases_eq i e) (cases_eq i r);
    }

    pub pivots : Pivots t r e after
    pivots = record {
      fits = pivot_fits t r e a.rows.items put.items (cell_is a sh t is) (width_rows a sh t is) so (cells items into) h;
      pivoted = is_pivoted;
      tidy = still_tidy t r e after is_pivoted tidy lr le br oe nz;
      same = same_solutions t r e after is_pivoted tidy lr le br oe nz;
    }
