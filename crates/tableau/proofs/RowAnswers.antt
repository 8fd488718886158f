-- What the cell functions answer, from what their operations give.
use Rattle.std.proofs.Common.{Bool, true, false, cond, [], ◌∷◌, ◌≡◌, ◌≢◌, ℕ, ◌<◌, Result, Ok, Err, List, length, ◌⊎◌, ◌==◌, arith, refl, sym, ap, subst, ◌∙◌, inl, inr, nat_eq}
use lib.IntN.{pos}
use Rattle.std.proofs.lemmas.List.{get_or_past}
use Rattle.algebra.proofs.Solve.{v, k, ◌⊕◌, ◌⊗◌, inv, solve_from, eq, done}
use Rattle.rational.specs.Fraction.{Fraction, whole, ◌+ℚ◌, ◌*ℚ◌, ◌/ℚ◌, inv_ℚ}
use Rattle.rational.proofs.FieldLaws.{fraction-ring}
use Rattle.frac128.specs.declared.operations.Wide.{Wide}
use Rattle.lin.specs.Operations.{dividing}
use Rattle.tableau.specs.Named.{FitsAt, PassesAt, Gives}
use Rattle.tableau.specs.Pivot.{share, replaced}
use Rattle.tableau.specs.Table.{at}
use Rattle.tableau.specs.inside.Rows.{sharing, ShareAnswers, CellAnswers, RowAnswers}
use Rattle.tableau.proofs.SumLaws.{nat_eq-same, nat_eq-true, nat_eq-apart}

one_apart : whole (pos 1) ≢ whole (pos 0)
one_apart h = let e : pos 1 ≡ pos 0 = ap (λ (x : Fraction). x.num) h in cc

module _ (row : ℕ → Fraction) (r e j : ℕ) where
  share-at_r : j ≡ r → share row r j ≡ whole (pos 1)
  share-at_r h = rw h (rw (nat_eq-same r))

  share-else : j ≢ r → share row r j ≡ row j
  share-else d = rw (nat_eq-apart j r d)

  same_sharing : (x y : Fraction) → x ≡ share row r j → y ≡ row e → dividing x y ≡ sharing row r e j
  same_sharing x y p q = ap (λ (z : Fraction). dividing z y) p ∙ ap (λ (z : Fraction). dividing (share row r j) z) q

  -- the cell of r is 1 divided by that of e
  pub cell-at_r : j ≢ e → j ≡ r → (x y : Fraction) → x ≡ whole (pos 1) → y ≡ row e → (a : Result Fraction Wide) → Gives (dividing x y) a → ShareAnswers row r e j a
  cell-at_r d h x y p q (Ok z) g =
      let s = same_sharing x y (p ∙ sym (share-at_r h)) q in
      ((λ _ _. subst FitsAt s g.0), g.1 ∙ ap (λ (w : Wide). w.x /ℚ w.y) s ∙ sym (rw (nat_eq-apart j e d) (rw h (rw (nat_eq-same r)))))
  cell-at_r d h x y p q (Err w) g =
      let s = same_sharing x y (p ∙ sym (share-at_r h)) q in
      (d, (λ z. one_apart (sym (share-at_r h) ∙ z)), g.0 ∙ s, subst PassesAt (sym g.0) g.1)

  -- a cell that is 0 stays so
  pub cell-zero : j ≢ e → j ≢ r → row j ≡ whole (pos 0) → (x : Fraction) → x ≡ whole (pos 0) → ShareAnswers row r e j (Ok x)
  cell-zero d h z x p = (
    (λ _ n. absurd (n (share-else h ∙ z))),
    p ∙ solve_from fraction-ring (k (pos 0)) (inv (v 0 ⊗ v 1)) (share row r j ∷ inv_ℚ (row e) ∷ []) (eq (v 1) (v 0) (k (pos 0)) (share-else h ∙ z) done) refl
        ∙ sym (rw (nat_eq-apart j e d, nat_eq-apart j r h)),
  )

-- a cell stays where the solved row has none
pub cell-stays : (row put : ℕ → Fraction) (e j : ℕ) → j ≢ e → put j ≡ whole (pos 0) → (x : Fraction) → x ≡ row j → CellAnswers row put e j (Ok x)
cell-stays row put e j d z x p = (
  (λ _ n. absurd (n z)),
  p ∙ solve_from fraction-ring (v 0) (v 0 ⊕ v 1 ⊗ v 2) (row j ∷ row e ∷ put j ∷ []) (eq (inv (v 1)) (v 2) (k (pos 0)) z done) refl ∙ sym (rw (nat_eq-apart j e d)),
)

-- a row without a cell at e stays
pub row-stays : (row put : ℕ → Fraction) (e j : ℕ) → row e ≡ whole (pos 0) → row j ≡ replaced row put e j
row-stays row put e j z = by_test (nat_eq j e) refl
  where
    by_test : (b : Bool) → nat_eq j e ≡ b → row j ≡ replaced row put e j
    by_test true q = ap row (nat_eq-true j e q) ∙ z ∙ sym (ap (λ (b : Bool). cond b (whole (pos 0)) (row j +ℚ row e *ℚ put j)) q)
    by_test false q =
        solve_from fraction-ring (v 0) (v 0 ⊕ v 1 ⊗ v 2) (row j ∷ row e ∷ put j ∷ []) (eq (inv (v 2)) (v 1) (k (pos 0)) z done) refl
        ∙ sym (ap (λ (b : Bool). cond b (whole (pos 0)) (row j +ℚ row e *ℚ put j)) q)

-- ---- the row of i, where nothing is computed
pub row-empty : (row into : List Fraction) (put : ℕ → Fraction) (n r e i : ℕ) → length row ≡ 0 → length into ≡ length row → (u : Unit {0}) → RowAnswers (at row) put n r e i (at into) (Ok u)
row-empty row into put n r e i z l u d =
    let zero : (j : ℕ) → at row j ≡ whole (pos 0) = λ j. get_or_past row j (whole (pos 0)) (omega arith) in
    ((λ nz. absurd (nz (zero e))), (λ j m. get_or_past into j (whole (pos 0)) (omega arith) ∙ sym (zero j) ∙ row-stays (at row) put e j (zero e)))

pub row-copied : (row into : List Fraction) (put : ℕ → Fraction) (n r e i : ℕ) → at row e ≡ whole (pos 0) → into ≡ row → (u : Unit {0}) → RowAnswers (at row) put n r e i (at into) (Ok u)
row-copied row into put n r e i z s u d =
    ((λ nz. absurd (nz z)), (λ j m. ap (λ (xs : List Fraction). at xs j) s ∙ row-stays (at row) put e j z))

-- a row that isn't empty has a place for e
pub in_full_row : (m n e : ℕ) (b : Bool) → b ≡ (m == 0) → b ≡ false → (m ≡ n) ⊎ (m ≡ 0) → e < n → e < m
in_full_row m n e b p q (inl h) l = omega arith
in_full_row m n e b p q (inr h) l = let f : (m == 0) ≡ true = ap (λ (k : ℕ). k == 0) h in let g : true ≡ false = sym f ∙ sym p ∙ q in cc

pub empty_from : (m : ℕ) (b : Bool) → b ≡ (m == 0) → b ≡ true → m ≡ 0
empty_from m b p q = nat_eq-true m 0 (sym p ∙ q)
