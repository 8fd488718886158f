-- The rows that are written one after another.
use Rattle.std.proofs.Common.{◌≡◌, ◌≢◌, ◌⊎◌, inl, inr, ℕ, ◌<◌, ◌+◌, Result, Ok, Err, List, [], length, map, set, get_or, sym, ap, subst, ◌∙◌, arith}
use Rattle.std.proofs.lemmas.List.{get_or-map, get_or_default, get_or-set_same, get_or-set_other, length-set}
use Rattle.std.proofs.lemmas.Bool.{cases_eq}
use Rattle.rational.specs.Fraction.{Fraction}
use Rattle.frac128.specs.declared.operations.Wide.{Wide}
use Rattle.tableau.specs.Table.{at, cells_of}
use Rattle.tableau.specs.Pivot.{replaced}
use Rattle.tableau.specs.inside.Rows.{RowFits, RowAnswers, RowsAnswer}

module _ {V : Type 0} (items : V → List Fraction) where
  abbrev pub cells : List V → ℕ → ℕ → Fraction
  cells vs = cells_of (map items vs)

  abbrev row_of : V → ℕ → Fraction
  row_of w j = at (items w) j

  pub cells-at : (vs : List V) (i : ℕ) (d : V) → i < length vs → cells vs i ≡ at (items (get_or vs i d))
  cells-at vs i d h = let f : List Fraction → ℕ → Fraction = λ xs j. at xs j in ap f (get_or-map items vs i d [] h)

  pub cells-set_same : (vs : List V) (i : ℕ) (x : V) → i < length vs → cells (set vs i x) i ≡ at (items x)
  cells-set_same vs i x h = cells-at (set vs i x) i x (omega (arith, length-set vs i x)) ∙ ap row_of (get_or-set_same vs i x x h)

  pub cells-set_other : (vs : List V) (i k : ℕ) (x : V) → k < length vs → k ≢ i → cells (set vs i x) k ≡ cells vs k
  cells-set_other vs i k x h d =
      cells-at (set vs i x) k x (omega (arith, length-set vs i x)) ∙ ap row_of (get_or-set_other vs i k x x d) ∙ sym (cells-at vs k x h)

-- the first i rows are written, each as long as before
pub record IsFilled {V : Type 0} (items : V → List Fraction) (rows : List V) (put : ℕ → Fraction) (n r e : ℕ) (into : List V) (i : ℕ) : Type 0 where
  pub long : length into ≡ length rows
  pub shape : (k : ℕ) (d : V) → k < length rows → length (items (get_or into k d)) ≡ length (items (get_or rows k d))
  pub fits : (k : ℕ) → k < i → k ≢ r → RowFits (cells items rows k) put n e
  pub cells_are : (k j : ℕ) → k < i → k ≢ r → j < n → cells items into k j ≡ replaced (cells items rows k) put e j

module _ {V : Type 0} (items : V → List Fraction) (rows into : List V) (put : ℕ → Fraction) (n r e i : ℕ) (row x : V) (i_in : i < length rows) (is : row ≡ get_or rows i row) where
  same_row : at (items row) ≡ cells items rows i
  same_row = let f : V → ℕ → Fraction = λ w j. at (items w) j in ap f is ∙ sym (cells-at items rows i row i_in)

  passed : (from to : List Fraction) → from ≡ items row → items x ≡ to → (b : Result (Unit {0}) Wide) → RowAnswers (at from) put n r e i (at to) b → RowAnswers (cells items rows i) put n r e i (at (items x)) b
  passed from to p q b h =
      subst (λ (f : ℕ → Fraction). RowAnswers f put n r e i (at (items x)) b) same_row
      (subst (λ (xs : List Fraction). RowAnswers (at xs) put n r e i (at (items x)) b) p
      (subst (λ (ys : List Fraction). RowAnswers (at from) put n r e i (at ys) b) (sym q) h))

  pub filled_more : (from to : List Fraction) → from ≡ items row → items x ≡ to → length to ≡ length from → IsFilled items rows put n r e into i → (u : Unit {0}) → RowAnswers (at from) put n r e i (at to) (Ok u) → IsFilled items rows put n r e (set into i x) (i + 1)
  filled_more from to p q lt h u a = record {
    long = length-set into i x ∙ h.long;
    shape = λ k d l. shape_at k d l (cases_eq k i);
    fits = λ k l d. fits_at k l d (cases_eq k i);
    cells_are = λ k j l d m. cell_at k j l d m (cases_eq k i);
  }
    where
      shape_at : (k : ℕ) (d : V) → k < length rows → (k ≡ i) ⊎ (k ≡ i → ⊥) → length (items (get_or (set into i x) k d)) ≡ length (items (get_or rows k d))
      shape_at k d l (inl s) =
          let P : ℕ → Type 0 = λ m. length (items (get_or (set into i x) m d)) ≡ length (items (get_or rows m d)) in
          let g : V → ℕ = λ w. length (items w) in
          subst P (sym s) (ap g (get_or-set_same into i x d (omega (arith, h.long))) ∙ ap length q ∙ lt ∙ ap length p ∙ ap g (is ∙ get_or_default rows i row d i_in))
      shape_at k d l (inr s) = let g : V → ℕ = λ w. length (items w) in ap g (get_or-set_other into i k x d s) ∙ h.shape k d l

      fits_at : (k : ℕ) → k < i + 1 → k ≢ r → (k ≡ i) ⊎ (k ≡ i → ⊥) → RowFits (cells items rows k) put n e
      fits_at k l d (inl s) = let P : ℕ → Type 0 = λ m. m ≢ r → RowFits (cells items rows m) put n e in subst P (sym s) (λ f. (passed from to p q (Ok u) a f).0) d
      fits_at k l d (inr s) = h.fits k (omega arith) d

      cell_at : (k j : ℕ) → k < i + 1 → k ≢ r → j < n → (k ≡ i) ⊎ (k ≡ i → ⊥) → cells items (set into i x) k j ≡ replaced (cells items rows k) put e j
      cell_at k j l d m (inl s) =
          let P : ℕ → Type 0 = λ w. w ≢ r → cells items (set into i x) w j ≡ replaced (cells items rows w) put e j in
          subst P (sym s) (λ f. ap (λ (g : ℕ → Fraction). g j) (cells-set_same items into i x (omega (arith, h.long))) ∙ (passed from to p q (Ok u) a f).1 j m) d
      cell_at k j l d m (inr s) = ap (λ (f : ℕ → Fraction). f j) (cells-set_other items into i k x (omega (arith, h.long)) s) ∙ h.cells_are k j (omega arith) d m

  pub filled_wide : (from to : List Fraction) → from ≡ items row → items x ≡ to → (m : ℕ) → i < m → (into' : ℕ → ℕ → Fraction) (w : Wide) → RowAnswers (at from) put n r e i (at to) (Err w) → (m ≡ n) → RowsAnswer (cells items rows) put m r e into' (Err w)
  filled_wide from to p q m l into' w a s =
      let b = passed from to p q (Err w) a in
      let P : ℕ → Type 0 = λ k. RowsAnswer (cells items rows) put k r e into' (Err w) in subst P (sym s) (i, omega arith, b.0, b.1)
