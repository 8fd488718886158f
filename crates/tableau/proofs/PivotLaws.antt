-- A pivot keeps the solutions: the row of r solved for e, and the solved row put into each other.
use Rattle.std.proofs.Common.{◌≡◌, ◌≢◌, ◌↔◌, ◌⊎◌, inl, inr, ℕ, ◌<◌, Bool, true, false, IsTrue, cond, [], ◌∷◌, refl, sym, ap, subst, ◌∙◌, nat_eq}
use lib.Dec.{T}
use lib.IntN.{pos}
use Rattle.algebra.proofs.Solve.{v, k, ◌⊕◌, ◌⊖◌, ◌⊗◌, inv, solve, solve_from, eq, done}
use Rattle.rational.specs.Fraction.{Fraction, whole, ◌+ℚ◌, ◌*ℚ◌, ◌-ℚ◌, ◌/ℚ◌, neg_ℚ, inv_ℚ}
use Rattle.rational.proofs.FieldLaws.{fraction-ring}
use Rattle.rational.proofs.Division.{mul-inv, pivot}
use Rattle.tableau.specs.FiniteSums.{sum_below, without, only}
use Rattle.tableau.specs.Table.{Table, width, cell, is_basic, row_value, Solves, IsTidy}
use Rattle.tableau.specs.Pivot.{solved, replaced, pivoted, IsPivoted}
use Rattle.tableau.proofs.SumLaws.{nat_eq-same, nat_eq-true, nat_eq-apart, nat_eq-false, sum_same, sum_add, sum_multiple, only-same, only-other, without-same, without-other, sum_only, sum_split}

-- ---- the solved row
pub solved-at_e : (row : ℕ → Fraction) (r e : ℕ) → solved row r e e ≡ whole (pos 0)
solved-at_e row r e = rw (nat_eq-same e)

pub solved-at_r : (row : ℕ → Fraction) (r e : ℕ) → r ≢ e → solved row r e r ≡ whole (pos 1) /ℚ row e
solved-at_r row r e d = rw (nat_eq-apart r e d, nat_eq-same r)

pub solved-else : (row : ℕ → Fraction) (r e j : ℕ) → j ≢ e → j ≢ r → solved row r e j ≡ neg_ℚ (row j /ℚ row e)
solved-else row r e j d d' = rw (nat_eq-apart j e d, nat_eq-apart j r d')

module _ (row point : ℕ → Fraction) (n r e : ℕ) where
  -- what is left of the row beside e
  abbrev pub rest : Fraction
  rest = sum_below n (without e (λ j. row j *ℚ point j))

  solved_part : r ≢ e → row r ≡ whole (pos 0) → (j : ℕ) → solved row r e j *ℚ point j ≡ only r (inv_ℚ (row e) *ℚ point r) j +ℚ neg_ℚ (inv_ℚ (row e)) *ℚ without e (λ j. row j *ℚ point j) j
  solved_part d z j = by_test (nat_eq j e) (nat_eq j r) refl refl
    where
      by_test : (b c : Bool) → nat_eq j e ≡ b → nat_eq j r ≡ c → solved row r e j *ℚ point j ≡ only r (inv_ℚ (row e) *ℚ point r) j +ℚ neg_ℚ (inv_ℚ (row e)) *ℚ without e (λ j. row j *ℚ point j) j
      by_test true c p q =
          let s : j ≡ e = nat_eq-true j e p in
          let dr : j ≢ r = λ h. d (sym h ∙ s) in
          let w : without e (λ j. row j *ℚ point j) j ≡ whole (pos 0) = ap (without e (λ j. row j *ℚ point j)) s ∙ without-same e (λ j. row j *ℚ point j) in
          let u : solved row r e j ≡ whole (pos 0) = ap (solved row r e) s ∙ solved-at_e row r e in
          solve_from fraction-ring (v 0 ⊗ v 1) (v 2 ⊕ inv (v 3) ⊗ v 4) (solved row r e j ∷ point j ∷ only r (inv_ℚ (row e) *ℚ point r) j ∷ inv_ℚ (row e) ∷ without e (λ j. row j *ℚ point j) j ∷ [])
          (eq (v 1) (v 0) (k (pos 0)) u (eq (inv (k (pos 1))) (v 2) (k (pos 0)) (only-other r _ j dr) (eq (v 3) (v 4) (k (pos 0)) w done))) refl
      by_test false true p q =
          let s : j ≡ r = nat_eq-true j r q in
          let u : solved row r e j ≡ whole (pos 1) *ℚ inv_ℚ (row e) = ap (solved row r e) s ∙ solved-at_r row r e d in
          let w : without e (λ j. row j *ℚ point j) j ≡ row j *ℚ point j = without-other e (λ j. row j *ℚ point j) j (nat_eq-false j e p) in
          let o : only r (inv_ℚ (row e) *ℚ point r) j ≡ inv_ℚ (row e) *ℚ point r = ap (only r (inv_ℚ (row e) *ℚ point r)) s ∙ only-same r _ in
          let zj : row j ≡ whole (pos 0) = ap row s ∙ z in
          solve_from fraction-ring (v 0 ⊗ v 1) (v 2 ⊕ inv (v 3) ⊗ v 4) (solved row r e j ∷ point j ∷ only r (inv_ℚ (row e) *ℚ point r) j ∷ inv_ℚ (row e) ∷ without e (λ j. row j *ℚ point j) j ∷ row j ∷ point r ∷ [])
          (eq (v 1) (v 0) (k (pos 1) ⊗ v 3) u (eq (inv (k (pos 1))) (v 2) (v 3 ⊗ v 6) o (eq (v 3) (v 4) (v 5 ⊗ v 1) w (eq (v 3 ⊗ v 1) (v 5) (k (pos 0)) zj (eq (v 3) (v 1) (v 6) (ap point s) done))))) refl
      by_test false false p q =
          let dj : j ≢ r = nat_eq-false j r q in
          let u : solved row r e j ≡ neg_ℚ (row j *ℚ inv_ℚ (row e)) = solved-else row r e j (nat_eq-false j e p) dj in
          let w : without e (λ j. row j *ℚ point j) j ≡ row j *ℚ point j = without-other e (λ j. row j *ℚ point j) j (nat_eq-false j e p) in
          solve_from fraction-ring (v 0 ⊗ v 1) (v 2 ⊕ inv (v 3) ⊗ v 4) (solved row r e j ∷ point j ∷ only r (inv_ℚ (row e) *ℚ point r) j ∷ inv_ℚ (row e) ∷ without e (λ j. row j *ℚ point j) j ∷ row j ∷ [])
          (eq (v 1) (v 0) (inv (v 5 ⊗ v 3)) u (eq (inv (k (pos 1))) (v 2) (k (pos 0)) (only-other r _ j dj) (eq (v 3) (v 4) (v 5 ⊗ v 1) w done))) refl

  -- the value of the solved row
  pub solved_sum : r < n → r ≢ e → row r ≡ whole (pos 0) → sum_below n (λ j. solved row r e j *ℚ point j) ≡ inv_ℚ (row e) *ℚ point r -ℚ inv_ℚ (row e) *ℚ rest
  solved_sum h d z =
      let x = inv_ℚ (row e) *ℚ point r in
      let f = without e (λ j. row j *ℚ point j) in
      sum_same n _ _ (λ j l. solved_part d z j) ∙ sum_add n (only r x) (λ j. neg_ℚ (inv_ℚ (row e)) *ℚ f j)
      ∙ ap (λ w. w +ℚ sum_below n (λ j. neg_ℚ (inv_ℚ (row e)) *ℚ f j)) (sum_only n r x h) ∙ ap (λ w. x +ℚ w) (sum_multiple n (neg_ℚ (inv_ℚ (row e))) f)
      ∙ solve fraction-ring (v 0 ⊕ inv (v 1) ⊗ v 2) (v 0 ⊖ v 1 ⊗ v 2) (x ∷ inv_ℚ (row e) ∷ rest ∷ []) refl

-- the value of another row with a row put in for e that has no e
pub replaced_sum : (row put point : ℕ → Fraction) (n e : ℕ) → put e ≡ whole (pos 0)
    → sum_below n (λ j. replaced row put e j *ℚ point j) ≡ sum_below n (without e (λ j. row j *ℚ point j)) +ℚ row e *ℚ sum_below n (λ j. put j *ℚ point j)
replaced_sum row put point n e z =
    let f = without e (λ j. row j *ℚ point j) in
    sum_same n _ (λ j. f j +ℚ row e *ℚ (put j *ℚ point j)) (λ j l. by_test j (nat_eq j e) refl) ∙ sum_add n f (λ j. row e *ℚ (put j *ℚ point j))
    ∙ ap (λ w. sum_below n f +ℚ w) (sum_multiple n (row e) (λ j. put j *ℚ point j))
  where
    by_test : (j : ℕ) (b : Bool) → nat_eq j e ≡ b → replaced row put e j *ℚ point j ≡ without e (λ j. row j *ℚ point j) j +ℚ row e *ℚ (put j *ℚ point j)
    by_test j true p =
        let s : j ≡ e = nat_eq-true j e p in
        ap (λ (b : Bool). cond b (whole (pos 0)) (row j +ℚ row e *ℚ put j) *ℚ point j) p
        ∙ solve_from fraction-ring (k (pos 0) ⊗ v 0) (v 1 ⊕ v 2 ⊗ (v 3 ⊗ v 0)) (point j ∷ without e (λ j. row j *ℚ point j) j ∷ row e ∷ put j ∷ [])
        (eq (inv (k (pos 1))) (v 1) (k (pos 0)) (ap (without e (λ j. row j *ℚ point j)) s ∙ without-same e (λ j. row j *ℚ point j)) (eq (inv (v 2 ⊗ v 0)) (v 3) (k (pos 0)) (ap put s ∙ z) done)) refl
    by_test j false p =
        let w : without e (λ j. row j *ℚ point j) j ≡ row j *ℚ point j = without-other e (λ j. row j *ℚ point j) j (nat_eq-false j e p) in
        ap (λ (b : Bool). cond b (whole (pos 0)) (row j +ℚ row e *ℚ put j) *ℚ point j) p
        ∙ solve_from fraction-ring ((v 0 ⊕ v 1 ⊗ v 2) ⊗ v 3) (v 4 ⊕ v 1 ⊗ (v 2 ⊗ v 3)) (row j ∷ row e ∷ put j ∷ point j ∷ without e (λ j. row j *ℚ point j) j ∷ [])
        (eq (inv (k (pos 1))) (v 4) (v 0 ⊗ v 3) w done) refl

-- ---- the tableau
module _ (t : Table) (r e : ℕ) (after : Table) (p : IsPivoted t r e after) (tidy : IsTidy t) where
  pivoted-e : (c : ℕ → ℕ → Fraction) (j : ℕ) → pivoted c r e e j ≡ solved (c r) r e j
  pivoted-e c j = rw (nat_eq-same e)

  pivoted-r : (c : ℕ → ℕ → Fraction) (j : ℕ) → r ≢ e → pivoted c r e r j ≡ whole (pos 0)
  pivoted-r c j d = rw (nat_eq-apart r e d, nat_eq-same r)

  pivoted-else : (c : ℕ → ℕ → Fraction) (i j : ℕ) → i ≢ e → i ≢ r → pivoted c r e i j ≡ replaced (c i) (solved (c r) r e) e j
  pivoted-else c i j d d' = rw (nat_eq-apart i e d, nat_eq-apart i r d')

  module _ (r_in : r < width t) (e_in : e < width t) (r_basic : IsTrue (is_basic t r)) (e_not : is_basic t e ≡ false) (n : cell t r e ≢ whole (pos 0)) where
    apart : r ≢ e
    apart h = absurd (subst T ((sym r_basic ∙ ap (is_basic t) h ∙ e_not)) tt)

    own_zero : cell t r r ≡ whole (pos 0)
    own_zero = tidy.basic_column r r r_in r_in r_basic

    -- the rows after the pivot, at a point
    row-e : (point : ℕ → Fraction) → row_value after e point ≡ inv_ℚ (cell t r e) *ℚ point r -ℚ inv_ℚ (cell t r e) *ℚ rest (cell t r) point (width t) r e
    row-e point =
        ap (λ (m : ℕ). sum_below m (λ j. cell after e j *ℚ point j)) p.same_width
        ∙ sum_same (width t) _ (λ j. solved (cell t r) r e j *ℚ point j) (λ j l. ap (λ (w : Fraction). w *ℚ point j) (p.cells e j e_in l ∙ pivoted-e (cell t) j))
        ∙ solved_sum (cell t r) point (width t) r e r_in apart own_zero

    row-else : (point : ℕ → Fraction) (i : ℕ) → i < width t → i ≢ e → i ≢ r
        → row_value after i point ≡ rest (cell t i) point (width t) r e +ℚ cell t i e *ℚ row_value after e point
    row-else point i l d d' =
        ap (λ (m : ℕ). sum_below m (λ j. cell after i j *ℚ point j)) p.same_width
        ∙ sum_same (width t) _ (λ j. replaced (cell t i) (solved (cell t r) r e) e j *ℚ point j) (λ j m. ap (λ (w : Fraction). w *ℚ point j) (p.cells i j l m ∙ pivoted-else (cell t) i j d d'))
        ∙ replaced_sum (cell t i) (solved (cell t r) r e) point (width t) e (solved-at_e (cell t r) r e)
        ∙ ap (λ w. rest (cell t i) point (width t) r e +ℚ cell t i e *ℚ w) (sym (
        ap (λ (m : ℕ). sum_below m (λ j. cell after e j *ℚ point j)) p.same_width
        ∙ sum_same (width t) _ (λ j. solved (cell t r) r e j *ℚ point j) (λ j m. ap (λ (w : Fraction). w *ℚ point j) (p.cells e j e_in m ∙ pivoted-e (cell t) j))))

    -- a row before the pivot, at a point
    row-before : (point : ℕ → Fraction) (i : ℕ) → row_value t i point ≡ cell t i e *ℚ point e +ℚ rest (cell t i) point (width t) r e
    row-before point i = sum_split (width t) e (λ j. cell t i j *ℚ point j) e_in

    -- the row of r and the row of e say the same
    to_e : (point : ℕ → Fraction) → point r ≡ row_value t r point → point e ≡ row_value after e point
    to_e point h = pivot (point r) (cell t r e) (point e) (rest (cell t r) point (width t) r e) n (h ∙ row-before point r) ∙ sym (row-e point)

    to_r : (point : ℕ → Fraction) → point e ≡ row_value after e point → point r ≡ row_value t r point
    to_r point h =
        solve_from fraction-ring (v 0) (v 1 ⊗ v 2 ⊕ v 3) (point r ∷ cell t r e ∷ point e ∷ rest (cell t r) point (width t) r e ∷ inv_ℚ (cell t r e) ∷ [])
        (eq (inv (v 1)) (v 2) (v 4 ⊗ v 0 ⊖ v 4 ⊗ v 3) (h ∙ row-e point) (eq (v 3 ⊖ v 0) (v 1 ⊗ v 4) (k (pos 1)) (mul-inv (cell t r e) n) done)) refl
        ∙ sym (row-before point r)

    forth : (point : ℕ → Fraction) → Solves t point → Solves after point
    forth point h i l b = by_test (nat_eq i e) (nat_eq i r) refl refl
      where
        by_test : (x y : Bool) → nat_eq i e ≡ x → nat_eq i r ≡ y → point i ≡ row_value after i point
        by_test true y q q' = let s : i ≡ e = nat_eq-true i e q in subst (λ (m : ℕ). point m ≡ row_value after m point) (sym s) (to_e point (h r r_in r_basic))
        by_test false true q q' = absurd (subst T ((sym b ∙ ap (is_basic after) (nat_eq-true i r q') ∙ p.leaves)) tt)
        by_test false false q q' =
            let d = nat_eq-false i e q in
            let d' = nat_eq-false i r q' in
            let l' : i < width t = subst (λ (m : ℕ). i < m) p.same_width l in
            let b' : IsTrue (is_basic t i) = sym (p.stays i d' d) ∙ b in
            h i l' b' ∙ row-before point i
            ∙ ap (λ w. cell t i e *ℚ w +ℚ rest (cell t i) point (width t) r e) (to_e point (h r r_in r_basic))
            ∙ solve fraction-ring (v 0 ⊕ v 1) (v 1 ⊕ v 0) ((cell t i e *ℚ row_value after e point) ∷ rest (cell t i) point (width t) r e ∷ []) refl
            ∙ sym (row-else point i l' d d')

    back : (point : ℕ → Fraction) → Solves after point → Solves t point
    back point h i l b = by_test (nat_eq i e) (nat_eq i r) refl refl
      where
        e_eq : point e ≡ row_value after e point
        e_eq = h e (subst (λ (m : ℕ). e < m) (sym p.same_width) e_in) p.enters

        by_test : (x y : Bool) → nat_eq i e ≡ x → nat_eq i r ≡ y → point i ≡ row_value t i point
        by_test true y q q' = absurd (subst T ((sym b ∙ ap (is_basic t) (nat_eq-true i e q) ∙ e_not)) tt)
        by_test false true q q' = let s : i ≡ r = nat_eq-true i r q' in subst (λ (m : ℕ). point m ≡ row_value t m point) (sym s) (to_r point e_eq)
        by_test false false q q' =
            let d = nat_eq-false i e q in
            let d' = nat_eq-false i r q' in
            h i (subst (λ (m : ℕ). i < m) (sym p.same_width) l) (p.stays i d' d ∙ b) ∙ row-else point i l d d'
            ∙ ap (λ w. rest (cell t i) point (width t) r e +ℚ cell t i e *ℚ w) (sym e_eq)
            ∙ solve fraction-ring (v 0 ⊕ v 1) (v 1 ⊕ v 0) (rest (cell t i) point (width t) r e ∷ (cell t i e *ℚ point e) ∷ []) refl
            ∙ sym (row-before point i)

    -- a pivot keeps the solutions
    pub same_solutions : (point : ℕ → Fraction) → Solves t point ↔ Solves after point
    same_solutions point = (forth point, back point)

    -- and the tableau tidy
    pub still_tidy : IsTidy after
    still_tidy = record {
      basic_column = λ i j li lj b. column i j (subst (λ (m : ℕ). i < m) p.same_width li) (subst (λ (m : ℕ). j < m) p.same_width lj) b (nat_eq i e) (nat_eq i r) (nat_eq j e) (nat_eq j r) refl refl refl refl;
      other_row = λ i j li lj b. other i j (subst (λ (m : ℕ). i < m) p.same_width li) (subst (λ (m : ℕ). j < m) p.same_width lj) b (nat_eq i e) (nat_eq i r) refl refl;
    }
      where
        zero_solved : (j : ℕ) → cell t r j ≡ whole (pos 0) → j ≢ r → (y : Bool) → nat_eq j e ≡ y → solved (cell t r) r e j ≡ whole (pos 0)
        zero_solved j z d true q = ap (solved (cell t r) r e) (nat_eq-true j e q) ∙ solved-at_e (cell t r) r e
        zero_solved j z d false q =
            solved-else (cell t r) r e j (nat_eq-false j e q) d
            ∙ solve_from fraction-ring (inv (v 0 ⊗ v 1)) (k (pos 0)) (cell t r j ∷ inv_ℚ (cell t r e) ∷ []) (eq (inv (v 1)) (v 0) (k (pos 0)) z done) refl

        zero_replaced : (i j : ℕ) → cell t i j ≡ whole (pos 0) → (cell t i e ≡ whole (pos 0)) ⊎ (solved (cell t r) r e j ≡ whole (pos 0)) → (y : Bool) → nat_eq j e ≡ y → replaced (cell t i) (solved (cell t r) r e) e j ≡ whole (pos 0)
        zero_replaced i j z h true q = ap (λ (b : Bool). cond b (whole (pos 0)) (cell t i j +ℚ cell t i e *ℚ solved (cell t r) r e j)) q
        zero_replaced i j z (inl h) false q =
            ap (λ (b : Bool). cond b (whole (pos 0)) (cell t i j +ℚ cell t i e *ℚ solved (cell t r) r e j)) q
            ∙ solve_from fraction-ring (v 0 ⊕ v 1 ⊗ v 2) (k (pos 0)) (cell t i j ∷ cell t i e ∷ solved (cell t r) r e j ∷ []) (eq (k (pos 1)) (v 0) (k (pos 0)) z (eq (v 2) (v 1) (k (pos 0)) h done)) refl
        zero_replaced i j z (inr h) false q =
            ap (λ (b : Bool). cond b (whole (pos 0)) (cell t i j +ℚ cell t i e *ℚ solved (cell t r) r e j)) q
            ∙ solve_from fraction-ring (v 0 ⊕ v 1 ⊗ v 2) (k (pos 0)) (cell t i j ∷ cell t i e ∷ solved (cell t r) r e j ∷ []) (eq (k (pos 1)) (v 0) (k (pos 0)) z (eq (v 1) (v 2) (k (pos 0)) h done)) refl

        at_e_replaced : (i : ℕ) → replaced (cell t i) (solved (cell t r) r e) e e ≡ whole (pos 0)
        at_e_replaced i = ap (λ (b : Bool). cond b (whole (pos 0)) (cell t i e +ℚ cell t i e *ℚ solved (cell t r) r e e)) (nat_eq-same e)

        column : (i j : ℕ) → i < width t → j < width t → IsTrue (is_basic after j) → (x y u w : Bool) → nat_eq i e ≡ x → nat_eq i r ≡ y → nat_eq j e ≡ u → nat_eq j r ≡ w → cell after i j ≡ whole (pos 0)
        column i j li lj b x y u true q q' s s' = absurd (subst T ((sym b ∙ ap (is_basic after) (nat_eq-true j r s') ∙ p.leaves)) tt)
        column i j li lj b true y true false q q' s s' =
            p.cells i j li lj ∙ ap (λ (m : ℕ). pivoted (cell t) r e m j) (nat_eq-true i e q) ∙ pivoted-e (cell t) j ∙ ap (solved (cell t r) r e) (nat_eq-true j e s) ∙ solved-at_e (cell t r) r e
        column i j li lj b true y false false q q' s s' =
            p.cells i j li lj ∙ ap (λ (m : ℕ). pivoted (cell t) r e m j) (nat_eq-true i e q) ∙ pivoted-e (cell t) j
            ∙ zero_solved j (tidy.basic_column r j r_in lj (sym (p.stays j (nat_eq-false j r s') (nat_eq-false j e s)) ∙ b)) (nat_eq-false j r s') (nat_eq j e) refl
        column i j li lj b false true u false q q' s s' = p.cells i j li lj ∙ ap (λ (m : ℕ). pivoted (cell t) r e m j) (nat_eq-true i r q') ∙ pivoted-r (cell t) j apart
        column i j li lj b false false true false q q' s s' =
            p.cells i j li lj ∙ pivoted-else (cell t) i j (nat_eq-false i e q) (nat_eq-false i r q') ∙ ap (replaced (cell t i) (solved (cell t r) r e) e) (nat_eq-true j e s) ∙ at_e_replaced i
        column i j li lj b false false false false q q' s s' =
            let bj : IsTrue (is_basic t j) = sym (p.stays j (nat_eq-false j r s') (nat_eq-false j e s)) ∙ b in
            p.cells i j li lj ∙ pivoted-else (cell t) i j (nat_eq-false i e q) (nat_eq-false i r q')
            ∙ zero_replaced i j (tidy.basic_column i j li lj bj) (inr (zero_solved j (tidy.basic_column r j r_in lj bj) (nat_eq-false j r s') (nat_eq j e) refl)) (nat_eq j e) refl

        other : (i j : ℕ) → i < width t → j < width t → is_basic after i ≡ false → (x y : Bool) → nat_eq i e ≡ x → nat_eq i r ≡ y → cell after i j ≡ whole (pos 0)
        other i j li lj b true y q q' = absurd (subst T ((sym p.enters ∙ sym (ap (is_basic after) (nat_eq-true i e q)) ∙ b)) tt)
        other i j li lj b false true q q' = p.cells i j li lj ∙ ap (λ (m : ℕ). pivoted (cell t) r e m j) (nat_eq-true i r q') ∙ pivoted-r (cell t) j apart
        other i j li lj b false false q q' =
            let bi : is_basic t i ≡ false = sym (p.stays i (nat_eq-false i r q') (nat_eq-false i e q)) ∙ b in
            p.cells i j li lj ∙ pivoted-else (cell t) i j (nat_eq-false i e q) (nat_eq-false i r q')
            ∙ zero_replaced i j (tidy.other_row i j li lj bi) (inl (tidy.other_row i e li e_in bi)) (nat_eq j e) refl
