-- The first tableau, row by row.
use Rattle.std.proofs.Common.{◌≡◌, ◌⊎◌, inl, inr, ℕ, ◌<◌, ◌≤◌, ◌+◌, ◌-◌, ◌++◌, Bool, true, false, cond, IsTrue, List, [], ◌∷◌, length, map, get_or, refl, sym, ap, subst, ◌∙◌, arith, length-append}
use Rattle.std.specs.List.{All}
use Rattle.std.proofs.lemmas.Bool.{cases_lt}
use Rattle.std.proofs.lemmas.List.{get_or_append_left, get_or_push, get_or_past, get_or-map}
use lib.IntN.{pos}
use Rattle.rational.specs.Fraction.{Fraction, whole, ◌*ℚ◌}
use Rattle.rational.specs.Linear.{value_at, coefficient_of}
use Rattle.lin.specs.Linear.{Linear, AreBelow}
use Rattle.tableau.specs.FiniteSums.{sum_below}
use Rattle.tableau.specs.Table.{Table, cells_of, width, cell, is_basic, terms_at, Solves, SolvesRows, IsTidy, IsFirstTableau}
use Rattle.tableau.specs.inside.Start.{IsDense, IsBegun, IsMarked}
use Rattle.tableau.proofs.SumLaws.{sum_same}
use Rattle.tableau.proofs.Dense.{below_more, coefficient-past, sum_of_terms}

pub begun_none : (n : ℕ) (rows : List Linear) → IsBegun 0 n rows 0 []
begun_none n rows = record { long = omega arith; blank = λ i h. absurd (omega arith); given = λ i h. absurd (omega arith) }

module _ (all : List (List Fraction)) (xs : List Fraction) where
  before : (i : ℕ) → i < length all → get_or (all ++ xs ∷ []) i [] ≡ get_or all i []
  before i h = get_or_append_left all (xs ∷ []) [] i h

  here : (i : ℕ) → length all ≡ i → get_or (all ++ xs ∷ []) i [] ≡ xs
  here i h = get_or_push all xs [] i h

  pub more_blank : (i n : ℕ) (rows : List Linear) → IsBegun i n rows 0 all → length xs ≡ 0 → IsBegun (i + 1) n rows 0 (all ++ xs ∷ [])
  more_blank i n rows b l = record {
    long = omega (arith, length-append all (xs ∷ []), b.long);
    blank = λ m h. by_place m (cases_lt m i) h;
    given = λ m h. absurd (omega arith);
  }
    where
      by_place : (m : ℕ) → (m < i) ⊎ (i ≤ m) → m < i + 1 → length (get_or (all ++ xs ∷ []) m []) ≡ 0
      by_place m (inl h) g = ap length (before m (omega (arith, b.long))) ∙ b.blank m h
      by_place m (inr h) g = ap length (here m (omega (arith, b.long))) ∙ l

  pub more_given : (vars n : ℕ) (rows : List Linear) (m : ℕ) → IsBegun vars n rows m all → IsDense n (terms_at rows m) xs → IsBegun vars n rows (m + 1) (all ++ xs ∷ [])
  more_given vars n rows m b l = record {
    long = omega (arith, length-append all (xs ∷ []), b.long);
    blank = λ i h. ap length (before i (omega (arith, b.long))) ∙ b.blank i h;
    given = λ i h. by_place i (cases_lt i m) h;
  }
    where
      by_place : (i : ℕ) → (i < m) ⊎ (m ≤ i) → i < m + 1 → IsDense n (terms_at rows i) (get_or (all ++ xs ∷ []) (vars + i) [])
      by_place i (inl h) g = subst (IsDense n (terms_at rows i)) (sym (before (vars + i) (omega (arith, b.long)))) (b.given i h)
      by_place i (inr h) g =
          let e : i ≡ m = omega arith in
          let P : ℕ → Type 0 = λ w. IsDense n (terms_at rows w) (get_or (all ++ xs ∷ []) (vars + w) []) in
          subst P (sym e) (subst (IsDense n (terms_at rows m)) (sym (here (vars + m) (omega (arith, b.long)))) l)

-- the terms of a row
pub terms_are : (rows : List Linear) (i : ℕ) (d : Linear) → i < length rows → terms_at rows i ≡ (get_or rows i d).terms
terms_are rows i d h = get_or-map (λ l. l.terms) rows i d [] h

terms_below : (n : ℕ) (rows : List Linear) → All (λ l. AreBelow n l.terms) rows → (i : ℕ) → i < length rows → AreBelow n (terms_at rows i)
terms_below n [] a i h = absurd (omega arith)
terms_below n (l ∷ ls) a i h = subst (AreBelow n) (sym (terms_are (l ∷ ls) i l h)) (a i l h)

module _ (vars n : ℕ) (rows : List Linear) (all : List (List Fraction)) (basic : List Bool) (t : Table) (is : t ≡ record { rows = all; basic = basic }) (n_is : n ≡ vars + length rows)
    (b : IsBegun vars n rows (length rows) all) (m : IsMarked vars n basic) (short : All (λ l. AreBelow vars l.terms) rows) where
  wide : width t ≡ n
  unfolding width
  wide = ap width is ∙ m.long

  cell_is : (i j : ℕ) → cell t i j ≡ cells_of all i j
  unfolding cell
  cell_is i j = ap (λ (u : Table). cell u i j) is

  basic_is : (i : ℕ) → is_basic t i ≡ get_or basic i false
  unfolding is_basic
  basic_is i = ap (λ (u : Table). is_basic u i) is

  contradiction : (i : ℕ) → i < n → i < vars → IsTrue (is_basic t i) → ⊥
  contradiction i h g e = let a : is_basic t i ≡ false = basic_is i ∙ m.before i h g in cc

  blank_row : (i j : ℕ) → i < vars → cell t i j ≡ whole (pos 0)
  blank_row i j h = cell_is i j ∙ get_or_past (get_or all i []) j (whole (pos 0)) (omega (arith, b.blank i h))

  -- the row behind the variables is the given one
  row_at : (i j : ℕ) → i < n → vars ≤ i → j < n → cell t i j ≡ coefficient_of j (terms_at rows (i - vars))
  row_at i j h g l =
      let e : vars + (i - vars) ≡ i = omega arith in
      cell_is i j ∙ ap (λ (w : ℕ). cells_of all w j) (sym e) ∙ (b.given (i - vars) (omega (arith, n_is))).cells j l

  pub first_tidy : IsTidy t
  first_tidy = record {
    basic_column = λ i j li lj e. column i j (omega (arith, wide)) (omega (arith, wide)) e (cases_lt j vars) (cases_lt i vars);
    other_row = λ i j li lj e. other i j (omega (arith, wide)) (omega (arith, wide)) e (cases_lt i vars);
  }
    where
      column : (i j : ℕ) → i < n → j < n → IsTrue (is_basic t j) → (j < vars) ⊎ (vars ≤ j) → (i < vars) ⊎ (vars ≤ i) → cell t i j ≡ whole (pos 0)
      column i j li lj e (inl h) o = absurd (contradiction j lj h e)
      column i j li lj e (inr h) (inl g) = blank_row i j g
      column i j li lj e (inr h) (inr g) = row_at i j li g lj ∙ coefficient-past vars (terms_at rows (i - vars)) (terms_below vars rows short (i - vars) (omega (arith, n_is))) j h

      other : (i j : ℕ) → i < n → j < n → is_basic t i ≡ false → (i < vars) ⊎ (vars ≤ i) → cell t i j ≡ whole (pos 0)
      other i j li lj e (inl h) = blank_row i j h
      other i j li lj e (inr h) = absurd (let a : is_basic t i ≡ true = basic_is i ∙ m.behind i li h in let no_way : ⊥ = cc in no_way)

  row_sum : (point : ℕ → Fraction) (i : ℕ) → i < n → vars ≤ i → sum_below (width t) (λ j. cell t i j *ℚ point j) ≡ value_at point (terms_at rows (i - vars))
  row_sum point i h g =
      ap (λ (w : ℕ). sum_below w (λ j. cell t i j *ℚ point j)) wide
      ∙ sum_same n (λ j. cell t i j *ℚ point j) (λ j. coefficient_of j (terms_at rows (i - vars)) *ℚ point j) (λ j l. ap (λ (w : Fraction). w *ℚ point j) (row_at i j h g l))
      ∙ sum_of_terms n (terms_at rows (i - vars)) point (below_more vars n (omega (arith, n_is)) (terms_at rows (i - vars)) (terms_below vars rows short (i - vars) (omega (arith, n_is))))

  pub first_tableau : IsFirstTableau vars rows t
  first_tableau = record {
    tableau = record { tidy = first_tidy; covers = wide ∙ n_is; same = λ point. (forth point, back point) };
    basis = λ i h. ((λ y. behind i (omega (arith, wide)) y (cases_lt i vars)), (λ g. basic_is i ∙ m.behind i (omega (arith, wide)) g));
  }
    where
      behind : (i : ℕ) → i < n → IsTrue (is_basic t i) → (i < vars) ⊎ (vars ≤ i) → vars ≤ i
      behind i h y (inl g) = absurd (contradiction i h g y)
      behind i h y (inr g) = g

      forth : (point : ℕ → Fraction) → Solves t point → SolvesRows vars rows point
      forth point s i h =
          let e : (vars + i) - vars ≡ i = omega arith in
          let y : is_basic t (vars + i) ≡ true = basic_is (vars + i) ∙ m.behind (vars + i) (omega (arith, n_is)) (omega arith) in
          s (vars + i) (omega (arith, wide, n_is)) y ∙ row_sum point (vars + i) (omega (arith, n_is)) (omega arith) ∙ ap (λ (w : ℕ). value_at point (terms_at rows w)) e

      back : (point : ℕ → Fraction) → SolvesRows vars rows point → Solves t point
      back point s i h y = by_place (cases_lt i vars)
        where
          by_place : (i < vars) ⊎ (vars ≤ i) → point i ≡ sum_below (width t) (λ j. cell t i j *ℚ point j)
          by_place (inl g) = absurd (contradiction i (omega (arith, wide)) g y)
          by_place (inr g) =
              let e : vars + (i - vars) ≡ i = omega arith in
              ap point (sym e) ∙ s (i - vars) (omega (arith, wide, n_is)) ∙ sym (row_sum point i (omega (arith, wide)) g)

-- how long a row is
pub first_shape : (vars n : ℕ) (rows : List Linear) (all : List (List Fraction)) (basic : List Bool) → n ≡ vars + length rows → IsBegun vars n rows (length rows) all → IsMarked vars n basic
    → (i : ℕ) → i < length all → length (get_or all i []) ≡ cond (get_or basic i false) (length basic) 0
first_shape vars n rows all basic e b m i h = by_place (cases_lt i vars)
  where
    by_place : (i < vars) ⊎ (vars ≤ i) → length (get_or all i []) ≡ cond (get_or basic i false) (length basic) 0
    by_place (inl g) = b.blank i g ∙ sym (ap (λ (c : Bool). cond c (length basic) 0) (m.before i (omega (arith, b.long)) g))
    by_place (inr g) =
        let s : vars + (i - vars) ≡ i = omega arith in
        ap (λ (w : ℕ). length (get_or all w [])) (sym s) ∙ (b.given (i - vars) (omega (arith, b.long))).long ∙ sym m.long
        ∙ sym (ap (λ (c : Bool). cond c (length basic) 0) (m.behind i (omega (arith, b.long)) g))

pub map-push : {X Y : Type 0} (f : X → Y) (xs : List X) (x : X) → map f (xs ++ x ∷ []) ≡ map f xs ++ f x ∷ []
map-push f [] x = refl
map-push f (y ∷ ys) x = ap (λ zs. f y ∷ zs) (map-push f ys x)
