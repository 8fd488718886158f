-- What the steps of a pivot say of a tableau's fields.
use Rattle.std.proofs.Common.{Vec, Global, Bool, true, false, ◌≡◌, ◌≢◌, ℕ, ◌<◌, Result, List, length, get_or, sym, ap, subst, ◌∙◌, arith, IsTrue}
use Rattle.rational.specs.Fraction.{Fraction}
use Rattle.frac128.specs.declared.fraction.Frac.{Frac}
use Rattle.frac128.specs.declared.operations.Wide.{Wide}
use Rattle.tableau.specs.Table.{Table, at, width, cell, is_basic, numbers_below}
use Rattle.tableau.specs.Fields.{table_of, row_length, IsShaped}
use Rattle.tableau.specs.inside.Basis.{flag, numbers_of}
use Rattle.tableau.specs.inside.Rows.{SolveAnswers, RowsAnswer}
use Rattle.tableau.specs.declared.tableau.Tableau.TheInside.{Inside}
use Rattle.tableau.proofs.FilledRows.{cells}
use Rattle.tableau.proofs.TableFacts.{items, row_is, row_long}
use Rattle.tableau.proofs.Listing.{still_as_long}
use Rattle.tableau.proofs.Exchanging.{flags, length-flags, flag-e, flag-r, flag-other}

-- what solving a row answers, said of the tableau
pub solve_at : (a : Inside) (sh : IsShaped a) (t : Table) (is : table_of a ≡ t) (r e : ℕ) (lr : r < width t) (br : IsTrue (is_basic t r)) (row : Vec Frac Global) (at_r : row ≡ get_or a.rows.items r row)
    (d n p : List Fraction) → d ≡ row.items → p ≡ n → (b : Result (Unit {0}) Wide) → SolveAnswers (at d) (length d) r e (at n) b → SolveAnswers (cell t r) (width t) r e (at p) b
solve_at a sh t is r e lr br row at_r d n p q s b h =
    let f : (ℕ → Fraction) → Type 0 = λ g. SolveAnswers g (width t) r e (at p) b in
    subst f (row_is a sh t is r row lr at_r) (subst (λ (m : ℕ). SolveAnswers (at row.items) m r e (at p) b) (row_long a sh t is r row lr at_r br)
    (subst (λ (xs : List Fraction). SolveAnswers (at xs) (length xs) r e (at p) b) q (subst (λ (ys : List Fraction). SolveAnswers (at d) (length d) r e (at ys) b) (sym s) h)))

-- what filling the rows answers, at equal lists
pub answers_at : (rows rows' : List (Vec Frac Global)) (put put' : List Fraction) (into into' : List (Vec Frac Global)) → rows ≡ rows' → put ≡ put' → into ≡ into' → (r e : ℕ) (b : Result (Unit {0}) Wide)
    → RowsAnswer (cells items rows) (at put) (length rows) r e (cells items into) b → RowsAnswer (cells items rows') (at put') (length rows') r e (cells items into') b
answers_at rows rows' put put' into into' p q s r e b h =
    subst (λ (vs : List (Vec Frac Global)). RowsAnswer (cells items rows') (at put') (length rows') r e (cells items vs) b) s
    (subst (λ (xs : List Fraction). RowsAnswer (cells items rows') (at xs) (length rows') r e (cells items into) b) q
    (subst (λ (vs : List (Vec Frac Global)). RowsAnswer (cells items vs) (at put) (length vs) r e (cells items into) b) p h))

-- rows that are as long as those of the tableau
pub still_room : (a : Inside) (sh : IsShaped a) (from into to : List (Vec Frac Global)) → from ≡ a.rows.items → to ≡ into → length into ≡ length from
    → ((i : ℕ) (d : Vec Frac Global) → i < length from → length (get_or into i d).items ≡ length (get_or from i d).items)
    → (i : ℕ) (d : Vec Frac Global) → i < length to → length (get_or to i d).items ≡ row_length a i
still_room a sh from into to p q m h i d l =
    let f : List (Vec Frac Global) → ℕ = λ vs. length (get_or vs i d).items in
    ap f q ∙ h i d (omega (arith, ap length q, m)) ∙ ap f p ∙ sh.each_row i d (omega (arith, ap length q, m, ap length p))

-- after an exchange there are as many basic variables
pub numbers_as_long : (basic : List Bool) (r e : ℕ) → r < length basic → e < length basic → r ≢ e → get_or basic r false ≡ true → get_or basic e false ≡ false
    → length (numbers_of (flags basic r e)) ≡ length (numbers_of basic)
numbers_as_long basic r e lr le d br be =
    ap (λ (n : ℕ). length (numbers_below n (flag (flags basic r e)))) (length-flags basic r e lr le d)
    ∙ still_as_long (flag basic) (flag (flags basic r e)) r e br be (flag-r basic r e lr le d) (flag-e basic r e lr le d) (flag-other basic r e lr le d) (length basic) lr le
