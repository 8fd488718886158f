-- What is made of new values.
use Rattle.std.proofs.Common.{◌≡◌, ℕ, suc, ◌+◌, ◌<◌, ◌≤◌, Bool, true, false, List, [], ◌∷◌, ◌++◌, length, map, drop, get_or, refl, sym, ap, ap₂, subst, ◌∙◌, arith, length-append, append_assoc}
use Rattle.std.specs.Prelude.{Result, Ok, Err, OnOk, ⊤}
use Rattle.std.proofs.lemmas.List.{get_or_default}
use Rattle.std.proofs.Math.ListN.{drop_of_length-le}
use lib.IntN.{pos}
use Rattle.rational.specs.Fraction.{whole}
use Rattle.frac128.specs.declared.operations.Wide.{Wide}
use Rattle.lin.specs.Linear.{Linear, AreBelow, replacement_of, fixed, var, add, subst as substituted}
use Rattle.lin.specs.Negative.{negative}
use Rattle.lin.specs.Made.{add_ops, subst_ops}
use Rattle.lin.specs.Operations.{AllFit, IsRefusal}
use Rattle.lin.specs.declared.failure.LinFail.{LinFail}
use Rattle.formula.specs.Contents.{Contents}
use Rattle.encode_rows.specs.declared.clause.Truth.{Truth}
use Rattle.encode_rows.specs.declared.symbols.Symbols.{Symbols}
use Rattle.encode_laws.specs.Rows.{at_most, Literal, lit, opposite, Item, number, row, needs}
use Rattle.encode_laws.specs.Operations.{minus, minus_ops}
use Rattle.encode_laws.specs.Symbolic.{Symbolic, set_rows}
use Rattle.encode_laws.specs.Refusals.{AllNamedFit}
use Rattle.encode_laws.specs.Made.{Made, put, made_from, named_from}
use Rattle.encode_laws.proofs.Below.{below-minus}
use Rattle.encode_laws.proofs.MadeLaws.{named-append}
use Rattle.encode_rows.specs.Standing.{Stands, Knows, opposite_truth, IsMakingRefusal, Makes}
use Rattle.encode_rows.specs.Symbols.{HasFront, HasState, Compares, MakesRows}
use Rattle.encode_rows.specs.Beginning.{AddsNumber}
use Rattle.encode_rows.specs.Setting.{difference, MakesDifference, equation, MakesEquation, equations, MakesEquations, set_row, set_list}
use Rattle.encode_rows.proofs.Standing.{makes_then, makes_stop, knows-opposite, knows-later}
use Rattle.encode_rows.proofs.LiteralLaws.{map-append}
use Rattle.encode_rows.proofs.ComparisonLaws.{below-test, test-below, stands-below, state-later, needs-fit, needs-stop, Ahead, ahead-start, ahead-step, ahead-stop, ahead-end}

-- ---- a difference
module _ (old new : Contents) (front : Truth) (x y n : Linear) (e : n ≡ negative y) where
  pub difference-stops : (X : Type 0) (g : LinFail) → IsRefusal (add_ops x n) g → MakesDifference {X = X} old front x y old (Err g)
  difference-stops X g h m f s k =
      makes_stop X X (needs (minus_ops x y) ∷ []) (row (f ∷ lit true (at_most (minus x y)) ∷ []) ∷ []) m old g
      (needs-stop m old (minus_ops x y) X g s (subst (λ (w : Linear). IsRefusal (add_ops x w) g) e h))

  pub difference-below : (l : Linear) → l ≡ add x n → AreBelow (length old.counts) x.terms → AreBelow (length old.counts) y.terms → AreBelow (length old.counts) l.terms
  difference-below l g h j =
      subst (λ (w : Linear). AreBelow (length old.counts) w.terms) (sym (g ∙ ap (add x) e))
      (below-test (length old.counts) (minus x y).terms (below-minus (length old.counts) x y (test-below (length old.counts) x.terms h) (test-below (length old.counts) y.terms j)))

  pub difference-makes : {X : Type 0} (l : Linear) (r : Result X LinFail) → AllFit (add_ops x n) × (l ≡ add x n) → Compares old front false l new r → MakesDifference old front x y new r
  difference-makes l r h c m f s k =
      makes_then (needs (minus_ops x y) ∷ []) (row (f ∷ lit true (at_most (minus x y)) ∷ []) ∷ []) m new r
      (needs-fit m old (minus_ops x y) ⊤ tt s (subst (λ (w : Linear). AllFit (add_ops x w)) e h.0)).0
      (subst (λ (w : Linear). Makes (row (f ∷ lit true (at_most w) ∷ []) ∷ []) m new r) (h.1 ∙ ap (add x) e) (c m f s k))

-- ---- an equation
module _ (old mid : Contents) (front : Truth) (x y : Linear) (U : Type 0) where
  pub equation-stops : (X : Type 0) (e : LinFail) → MakesDifference {X = U} old front x y mid (Err e) → MakesEquation {X = X} old front x y mid (Err e)
  equation-stops X e p m f s k = makes_stop U X (difference f x y) (difference f y x) m mid e (p m f s k)

  pub equation-makes : {X : Type 0} (new : Contents) (u : U) (r : Result X LinFail) → MakesDifference {X = U} old front x y mid (Ok u) → MakesDifference mid front y x new r → MakesEquation old front x y new r
  equation-makes new u r p q m f s k =
      let a = p m f s k in
      makes_then (difference f x y) (difference f y x) m new r a.0 (q (made_from (difference f x y) m) f a.1 (knows-later (difference f x y) m f front k))

-- ---- a variable that is tied
pub opposite-knows : (m : Made) (o : Literal) (on op : Truth) → op ≡ opposite_truth on → Knows m o on → Knows m (opposite o) op
opposite-knows m o on op e k = subst (Knows m (opposite o)) (sym e) (knows-opposite m o on k)

pub front-opposite : (f : Contents) (on op : Truth) → op ≡ opposite_truth on → HasFront f on → HasFront f op
front-opposite f on op e h = record { made = h.made; literal = opposite h.literal; stands = h.stands; knows = subst (Knows h.made (opposite h.literal)) (sym e) (knows-opposite h.made h.literal on h.knows) }

module _ (old mid : Contents) (on op : Truth) (w : ℕ) (own v u : Linear) (e : own ≡ var w) (g : op ≡ opposite_truth on) (U : Type 0) where
  tied-first : (r : Result U LinFail) → MakesEquation old op own v mid r → (m : Made) (o : Literal) → Stands m old → Knows m o on → Makes (equation (opposite o) (var w) v) m mid r
  tied-first r p m o s k =
      subst (λ (x : Linear). Makes (equation (opposite o) x v) m mid r) e (p m (opposite o) s (subst (Knows m (opposite o)) (sym g) (knows-opposite m o on k)))

  pub tied-stops : (X : Type 0) (f : LinFail) → MakesEquation {X = U} old op own v mid (Err f) → MakesEquations {X = X} old on w v u mid (Err f)
  tied-stops X f p m o s k = makes_stop U X (equation (opposite o) (var w) v) (equation o (var w) u) m mid f (tied-first (Err f) p m o s k)

  pub tied-makes : {X : Type 0} (new : Contents) (a : U) (r : Result X LinFail) → MakesEquation {X = U} old op own v mid (Ok a) → MakesEquation mid on own u new r → MakesEquations old on w v u new r
  tied-makes new a r p q m o s k =
      let b = tied-first (Ok a) p m o s k in
      let items = equation (opposite o) (var w) v in
      makes_then (equation (opposite o) (var w) v) (equation o (var w) u) m new r b.0
      (subst (λ (x : Linear). Makes (equation o x u) (made_from (equation (opposite o) (var w) v) m) new r) e
      (q (made_from items m) o b.1 (knows-later items m o on k)))

-- ---- a function's new value
module _ (old one : Contents) (s : Symbols) (on : Truth) (z : ℕ × Linear) where
  pub set-unadded : (X : Type 0) (e : LinFail) → AddsNumber false old one (Err e) → MakesRows {X = X} old s on (set_row (length old.counts) z) one (Err e)
  set-unadded X e p m o y st k sh =
      makes_stop ℕ X (number (length old.counts) false ∷ []) (needs (subst_ops y.value z.1) ∷ equations (length old.counts) (substituted y.value z.1) (y.value z.0) o) m one e (p m (length old.counts) st).0

  module _ (w : ℕ) (adds : AddsNumber false old one (Ok w)) where
    pub set-state : HasState old s on → HasState one s on
    set-state h = state-later old one s on ℕ w (number 0 false ∷ []) h (adds h.made 0 h.stands).0

    pub set-known : HasState old s on → w < length one.counts
    set-known h =
        let made = adds h.made 0 h.stands in
        let e : length one.counts ≡ length (h.made.counts ++ false ∷ []) = ap (λ (f : Contents). length f.counts) made.0.1.contents in
        let l : length (h.made.counts ++ false ∷ []) ≡ length h.made.counts + 1 = length-append {A = Bool} h.made.counts (false ∷ []) in
        let v : w ≡ length h.made.counts = made.1 in
        omega arith

    pub set-stops : (X : Type 0) (e : LinFail) → IsRefusal (subst_ops (replacement_of s.values) z.1) e → MakesRows {X = X} old s on (set_row (length old.counts) z) one (Err e)
    set-stops X e h m o y st k sh =
        let n = length old.counts in
        let a = adds m n st in
        makes_then {X = X} (number (length old.counts) false ∷ []) (needs (subst_ops y.value z.1) ∷ equations (length old.counts) (substituted y.value z.1) (y.value z.0) o) m one (Err e) a.0.0
        (makes_stop X X (needs (subst_ops y.value z.1) ∷ []) (equations (length old.counts) (substituted y.value z.1) (y.value z.0) o) (put (number n false) m) one e
        (needs-stop (put (number n false) m) one (subst_ops y.value z.1) X e a.0.1 (subst (λ (of : ℕ → Linear). IsRefusal (subst_ops of z.1) e) (sym sh.values) h)))

    pub set-makes : {X : Type 0} (new : Contents) (v u : Linear) (r : Result X LinFail) → AllFit (subst_ops (replacement_of s.values) z.1) × (v ≡ substituted (replacement_of s.values) z.1) → u ≡ replacement_of s.values z.0
        → MakesEquations one on w v u new r → MakesRows old s on (set_row (length old.counts) z) new r
    set-makes new v u r h g q m o y st k sh =
        let n = length old.counts in
        let a = adds m n st in
        let m1 = put (number n false) m in
        let place : w ≡ length old.counts = a.1 ∙ sym (ap (λ (f : Contents). length f.counts) st.contents) in
        let ev : v ≡ substituted y.value z.1 = h.1 ∙ ap (λ (of : ℕ → Linear). substituted of z.1) (sym sh.values) in
        let eu : u ≡ y.value z.0 = g ∙ ap (λ (of : ℕ → Linear). of z.0) (sym sh.values) in
        makes_then (number (length old.counts) false ∷ []) (needs (subst_ops y.value z.1) ∷ equations (length old.counts) (substituted y.value z.1) (y.value z.0) o) m new r a.0.0
        (makes_then (needs (subst_ops y.value z.1) ∷ []) (equations (length old.counts) (substituted y.value z.1) (y.value z.0) o) m1 new r
        (needs-fit m1 one (subst_ops y.value z.1) ⊤ tt a.0.1 (subst (λ (of : ℕ → Linear). AllFit (subst_ops of z.1)) (sym sh.values) h.0)).0
        (subst (λ (j : ℕ). Makes (equations j (substituted y.value z.1) (y.value z.0) o) m1 new r) place
        (subst (λ (x : Linear). Makes (equations w x (y.value z.0) o) m1 new r) ev (subst (λ (x : Linear). Makes (equations w v x o) m1 new r) eu (q m1 o a.0.1 (knows-later (number n false ∷ []) m o on k))))))

pub set-more : (old new : Contents) (s : Symbols) (on : Truth) (z : ℕ × Linear) (X : Type 0) (x : X) → HasState old s on → MakesRows {X = X} old s on (set_row (length old.counts) z) new (Ok x) → length new.counts ≡ suc (length old.counts)
set-more old new s on z X x h p =
    let made = p h.made h.literal h.symbolic h.stands h.knows h.shows in
    let e : length new.counts ≡ length (h.made.counts ++ false ∷ []) = ap (λ (f : Contents). length f.counts) made.1.contents in
    let l : length (h.made.counts ++ false ∷ []) ≡ length h.made.counts + 1 = length-append {A = Bool} h.made.counts (false ∷ []) in
    let v : length old.counts ≡ length h.made.counts = ap (λ (f : Contents). length f.counts) h.stands.contents in
    omega arith

pub set-more-of : (old new : Contents) (s : Symbols) (on : Truth) (z : ℕ × Linear) (X : Type 0) (r : Result X LinFail) → HasState old s on → MakesRows old s on (set_row (length old.counts) z) new r
    → OnOk r (length new.counts ≡ suc (length old.counts))
set-more-of old new s on z X (Ok x) h p = set-more old new s on z X x h p
set-more-of old new s on z X (Err e) h p = tt

-- the value of a function that the symbols have
pub held-value : (xs ys : List Linear) (f : ℕ) (d v : Linear) → ys ≡ xs → f < length xs → v ≡ get_or ys f d → v ≡ replacement_of xs f
held-value xs ys f d v e l h = h ∙ ap (λ (zs : List Linear). get_or zs f d) e ∙ get_or_default xs f d (fixed (whole (pos 0))) l

pub value-below : (f : Contents) (s : Symbols) (on : Truth) (k : ℕ) (v : Linear) → HasState f s on → v ≡ replacement_of s.values k → AreBelow (length f.counts) v.terms
value-below f s on k v h e =
    subst (λ (u : Linear). AreBelow (length f.counts) u.terms) (sym (e ∙ ap (λ (of : ℕ → Linear). of k) (sym h.shows.values))) (stands-below h.made f (h.symbolic.value k).terms h.stands (h.shows.below k))

-- ---- all new values
module _ (old : Contents) (s : Symbols) (on : Truth) (sets : List (ℕ × Linear)) where
  pub sets-start : HasState old s on → Ahead old s on (set_list (length old.counts) sets) (set_list (length old.counts) sets) old
  sets-start h = ahead-start old s on (set_list (length old.counts) sets) h

  module _ (i : ℕ) (z : ℕ × Linear) (at : drop i sets ≡ z ∷ drop (i + 1) sets) (f g : Contents) (h : Ahead old s on (set_list (length old.counts) sets) (set_list (length f.counts) (drop i sets)) f) where
    opened : Ahead old s on (set_list (length old.counts) sets) (λ o y. set_row (length f.counts) z o y ++ set_list (suc (length f.counts)) (drop (i + 1) sets) o y) f
    opened = subst (λ (zs : List (ℕ × Linear)). Ahead old s on (set_list (length old.counts) sets) (set_list (length f.counts) zs) f) at h

    pub sets-step : (X : Type 0) (x : X) → MakesRows {X = X} f s on (set_row (length f.counts) z) g (Ok x) → length g.counts ≡ suc (length f.counts)
        → Ahead old s on (set_list (length old.counts) sets) (set_list (length g.counts) (drop (i + 1) sets)) g
    sets-step X x a e = subst (λ (n : ℕ). Ahead old s on (set_list (length old.counts) sets) (set_list n (drop (i + 1) sets)) g) (sym e)
        (ahead-step old s on (set_list (length old.counts) sets) (set_row (length f.counts) z) (set_list (suc (length f.counts)) (drop (i + 1) sets)) f g opened X x a)

    pub sets-stop : (X Y : Type 0) (e : LinFail) → MakesRows {X = X} f s on (set_row (length f.counts) z) g (Err e) → MakesRows {X = Y} old s on (set_list (length old.counts) sets) g (Err e)
    sets-stop X Y e a = ahead-stop old s on (set_list (length old.counts) sets) (set_row (length f.counts) z) (set_list (suc (length f.counts)) (drop (i + 1) sets)) f g opened X Y e a

  pub sets-end : (i : ℕ) → length sets ≤ i → (f : Contents) (X : Type 0) (x : X) → Ahead old s on (set_list (length old.counts) sets) (set_list (length f.counts) (drop i sets)) f → MakesRows {X = X} old s on (set_list (length old.counts) sets) f (Ok x)
  sets-end i l f X x h = ahead-end old s on (set_list (length old.counts) sets) f X x
      (subst (λ (zs : List (ℕ × Linear)). Ahead old s on (set_list (length old.counts) sets) (set_list (length f.counts) zs) f) (drop_of_length-le sets l) h)

-- ---- the rows of the definition: operations may stand in one item or in two
pub makes-same : {X : Type 0} (xs ys : List Item) (m : Made) (new : Contents) (r : Result X LinFail) → named_from xs m ≡ named_from ys m → made_from xs m ≡ made_from ys m → Makes xs m new r → Makes ys m new r
makes-same xs ys m new (Ok x) e f h = (subst AllNamedFit e h.0, subst (λ (k : Made). Stands k new) f h.1)
makes-same xs ys m new (Err g) e f h = subst (λ (os : List (ℕ × Wide)). IsMakingRefusal os (suc (length new.clauses)) g) e h

module _ (o : Literal) (y z : Symbolic) (values : y.value ≡ z.value) where
  abbrev row_of : (ℕ → Linear) → ℕ → ℕ × Linear → List Item → List Item
  row_of of w s rest =
      number w false
      ∷ needs (subst_ops of s.1 ++ minus_ops (var w) (substituted of s.1)) ∷ row (opposite o ∷ lit true (at_most (minus (var w) (substituted of s.1))) ∷ [])
      ∷ needs (minus_ops (substituted of s.1) (var w)) ∷ row (opposite o ∷ lit true (at_most (minus (substituted of s.1) (var w))) ∷ [])
      ∷ needs (minus_ops (var w) (of s.0)) ∷ row (o ∷ lit true (at_most (minus (var w) (of s.0))) ∷ [])
      ∷ needs (minus_ops (of s.0) (var w)) ∷ row (o ∷ lit true (at_most (minus (of s.0) (var w))) ∷ []) ∷ rest

  abbrev joined_row : ℕ → ℕ × Linear → List Item
  joined_row w s = row_of y.value w s []

  row-named : (w : ℕ) (s : ℕ × Linear) (m : Made) → named_from (set_row w s o y) m ≡ named_from (joined_row w s) m
  row-named w s m =
      let tail : List (ℕ × Wide) = named_from (row (opposite o ∷ lit true (at_most (minus (var w) (substituted y.value s.1))) ∷ []) ∷ difference (opposite o) (substituted y.value s.1) (var w) ++ equation o (var w) (y.value s.0)) (put (number w false) m) in
      sym (append_assoc (map (λ (p : Wide). (suc (length m.clauses), p)) (subst_ops y.value s.1)) (map (λ (p : Wide). (suc (length m.clauses), p)) (minus_ops (var w) (substituted y.value s.1))) tail)
      ∙ ap (λ (os : List (ℕ × Wide)). os ++ tail) (sym (map-append (suc (length m.clauses)) (subst_ops y.value s.1) (minus_ops (var w) (substituted y.value s.1))))

  sets-named : (ss : List (ℕ × Linear)) (w : ℕ) (m : Made) → named_from (set_list w ss o y) m ≡ named_from (set_rows o y w ss) m
  sets-named [] w m = refl
  sets-named (s ∷ ss) w m =
      named-append (set_row w s o y) (set_list (suc w) ss o y) m
      ∙ ap₂ (λ (os ps : List (ℕ × Wide)). os ++ ps) (row-named w s m) (sets-named ss (suc w) (made_from (joined_row w s) m))
      ∙ sym (named-append (joined_row w s) (set_rows o y (suc w) ss) m)

  sets-made : (ss : List (ℕ × Linear)) (w : ℕ) (m : Made) → made_from (set_list w ss o y) m ≡ made_from (set_rows o y w ss) m
  sets-made [] w m = refl
  sets-made (s ∷ ss) w m = sets-made ss (suc w) (made_from (joined_row w s) m)

  pub sets-by-values : (ss : List (ℕ × Linear)) (w : ℕ) → set_rows o y w ss ≡ set_rows o z w ss
  sets-by-values [] w = refl
  sets-by-values (s ∷ ss) w = ap (λ (xs : List Item). joined_row w s ++ xs) (sets-by-values ss (suc w)) ∙ ap (λ (of : ℕ → Linear). row_of of w s (set_rows o z (suc w) ss)) values

  pub sets-as-defined : {X : Type 0} (ss : List (ℕ × Linear)) (w : ℕ) (m : Made) (new : Contents) (r : Result X LinFail) → Makes (set_list w ss o y) m new r → Makes (set_rows o z w ss) m new r
  sets-as-defined ss w m new r h =
      subst (λ (xs : List Item). Makes xs m new r) (sets-by-values ss w) (makes-same (set_list w ss o y) (set_rows o y w ss) m new r (sets-named ss w m) (sets-made ss w m) h)
