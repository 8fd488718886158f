-- What the calls that compare make.
use Rattle.std.proofs.Common.{◌≡◌, ℕ, suc, ◌+◌, ◌<◌, ◌≤◌, Bool, true, false, List, [], ◌∷◌, ◌++◌, length, map, drop, get_or, refl, sym, ap, subst, ◌∙◌, arith, nat_lt}
use Rattle.std.specs.Prelude.{Result, Ok, Err, ⊤}
use Rattle.std.specs.List.{list_all}
use Rattle.std.proofs.lemmas.Bool.{and_parts, and_from}
use Rattle.std.proofs.lemmas.Bool.Decides.{nat_tests}
use Rattle.std.proofs.lemmas.List.{drop_more}
use Rattle.std.proofs.Math.ListN.{drop_of_length-le}
use lib.IntN.{negsuc}
use Rattle.rational.specs.Fraction.{whole}
use Rattle.rational.specs.Linear.{Terms}
use Rattle.frac128.specs.declared.operations.Wide.{Wide}
use Rattle.lin.specs.Linear.{Linear, AreBelow, replacement_of, subst as substituted}
use Rattle.lin.specs.Negative.{negative}
use Rattle.lin.specs.Made.{subst_ops}
use Rattle.lin.specs.Operations.{AllFit, IsRefusal}
use Rattle.lin.specs.declared.failure.LinFail.{LinFail}
use Rattle.lin.specs.declared.comparison.Cmp.{Cmp}
use Rattle.lin.specs.declared.comparison.Cmp.TheVariants.{Eq}
use Rattle.formula.specs.Contents.{Contents}
use Rattle.encode_rows.specs.declared.clause.Truth.{Truth}
use Rattle.encode_rows.specs.declared.symbols.Symbols.{Symbols}
use Rattle.encode_laws.specs.Rows.{Literal, lit, Item, boolean, row, needs}
use Rattle.encode_laws.specs.Symbolic.{Symbolic, compared_rows}
use Rattle.encode_laws.specs.Made.{Made, put, made_from, named_from, TermsBelow}
use Rattle.encode_laws.proofs.Below.{below-scale, below-subst, terms-later}
use Rattle.encode_rows.specs.Literals.{LiteralAnswers}
use Rattle.encode_rows.specs.Standing.{Stands, Knows, IsMakingRefusal, Makes, SoFar, compared_fact}
use Rattle.encode_rows.specs.Symbols.{Shows, HasFront, HasState, HasRow, PutsRow, fact_row, Compares, ComparesAs, MakesRows, first_row}
use Rattle.encode_rows.proofs.Standing.{makes_then, makes_stop, so_far_start, so_far_step, so_far_stop, so_far_end, named_append_fit, named_fit, refusal_named, refusal_left, row-present, known-later, knows-later, counts-later}
use Rattle.encode_rows.proofs.LiteralLaws.{literal-makes, makes-drop}

-- ---- variables below a number, by the two words for it
pub below-test : (n : ℕ) (ts : Terms) → TermsBelow n ts → AreBelow n ts
below-test n [] h = refl
below-test n (t ∷ ts) h = and_from (nat_lt t.0 n) (list_all (λ u. nat_lt u.0 n) ts) (at_head t.0 h.0) (below-test n ts h.1)
  where
    at_head : (k : ℕ) → k < n → nat_lt k n ≡ true
    at_head k l = grind (arith, nat_tests)

pub test-below : (n : ℕ) (ts : Terms) → AreBelow n ts → TermsBelow n ts
test-below n [] h = tt
test-below n (t ∷ ts) h = let p = and_parts (nat_lt t.0 n) (list_all (λ u. nat_lt u.0 n) ts) h in (at_head t.0 p.0, test-below n ts p.1)
  where
    at_head : (k : ℕ) → nat_lt k n ≡ true → k < n
    at_head k l = grind (arith, nat_tests)

pub stands-below : (m : Made) (f : Contents) (ts : Terms) → Stands m f → TermsBelow (length m.counts) ts → AreBelow (length f.counts) ts
stands-below m f ts s h = subst (λ (g : Contents). AreBelow (length g.counts) ts) (sym s.contents) (below-test (length m.counts) ts h)

pub below-stands : (m : Made) (f : Contents) (ts : Terms) → Stands m f → AreBelow (length f.counts) ts → TermsBelow (length m.counts) ts
below-stands m f ts s h = test-below (length m.counts) ts (subst (λ (g : Contents). AreBelow (length g.counts) ts) s.contents h)

-- ---- one row
module _ (old mid : Contents) (front : Truth) (strict : Bool) (l : Linear) where
  pub compare-row : (t : Truth) → HasFront old front → LiteralAnswers old strict l mid (Ok t) → HasRow mid (front ∷ t ∷ [])
  compare-row t h a =
      let x = compared_fact strict l in
      let made = literal-makes h.made old mid strict l (Ok t) h.stands a in
      record {
        made = put (boolean x) h.made;
        literals = h.literal ∷ lit true x ∷ [];
        stands = made.0.1;
        known = (known-later (boolean x ∷ []) h.made h.literal front h.knows.below h.knows.known, (made.1, tt));
      }

  pub compare-makes : {X : Type 0} (new : Contents) (t : Truth) (r : Result X LinFail) → LiteralAnswers old strict l mid (Ok t) → PutsRow mid (front ∷ t ∷ []) new r → Compares old front strict l new r
  compare-makes new t r a p m f s k =
      let x = compared_fact strict l in
      let made = literal-makes m old mid strict l (Ok t) s a in
      let later = known-later (boolean x ∷ []) m f front k.below k.known in
      makes-drop m (f ∷ []) true x (row-present m (f ∷ []) (front ∷ []) (k.known, tt)) (row-present (put (boolean x) m) (f ∷ []) (front ∷ []) (later, tt)) new r
      (makes_then (boolean x ∷ []) (row (f ∷ lit true x ∷ []) ∷ []) m new r made.0.0 (p (put (boolean x) m) (f ∷ lit true x ∷ []) made.0.1 (later, (made.1, tt))))

  pub compare-stops : (X : Type 0) (e : LinFail) → LiteralAnswers old strict l mid (Err e) → Compares {X = X} old front strict l mid (Err e)
  compare-stops X e a m f s k =
      let x = compared_fact strict l in
      let made = literal-makes m old mid strict l (Err e) s a in
      let later = known-later (boolean x ∷ []) m f front k.below k.known in
      makes-drop m (f ∷ []) true x (row-present m (f ∷ []) (front ∷ []) (k.known, tt)) (row-present (put (boolean x) m) (f ∷ []) (front ∷ []) (later, tt)) {X = X} mid (Err e)
      (makes_stop Truth X (boolean x ∷ []) (row (f ∷ lit true x ∷ []) ∷ []) m mid e made.0)

-- ---- fronts and states stay
pub front-later : (old new : Contents) (front : Truth) (X : Type 0) (r : X) (xs : List Item) → (h : HasFront old front) → Makes {X = X} xs h.made new (Ok r) → HasFront new front
front-later old new front X r xs h a = record { made = made_from xs h.made; literal = h.literal; stands = a.1; knows = knows-later xs h.made h.literal front h.knows }

pub below-later : (old new : Contents) (front : Truth) (X : Type 0) (r : X) (xs : List Item) → (h : HasFront old front) → Makes {X = X} xs h.made new (Ok r) → (ts : Terms) → AreBelow (length old.counts) ts → AreBelow (length new.counts) ts
below-later old new front X r xs h a ts b =
    stands-below (made_from xs h.made) new ts a.1 (terms-later (length h.made.counts) (length (made_from xs h.made).counts) (counts-later xs h.made) ts (below-stands h.made old ts h.stands b))

pub shows-later : (xs : List Item) (m : Made) (y : Symbolic) (s : Symbols) → Shows m y s → Shows (made_from xs m) y s
shows-later xs m y s h = record {
  truths = λ p. knows-later xs m (y.truth p) _ (h.truths p);
  values = h.values;
  below = λ f. terms-later (length m.counts) (length (made_from xs m).counts) (counts-later xs m) (y.value f).terms (h.below f);
}

pub front-of-state : (f : Contents) (s : Symbols) (front : Truth) → HasState f s front → HasFront f front
front-of-state f s front h = record { made = h.made; literal = h.literal; stands = h.stands; knows = h.knows }

pub state-later : (old new : Contents) (s : Symbols) (front : Truth) (X : Type 0) (r : X) (xs : List Item) → (h : HasState old s front) → Makes {X = X} xs h.made new (Ok r) → HasState new s front
state-later old new s front X r xs h a = record {
  made = made_from xs h.made;
  literal = h.literal;
  symbolic = h.symbolic;
  stands = a.1;
  knows = knows-later xs h.made h.literal front h.knows;
  shows = shows-later xs h.made h.symbolic s h.shows;
}

-- ---- operations alone
pub needs-fit : (m : Made) (f : Contents) (ops : List Wide) (X : Type 0) (r : X) → Stands m f → AllFit ops → Makes {X = X} (needs ops ∷ []) m f (Ok r)
needs-fit m f ops X r s h = (named_append_fit (map (λ o. (suc (length m.clauses), o)) ops) [] (named_fit (suc (length m.clauses)) ops h) tt, s)

pub needs-stop : (m : Made) (f : Contents) (ops : List Wide) (X : Type 0) (e : LinFail) → Stands m f → IsRefusal ops e → Makes {X = X} (needs ops ∷ []) m f (Err e)
needs-stop m f ops X e s h =
    refusal_left (map (λ o. (suc (length m.clauses), o)) ops) [] (suc (length f.clauses)) e
    (subst (λ (g : Contents). IsMakingRefusal (map (λ o. (suc (length m.clauses), o)) ops) (suc (length g.clauses)) e) (sym s.contents) (refusal_named (suc (length m.clauses)) ops e h))

-- ---- an equality: two rows
module _ (old mid : Contents) (front : Truth) (l : Linear) where
  pub equal-makes : {X : Type 0} (new : Contents) (r : Result X LinFail) (U : Type 0) (u : U) → Compares {X = U} old front false l mid (Ok u) → Compares mid front false (negative l) new r → ComparesAs old front l Eq new r
  equal-makes new r U u a b m f s k =
      let first = a m f s k in
      makes_then (fact_row f false l) (fact_row f false (negative l)) m new r first.0 (b (made_from (fact_row f false l) m) f first.1 (knows-later (fact_row f false l) m f front k))

  pub equal-stops : (U X : Type 0) (e : LinFail) → Compares {X = U} old front false l mid (Err e) → ComparesAs {X = X} old front l Eq mid (Err e)
  equal-stops U X e a m f s k = makes_stop U X (fact_row f false l) (fact_row f false (negative l)) m mid e (a m f s k)

  pub equal-memory : (U X : Type 0) (u : U) (e : LinFail) → IsRefusal [] e → ComparesAs {X = X} old front l Eq mid (Err e)
  equal-memory U X u e h m f s k = by_kind e h
    where
      by_kind : (e : LinFail) → IsRefusal [] e → Makes {X = X} (compared_rows (f ∷ []) Eq l) m mid (Err e)
      by_kind e h = refusal_left [] (named_from (compared_rows (f ∷ []) Eq l) m) (suc (length mid.clauses)) e (refusal_named (suc (length mid.clauses)) [] e h)

pub negative-below : (n : ℕ) (l : Linear) → AreBelow n l.terms → AreBelow n (negative l).terms
negative-below n l h = below-test n (negative l).terms (below-scale n (whole (negsuc 0)) l (test-below n l.terms h))

-- ---- a comparison at the first repetition
module _ (old new : Contents) (s : Symbols) (front : Truth) (c : Linear × Cmp) where
  pub first-stops : (X : Type 0) (e : LinFail) → IsRefusal (subst_ops (replacement_of s.values) c.0) e → MakesRows {X = X} old s front (first_row c) old (Err e)
  first-stops X e h m f y st k sh =
      makes_stop X X (needs (subst_ops y.value c.0) ∷ []) (compared_rows (f ∷ []) c.1 (substituted y.value c.0)) m old e
      (needs-stop m old (subst_ops y.value c.0) X e st (subst (λ (of : ℕ → Linear). IsRefusal (subst_ops of c.0) e) (sym sh.values) h))

  pub first-makes : {X : Type 0} (l : Linear) (r : Result X LinFail) → AllFit (subst_ops (replacement_of s.values) c.0) → l ≡ substituted (replacement_of s.values) c.0 → ComparesAs old front l c.1 new r
      → MakesRows old s front (first_row c) new r
  first-makes l r h e a m f y st k sh =
      makes_then (needs (subst_ops y.value c.0) ∷ []) (compared_rows (f ∷ []) c.1 (substituted y.value c.0)) m new r
      (needs-fit m old (subst_ops y.value c.0) ⊤ tt st (subst (λ (of : ℕ → Linear). AllFit (subst_ops of c.0)) (sym sh.values) h)).0
      (subst (λ (w : Linear). Makes (compared_rows (f ∷ []) c.1 w) m new r) (e ∙ ap (λ (of : ℕ → Linear). substituted of c.0) (sym sh.values)) (a m f st k))

pub subst-below : (f : Contents) (s : Symbols) (front : Truth) (l w : Linear) → HasState f s front → w ≡ substituted (replacement_of s.values) l → AreBelow (length f.counts) w.terms
subst-below f s front l w h e =
    subst (λ (u : Linear). AreBelow (length f.counts) u.terms) (sym e)
    (subst (λ (of : ℕ → Linear). AreBelow (length f.counts) (substituted of l).terms) h.shows.values
    (stands-below h.made f (substituted h.symbolic.value l).terms h.stands (below-subst (length h.made.counts) h.symbolic.value h.shows.below l)))

-- ---- rows one after another
-- the rows so far, and those that are left
pub record Ahead (old : Contents) (s : Symbols) (front : Truth) (all left : Literal → Symbolic → List Item) (f : Contents) : Type 0 where
  pub so_far : (m : Made) (l : Literal) (y : Symbolic) → Stands m old → Knows m l front → Shows m y s → SoFar (all l y) (left l y) m f
  pub state : HasState f s front

module _ (old : Contents) (s : Symbols) (front : Truth) (all : Literal → Symbolic → List Item) where
  pub ahead-start : HasState old s front → Ahead old s front all all old
  ahead-start h = record { so_far = λ m l y st k sh. so_far_start (all l y) m old st; state = h }

  module _ (x left : Literal → Symbolic → List Item) (f g : Contents) (h : Ahead old s front all (λ l y. x l y ++ left l y) f) where
    pub ahead-step : (X : Type 0) (r : X) → MakesRows {X = X} f s front x g (Ok r) → Ahead old s front all left g
    ahead-step X r a = record {
      so_far = λ m l y st k sh.
          let before = h.so_far m l y st k sh in
          so_far_step (all l y) (x l y) (left l y) m f g before X r
          (a (made_from before.done m) l y before.stands (knows-later before.done m l front k) (shows-later before.done m y s sh));
      state = state-later f g s front X r (x h.state.literal h.state.symbolic) h.state (a h.state.made h.state.literal h.state.symbolic h.state.stands h.state.knows h.state.shows);
    }

    pub ahead-stop : (X Y : Type 0) (e : LinFail) → MakesRows {X = X} f s front x g (Err e) → MakesRows {X = Y} old s front all g (Err e)
    ahead-stop X Y e a m l y st k sh =
        let before = h.so_far m l y st k sh in
        so_far_stop (all l y) (x l y) (left l y) m f g before X Y e
        (a (made_from before.done m) l y before.stands (knows-later before.done m l front k) (shows-later before.done m y s sh))

  pub ahead-end : (f : Contents) (X : Type 0) (r : X) → Ahead old s front all (λ l y. []) f → MakesRows {X = X} old s front all f (Ok r)
  ahead-end f X r h m l y st k sh = so_far_end (all l y) m f X r (h.so_far m l y st k sh)

-- a loop over a list
module _ {Z : Type 0} (old : Contents) (s : Symbols) (front : Truth) (rows : List Z → Literal → Symbolic → List Item) (one : Z → Literal → Symbolic → List Item) (cons : (z : Z) (zs : List Z) → rows (z ∷ zs) ≡ (λ l y. one z l y ++ rows zs l y)) (zs : List Z) where
  module _ (i : ℕ) (d : Z) (within : i < length zs) (f g : Contents) (h : Ahead old s front (rows zs) (rows (drop i zs)) f) where
    opened : Ahead old s front (rows zs) (λ l y. one (get_or zs i d) l y ++ rows (drop (i + 1) zs) l y) f
    opened = subst (λ (left : Literal → Symbolic → List Item). Ahead old s front (rows zs) left f) (ap rows (drop_more zs i d within) ∙ cons (get_or zs i d) (drop (i + 1) zs)) h

    pub loop-step : (X : Type 0) (r : X) → MakesRows {X = X} f s front (one (get_or zs i d)) g (Ok r) → Ahead old s front (rows zs) (rows (drop (i + 1) zs)) g
    loop-step X r a = ahead-step old s front (rows zs) (one (get_or zs i d)) (rows (drop (i + 1) zs)) f g opened X r a

    pub loop-stop : (X Y : Type 0) (e : LinFail) → MakesRows {X = X} f s front (one (get_or zs i d)) g (Err e) → MakesRows {X = Y} old s front (rows zs) g (Err e)
    loop-stop X Y e a = ahead-stop old s front (rows zs) (one (get_or zs i d)) (rows (drop (i + 1) zs)) f g opened X Y e a

  pub loop-end : rows [] ≡ (λ l y. []) → (i : ℕ) → length zs ≤ i → (f : Contents) (X : Type 0) (r : X) → Ahead old s front (rows zs) (rows (drop i zs)) f → MakesRows {X = X} old s front (rows zs) f (Ok r)
  loop-end n i l f X r h = ahead-end old s front (rows zs) f X r (subst (λ (left : Literal → Symbolic → List Item). Ahead old s front (rows zs) left f) (ap rows (drop_of_length-le zs l) ∙ n) h)
