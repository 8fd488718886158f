-- Each row uses variables that are made before it.
use Rattle.std.proofs.Common.{◌≡◌, ℕ, suc, ◌+◌, ◌<◌, ◌≤◌, Bool, true, false, not, cond, List, [], ◌∷◌, ◌++◌, length, refl, sym, ap, subst, ◌∙◌, arith, nat_eq, nat_lt, append_assoc}
use Rattle.std.specs.Prelude.{⊤}
use Rattle.std.specs.List.{AllByRecursion}
use lib.IntN.{pos, negsuc}
use Rattle.rational.specs.Fraction.{Fraction, whole, neg_ℚ, ◌+ℚ◌}
use Rattle.rational.specs.Linear.{Terms}
use Rattle.lin.specs.Normal.{is_zero, put_first, with_term, collected}
use Rattle.lin.specs.Linear.{Linear, fixed, var, times, add, scale, subst_from, subst as substituted}
use Rattle.lin.specs.Negative.{negative}
use Rattle.lin.specs.declared.comparison.Cmp.{Cmp}
use Rattle.lin.specs.declared.comparison.Cmp.TheVariants.{Le, Lt, Eq}
use Rattle.task_core.specs.declared.action.GAction.{GAction}
use Rattle.task_core.specs.State.{State}
use Rattle.task_core.specs.Step.{is_in, is_empty, is_rollable}
use Rattle.task_core.specs.Growth.{change_of}
use Rattle.encode_laws.specs.Rows.{Name, is_done, behind, at_most, below, named, Literal, yes, no, lit, opposite, Item, number, boolean, row, needs}
use Rattle.encode_laws.specs.Operations.{minus, at_last, at_last_ops}
use Rattle.encode_laws.specs.Symbolic.{Symbolic, is_counted, symbolic_start, constant_literal, on_of, on_front, compared_rows, count_items, first_items, signed_literal, literal_rows, comparison_rows, last_rows, added, deleted, added_rows, deleted_rows, changes_of, change_rows, truth_rows, symbolic_truth, set_rows, grown, grown_ops, symbolic_value, first_set, next_after, symbolic_after, occurrence, goal_rows, rows_from, rows_of}
use Rattle.encode_laws.proofs.Making.{TermsBelow, FactBelow, LiteralBelow, Steady, MakesFormula, makes-formula}
use Rattle.task_core.proofs.RollingLaws.{rollable-counts}

-- ---- expressions
pub terms-later : (m n : ℕ) → m ≤ n → (ts : Terms) → TermsBelow m ts → TermsBelow n ts
terms-later m n l [] h = tt
terms-later m n l (t ∷ ts) h = (let g = h.0 in omega arith, terms-later m n l ts h.1)

module _ (n : ℕ) where
  below-front : (b : Bool) (x : ℕ) (c : Fraction) (ts : Terms) → x < n → TermsBelow n ts → TermsBelow n (cond b ts ((x, c) ∷ ts))
  below-front true x c ts l h = h
  below-front false x c ts l h = (l, h)

  below-put_first : (t : ℕ × Fraction) (ts : Terms) → t.0 < n → TermsBelow n ts → TermsBelow n (put_first t ts)
  below-put_first t ts l h = below-front (is_zero t.1) t.0 t.1 ts l h

  below-with_term : (t : ℕ × Fraction) (ts : Terms) → t.0 < n → TermsBelow n ts → TermsBelow n (with_term t ts)
  below-with_term t [] l h = below-put_first t [] l h
  below-with_term t (u ∷ us) l h = by_order (nat_lt t.0 u.0) (nat_eq t.0 u.0) (below-with_term t us l h.1)
    where
      by_order : (a e : Bool) → TermsBelow n (with_term t us)
          → TermsBelow n (cond a (put_first t (u ∷ us)) (cond e (put_first (u.0, t.1 +ℚ u.1) us) (u ∷ with_term t us)))
      by_order true e ih = below-put_first t (u ∷ us) l h
      by_order false true ih = below-put_first (u.0, t.1 +ℚ u.1) us h.0 h.1
      by_order false false ih = (h.0, ih)

  below-collected : (ts : Terms) → TermsBelow n ts → TermsBelow n (collected ts)
  below-collected [] h = tt
  below-collected (t ∷ ts) h = below-with_term t (collected ts) h.0 (below-collected ts h.1)

  below-append : (ts us : Terms) → TermsBelow n ts → TermsBelow n us → TermsBelow n (ts ++ us)
  below-append [] us h j = j
  below-append (t ∷ ts) us h j = (h.0, below-append ts us h.1 j)

  pub below-add : (l m : Linear) → TermsBelow n l.terms → TermsBelow n m.terms → TermsBelow n (add l m).terms
  unfolding add
  below-add l m h j = below-collected (l.terms ++ m.terms) (below-append l.terms m.terms h j)

  pub below-scale : (c : Fraction) (l : Linear) → TermsBelow n l.terms → TermsBelow n (scale c l).terms
  unfolding scale
  below-scale c l h = below-collected (times c l.terms) (each l.terms h)
    where
      each : (ts : Terms) → TermsBelow n ts → TermsBelow n (times c ts)
      each [] h = tt
      each (t ∷ ts) h = (h.0, each ts h.1)

  pub below-minus : (l m : Linear) → TermsBelow n l.terms → TermsBelow n m.terms → TermsBelow n (minus l m).terms
  below-minus l m h j = below-add l (negative m) h (below-scale (whole (negsuc 0)) m j)

  below-subst_from : (of : ℕ → Linear) → ((f : ℕ) → TermsBelow n (of f).terms) → (so_far : Linear) (ts : Terms) → TermsBelow n so_far.terms → TermsBelow n (subst_from of so_far ts).terms
  below-subst_from of b so_far [] h = h
  below-subst_from of b so_far (t ∷ ts) h = below-subst_from of b (add so_far (scale t.1 (of t.0))) ts (below-add so_far (scale t.1 (of t.0)) h (below-scale t.1 (of t.0) (b t.0)))

  pub below-subst : (of : ℕ → Linear) → ((f : ℕ) → TermsBelow n (of f).terms) → (l : Linear) → TermsBelow n (substituted of l).terms
  unfolding substituted
  below-subst of b l = below-subst_from of b (fixed l.constant) l.terms tt

  -- ---- lists of rows without new variables
  abbrev pub RowsBelow : List Item → Type 0
  RowsBelow [] = ⊤
  RowsBelow (number m c ∷ xs) = ⊥
  RowsBelow (needs ops ∷ xs) = ⊤ × RowsBelow xs
  RowsBelow (boolean f ∷ xs) = FactBelow n f × RowsBelow xs
  RowsBelow (row ls ∷ xs) = AllByRecursion (LiteralBelow n) ls × RowsBelow xs

  rows-append : (xs ys : List Item) → RowsBelow xs → RowsBelow ys → RowsBelow (xs ++ ys)
  rows-append [] ys h j = j
  rows-append (number m c ∷ xs) ys h j = absurd h
  rows-append (needs ops ∷ xs) ys h j = (tt, rows-append xs ys h.1 j)
  rows-append (boolean f ∷ xs) ys h j = (h.0, rows-append xs ys h.1 j)
  rows-append (row ls ∷ xs) ys h j = (h.0, rows-append xs ys h.1 j)

  steady-rows : (xs ys : List Item) → RowsBelow xs → Steady n ys → Steady n (xs ++ ys)
  steady-rows [] ys h j = j
  steady-rows (number m c ∷ xs) ys h j = absurd h
  steady-rows (needs ops ∷ xs) ys h j = (tt, steady-rows xs ys h.1 j)
  steady-rows (boolean f ∷ xs) ys h j = (h.0, steady-rows xs ys h.1 j)
  steady-rows (row ls ∷ xs) ys h j = (h.0, steady-rows xs ys h.1 j)

  opposite-below : (l : Literal) → LiteralBelow n l → LiteralBelow n (opposite l)
  opposite-below yes h = tt
  opposite-below no h = tt
  opposite-below (lit s f) h = h

  front-below : (front : List Literal) (l : Literal) → AllByRecursion (LiteralBelow n) front → LiteralBelow n l → AllByRecursion (LiteralBelow n) (front ++ l ∷ [])
  front-below [] l h j = (j, tt)
  front-below (m ∷ ms) l h j = (h.0, front-below ms l h.1 j)

  cmp-below : (front : List Literal) (c : Cmp) (l : Linear) → AllByRecursion (LiteralBelow n) front → TermsBelow n l.terms → RowsBelow (compared_rows front c l)
  cmp-below front Le l h j = (front-below front (lit true (at_most l)) h j, tt)
  cmp-below front Lt l h j = (front-below front (lit true (below l)) h j, tt)
  cmp-below front Eq l h j = (front-below front (lit true (at_most l)) h j, (front-below front (lit true (at_most (negative l))) h (below-scale (whole (negsuc 0)) l j), tt))

  pub record SymbolicBelow (y : Symbolic) : Type 0 where
    pub truth : (p : ℕ) → LiteralBelow n (y.truth p)
    pub value : (f : ℕ) → TermsBelow n (y.value f).terms

  module _ (front : List Literal) (fb : AllByRecursion (LiteralBelow n) front) (y : Symbolic) (b : SymbolicBelow y) where
    lits-below : (lits : List (ℕ × Bool)) → RowsBelow (literal_rows front y lits)
    lits-below [] = tt
    lits-below (l ∷ ls) = (front-below front (signed_literal l.1 (y.truth l.0)) fb (by_sign l.1), lits-below ls)
      where
        by_sign : (s : Bool) → LiteralBelow n (signed_literal s (y.truth l.0))
        by_sign true = b.truth l.0
        by_sign false = opposite-below (y.truth l.0) (b.truth l.0)

    cmps-below : (cmps : List (Linear × Cmp)) → RowsBelow (comparison_rows front y cmps)
    cmps-below [] = tt
    cmps-below (c ∷ cs) = (
      tt,
      rows-append (compared_rows front c.1 (substituted y.value c.0)) (comparison_rows front y cs)
          (cmp-below front c.1 (substituted y.value c.0) fb (below-subst y.value b.value c.0)) (cmps-below cs),
    )

    rolled-below : (incs : Terms) → y.next < n → (cmps : List (Linear × Cmp)) → RowsBelow (last_rows front incs y cmps)
    rolled-below incs l [] = tt
    rolled-below incs l (c ∷ cs) = (
      tt,
      rows-append (cond (is_zero (change_of incs c.0.terms)) [] (needs (at_last_ops (change_of incs c.0.terms) y.next (substituted y.value c.0)) ∷ compared_rows front c.1 (at_last (change_of incs c.0.terms) y.next (substituted y.value c.0)))) (last_rows front incs y cs)
          (by_test (is_zero (change_of incs c.0.terms))) (rolled-below incs l cs),
    )
      where
        by_test : (z : Bool) → RowsBelow (cond z [] (needs (at_last_ops (change_of incs c.0.terms) y.next (substituted y.value c.0)) ∷ compared_rows front c.1 (at_last (change_of incs c.0.terms) y.next (substituted y.value c.0))))
        by_test true = tt
        by_test false = (
          tt,
          cmp-below front c.1 (at_last (change_of incs c.0.terms) y.next (substituted y.value c.0)) fb
              (below-add (add (substituted y.value c.0) (scale (change_of incs c.0.terms) (var y.next))) (fixed (neg_ℚ (change_of incs c.0.terms)))
              (below-add (substituted y.value c.0) (scale (change_of incs c.0.terms) (var y.next)) (below-subst y.value b.value c.0) (below-scale (change_of incs c.0.terms) (var y.next) (l, tt)))
              tt),
        )

  module _ (i : ℕ) (on : Literal) (ob : LiteralBelow n on) (y : Symbolic) (b : SymbolicBelow y) where
    added-below : (m : Name) (t : Literal) → LiteralBelow n t → RowsBelow (added_rows on m t)
    added-below m yes h = tt
    added-below m no h = tt
    added-below m (lit s f) h = (tt, ((tt, (ob, (h, tt))), ((tt, (opposite-below on ob, tt)), ((tt, (h, tt)), tt))))

    deleted-below : (m : Name) (t : Literal) → LiteralBelow n t → RowsBelow (deleted_rows on m t)
    deleted-below m yes h = tt
    deleted-below m no h = tt
    deleted-below m (lit s f) h = (tt, ((tt, (opposite-below on ob, tt)), ((tt, (h, tt)), ((tt, (ob, (h, tt))), tt))))

    truths-below : (cs : List (ℕ × Bool)) → RowsBelow (truth_rows i on y cs)
    truths-below [] = tt
    truths-below (c ∷ cs) = rows-append (change_rows i on y c) (truth_rows i on y cs) (by_sign c.1) (truths-below cs)
      where
        by_sign : (s : Bool) → RowsBelow (cond s (added_rows on (behind i c.0) (y.truth c.0)) (deleted_rows on (behind i c.0) (y.truth c.0)))
        by_sign true = added-below (behind i c.0) (y.truth c.0) (b.truth c.0)
        by_sign false = deleted-below (behind i c.0) (y.truth c.0) (b.truth c.0)

    symbolic_truth-below : (a : GAction) (p : ℕ) → LiteralBelow n (symbolic_truth i on a y p)
    symbolic_truth-below a p = by_tests (is_in p a.adds) (is_in p a.dels)
      where
        name : Literal
        name = lit true (named (behind i p))

        by_added : (t : Literal) → LiteralBelow n (added on (lit true (named (behind i p))) t)
        by_added yes = tt
        by_added no = ob
        by_added (lit s f) = tt

        by_deleted : (t : Literal) → LiteralBelow n (deleted on (lit true (named (behind i p))) t)
        by_deleted yes = opposite-below on ob
        by_deleted no = tt
        by_deleted (lit s f) = tt

        by_tests : (x d : Bool) → LiteralBelow n (cond x (added on (lit true (named (behind i p))) (y.truth p)) (cond d (deleted on (lit true (named (behind i p))) (y.truth p)) (y.truth p)))
        by_tests true d = by_added (y.truth p)
        by_tests false true = by_deleted (y.truth p)
        by_tests false false = b.truth p

  grown-below : (c : ℕ) → c < n → (qs : Terms) (f : ℕ) (l : Linear) → TermsBelow n l.terms → TermsBelow n (grown c qs f l).terms
  grown-below c h [] f l b = b
  grown-below c h (q ∷ qs) f l b = by_test (nat_eq q.0 f) (grown-below c h qs f (add l (scale q.1 (var c))) (below-add l (scale q.1 (var c)) b (below-scale q.1 (var c) (h, tt)))) (grown-below c h qs f l b)
    where
      by_test : (t : Bool) → TermsBelow n (grown c qs f (add l (scale q.1 (var c)))).terms → TermsBelow n (grown c qs f l).terms → TermsBelow n (cond t (grown c qs f (add l (scale q.1 (var c)))) (grown c qs f l)).terms
      by_test true g j = g
      by_test false g j = j

pub literal-later : (m n : ℕ) → m ≤ n → (l : Literal) → LiteralBelow m l → LiteralBelow n l
literal-later m n l yes h = tt
literal-later m n l no h = tt
literal-later m n l (lit s (at_most x)) h = terms-later m n l x.terms h
literal-later m n l (lit s (below x)) h = terms-later m n l x.terms h
literal-later m n l (lit s (named x)) h = tt

symbolic-later : (m n : ℕ) → m ≤ n → (y : Symbolic) → SymbolicBelow m y → SymbolicBelow n y
symbolic-later m n l y h = record { truth = λ p. literal-later m n l (y.truth p) (h.truth p); value = λ f. terms-later m n l (y.value f).terms (h.value f) }

-- ---- the new values
sets-steady : (on : Literal) (y : Symbolic) (w : ℕ) (ss : List (ℕ × Linear)) (rest : List Item) → LiteralBelow w on → SymbolicBelow w y → Steady (w + length ss) rest → Steady w (set_rows on y w ss ++ rest)
sets-steady on y w [] rest ob b h = subst (λ (n : ℕ). Steady n rest) (let e : w + 0 ≡ w = omega arith in e) h
sets-steady on y w (s ∷ ss) rest ob b h =
    let ob1 = literal-later w (suc w) (omega arith) on ob in
    let b1 = symbolic-later w (suc w) (omega arith) y b in
    let new = substituted y.value s.1 in
    let nb = below-subst (suc w) y.value b1.value s.1 in
    let own : TermsBelow (suc w) (var w).terms = (omega arith, tt) in (
      refl,
      (
        tt,
        (
          (opposite-below (suc w) on ob1, (below-minus (suc w) (var w) new own nb, tt)),
          (
            tt,
            (
              (opposite-below (suc w) on ob1, (below-minus (suc w) new (var w) nb own, tt)),
              (
                tt,
                (
                  (ob1, (below-minus (suc w) (var w) (y.value s.0) own (b1.value s.0), tt)),
                  (
                    tt,
                    (
                      (ob1, (below-minus (suc w) (y.value s.0) (var w) (b1.value s.0) own, tt)),
                      sets-steady on y (suc w) ss rest ob1 b1 (subst (λ (n : ℕ). Steady n rest) (let e : w + length (s ∷ ss) ≡ suc w + length ss = omega arith in e) h),
                    ),
                  ),
                ),
              ),
            ),
          ),
        ),
      ),
    )

value-below : (old : ℕ → Linear) (c : ℕ) (incs : Terms) (w n : ℕ) (ss : List (ℕ × Linear)) (f : ℕ) → w + length ss ≤ n → TermsBelow n (grown c incs f (old f)).terms
    → TermsBelow n (symbolic_value old c incs w ss f).terms
value-below old c incs w n [] f h b = b
value-below old c incs w n (s ∷ ss) f h b = by_test (nat_eq s.0 f) (value-below old c incs (suc w) n ss f (omega arith) b)
  where
    by_test : (t : Bool) → TermsBelow n (symbolic_value old c incs (suc w) ss f).terms → TermsBelow n (cond t (var w) (symbolic_value old c incs (suc w) ss f)).terms
    by_test true g = (omega arith, tt)
    by_test false g = g

-- ---- an occurrence
module _ (i : ℕ) (a : GAction) (y : Symbolic) (b : SymbolicBelow y.next y) where
  first-steady : (t : Bool) (rest : List Item) → Steady (cond t (suc y.next) y.next) rest
      → Steady y.next (cond t (count_items a y.next ++ boolean (at_most (var y.next)) ∷ []) (boolean (named (is_done i)) ∷ []) ++ rest)
  first-steady false rest h = (tt, h)
  first-steady true rest h = (refl, ((plus (whole (pos 1)), tt), by_test (is_rollable a)))
    where
      own : y.next < suc y.next
      own = omega arith

      plus : (x : Fraction) → TermsBelow (suc y.next) (add (var y.next) (fixed x)).terms
      plus x = below-add (suc y.next) (var y.next) (fixed x) (own, tt) tt

      by_test : (r : Bool) → Steady (suc y.next) ((cond r [] (row (lit true (at_most (add (var y.next) (fixed (whole (negsuc 0))))) ∷ []) ∷ []) ++ boolean (at_most (var y.next)) ∷ []) ++ rest)
      by_test true = ((own, tt), h)
      by_test false = ((plus (whole (negsuc 0)), tt), ((own, tt), h))

  first_le : y.next ≤ first_set a y.next
  first_le = by_test (is_counted a)
    where
      by_test : (t : Bool) → y.next ≤ cond t (suc y.next) y.next
      by_test true = omega arith
      by_test false = omega arith

  on-below : LiteralBelow (first_set a y.next) (on_of i a y)
  on-below = by_test (is_counted a)
    where
      by_test : (t : Bool) → LiteralBelow (cond t (suc y.next) y.next) (cond t (lit false (at_most (var y.next))) (lit true (named (is_done i))))
      by_test true = (omega arith, tt)
      by_test false = tt

  counted_below : is_counted a ≡ true → y.next < first_set a y.next
  counted_below e = subst (λ (t : Bool). y.next < cond t (suc y.next) y.next) (sym e) (omega arith)

  occurrence-steady : (rest : List Item) → Steady (next_after a y.next) rest → Steady y.next (occurrence i a y ++ rest)
  occurrence-steady rest h =
      let n = first_set a y.next in
      let on = on_of i a y in
      let front = on_front i a y in
      let fb : AllByRecursion (LiteralBelow n) (on_front i a y) = (opposite-below n on on-below, tt) in
      let bn = symbolic-later y.next n first_le y b in
      let f = first_items i a y in
      let l = literal_rows front y a.lits in
      let c = comparison_rows front y a.cmps in
      let r = cond (is_rollable a) (last_rows front a.incs y a.cmps) [] in
      let t = truth_rows i on y (changes_of a) in
      let s = set_rows on y n a.sets in
      let o = needs (grown_ops y.next y.value a.incs) in
      let e : occurrence i a y ++ rest ≡ f ++ (l ++ (c ++ (r ++ (t ++ (s ++ o ∷ rest))))) =
      append_assoc f (l ++ (c ++ (r ++ (t ++ (s ++ o ∷ []))))) rest ∙ ap (λ (w : List Item). f ++ w) (append_assoc l (c ++ (r ++ (t ++ (s ++ o ∷ [])))) rest
      ∙ ap (λ (w : List Item). l ++ w) (append_assoc c (r ++ (t ++ (s ++ o ∷ []))) rest ∙ ap (λ (w : List Item). c ++ w) (append_assoc r (t ++ (s ++ o ∷ [])) rest
      ∙ ap (λ (w : List Item). r ++ w) (append_assoc t (s ++ o ∷ []) rest ∙ ap (λ (w : List Item). t ++ w) (append_assoc s (o ∷ []) rest))))) in
      subst (Steady y.next) (sym e)
      (first-steady (is_counted a) (l ++ (c ++ (r ++ (t ++ (s ++ o ∷ rest)))))
      (steady-rows n l (c ++ (r ++ (t ++ (s ++ o ∷ rest)))) (lits-below n front fb y bn a.lits)
      (steady-rows n c (r ++ (t ++ (s ++ o ∷ rest))) (cmps-below n front fb y bn a.cmps)
      (steady-rows n r (t ++ (s ++ o ∷ rest)) (roll (is_rollable a) refl fb bn)
      (steady-rows n t (s ++ o ∷ rest) (truths-below n i on on-below y bn (changes_of a))
      (sets-steady on y n a.sets (o ∷ rest) on-below bn (tt, h)))))))
    where
      roll : (k : Bool) → is_rollable a ≡ k → AllByRecursion (LiteralBelow (first_set a y.next)) (on_front i a y) → SymbolicBelow (first_set a y.next) y
          → RowsBelow (first_set a y.next) (cond k (last_rows (on_front i a y) a.incs y a.cmps) [])
      roll true e fb bn = rolled-below (first_set a y.next) (on_front i a y) fb y bn a.incs (counted_below (rollable-counts a e)) a.cmps
      roll false e fb bn = tt

  pub after-below : SymbolicBelow (next_after a y.next) (symbolic_after i a y)
  after-below = record {
    truth = λ p. literal-later (first_set a y.next) (next_after a y.next) (omega arith) (symbolic_truth i (on_of i a y) a y p)
        (symbolic_truth-below (first_set a y.next) i (on_of i a y) on-below y (symbolic-later y.next (first_set a y.next) first_le y b) a p);
    value = λ f. value-below y.value y.next a.incs (first_set a y.next) (next_after a y.next) a.sets f (omega arith) (grown_any (is_counted a) refl f);
  }
    where
      last_le : y.next ≤ next_after a y.next
      last_le = let l = first_le in omega arith

      none : (qs : Terms) → not (is_empty qs) ≡ false → (f : ℕ) (l : Linear) → TermsBelow (next_after a y.next) l.terms → TermsBelow (next_after a y.next) (grown y.next qs f l).terms
      none [] e f l h = h
      none (q ∷ qs) e f l h = absurd (cc)

      grown_any : (k : Bool) → is_counted a ≡ k → (f : ℕ) → TermsBelow (next_after a y.next) (grown y.next a.incs f (y.value f)).terms
      grown_any true e f = grown-below (next_after a y.next) y.next (let l = counted_below e in omega arith) a.incs f (y.value f) (terms-later y.next (next_after a y.next) last_le (y.value f).terms (b.value f))
      grown_any false e f = none a.incs e f (y.value f) (terms-later y.next (next_after a y.next) last_le (y.value f).terms (b.value f))

rows-nil : (xs : List Item) → xs ++ [] ≡ xs
rows-nil [] = refl
rows-nil (x ∷ xs) = ap (λ (w : List Item). x ∷ w) (rows-nil xs)

pub rows_from-steady : (i : ℕ) (places : List GAction) (goal : GAction) (y : Symbolic) → SymbolicBelow y.next y → Steady y.next (rows_from i places goal y)
rows_from-steady i [] goal y b = subst (Steady y.next) (rows-nil (goal_rows goal y)) (steady-rows y.next (goal_rows goal y) []
    (rows-append y.next (literal_rows [] y goal.lits) (comparison_rows [] y goal.cmps) (lits-below y.next [] tt y b goal.lits) (cmps-below y.next [] tt y b goal.cmps)) tt)
rows_from-steady i (a ∷ more) goal y b = occurrence-steady i a y b (rows_from (suc i) more goal (symbolic_after i a y)) (rows_from-steady (suc i) more goal (symbolic_after i a y) (after-below i a y b))

pub start-below : (s : State) → SymbolicBelow 0 (symbolic_start s)
start-below s = record { truth = λ p. by_truth (s.truth p); value = λ f. tt }
  where
    by_truth : (t : Bool) → LiteralBelow 0 (constant_literal t)
    by_truth true = tt
    by_truth false = tt

-- each row of the formula of n copies uses variables that are made before it, so it can be made item by item
pub rows-steady : (start : State) (goal : GAction) (places : List GAction) → Steady 0 (rows_of start goal places)
rows-steady start goal places = rows_from-steady 0 places goal (symbolic_start start) (start-below start)

pub rows-made : (start : State) (goal : GAction) (places : List GAction) → MakesFormula (rows_of start goal places)
rows-made start goal places = makes-formula (rows_of start goal places) (rows-steady start goal places)
