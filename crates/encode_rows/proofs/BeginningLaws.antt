-- What is made as an occurrence begins.
use Rattle.std.proofs.Common.{◌≡◌, ℕ, ◌+◌, ◌<◌, lit<, Bool, true, false, cond, List, [], ◌∷◌, ◌++◌, length, refl, sym, ap, subst, ◌∙◌, arith, length-append}
use Rattle.std.specs.Prelude.{Result, Ok, Err, IfOk}
use Rattle.std.specs.List.{All, Any}
use lib.IntN.{ℤ, pos, negsuc}
use Rattle.rational.specs.Fraction.{Fraction, whole, neg_ℚ, ◌/ℚ◌}
use Rattle.rational.specs.Linear.{Terms}
use Rattle.frac128.specs.Bounds.{IsWithin, IsPast}
use Rattle.frac128.specs.Operations.{Fits, Passes, named_numbers}
use Rattle.frac128.specs.declared.operations.Op.{Op}
use Rattle.frac128.proofs.Named.{whole_sum}
use Rattle.frac128.specs.declared.operations.Op.TheVariants.{Add}
use Rattle.frac128.specs.declared.operations.Wide.{Wide}
use Rattle.lin.specs.Linear.{Linear, AreBelow, fixed, var, add}
use Rattle.lin.specs.Made.{add_ops}
use Rattle.lin.specs.Operations.{AllFit, IsRefusal, AnswersInMemory}
use Rattle.lin.specs.declared.failure.LinFail.{LinFail}
use Rattle.lin.specs.declared.failure.LinFail.TheVariants as fail
use Rattle.task_core.specs.declared.action.GAction.{GAction}
use Rattle.formula.specs.Atoms.{is_one_count}
use Rattle.formula.specs.Contents.{Contents, with_variable}
use Rattle.encode_rows.specs.declared.clause.Truth.{Truth}
use Rattle.encode_laws.specs.Rows.{is_done, Fact, at_most, named, lit, Item, number, boolean, row}
use Rattle.encode_laws.specs.Numbering.{plain_at_most, is_positive}
use Rattle.encode_laws.specs.Symbolic.{is_counted, count_items}
use Rattle.encode_laws.specs.Made.{Made, put, made_from, TermsBelow}
use Rattle.encode_laws.proofs.Below.{below-add}
use Rattle.encode_laws.proofs.MadeLaws.{made-append}
use Rattle.task_core.specs.Step.{is_rollable}
use Rattle.encode_rows.specs.Literals.{LiteralAnswers}
use Rattle.encode_rows.specs.Standing.{Stands, Known, IsUndecided, Knows, signed_truth, opposite_truth, Makes}
use Rattle.encode_rows.specs.Symbols.{HasRow, PutsRow}
use Rattle.encode_rows.specs.Beginning.{IsStanding, AddsNumber, MakesSum, Bounds, MakesItems, least_row, most_rows, Happens, counted_items, BeginsCounted, BeginsNamed, Begins}
use Rattle.encode_rows.proofs.Standing.{makes_then, makes_stop, all_right, known-opposite, knows-opposite, counts-later}
use Rattle.encode_rows.proofs.LiteralLaws.{literal-makes, makes-drop}
use Rattle.encode_rows.proofs.ComparisonLaws.{below-test}

-- ---- a numeric variable
pub number-adds : (count : Bool) (old new : Contents) (v : ℕ) → v ≡ length old.counts → new ≡ with_variable count old → AddsNumber count old new (Ok v)
number-adds count old new v e g m n s = (
  (tt, record { contents = g ∙ ap (with_variable count) s.contents; plain = s.plain }),
  e ∙ ap (λ (f : Contents). length f.counts) s.contents,
)

-- ---- a bound
signed-known : (m : Made) (s : Bool) (x : Fact) (t : Truth) → Known m (lit true x) t → Known m (lit s x) (signed_truth s t)
signed-known m true x t h = h
signed-known m false x t h = known-opposite m (lit true x) t h

module _ (old mid : Contents) (s : Bool) (l : Linear) where
  pub bound-row : (t u : Truth) → IsStanding old → LiteralAnswers old false l mid (Ok t) → u ≡ signed_truth s t → HasRow mid (u ∷ [])
  bound-row t u h a e =
      let made = literal-makes h.made old mid false l (Ok t) h.stands a in
      record {
        made = put (boolean (at_most l)) h.made;
        literals = lit s (at_most l) ∷ [];
        stands = made.0.1;
        known = (subst (Known (put (boolean (at_most l)) h.made) (lit s (at_most l))) (sym e) (signed-known (put (boolean (at_most l)) h.made) s (at_most l) t made.1), tt);
      }

  pub bound-makes : {X : Type 0} (new : Contents) (t u : Truth) (r : Result X LinFail) → LiteralAnswers old false l mid (Ok t) → u ≡ signed_truth s t → PutsRow mid (u ∷ []) new r → Bounds old s l new r
  bound-makes new t u r a e p m st =
      let x = at_most l in
      let made = literal-makes m old mid false l (Ok t) st a in
      let known = subst (Known (put (boolean x) m) (lit s x)) (sym e) (signed-known (put (boolean x) m) s x t made.1) in
      makes-drop m [] s x refl refl new r
      (makes_then (boolean x ∷ []) (row (lit s x ∷ []) ∷ []) m new r made.0.0 (p (put (boolean x) m) (lit s x ∷ []) made.0.1 (known, tt)))

  pub bound-stops : (X : Type 0) (e : LinFail) → LiteralAnswers old false l mid (Err e) → Bounds {X = X} old s l mid (Err e)
  bound-stops X e a m st =
      let x = at_most l in
      let made = literal-makes m old mid false l (Err e) st a in
      makes-drop m [] s x refl refl {X = X} mid (Err e) (makes_stop Truth X (boolean x ∷ []) (row (lit s x ∷ []) ∷ []) m mid e made.0)

-- ---- sums that fit
past_within : (zs : List ℤ) → All IsWithin zs → Any IsPast zs → ⊥
past_within zs h (k, z, l, e, p) = let w = subst IsWithin e (h k z l) in omega (arith, w, p)

-- an operation that fits doesn't pass
pub fits-passes : (op : Op) (x y : Fraction) → Fits op x y → Passes op x y → ⊥
fits-passes op x y h p = past_within (named_numbers op x y) h p

-- nor does one of operations that all fit
pub fit-refused : (ops : List Wide) (e : LinFail) → AllFit ops → IsRefusal ops e → e ≡ fail.Memory
fit-refused ops fail.Memory f h = refl
fit-refused ops (fail.Wide w) f h =
    let g = subst AllFit h.place f in
    absurd (fits-passes w.op w.x w.y (all_right (λ o. Fits o.op o.x o.y) h.front (w ∷ h.behind) g).0 h.passes)

pub fits-one : Fits Add (whole (pos 0)) (whole (pos 1))
fits-one = (whole_sum (whole (pos 0)) (whole (pos 1)) (pos 1) refl refl refl (lit< tt) (lit< tt) (lit< tt)).0

pub fits-minus : Fits Add (whole (pos 0)) (whole (negsuc 0))
fits-minus = (whole_sum (whole (pos 0)) (whole (negsuc 0)) (negsuc 0) refl refl refl (lit< tt) (lit< tt) (lit< tt)).0

pub sum-made : (c : ℕ) (k : Fraction) (own : Linear) (r : Result Linear LinFail) → Fits Add (whole (pos 0)) k → own ≡ var c → AnswersInMemory (add_ops own (fixed k)) (add own (fixed k)) r → MakesSum c k r
sum-made c k own (Ok l) f e h = h.1 ∙ ap (λ (o : Linear). add o (fixed k)) e
sum-made c k own (Err g) f e h = fit-refused (add_ops (var c) (fixed k)) g (f, tt) (subst (λ (o : Linear). IsRefusal (add_ops o (fixed k)) g) e h)

-- ---- the literal that it happens
one_below : (c n : ℕ) → c < n → TermsBelow n (var c).terms
one_below c n l = (l, tt)

pub own-below : (c n : ℕ) (l : Linear) → l ≡ var c → c < n → AreBelow n l.terms
own-below c n l e h = subst (λ (w : Linear). AreBelow n w.terms) (sym e) (below-test n (var c).terms (one_below c n h))

pub sum-below : (c n : ℕ) (k : Fraction) (l : Linear) → l ≡ add (var c) (fixed k) → c < n → AreBelow n l.terms
sum-below c n k l e h = subst (λ (w : Linear). AreBelow n w.terms) (sym e) (below-test n (add (var c) (fixed k)).terms (below-add n (var c) (fixed k) (one_below c n h) tt))

undecided-by : (o s : Bool) (c : ℕ) (a : Fraction) (ts : Terms) (b : Fraction) (f : Fact) → IsUndecided (lit true f) (plain_at_most o s c a ts b)
undecided-by true true c a ts b f = tt
undecided-by true false c a ts b f = tt
undecided-by false true c a ts b f = tt
undecided-by false false c a ts b f = tt

module _ (old new : Contents) (c : ℕ) where
  happens-true : (t : Truth) (m : Made) → LiteralAnswers old false (var c) new (Ok t) → Stands m old → c < length m.counts → Knows (put (boolean (at_most (var c))) m) (lit true (at_most (var c))) t
  happens-true t m a s l = record {
    known = (literal-makes m old new false (var c) (Ok t) s a).1;
    undecided = undecided-by (is_one_count m.counts (var c).terms) (is_positive (whole (pos 1))) c (whole (pos 1)) (var c).terms (neg_ℚ (whole (pos 0)) /ℚ whole (pos 1)) (at_most (var c));
    below = one_below c (length m.counts) l;
  }

  pub happens-makes : (own : Linear) (t u : Truth) → own ≡ var c → LiteralAnswers old false own new (Ok t) → u ≡ opposite_truth t → Happens c old new (Ok u)
  happens-makes own t u e a g m s l =
      let b = subst (λ (w : Linear). LiteralAnswers old false w new (Ok t)) e a in (
        (literal-makes m old new false (var c) (Ok t) s b).0,
        subst (Knows (put (boolean (at_most (var c))) m) (lit false (at_most (var c)))) (sym g) (knows-opposite (put (boolean (at_most (var c))) m) (lit true (at_most (var c))) t (happens-true t m b s l)),
      )

  pub happens-stops : (own : Linear) (e : LinFail) → own ≡ var c → LiteralAnswers old false own new (Err e) → Happens c old new (Err e)
  happens-stops own f e a m s l = let b = subst (λ (w : Linear). LiteralAnswers old false w new (Err f)) e a in ((literal-makes m old new false (var c) (Err f) s b).0, tt)

-- ---- items that are made
pub standing-later : (items : List Item) (f g : Contents) (X : Type 0) (u : X) → IsStanding f → MakesItems {X = X} items f g (Ok u) → IsStanding g
standing-later items f g X u h p = record { made = made_from items h.made; stands = (p h.made h.stands).1 }

pub known-standing : (items : List Item) (f g : Contents) (X : Type 0) (u : X) (c : ℕ) → IsStanding f → MakesItems {X = X} items f g (Ok u) → c < length f.counts → c < length g.counts
known-standing items f g X u c h p l =
    let a : length f.counts ≡ length h.made.counts = ap (λ (k : Contents). length k.counts) h.stands.contents in
    let b : length g.counts ≡ length (made_from items h.made).counts = ap (λ (k : Contents). length k.counts) (p h.made h.stands).1.contents in
    let d = counts-later items h.made in
    omega arith

-- ---- an occurrence with a count
pub counted-unadded : (rolls : Bool) (old one : Contents) (e : LinFail) → AddsNumber true old one (Err e) → BeginsCounted rolls old one (Err e)
counted-unadded rolls old one e p m c s g =
    (makes_stop ℕ Truth (number c true ∷ []) ((least_row c ++ most_rows rolls c) ++ boolean (at_most (var c)) ∷ []) m one e (p m c s).0, tt)

module _ (rolls : Bool) (old one : Contents) (c : ℕ) (adds : AddsNumber true old one (Ok c)) where
  pub counted-standing : IsStanding old → IsStanding one
  counted-standing h = record { made = put (number 0 true) h.made; stands = (adds h.made 0 h.stands).0.1 }

  pub counted-known : IsStanding old → c < length one.counts
  counted-known h =
      let made = adds h.made 0 h.stands in
      let e : length one.counts ≡ length (h.made.counts ++ true ∷ []) = ap (λ (f : Contents). length f.counts) made.0.1.contents in
      let l : length (h.made.counts ++ true ∷ []) ≡ length h.made.counts + 1 = length-append {A = Bool} h.made.counts (true ∷ []) in
      let v : c ≡ length h.made.counts = made.1 in
      omega arith

  rest : List Item
  rest = most_rows rolls c ++ boolean (at_most (var c)) ∷ []

  by_number : (new : Contents) (r : Result Truth LinFail)
      → ((m : Made) → Stands m old → Makes (counted_items rolls c) m new r × IfOk r (Knows (made_from (counted_items rolls c) m) (lit false (at_most (var c)))))
      → BeginsCounted rolls old new r
  by_number new r h m n s e =
      subst (λ (k : ℕ). Makes (counted_items rolls k) m new r × IfOk r (Knows (made_from (counted_items rolls k) m) (lit false (at_most (var k))))) ((adds m c s).1 ∙ sym e) (h m s)

  pub counted-least : (two : Contents) (X : Type 0) (e : LinFail) → MakesItems {X = X} (least_row c) one two (Err e) → BeginsCounted rolls old two (Err e)
  unfolding rest
  counted-least two X e p = by_number two (Err e) (λ m s. (
    makes_then {X = Truth} (number c true ∷ []) (least_row c ++ rest) m two (Err e) (adds m c s).0.0
        (makes_stop X Truth (least_row c) rest (put (number c true) m) two e (p (put (number c true) m) (adds m c s).0.1)),
    tt,
  ))

  module _ (two : Contents) (X : Type 0) (u : X) (least : MakesItems {X = X} (least_row c) one two (Ok u)) where
    pub counted-most : (three : Contents) (e : LinFail) → MakesItems {X = X} (most_rows rolls c) two three (Err e) → BeginsCounted rolls old three (Err e)
    unfolding rest
    counted-most three e p = by_number three (Err e) (λ m s.
        let m1 = put (number c true) m in
        let a = least m1 (adds m c s).0.1 in (
          makes_then {X = Truth} (number c true ∷ []) (least_row c ++ rest) m three (Err e) (adds m c s).0.0
              (makes_then {X = Truth} (least_row c) rest m1 three (Err e) a.0
              (makes_stop X Truth (most_rows rolls c) (boolean (at_most (var c)) ∷ []) (made_from (least_row c) m1) three e (p (made_from (least_row c) m1) a.1))),
          tt,
        ))

    pub counted-makes : (three four : Contents) (r : Result Truth LinFail) → MakesItems {X = X} (most_rows rolls c) two three (Ok u) → Happens c three four r → BeginsCounted rolls old four r
    unfolding rest
    counted-makes three four r p h = by_number four r (λ m s.
        let m1 = put (number c true) m in
        let a = least m1 (adds m c s).0.1 in
        let m2 = made_from (least_row c) m1 in
        let b = p m2 a.1 in
        let m3 = made_from (most_rows rolls c) m2 in
        let v : c ≡ length m.counts = (adds m c s).1 in
        let l1 : length m1.counts ≡ length m.counts + 1 = length-append {A = Bool} m.counts (true ∷ []) in
        let l2 = counts-later (least_row c) m1 in
        let l3 = counts-later (most_rows rolls c) m2 in
        let known : c < length m3.counts = omega arith in
        let d = h m3 b.1 known in (
          makes_then (number c true ∷ []) (least_row c ++ rest) m four r (adds m c s).0.0
              (makes_then (least_row c) rest m1 four r a.0 (makes_then (most_rows rolls c) (boolean (at_most (var c)) ∷ []) m2 four r b.0 d.0)),
          subst (λ (k : Made). IfOk r (Knows k (lit false (at_most (var c))))) (sym (made-append (most_rows rolls c) (boolean (at_most (var c)) ∷ []) m2)) d.1,
        ))

-- ---- by the kind of occurrence
module _ (a : GAction) (old new : Contents) (r : Result Truth LinFail) where
  pub begins-counted : is_counted a ≡ true → BeginsCounted (is_rollable a) old new r → Begins a old new r
  begins-counted e h m i y s n k =
      subst (λ (b : Bool). Makes (cond b (count_items a y.next ++ boolean (at_most (var y.next)) ∷ []) (boolean (named (is_done i)) ∷ [])) m new r
      × IfOk r (Knows (made_from (cond b (count_items a y.next ++ boolean (at_most (var y.next)) ∷ []) (boolean (named (is_done i)) ∷ [])) m) (cond b (lit false (at_most (var y.next))) (lit true (named (is_done i))))))
      (sym e) (h m y.next s n)

  pub begins-named : is_counted a ≡ false → BeginsNamed old new r → Begins a old new r
  begins-named e h m i y s n k =
      subst (λ (b : Bool). Makes (cond b (count_items a y.next ++ boolean (at_most (var y.next)) ∷ []) (boolean (named (is_done i)) ∷ [])) m new r
      × IfOk r (Knows (made_from (cond b (count_items a y.next ++ boolean (at_most (var y.next)) ∷ []) (boolean (named (is_done i)) ∷ [])) m) (cond b (lit false (at_most (var y.next))) (lit true (named (is_done i))))))
      (sym e) (h m (is_done i) s k)
