-- What the comparisons of a rollable action make at its last repetition.
use Rattle.std.proofs.Common.{◌≡◌, ◌≢◌, ℕ, zero, suc, ◌+◌, ◌<◌, ◌≤◌, Bool, true, false, cond, List, [], ◌∷◌, ◌++◌, length, drop, refl, sym, ap, subst, ◌∙◌, nat_eq, nat_le, arith}
use Rattle.std.specs.Prelude.{Some, Result, Ok, Err, ⊤, slice_get}
use Rattle.std.proofs.lemmas.Bool.{eq-eqb}
use Rattle.std.proofs.lemmas.Bool.Decides.{nat_tests}
use Rattle.std.proofs.Math.ListN.{drop_of_length-le}
use lib.IntN.{ℤ, pos, negsuc}
use Rattle.algebra.proofs.Solve.{v as at_place, k as number, ◌⊕◌, ◌⊗◌, solve}
use Rattle.rational.specs.Fraction.{Fraction, whole, neg_ℚ, ◌+ℚ◌, ◌*ℚ◌}
use Rattle.rational.specs.Linear.{Terms, coefficient_of}
use Rattle.rational.proofs.FieldLaws.{fraction-ring, zero_num}
use Rattle.frac128.specs.Operations.{Fits, Answers}
use Rattle.frac128.specs.declared.operations.Op.TheVariants.{Add, Mul}
use Rattle.frac128.specs.declared.operations.Wide.{Wide}
use Rattle.lin.specs.Normal.{is_zero_ℤ, is_zero, is_normal_from}
use Rattle.lin.specs.Linear.{Linear, AreBelow, replacement_of, fixed, var, add, scale, subst as substituted}
use Rattle.lin.specs.Made.{add_ops, scale_ops, subst_ops}
use Rattle.lin.specs.Operations.{AllFit, IsFirstPassing, IsRefusal, AnswersInOrder, AnswersInMemory, adding, multiplying}
use Rattle.lin.specs.declared.failure.LinFail.{LinFail}
use Rattle.lin.specs.declared.failure.LinFail.TheVariants as fail
use Rattle.lin.specs.declared.comparison.Cmp.{Cmp}
use Rattle.lin.proofs.Merging.{normal_parts}
use Rattle.lin.proofs.Leading.{IsLeft, left-start, left-all_fit, left-first, left-none}
use Rattle.task_core.specs.Growth.{change_of}
use Rattle.formula.specs.Contents.{Contents}
use Rattle.encode_rows.specs.declared.clause.Truth.{Truth}
use Rattle.encode_rows.specs.declared.symbols.Symbols.{Symbols}
use Rattle.encode_laws.specs.Rows.{Literal, Item, needs}
use Rattle.encode_laws.specs.Operations.{change_ops_from, change_ops, at_last, at_last_ops}
use Rattle.encode_laws.specs.Symbolic.{Symbolic, compared_rows}
use Rattle.encode_laws.specs.Made.{made_from}
use Rattle.encode_laws.proofs.Below.{below-add, below-scale}
use Rattle.encode_rows.specs.Standing.{Makes}
use Rattle.encode_rows.specs.Symbols.{HasState, ComparesAs, MakesRows}
use Rattle.encode_rows.specs.Lasting.{amount_ops, changed_row, last_row, IsReplaced}
use Rattle.encode_rows.proofs.Passing.{passes-first, passes-behind, answers-behind, refused-behind, refused-before}
use Rattle.encode_rows.proofs.Standing.{makes_then, makes_stop, counts-later}
use Rattle.encode_rows.proofs.BeginningLaws.{fit-refused}
use Rattle.encode_rows.proofs.ComparisonLaws.{below-test, test-below, needs-fit, needs-stop, subst-below}

-- ---- the coefficient of a variable
absent : (v least : ℕ) (ts : Terms) → is_normal_from least ts ≡ true → v < least → coefficient_of v ts ≡ whole (pos 0)
absent v least [] n l = refl
absent v least (t ∷ ts) n l =
    let p = normal_parts least t ts n in
    let low = at_most least t.0 p.low in
    let further : v < t.0 = omega arith in
    ap (λ (b : Bool). cond b t.1 (whole (pos 0)) +ℚ coefficient_of v ts) (apart t.0 further)
    ∙ ap (λ (x : Fraction). whole (pos 0) +ℚ x) (absent v (suc t.0) ts p.rest (omega arith)) ∙ solve fraction-ring (number (pos 0) ⊕ number (pos 0)) (number (pos 0)) [] refl
  where
    at_most : (m n : ℕ) → nat_le m n ≡ true → m ≤ n
    at_most m n e = grind (arith, nat_tests)

    apart : (n : ℕ) → v < n → nat_eq n v ≡ false
    apart n l = grind (arith, nat_tests)

above : (least : ℕ) (ts : Terms) (i : ℕ) (t : ℕ × Fraction) → is_normal_from least ts ≡ true → slice_get ts i ≡ Some t → least ≤ t.0
above least [] i t n e = absurd (cc)
above least (u ∷ us) zero t n e =
    let same : u ≡ t = cc in
    let p = normal_parts least u us n in
    subst (λ (w : ℕ × Fraction). least ≤ w.0) same (at_most least u.0 p.low)
  where
    at_most : (m n : ℕ) → nat_le m n ≡ true → m ≤ n
    at_most m n e = grind (arith, nat_tests)
above least (u ∷ us) (suc i) t n e =
    let p = normal_parts least u us n in
    let l = at_most least u.0 p.low in
    let h = above (suc u.0) us i t p.rest e in
    omega arith
  where
    at_most : (m n : ℕ) → nat_le m n ≡ true → m ≤ n
    at_most m n e = grind (arith, nat_tests)

coefficient-apart : (v : ℕ) (t : ℕ × Fraction) (ts : Terms) → t.0 ≢ v → coefficient_of v (t ∷ ts) ≡ coefficient_of v ts
coefficient-apart v t ts h =
    ap (λ (b : Bool). cond b t.1 (whole (pos 0)) +ℚ coefficient_of v ts) (apart t.0 h)
    ∙ solve fraction-ring (number (pos 0) ⊕ at_place 0) (at_place 0) (coefficient_of v ts ∷ []) refl
  where
    apart : (n : ℕ) → n ≢ v → nat_eq n v ≡ false
    apart n l = grind (arith, nat_tests)

-- a term of normal terms has the coefficient of its variable
pub coefficient-found : (least v : ℕ) (ts : Terms) (i : ℕ) (t : ℕ × Fraction) → is_normal_from least ts ≡ true → slice_get ts i ≡ Some t → t.0 ≡ v → t.1 ≡ coefficient_of v ts
coefficient-found least v [] i t n e f = absurd (cc)
coefficient-found least v (u ∷ us) zero t n e f =
    let same : u ≡ t = cc in
    let p = normal_parts least u us n in
    let here : u.0 ≡ v = ap (λ (w : ℕ × Fraction). w.0) same ∙ f in
    sym (ap (λ (b : Bool). cond b u.1 (whole (pos 0)) +ℚ coefficient_of v us) (eq-eqb u.0 v here)
    ∙ ap (λ (x : Fraction). u.1 +ℚ x) (absent v (suc u.0) us p.rest (omega arith)) ∙ solve fraction-ring (at_place 0 ⊕ number (pos 0)) (at_place 0) (u.1 ∷ []) refl ∙ ap (λ (w : ℕ × Fraction). w.1) same)
coefficient-found least v (u ∷ us) (suc i) t n e f =
    let p = normal_parts least u us n in
    let l = above (suc u.0) us i t p.rest e in
    coefficient-found (suc u.0) v us i t p.rest e f ∙ sym (coefficient-apart v u us (omega arith))

drop-got : {X : Type 0} (xs : List X) (i : ℕ) (x : X) → slice_get xs i ≡ Some x → drop i xs ≡ x ∷ drop (suc i) xs
drop-got [] i x e = absurd (cc)
drop-got (y ∷ ys) zero x e = let same : y ≡ x = cc in ap (λ z. z ∷ ys) same
drop-got (y ∷ ys) (suc i) x e = drop-got ys i x e

pub coefficient-passed : (v : ℕ) (ts : Terms) (i : ℕ) (t : ℕ × Fraction) → slice_get ts i ≡ Some t → t.0 ≢ v → coefficient_of v (drop i ts) ≡ coefficient_of v ts → coefficient_of v (drop (i + 1) ts) ≡ coefficient_of v ts
coefficient-passed v ts i t e h g =
    let s : i + 1 ≡ suc i = omega arith in
    ap (λ (j : ℕ). coefficient_of v (drop j ts)) s ∙ sym (coefficient-apart v t (drop (suc i) ts) h) ∙ ap (coefficient_of v) (sym (drop-got ts i t e)) ∙ g

pub coefficient-none : (v : ℕ) (ts : Terms) (i : ℕ) (x : Fraction) → length ts ≤ i → coefficient_of v (drop i ts) ≡ coefficient_of v ts → x ≡ whole (pos 0) → x ≡ coefficient_of v ts
coefficient-none v ts i x l g e = e ∙ sym (ap (coefficient_of v) (drop_of_length-le ts l)) ∙ g

-- ---- what an increment adds
zero_fraction : (x : Fraction) → is_zero x ≡ true → x ≡ whole (pos 0)
zero_fraction x e = zero_num x (by_sign x.num e)
  where
    by_sign : (z : ℤ) → is_zero_ℤ z ≡ true → z ≡ pos 0
    by_sign (pos zero) e = refl
    by_sign (pos (suc n)) e = absurd (cc)
    by_sign (negsuc n) e = absurd (cc)

pub amount-zero : (s c q : Fraction) → is_zero c ≡ true → AnswersInOrder (amount_ops s c q) (s +ℚ c *ℚ q) (Ok s)
amount-zero s c q e = (
  subst AllFit (sym (ap (λ (b : Bool). cond b [] (multiplying c q ∷ adding s (c *ℚ q) ∷ [])) e)) tt,
  sym (ap (λ (x : Fraction). s +ℚ x *ℚ q) (zero_fraction c e) ∙ solve fraction-ring (at_place 0 ⊕ number (pos 0) ⊗ at_place 1) (at_place 0) (s ∷ q ∷ []) refl),
)

amount-ops : (s c q : Fraction) → is_zero c ≡ false → amount_ops s c q ≡ multiplying c q ∷ adding s (c *ℚ q) ∷ []
amount-ops s c q h = ap (λ (b : Bool). cond b [] (multiplying c q ∷ adding s (c *ℚ q) ∷ [])) h

pub amount-passes : (s c q : Fraction) (w : Wide) → is_zero c ≡ false → Answers Mul c q (Err w) → IsFirstPassing w (amount_ops s c q)
amount-passes s c q w h a = subst (IsFirstPassing w) (sym (amount-ops s c q h)) (passes-first Mul c q c q w (adding s (c *ℚ q) ∷ []) refl refl a.0 a.1)

pub amount-added : (s c q p : Fraction) (r : Result Fraction Wide) → is_zero c ≡ false → Answers Mul c q (Ok p) → Answers Add s p r → AnswersInOrder (amount_ops s c q) (s +ℚ c *ℚ q) r
amount-added s c q p (Ok n) h a b = (
  subst AllFit (sym (amount-ops s c q h)) (a.0, (subst (Fits Add s) a.1 b.0, tt)),
  b.1 ∙ ap (λ (x : Fraction). s +ℚ x) a.1,
)
amount-added s c q p (Err w) h a b =
    subst (IsFirstPassing w) (sym (amount-ops s c q h))
    (passes-behind (multiplying c q ∷ []) (adding s (c *ℚ q) ∷ []) w (a.0, tt) (passes-first Add s (c *ℚ q) s p w [] refl a.1 b.0 b.1))

-- ---- the change per repetition, increment by increment
change-cons : (s : Fraction) (ts : Terms) (q : ℕ × Fraction) (qs : Terms)
    → change_ops_from s ts (q ∷ qs) ≡ amount_ops s (coefficient_of q.0 ts) q.1 ++ change_ops_from (s +ℚ coefficient_of q.0 ts *ℚ q.1) ts qs
change-cons s ts q qs = by_test (is_zero (coefficient_of q.0 ts)) refl
  where
    by_test : (b : Bool) → is_zero (coefficient_of q.0 ts) ≡ b
        → cond b (change_ops_from s ts qs) (multiplying (coefficient_of q.0 ts) q.1 ∷ adding s (coefficient_of q.0 ts *ℚ q.1) ∷ change_ops_from (s +ℚ coefficient_of q.0 ts *ℚ q.1) ts qs)
        ≡ cond b [] (multiplying (coefficient_of q.0 ts) q.1 ∷ adding s (coefficient_of q.0 ts *ℚ q.1) ∷ []) ++ change_ops_from (s +ℚ coefficient_of q.0 ts *ℚ q.1) ts qs
    by_test true e = ap (λ (y : Fraction). change_ops_from y ts qs) (sym (ap (λ (y : Fraction). s +ℚ y *ℚ q.1) (zero_fraction (coefficient_of q.0 ts) e) ∙ solve fraction-ring (at_place 0 ⊕ number (pos 0) ⊗ at_place 1) (at_place 0) (s ∷ q.1 ∷ []) refl))
    by_test false e = refl

pub record Changing (incs : Terms) (l : Linear) (sum : Fraction) (i : ℕ) : Type 0 where
  pub left : IsLeft (change_ops_from sum l.terms (drop i incs)) (change_ops incs l)
  pub value : sum +ℚ change_of (drop i incs) l.terms ≡ change_of incs l.terms

module _ (incs : Terms) (l : Linear) where
  pub changing-start : (zero : Fraction) → zero ≡ whole (pos 0) → Changing incs l zero 0
  changing-start z e = subst (λ (x : Fraction). Changing incs l x 0) (sym e) (record {
    left = left-start (change_ops incs l);
    value = solve fraction-ring (number (pos 0) ⊕ at_place 0) (at_place 0) (change_of incs l.terms ∷ []) refl;
  })

  module _ (s x : Fraction) (i : ℕ) (q : ℕ × Fraction) (at : drop i incs ≡ q ∷ drop (i + 1) incs) (h : Changing incs l s i) (e : x ≡ coefficient_of q.0 l.terms) where
    opened : IsLeft (amount_ops s x q.1 ++ change_ops_from (s +ℚ x *ℚ q.1) l.terms (drop (i + 1) incs)) (change_ops incs l)
    opened =
        subst (λ (y : Fraction). IsLeft (amount_ops s y q.1 ++ change_ops_from (s +ℚ y *ℚ q.1) l.terms (drop (i + 1) incs)) (change_ops incs l)) (sym e)
        (subst (λ (os : List Wide). IsLeft os (change_ops incs l)) (ap (change_ops_from s l.terms) at ∙ change-cons s l.terms q (drop (i + 1) incs)) h.left)

    pub changing-next : (n : Fraction) → AnswersInOrder (amount_ops s x q.1) (s +ℚ x *ℚ q.1) (Ok n) → Changing incs l n (i + 1)
    changing-next n a = subst (λ (y : Fraction). Changing incs l y (i + 1)) (sym a.1) (record {
      left = left-all_fit (amount_ops s x q.1) _ _ opened a.0;
      value =
          ap (λ (y : Fraction). s +ℚ y *ℚ q.1 +ℚ change_of (drop (i + 1) incs) l.terms) e
          ∙ solve fraction-ring (at_place 0 ⊕ at_place 1 ⊗ at_place 2 ⊕ at_place 3) (at_place 0 ⊕ (at_place 2 ⊗ at_place 1 ⊕ at_place 3)) (s ∷ coefficient_of q.0 l.terms ∷ q.1 ∷ change_of (drop (i + 1) incs) l.terms ∷ []) refl
          ∙ ap (λ (qs : Terms). s +ℚ change_of qs l.terms) (sym at) ∙ h.value;
    })

    pub changing-stop : (w : Wide) → IsFirstPassing w (amount_ops s x q.1) → IsFirstPassing w (change_ops incs l)
    changing-stop w a = left-first w (amount_ops s x q.1) _ _ opened a

  pub changing-end : (s : Fraction) (i : ℕ) → length incs ≤ i → Changing incs l s i → AnswersInOrder (change_ops incs l) (change_of incs l.terms) (Ok s)
  changing-end s i b h =
      let e = drop_of_length-le incs b in (
        left-none (change_ops incs l) (subst (λ (qs : Terms). IsLeft (change_ops_from s l.terms qs) (change_ops incs l)) e h.left),
        sym (ap (λ (qs : Terms). s +ℚ change_of qs l.terms) e ∙ solve fraction-ring (at_place 0 ⊕ number (pos 0)) (at_place 0) (s ∷ []) refl) ∙ h.value,
      )

-- ---- l + d * c - d
module _ (d : Fraction) (c : ℕ) (l own : Linear) (p : own ≡ var c) where
  own-fits : AllFit (scale_ops d own) → AllFit (scale_ops d (var c))
  own-fits f = subst (λ (w : Linear). AllFit (scale_ops d w)) p f

  pub last-refused-1 : (e : LinFail) → IsRefusal (scale_ops d own) e → IsRefusal (at_last_ops d c l) e
  last-refused-1 e h = refused-before (scale_ops d (var c)) _ e (subst (λ (w : Linear). IsRefusal (scale_ops d w) e) p h)

  module _ (growth : Linear) (q : AllFit (scale_ops d own) × (growth ≡ scale d own)) where
    growth-is : growth ≡ scale d (var c)
    growth-is = q.1 ∙ ap (scale d) p

    pub last-refused-2 : (e : LinFail) → IsRefusal (add_ops l growth) e → IsRefusal (at_last_ops d c l) e
    last-refused-2 e h =
        refused-behind (scale_ops d (var c)) _ e (own-fits q.0) (refused-before (add_ops l (scale d (var c))) _ e (subst (λ (w : Linear). IsRefusal (add_ops l w) e) growth-is h))

    pub last-made : (grown fix : Linear) (r : Result Linear LinFail) → AllFit (add_ops l growth) × (grown ≡ add l growth) → fix ≡ fixed (neg_ℚ d) → AnswersInMemory (add_ops grown fix) (add grown fix) r
        → AnswersInMemory (at_last_ops d c l) (at_last d c l) r
    last-made grown fix r g f a =
        let e : grown ≡ add l (scale d (var c)) = g.1 ∙ ap (add l) growth-is in
        answers-behind (scale_ops d (var c)) _ (at_last d c l) r (own-fits q.0)
        (answers-behind (add_ops l (scale d (var c))) _ (at_last d c l) r (subst (λ (w : Linear). AllFit (add_ops l w)) growth-is g.0)
        (subst (λ (w : Linear). AnswersInMemory (add_ops w (fixed (neg_ℚ d))) (add w (fixed (neg_ℚ d))) r) e (subst (λ (w : Linear). AnswersInMemory (add_ops grown w) (add grown w) r) f a)))

-- ---- a comparison that changes
module _ (old new : Contents) (s : Symbols) (front : Truth) (d : Fraction) (c : ℕ) (k : Linear × Cmp) where
  pub changed-memory : (X : Type 0) (e : LinFail) → IsReplaced s k → IsRefusal (subst_ops (replacement_of s.values) k.0) e → MakesRows {X = X} old s front (changed_row d c k) old (Err e)
  changed-memory X e f h m l y st kn sh =
      subst (λ (g : LinFail). Makes {X = X} (changed_row d c k l y) m old (Err g)) (sym (fit-refused (subst_ops (replacement_of s.values) k.0) e f h)) tt

  module _ (l : Linear) (i : l ≡ substituted (replacement_of s.values) k.0) where
    pub changed-stops : (X : Type 0) (e : LinFail) → IsRefusal (at_last_ops d c l) e → MakesRows {X = X} old s front (changed_row d c k) old (Err e)
    changed-stops X e h m f y st kn sh =
        let g : l ≡ substituted y.value k.0 = i ∙ ap (λ (of : ℕ → Linear). substituted of k.0) (sym sh.values) in
        makes_stop X X (needs (at_last_ops d c (substituted y.value k.0)) ∷ []) (compared_rows (f ∷ []) k.1 (at_last d c (substituted y.value k.0))) m old e
        (needs-stop m old (at_last_ops d c (substituted y.value k.0)) X e st (subst (λ (w : Linear). IsRefusal (at_last_ops d c w) e) g h))

    pub changed-makes : {X : Type 0} (last : Linear) (r : Result X LinFail) → AllFit (at_last_ops d c l) × (last ≡ at_last d c l) → ComparesAs old front last k.1 new r → MakesRows old s front (changed_row d c k) new r
    changed-makes last r h a m f y st kn sh =
        let g : l ≡ substituted y.value k.0 = i ∙ ap (λ (of : ℕ → Linear). substituted of k.0) (sym sh.values) in
        makes_then (needs (at_last_ops d c (substituted y.value k.0)) ∷ []) (compared_rows (f ∷ []) k.1 (at_last d c (substituted y.value k.0))) m new r
        (needs-fit m old (at_last_ops d c (substituted y.value k.0)) ⊤ tt st (subst (λ (w : Linear). AllFit (at_last_ops d c w)) g h.0)).0
        (subst (λ (w : Linear). Makes (compared_rows (f ∷ []) k.1 w) m new r) (h.1 ∙ ap (at_last d c) g) (a m f st kn))

    pub changed-below : (last : Linear) → HasState old s front → c < length old.counts → last ≡ at_last d c l → AreBelow (length old.counts) last.terms
    changed-below last h b e =
        let n = length old.counts in
        let lb = test-below (length old.counts) l.terms (subst-below old s front k.0 l h i) in
        subst (λ (w : Linear). AreBelow (length old.counts) w.terms) (sym e)
        (below-test (length old.counts) (at_last d c l).terms
        (below-add n (add l (scale d (var c))) (fixed (neg_ℚ d)) (below-add n l (scale d (var c)) lb (below-scale n d (var c) (b, tt))) tt))

-- ---- a comparison at the last repetition
module _ (old : Contents) (s : Symbols) (front : Truth) (incs : Terms) (c : ℕ) (k : Linear × Cmp) where
  pub last-stops : (X : Type 0) (w : Wide) → IsFirstPassing w (change_ops incs k.0) → MakesRows {X = X} old s front (last_row incs c k) old (Err (fail.Wide w))
  last-stops X w h m f y st kn sh =
      makes_stop X X (needs (change_ops incs k.0) ∷ []) (cond (is_zero (change_of incs k.0.terms)) [] (changed_row (change_of incs k.0.terms) c k f y)) m old (fail.Wide w)
      (needs-stop m old (change_ops incs k.0) X (fail.Wide w) st h)

  module _ (d : Fraction) (a : AllFit (change_ops incs k.0) × (d ≡ change_of incs k.0.terms)) where
    pub last-unchanged : (X : Type 0) (u : X) → is_zero d ≡ true → MakesRows {X = X} old s front (last_row incs c k) old (Ok u)
    last-unchanged X u z m f y st kn sh =
        subst (λ (b : Bool). Makes {X = X} (needs (change_ops incs k.0) ∷ cond b [] (changed_row (change_of incs k.0.terms) c k f y)) m old (Ok u))
        (sym (ap is_zero (sym a.1) ∙ z)) (needs-fit m old (change_ops incs k.0) X u st a.0)

    pub last-changed : {X : Type 0} (new : Contents) (r : Result X LinFail) → is_zero d ≡ false → MakesRows old s front (changed_row d c k) new r → MakesRows old s front (last_row incs c k) new r
    last-changed new r z p m f y st kn sh =
        subst (λ (b : Bool). Makes (needs (change_ops incs k.0) ∷ cond b [] (changed_row (change_of incs k.0.terms) c k f y)) m new r)
        (sym (ap is_zero (sym a.1) ∙ z))
        (makes_then (needs (change_ops incs k.0) ∷ []) (changed_row (change_of incs k.0.terms) c k f y) m new r (needs-fit m old (change_ops incs k.0) ⊤ tt st a.0).0
        (subst (λ (x : Fraction). Makes (changed_row x c k f y) m new r) a.1 (p m f y st kn sh)))

-- ---- what is known of the formula stays
pub state-known : (f g : Contents) (s : Symbols) (front : Truth) (rows : Literal → Symbolic → List Item) (X : Type 0) (u : X) (c : ℕ) → HasState f s front → MakesRows {X = X} f s front rows g (Ok u)
    → c < length f.counts → c < length g.counts
state-known f g s front rows X u c h p l =
    let items = rows h.literal h.symbolic in
    let a : length f.counts ≡ length h.made.counts = ap (λ (w : Contents). length w.counts) h.stands.contents in
    let b : length g.counts ≡ length (made_from (rows h.literal h.symbolic) h.made).counts = ap (λ (w : Contents). length w.counts) (p h.made h.literal h.symbolic h.stands h.knows h.shows).1.contents in
    let d = counts-later items h.made in
    omega arith
