-- The multiples that Farkas' lemma takes, made and added in order.
use Rattle.std.proofs.Common.{◌≡◌, ◌<◌, ◌≤◌, ℕ, zero, suc, ◌+◌, Bool, true, false, not, ◌||◌, ◌&&◌, List, [], ◌∷◌, ◌++◌, map, length, drop, get_or, refl, sym, ap, ap₂, subst, ◌∙◌, arith, add-one}
use Rattle.std.specs.List.{list_any}
use Rattle.std.proofs.lemmas.List.{drop_all}
use lib.IntN.{pos}
use Rattle.algebra.proofs.Solve.{v, k, ◌⊕◌, ◌⊗◌, solve}
use Rattle.rational.specs.Fraction.{Fraction, whole, ◌+ℚ◌, ◌*ℚ◌}
use Rattle.rational.specs.Linear.{coefficient_of}
use Rattle.rational.specs.Farkas.{Row, total_coefficient, total_bound}
use Rattle.rational.proofs.FieldLaws.{fraction-ring}
use Rattle.frac128.specs.Operations.{Fits, Passes}
use Rattle.frac128.specs.declared.operations.Wide.{Wide}
use Rattle.frac128.specs.declared.operations.Op.TheVariants.{Add, Mul}
use Rattle.lin.specs.declared.failure.LinFail.{LinFail}
use Rattle.lin.specs.Linear.{Linear, fixed, add, scale}
use Rattle.lin.specs.Operations.{AllFit, IsFirstPassing, IsRefusal, adding, multiplying}
use Rattle.lin.specs.Made.{add_ops, scale_ops}
use Rattle.lin.proofs.Leading.{IsLeft, left-start, left-fits, left-all_fit, left-none, left-passes, left-first, refused_more}
use Rattle.lin.proofs.ValueLaws.{coefficient_add, coefficient_scale}
use Rattle.formula.specs.declared.atom.Constraint.{Constraint}
use Rattle.formula.specs.declared.atom.Lit.{Lit}
use Rattle.formula.specs.Contents.{Contents}
use Rattle.formula.specs.Reading.{reading_of, opposite}
use Rattle.formula.specs.Farkas.{Taken, taken, row_of, multiple_ops, farkas_ops, farkas_ops_from, is_positive}

-- ---- one multiple
module _ (s : Linear) (b : Fraction) (r : Constraint) (c : Fraction) where
  abbrev ops : List Wide
  ops = multiple_ops s b (r, c)

  abbrev last_two : List Wide
  last_two = multiplying c r.bound ∷ adding b (c *ℚ r.bound) ∷ []

  module _ (q : Linear) (h : AllFit (scale_ops c r.lin)) (e : q ≡ scale c r.lin) where
    scaled : IsLeft (add_ops s (scale c r.lin) ++ last_two) ops
    scaled = left-all_fit (scale_ops c r.lin) (add_ops s (scale c r.lin) ++ last_two) ops (left-start ops) h

    pub left_refused : (f : LinFail) → IsRefusal (add_ops s q) f → IsRefusal ops f
    left_refused f g = refused_more (add_ops s q) ops f (λ w d. left-first w (add_ops s (scale c r.lin)) last_two ops scaled (subst (λ (x : Linear). IsFirstPassing w (add_ops s x)) e d)) g

    module _ (m : Linear) (g : AllFit (add_ops s q)) (d : m ≡ add s q) where
      summed : IsLeft last_two ops
      summed = left-all_fit (add_ops s (scale c r.lin)) last_two ops scaled (subst (λ (x : Linear). AllFit (add_ops s x)) e g)

      pub product_passes : (w : Wide) → Passes Mul c r.bound → w ≡ multiplying c r.bound → IsFirstPassing w ops
      product_passes w p i = let P : Wide → Type 0 = λ o. IsFirstPassing o ops in subst P (sym i) (left-passes (multiplying c r.bound) _ ops summed p)

      module _ (x : Fraction) (j : Fits Mul c r.bound) (i : x ≡ c *ℚ r.bound) where
        multiplied : IsLeft (adding b (c *ℚ r.bound) ∷ []) ops
        multiplied = left-fits (multiplying c r.bound) _ ops summed j

        pub right_passes : (w : Wide) → Passes Add b x → w ≡ adding b x → IsFirstPassing w ops
        right_passes w p n =
            let P : Wide → Type 0 = λ o. IsFirstPassing o ops in
            subst P (sym (n ∙ ap (adding b) i)) (left-passes (adding b (c *ℚ r.bound)) [] ops multiplied (subst (λ (y : Fraction). Passes Add b y) i p))

        pub multiple_done : (y : Fraction) → Fits Add b x → y ≡ b +ℚ x
            → AllFit ops × (let p : Linear × Fraction = (m, y) in p ≡ (add s (scale c r.lin), b +ℚ c *ℚ r.bound))
        multiple_done y p n = (
          left-none ops (left-fits (adding b (c *ℚ r.bound)) [] ops multiplied (subst (λ (z : Fraction). Fits Add b z) i p)),
          ap₂ (λ (l : Linear) (z : Fraction). (l, z)) (d ∙ ap (add s) e) (n ∙ ap (λ (z : Fraction). b +ℚ z) i),
        )

-- ---- the literals with their coefficients
pub taken_length : (f : Contents) (ls : List Lit) (cs : List Fraction) → length cs ≡ length ls → length (taken f ls cs) ≡ length ls
taken_length f [] cs e = refl
taken_length f (l ∷ ls) [] e = absurd (omega arith)
taken_length f (l ∷ ls) (c ∷ cs) e = let h = taken_length f ls cs (omega arith) in omega arith

taken_at : (f : Contents) (ls : List Lit) (cs : List Fraction) (i : ℕ) (l : Lit) (c : Fraction) → length cs ≡ length ls → i < length ls → l ≡ get_or ls i l → c ≡ get_or cs i c
    → drop i (taken f ls cs) ≡ (reading_of f (opposite l), c) ∷ drop (suc i) (taken f ls cs)
taken_at f [] cs i l c e w g h = absurd (omega arith)
taken_at f (m ∷ ls) [] i l c e w g h = absurd (omega arith)
taken_at f (m ∷ ls) (d ∷ cs) zero l c e w g h = ap₂ (λ (x : Lit) (y : Fraction). (reading_of f (opposite x), y) ∷ taken f ls cs) (sym g) (sym h)
taken_at f (m ∷ ls) (d ∷ cs) (suc i) l c e w g h = taken_at f ls cs i l c (omega arith) (omega arith) g h

same_here : {X : Type 0} (xs : List X) (i : ℕ) (d : X) → i < length xs → get_or xs i d ≡ get_or xs i (get_or xs i d)
same_here [] i d w = absurd (omega arith)
same_here (x ∷ xs) zero d w = refl
same_here (x ∷ xs) (suc i) d w = same_here xs i d (omega arith)

-- what the code reads of the next literal
pub taken_next : (f : Contents) (ls : List Lit) (cs : List Fraction) (i : ℕ) (d o : Lit) (c : Fraction) (r : Constraint) → length cs ≡ length ls → i < length ls → c ≡ get_or cs i c
    → o.boolean ≡ (get_or ls i d).boolean → o.pos ≡ not (get_or ls i d).pos → r ≡ reading_of f o → drop i (taken f ls cs) ≡ (r, c) ∷ drop (i + 1) (taken f ls cs)
taken_next f ls cs i d o c r e w h p q j =
    let l = get_or ls i d in
    let n : r ≡ reading_of f (opposite l) = j ∙ ap₂ (λ (b : ℕ) (s : Bool). reading_of f (record { boolean = b; pos = s })) p q in
    taken_at f ls cs i l c e w (same_here ls i d w) h ∙ ap (λ (m : ℕ). (reading_of f (opposite l), c) ∷ drop m (taken f ls cs)) (sym (add-one i))
    ∙ ap (λ (x : Constraint). (x, c) ∷ drop (i + 1) (taken f ls cs)) (sym n)

-- ---- the sum so far
abbrev pub counts_strictly : Taken → Bool
counts_strictly t = t.0.strict && is_positive t.1

abbrev pub rows : List Taken → List Row
rows ts = map row_of ts

pub record IsSumming (ts : List Taken) (s : Linear) (b : Fraction) (strict : Bool) (i : ℕ) : Type 0 where
  pub left : IsLeft (farkas_ops_from s b (drop i ts)) (farkas_ops ts)
  pub coefficients : (n : ℕ) → coefficient_of n s.terms +ℚ total_coefficient n (rows (drop i ts)) ≡ total_coefficient n (rows ts)
  pub bound : b +ℚ total_bound (rows (drop i ts)) ≡ total_bound (rows ts)
  pub stricts : (strict || list_any counts_strictly (drop i ts)) ≡ list_any counts_strictly ts

pub summing-start : (ts : List Taken) (s : Linear) (b : Fraction) → s ≡ fixed (whole (pos 0)) → b ≡ whole (pos 0) → IsSumming ts s b false 0
summing-start ts s b e f = record {
  left = let P : List Wide → Type 0 = λ o. IsLeft o (farkas_ops ts) in subst P (sym (ap₂ (λ (x : Linear) (y : Fraction). farkas_ops_from x y ts) e f)) (left-start (farkas_ops ts));
  coefficients = λ n. ap (λ (x : Linear). coefficient_of n x.terms +ℚ total_coefficient n (rows ts)) e ∙ solve fraction-ring (k (pos 0) ⊕ v 0) (v 0) (total_coefficient n (rows ts) ∷ []) refl;
  bound = ap (λ (x : Fraction). x +ℚ total_bound (rows ts)) f ∙ solve fraction-ring (k (pos 0) ⊕ v 0) (v 0) (total_bound (rows ts) ∷ []) refl;
  stricts = refl;
}

or_assoc : (a b c : Bool) → ((a || b) || c) ≡ (a || (b || c))
or_assoc true b c = refl
or_assoc false b c = refl

module _ (ts : List Taken) (s : Linear) (b : Fraction) (strict : Bool) (i : ℕ) (r : Constraint) (c : Fraction) (n : drop i ts ≡ (r, c) ∷ drop (i + 1) ts) (h : IsSumming ts s b strict i) where
  abbrev rest : List Taken
  rest = drop (i + 1) ts

  ops-next : IsLeft (multiple_ops s b (r, c) ++ farkas_ops_from (add s (scale c r.lin)) (b +ℚ c *ℚ r.bound) rest) (farkas_ops ts)
  ops-next = let P : List Taken → Type 0 = λ us. IsLeft (farkas_ops_from s b us) (farkas_ops ts) in subst P n h.left

  pub summing-refused : (e : LinFail) → IsRefusal (multiple_ops s b (r, c)) e → IsRefusal (farkas_ops ts) e
  summing-refused e g = refused_more (multiple_ops s b (r, c)) (farkas_ops ts) e (λ w d. left-first w (multiple_ops s b (r, c)) _ (farkas_ops ts) ops-next d) g

  pub summing-next : (p : Linear × Fraction) (t : Bool) → AllFit (multiple_ops s b (r, c)) → p ≡ (add s (scale c r.lin), b +ℚ c *ℚ r.bound) → t ≡ (strict || (r.strict && is_positive c))
      → IsSumming ts p.0 p.1 t (i + 1)
  summing-next p t g e f =
      let P : Linear × Fraction → Type 0 = λ x. IsSumming ts x.0 x.1 t (i + 1) in
      subst P (sym e) (record {
        left = left-all_fit (multiple_ops s b (r, c)) _ (farkas_ops ts) ops-next g;
        coefficients = λ m.
            let T = total_coefficient m (rows rest) in
            ap (λ x. x +ℚ T) (coefficient_add m s (scale c r.lin) ∙ ap (λ x. coefficient_of m s.terms +ℚ x) (coefficient_scale m c r.lin))
            ∙ solve fraction-ring (v 0 ⊕ v 1 ⊗ v 2 ⊕ v 3) (v 0 ⊕ (v 1 ⊗ v 2 ⊕ v 3)) (coefficient_of m s.terms ∷ c ∷ coefficient_of m r.lin.terms ∷ T ∷ []) refl
            ∙ sym (ap (λ (us : List Taken). coefficient_of m s.terms +ℚ total_coefficient m (rows us)) n) ∙ h.coefficients m;
        bound =
            solve fraction-ring (v 0 ⊕ v 1 ⊗ v 2 ⊕ v 3) (v 0 ⊕ (v 1 ⊗ v 2 ⊕ v 3)) (b ∷ c ∷ r.bound ∷ total_bound (rows rest) ∷ []) refl
            ∙ sym (ap (λ (us : List Taken). b +ℚ total_bound (rows us)) n) ∙ h.bound;
        stricts = ap (λ (x : Bool). x || list_any counts_strictly rest) f ∙ or_assoc strict (r.strict && is_positive c) (list_any counts_strictly rest)
            ∙ sym (ap (λ (us : List Taken). strict || list_any counts_strictly us) n) ∙ h.stricts;
      })

-- the whole sum
pub record IsSum (ts : List Taken) (s : Linear) (b : Fraction) (strict : Bool) : Type 0 where
  pub fit : AllFit (farkas_ops ts)
  pub coefficients : (n : ℕ) → coefficient_of n s.terms ≡ total_coefficient n (rows ts)
  pub bound : b ≡ total_bound (rows ts)
  pub stricts : strict ≡ list_any counts_strictly ts

or-false : (a : Bool) → a ≡ (a || false)
or-false true = refl
or-false false = refl

pub summing-done : (ts : List Taken) (s : Linear) (b : Fraction) (strict : Bool) (i : ℕ) → length ts ≤ i → IsSumming ts s b strict i → IsSum ts s b strict
summing-done ts s b strict i l h =
    let e = drop_all i ts l in
    record {
      fit = let P : List Taken → Type 0 = λ us. IsLeft (farkas_ops_from s b us) (farkas_ops ts) in left-none (farkas_ops ts) (subst P e h.left);
      coefficients = λ n.
          solve fraction-ring (v 0) (v 0 ⊕ k (pos 0)) (coefficient_of n s.terms ∷ []) refl
          ∙ sym (ap (λ (us : List Taken). coefficient_of n s.terms +ℚ total_coefficient n (rows us)) e) ∙ h.coefficients n;
      bound = solve fraction-ring (v 0) (v 0 ⊕ k (pos 0)) (b ∷ []) refl ∙ sym (ap (λ (us : List Taken). b +ℚ total_bound (rows us)) e) ∙ h.bound;
      stricts = or-false strict ∙ sym (ap (λ (us : List Taken). strict || list_any counts_strictly us) e) ∙ h.stricts;
    }
