-- The bound that the code makes is the literal of its comparison.
use Rattle.std.proofs.Common.{◌≡◌, ◌≢◌, ◌<◌, ℕ, Bool, true, false, not, cond, List, [], ◌∷◌, length, refl, sym, ap, subst, ◌∙◌, nat_lt, arith}
use Rattle.std.specs.Prelude.{Option, Some, None, Result, Ok, Err, slice_get, unwrap_or}
use Rattle.std.proofs.lemmas.List.{append-nil}
use Rattle.std.proofs.lemmas.Bool.{and_parts, and_from}
use Rattle.std.proofs.lemmas.Bool.Decides.{nat_tests}
use lib.IntN.{pos}
use Rattle.rational.specs.Fraction.{Fraction, whole, neg_ℚ, inv_ℚ, ◌/ℚ◌}
use Rattle.rational.specs.Floor.{IsWhole}
use Rattle.rational.specs.Linear.{Terms}
use Rattle.frac128.specs.declared.operations.Wide.{Wide}
use Rattle.lin.specs.Normal.{IsNormal, is_zero_ℤ, is_zero, collected}
use Rattle.lin.specs.Linear.{Linear, AreBelow, linear_of, times, var, fixed, add, scale}
use Rattle.lin.specs.Code.{same_linear}
use Rattle.lin.specs.declared.failure.LinFail.{LinFail}
use Rattle.lin.specs.Operations.{AllFit, IsRefusal}
use Rattle.lin.proofs.Merging.{normal_parts, collected-normal}
use Rattle.formula.specs.declared.atom.Atom.{Atom}
use Rattle.formula.specs.Atoms.{is_one_count, LeadsWithOne, IsAtom}
use Rattle.formula.proofs.Splits.{split_is_atom}
use Rattle.encode_rows.specs.declared.bound.Bound.{Bound}
use Rattle.encode_rows.specs.declared.bound.Bound.TheVariants.{Always, Never, Of}
use Rattle.encode_laws.specs.Numbering.{atom, Plain, of, constant_plain, is_positive, divided, linear_atom, plain_at_most, plain_below, at_most_terms, below_terms}
use Rattle.encode_laws.specs.Refusals.{quotient_ops, bound_ops_of, bound_ops}
use Rattle.encode_rows.specs.Bounds.{rounded, plain_of, HasAtom, constant_compared, rounds_down, count_ops, count_bound, CountAnswers, linear_bound, LinearAnswers, BoundAnswers}
use Rattle.encode_laws.proofs.Quotients.{is_zero-false, divided-normal, times-divided, no_constant, itself}
use Rattle.encode_laws.proofs.TableLaws.{one_count-quotient}

-- ---- by the signs
count_cases : (strict s : Bool) (c : ℕ) (a : Fraction) (ts : Terms) (b : Fraction)
    → of s (atom (record { lin = var c; strict = false; bound = rounded (cond strict (not s) s) b })) ≡ cond strict (plain_below true s c a ts b) (plain_at_most true s c a ts b)
count_cases true true c a ts b = refl
count_cases true false c a ts b = refl
count_cases false true c a ts b = refl
count_cases false false c a ts b = refl

linear_cases : (strict s : Bool) (c : ℕ) (a : Fraction) (ts : Terms) (b : Fraction)
    → of s (linear_atom a ts (cond strict s (not s)) b) ≡ cond strict (plain_below false s c a ts b) (plain_at_most false s c a ts b)
linear_cases true true c a ts b = refl
linear_cases true false c a ts b = refl
linear_cases false true c a ts b = refl
linear_cases false false c a ts b = refl

rounded-whole : (down : Bool) (b : Fraction) → IsWhole (rounded down b)
rounded-whole true b = refl
rounded-whole false b = refl

-- ---- the quotient
quotient-same : (a : Fraction) (l : Linear) → linear_of (divided a l.terms) (whole (pos 0)) ≡ scale (inv_ℚ a) (add l (fixed (neg_ℚ l.constant)))
unfolding add scale
quotient-same a l = same_linear (linear_of (divided a l.terms) (whole (pos 0))) (scale (inv_ℚ a) (add l (fixed (neg_ℚ l.constant))))
    (ap collected (sym (times-divided a l.terms)) ∙ ap (λ (ts : Terms). collected (times (inv_ℚ a) ts)) (sym (collected-normal 0 l.terms l.normal) ∙ ap collected (sym (append-nil l.terms))))
    (no_constant (inv_ℚ a) l.constant)

-- ---- the first coefficient
first-some : (ts : Terms) (t : ℕ × Fraction) → slice_get ts 0 ≡ Some t → IsNormal ts → is_zero t.1 ≡ false
first-some [] t e n = absurd (cc)
first-some (u ∷ us) t e n = subst (λ (w : ℕ × Fraction). is_zero w.1 ≡ false) (same e) (normal_parts 0 u us n).some
  where
    same : slice_get (u ∷ us) 0 ≡ Some t → u ≡ t
    same e = cc

-- the first coefficient isn't 0
pub first-nonzero : (l : Linear) (t : ℕ × Fraction) → slice_get l.terms 0 ≡ Some t → t.1.num ≢ pos 0
first-nonzero l t e z =
    let s = first-some l.terms t e l.normal in
    let g : is_zero t.1 ≡ true = ap is_zero_ℤ z in absurd (cc)

-- ---- one count
some_true : (o : Option Bool) → unwrap_or o false ≡ true → o ≡ Some true
some_true None h = absurd (cc)
some_true (Some true) h = refl
some_true (Some false) h = absurd (cc)

is_counted : (counts : List Bool) (ts : Terms) (t : ℕ × Fraction) → slice_get ts 0 ≡ Some t → is_one_count counts ts ≡ true → slice_get counts t.0 ≡ Some true
is_counted counts [] t e o = absurd (cc)
is_counted counts (u ∷ []) t e o = let same : u ≡ t = cc in subst (λ (w : ℕ × Fraction). slice_get counts w.0 ≡ Some true) same (some_true (slice_get counts u.0) o)
is_counted counts (u ∷ w ∷ ts) t e o = absurd (cc)

pub one_is_count : (counts : List Bool) (ts : Terms) (t : ℕ × Fraction) (b : Bool) → length ts ≡ 1 → slice_get ts 0 ≡ Some t → slice_get counts t.0 ≡ Some b → b ≡ is_one_count counts ts
one_is_count counts [] t b l e f = absurd (omega arith)
one_is_count counts (u ∷ []) t b l e f = let same : u ≡ t = cc in subst (λ (w : ℕ × Fraction). b ≡ unwrap_or (slice_get counts w.0) false) (sym same) (sym (ap (λ (o : Option Bool). unwrap_or o false) f))
one_is_count counts (u ∷ w ∷ ts) t b l e f = absurd (omega arith)

is_less : (m n : ℕ) → nat_lt m n ≡ true → m < n
is_less m n e = grind (arith, nat_tests)

pub first_is_below : (n : ℕ) (ts : Terms) (t : ℕ × Fraction) → slice_get ts 0 ≡ Some t → AreBelow n ts → t.0 < n
first_is_below n [] t e h = absurd (cc)
first_is_below n (u ∷ us) t e h = let same : u ≡ t = cc in subst (λ (w : ℕ × Fraction). w.0 < n) same (is_less u.0 n (and_parts (nat_lt u.0 n) _ h).0)

module _ (counts : List Bool) (strict : Bool) (l : Linear) where
  abbrev compared_terms : Terms → Plain
  compared_terms ts = cond strict (below_terms counts ts l.constant) (at_most_terms counts ts l.constant)

  -- ---- no variable
  no_atom : (b : Bound) (t : Bool) → plain_of b ≡ constant_plain t → HasAtom counts b
  no_atom Always t e = tt
  no_atom Never t e = tt
  no_atom (Of s a) true e = absurd (cc)
  no_atom (Of s a) false e = absurd (cc)

  pub constant-answers : (b : Bound) → length l.terms ≡ 0 → plain_of b ≡ constant_compared strict l.constant → BoundAnswers counts strict l (Ok b)
  constant-answers b e f = (subst AllFit (sym (no_ops l.terms e)) tt, f ∙ sym (no_terms l.terms e), no_atom b _ f)
    where
      no_ops : (ts : Terms) → length ts ≡ 0 → bound_ops counts strict l ts ≡ []
      no_ops [] e = refl
      no_ops (t ∷ ts) e = absurd (omega arith)

      by_strict : (s : Bool) (x y : Bool) → cond s (constant_plain x) (constant_plain y) ≡ constant_plain (cond s x y)
      by_strict true x y = refl
      by_strict false x y = refl

      no_terms : (ts : Terms) → length ts ≡ 0 → cond strict (below_terms counts ts l.constant) (at_most_terms counts ts l.constant) ≡ constant_compared strict l.constant
      no_terms [] e = by_strict strict _ _
      no_terms (t ∷ ts) e = absurd (omega arith)

  -- ---- one count
  count-ops : (ts : Terms) (t : ℕ × Fraction) → slice_get ts 0 ≡ Some t → is_one_count counts ts ≡ true → count_ops t.1 l.constant strict ≡ bound_ops counts strict l ts
  count-ops [] t e o = absurd (cc)
  count-ops (u ∷ us) t e o =
      let same : u ≡ t = cc in
      ap (λ (w : ℕ × Fraction). count_ops w.1 l.constant strict) (sym same)
      ∙ sym (ap (λ (b : Bool). bound_ops_of b (cond strict (not (is_positive u.1)) (is_positive u.1)) u.1 l) o)

  count-plain : (ts : Terms) (t : ℕ × Fraction) → slice_get ts 0 ≡ Some t → is_one_count counts ts ≡ true
      → plain_of (count_bound t.0 t.1 l.constant strict) ≡ cond strict (below_terms counts ts l.constant) (at_most_terms counts ts l.constant)
  count-plain [] t e o = absurd (cc)
  count-plain (u ∷ us) t e o =
      let same : u ≡ t = cc in
      ap (λ (w : ℕ × Fraction). plain_of (count_bound w.0 w.1 l.constant strict)) (sym same)
      ∙ count_cases strict (is_positive u.1) u.0 u.1 (u ∷ us) (neg_ℚ l.constant /ℚ u.1)
      ∙ sym (ap (λ (b : Bool). cond strict (plain_below b (is_positive u.1) u.0 u.1 (u ∷ us) (neg_ℚ l.constant /ℚ u.1)) (plain_at_most b (is_positive u.1) u.0 u.1 (u ∷ us) (neg_ℚ l.constant /ℚ u.1))) o)

  pub count-answers : (t : ℕ × Fraction) (r : Result Bound LinFail) → slice_get l.terms 0 ≡ Some t → is_one_count counts l.terms ≡ true
      → CountAnswers t.0 t.1 l.constant strict r → BoundAnswers counts strict l r
  count-answers t (Ok b) e o h = (
    subst AllFit (count-ops l.terms t e o) h.0,
    ap plain_of h.1 ∙ count-plain l.terms t e o,
    subst (HasAtom counts) (sym h.1) (split_is_atom counts t.0 (rounded (rounds_down strict t.1) (neg_ℚ l.constant /ℚ t.1)) (var t.0) refl (is_counted counts l.terms t e o) (rounded-whole (rounds_down strict t.1) (neg_ℚ l.constant /ℚ t.1)) h.2),
  )
  count-answers t (Err f) e o h = subst (λ (ops : List Wide). IsRefusal ops f) (count-ops l.terms t e o) h

  -- ---- any other expression
  linear-ops : (ts : Terms) (t : ℕ × Fraction) → slice_get ts 0 ≡ Some t → is_one_count counts ts ≡ false → quotient_ops t.1 l ≡ bound_ops counts strict l ts
  linear-ops [] t e o = absurd (cc)
  linear-ops (u ∷ us) t e o =
      let same : u ≡ t = cc in
      ap (λ (w : ℕ × Fraction). quotient_ops w.1 l) (sym same)
      ∙ sym (ap (λ (b : Bool). bound_ops_of b (cond strict (not (is_positive u.1)) (is_positive u.1)) u.1 l) o)

  -- the atom, by the terms
  made : Fraction → Terms → Atom
  made a ts = record { lin = linear_of (divided a ts) (whole (pos 0)); strict = cond strict (is_positive a) (not (is_positive a)); bound = neg_ℚ l.constant /ℚ a }

  linear-bound : (a : Fraction) → linear_bound a l strict ≡ Of (is_positive a) (made a l.terms)
  unfolding made
  linear-bound a = ap (λ (m : Linear). Of (is_positive a) (record { lin = m; strict = cond strict (is_positive a) (not (is_positive a)); bound = neg_ℚ l.constant /ℚ a })) (sym (quotient-same a l))

  linear-plain : (ts : Terms) (t : ℕ × Fraction) → slice_get ts 0 ≡ Some t → is_one_count counts ts ≡ false
      → plain_of (Of (is_positive t.1) (made t.1 ts)) ≡ cond strict (below_terms counts ts l.constant) (at_most_terms counts ts l.constant)
  unfolding made
  linear-plain [] t e o = absurd (cc)
  linear-plain (u ∷ us) t e o =
      let same : u ≡ t = cc in
      ap (λ (w : ℕ × Fraction). of (is_positive w.1) (linear_atom w.1 (u ∷ us) (cond strict (is_positive w.1) (not (is_positive w.1))) (neg_ℚ l.constant /ℚ w.1))) (sym same)
      ∙ linear_cases strict (is_positive u.1) u.0 u.1 (u ∷ us) (neg_ℚ l.constant /ℚ u.1)
      ∙ sym (ap (λ (b : Bool). cond strict (plain_below b (is_positive u.1) u.0 u.1 (u ∷ us) (neg_ℚ l.constant /ℚ u.1)) (plain_at_most b (is_positive u.1) u.0 u.1 (u ∷ us) (neg_ℚ l.constant /ℚ u.1))) o)

  below-divided : (n : ℕ) (a : Fraction) (ts : Terms) → AreBelow n ts → AreBelow n (divided a ts)
  below-divided n a [] h = refl
  below-divided n a (t ∷ ts) h = let p = and_parts (nat_lt t.0 n) _ h in and_from _ _ p.0 (below-divided n a ts p.1)

  atom-made : (ts : Terms) (t : ℕ × Fraction) → slice_get ts 0 ≡ Some t → IsNormal ts → AreBelow (length counts) ts → is_one_count counts ts ≡ false → IsAtom counts (made t.1 ts)
  unfolding made
  atom-made [] t e n b o = absurd (cc)
  atom-made (u ∷ us) t e n b o = subst (λ (w : ℕ × Fraction). IsAtom counts (made w.1 (u ∷ us))) same (record {
    constant = refl;
    leading = subst LeadsWithOne (sym kept) (itself u.1 nonzero);
    known = subst (AreBelow (length counts)) (sym kept) (below-divided (length counts) u.1 (u ∷ us) b);
    rounded = λ one. absurd (let g = one_count-quotient counts u.1 (u ∷ us) nonzero n in cc);
  })
    where
      same : u ≡ t
      same = cc

      nonzero : u.1 ≢ whole (pos 0)
      nonzero = is_zero-false u.1 (normal_parts 0 u us n).some

      kept : collected (divided u.1 (u ∷ us)) ≡ divided u.1 (u ∷ us)
      kept = collected-normal 0 (divided u.1 (u ∷ us)) (divided-normal u.1 nonzero 0 (u ∷ us) n)

  pub linear-answers : (t : ℕ × Fraction) (r : Result Bound LinFail) → slice_get l.terms 0 ≡ Some t → is_one_count counts l.terms ≡ false → AreBelow (length counts) l.terms
      → LinearAnswers t.1 l strict r → BoundAnswers counts strict l r
  linear-answers t (Ok b) e o k h = (
    subst AllFit (linear-ops l.terms t e o) h.0,
    ap plain_of (h.1 ∙ linear-bound t.1) ∙ linear-plain l.terms t e o,
    subst (HasAtom counts) (sym (h.1 ∙ linear-bound t.1)) (atom-made l.terms t e l.normal k o),
  )
  linear-answers t (Err f) e o k h = subst (λ (ops : List Wide). IsRefusal ops f) (linear-ops l.terms t e o) h
