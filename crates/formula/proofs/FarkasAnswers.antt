-- The sum of the multiples decides whether they refute.
use Rattle.std.proofs.Common.{◌≡◌, ◌⊎◌, inl, inr, ◌<◌, ◌↔◌, ℕ, zero, suc, Bool, true, false, cond, ◌||◌, ◌&&◌, List, [], ◌∷◌, length, get_or, refl, sym, ap, subst, ◌∙◌, arith, nat_eq, nat_le}
use Rattle.std.specs.Prelude.{Any, IsTrue, Ok, Err}
use Rattle.std.specs.List.{list_any, AllByRecursion}
use Rattle.std.proofs.lemmas.Bool.{and_parts, and_from}
use Rattle.std.proofs.lemmas.Bool.Decides.{nat_tests}
use Rattle.std.proofs.lemmas.List.Elements.{All-from_recursion}
use native.Mathlib.Nat.{zero-lt-suc}
use lib.Dec.{T, lt→ltb, ltb→lt}
use lib.IntN.{ℤ, pos, negsuc}
use lib.Signed.{non_neg, lt_z}
use Rattle.algebra.proofs.Solve.{v, k, ◌⊕◌, solve_from, eq, done}
use Rattle.rational.specs.Fraction.{Fraction, whole, ◌+ℚ◌, ◌<ℚ◌, IsNotNegative, IsPositive}
use Rattle.rational.specs.Linear.{Terms, coefficient_of}
use Rattle.rational.specs.Farkas.{Row, BoundFails}
use Rattle.rational.proofs.FieldLaws.{fraction-ring}
use Rattle.rational.proofs.OrderLaws.{<ℚ-iff_not, not_negative-iff}
use Rattle.lin.specs.Normal.{is_zero, is_normal_from}
use Rattle.lin.specs.NormalLaws.{up, normal-lower}
use Rattle.lin.specs.Linear.{Linear}
use Rattle.lin.specs.Operations.{IsRefusal}
use Rattle.lin.specs.declared.failure.LinFail.{LinFail}
use Rattle.lin.proofs.Merging.{normal_parts}
use Rattle.lin.proofs.ValueLaws.{is_zero-true}
use Rattle.formula.specs.declared.atom.Lit.{Lit}
use Rattle.formula.specs.Contents.{Contents}
use Rattle.formula.specs.Farkas.{Taken, taken, row_of, IsFarkas, farkas_ops, FarkasAnswersWhere, is_negative, is_negative_ℤ, is_positive, is_positive_ℤ}
use Rattle.formula.specs.inside.Sums.{refutes, is_empty}
use Rattle.formula.proofs.FarkasSteps.{IsSum, rows, counts_strictly}

-- ---- signs
not_both : (z : ℤ) → is_negative_ℤ z ≡ true → T (non_neg z) → ⊥
not_both (pos n) e h = absurd (cc)
not_both (negsuc n) e h = h

is_not_negative : (z : ℤ) → is_negative_ℤ z ≡ false → T (non_neg z)
is_not_negative (pos n) e = tt
is_not_negative (negsuc n) e = absurd (cc)

negative_below : (x : Fraction) → is_negative x ≡ true → x <ℚ whole (pos 0)
negative_below x e = (<ℚ-iff_not x (whole (pos 0))).1 (λ h. not_both x.num e ((not_negative-iff x).1 h))

below_negative : (x : Fraction) → (b : Bool) → is_negative x ≡ b → x <ℚ whole (pos 0) → b ≡ true
below_negative x true e h = refl
below_negative x false e h = absurd ((<ℚ-iff_not x (whole (pos 0))).0 h ((not_negative-iff x).0 (is_not_negative x.num e)))

positive_true : (z : ℤ) → is_positive_ℤ z ≡ true → T (lt_z (pos 0) z)
positive_true (pos zero) e = absurd (cc)
positive_true (pos (suc n)) e = lt→ltb 0 (suc n) (zero-lt-suc n)
positive_true (negsuc n) e = absurd (cc)

true_positive : (z : ℤ) → T (lt_z (pos 0) z) → is_positive_ℤ z ≡ true
true_positive (pos zero) h = absurd (omega (arith, ltb→lt 0 0 h))
true_positive (pos (suc n)) h = refl
true_positive (negsuc n) h = absurd h

-- ---- no variable is left
coefficient-later : (n : ℕ) (ts : Terms) → is_normal_from (suc n) ts ≡ true → coefficient_of n ts ≡ whole (pos 0)
coefficient-later n [] h = refl
coefficient-later n (u ∷ us) h =
    let p = normal_parts (suc n) u us h in
    ap (λ (b : Bool). cond b u.1 (whole (pos 0)) +ℚ coefficient_of n us) (apart n u.0 p.low)
    ∙ solve_from fraction-ring (k (pos 0) ⊕ v 0) (k (pos 0)) (coefficient_of n us ∷ [])
    (eq (k (pos 1)) (v 0) (k (pos 0)) (coefficient-later n us (normal-lower (suc n) (suc u.0) us (up (suc n) u.0 p.low) p.rest)) done) refl
  where
    apart : (m n : ℕ) → nat_le (suc m) n ≡ true → nat_eq n m ≡ false
    apart m n e = grind (arith, nat_tests)

no_terms : (ts : Terms) → is_normal_from 0 ts ≡ true → ((n : ℕ) → coefficient_of n ts ≡ whole (pos 0)) → is_empty ts ≡ true
no_terms [] h z = refl
no_terms (t ∷ ts) h z =
    let p = normal_parts 0 t ts h in
    let c : t.1 ≡ whole (pos 0) = solve_from fraction-ring (v 0) (k (pos 0)) (t.1 ∷ coefficient_of t.0 ts ∷ [])
    (eq (k (pos 1)) (v 0 ⊕ v 1) (k (pos 0)) (sym (ap (λ (b : Bool). cond b t.1 (whole (pos 0)) +ℚ coefficient_of t.0 ts) (itself t.0)) ∙ z t.0)
    (eq (k (negsuc 0)) (v 1) (k (pos 0)) (coefficient-later t.0 ts p.rest) done)) refl in
    let e : is_zero t.1 ≡ true = ap is_zero c in let f : is_zero t.1 ≡ false = p.some in absurd (cc)
  where
    itself : (n : ℕ) → nat_eq n n ≡ true
    itself n = grind (arith, nat_tests)

empty_is : (ts : Terms) → is_empty ts ≡ true → ts ≡ []
empty_is [] e = refl
empty_is (t ∷ ts) e = absurd (cc)

-- ---- a strict row has a part in it
abbrev Counts : Row → Type 0
Counts r = IsTrue r.strict × IsPositive r.factor

any_in : (t : Taken) (ts : List Taken) (b : Bool) → counts_strictly t ≡ b → (list_any counts_strictly ts ≡ true → Any Counts (rows ts)) → (b || list_any counts_strictly ts) ≡ true → Any Counts (rows (t ∷ ts))
any_in t ts true e rest h = let p = and_parts t.0.strict (is_positive t.1) e in (0, row_of t, omega arith, refl, (p.0, positive_true t.1.num p.1))
any_in t ts false e rest h = let r = rest h in let w : r.0 < length (rows ts) = r.2 in (suc r.0, r.1, omega arith, r.3, r.4)

any_strict : (ts : List Taken) → list_any counts_strictly ts ≡ true → Any Counts (rows ts)
any_strict [] h = absurd (cc)
any_strict (t ∷ ts) h = any_in t ts (counts_strictly t) refl (any_strict ts) h

or_left : (a b : Bool) → a ≡ true → (a || b) ≡ true
or_left true b e = refl
or_left false b e = absurd (cc)

or_right : (a b : Bool) → b ≡ true → (a || b) ≡ true
or_right true b e = refl
or_right false b e = e

strict_at : (ts : List Taken) (i : ℕ) (r : Row) → i < length (rows ts) → get_or (rows ts) i r ≡ r → Counts r → list_any counts_strictly ts ≡ true
strict_at [] i r w e h = absurd (omega arith)
strict_at (t ∷ ts) zero r w e h =
    let g : Counts (row_of t) = subst Counts (sym e) h in
    or_left (counts_strictly t) _ (and_from _ _ g.0 (true_positive t.1.num g.1))
strict_at (t ∷ ts) (suc i) r w e h = or_right (counts_strictly t) _ (strict_at ts i r (omega arith) e h)

-- ---- the decision
no_negative : (f : Contents) (ls : List Lit) (cs : List Fraction) → list_any is_negative cs ≡ false → AllByRecursion (λ r. IsNotNegative r.factor) (rows (taken f ls cs))
no_negative f [] cs h = tt
no_negative f (l ∷ ls) [] h = tt
no_negative f (l ∷ ls) (c ∷ cs) h = let p = or_parts (is_negative c) _ h in (is_not_negative c.num p.0, no_negative f ls cs p.1)
  where
    or_parts : (a b : Bool) → (a || b) ≡ false → (a ≡ false) × (b ≡ false)
    or_parts true b e = absurd (cc)
    or_parts false b e = (refl, e)

bound_cases : (n z s : Bool) → (n || (z && s)) ≡ true → (n ≡ true) ⊎ ((z ≡ true) × (s ≡ true))
bound_cases true z s h = inl refl
bound_cases false z s h = inr (and_parts z s h)

zero_test : (x : Fraction) → x ≡ whole (pos 0) → is_zero x ≡ true
zero_test x e = ap is_zero e

pub decided : (f : Contents) (ls : List Lit) (cs : List Fraction) (s : Linear) (b : Fraction) (strict : Bool) → list_any is_negative cs ≡ false → IsSum (taken f ls cs) s b strict
    → IsTrue (refutes s.terms b strict) ↔ IsFarkas (taken f ls cs)
decided f ls cs s b strict n h = (there, back)
  where
    there : IsTrue (refutes s.terms b strict) → IsFarkas (taken f ls cs)
    there t =
        let p = and_parts (is_empty s.terms) _ t in
        let e = empty_is s.terms p.0 in
        record {
          not_negative = All-from_recursion (λ (r : Row). IsNotNegative r.factor) (rows (taken f ls cs)) (no_negative f ls cs n);
          cancels = λ m. sym (h.coefficients m) ∙ ap (coefficient_of m) e;
          bound_fails = elim (bound_cases (is_negative b) (is_zero b) strict p.1) [
            | inl w ↦ inl (subst (λ (x : Fraction). x <ℚ whole (pos 0)) h.bound (negative_below b w))
            | inr w ↦ inr (sym h.bound ∙ is_zero-true b w.0, any_strict (taken f ls cs) (sym h.stricts ∙ w.1))
          ];
        }

    fails : BoundFails (rows (taken f ls cs)) → (is_negative b || (is_zero b && strict)) ≡ true
    fails (inl w) = or_left (is_negative b) _ (below_negative b (is_negative b) refl (subst (λ (x : Fraction). x <ℚ whole (pos 0)) (sym h.bound) w))
    fails (inr w) = or_right (is_negative b) _ (and_from _ _ (zero_test b (h.bound ∙ w.0)) (h.stricts ∙ strict_at (taken f ls cs) w.1.0 w.1.1 w.1.2 w.1.3 w.1.4))

    back : IsFarkas (taken f ls cs) → IsTrue (refutes s.terms b strict)
    back r = and_from _ _ (no_terms s.terms s.normal (λ m. h.coefficients m ∙ r.cancels m)) (fails r.bound_fails)

-- ---- the answers, where no coefficient is negative
pub where_refused : (b : Bool) (ts : List Taken) (e : LinFail) → b ≡ false → IsRefusal (farkas_ops ts) e → FarkasAnswersWhere b ts (Err e)
where_refused true ts e h r = absurd (cc)
where_refused false ts e h r = r

pub where_decided : (f : Contents) (ls : List Lit) (cs : List Fraction) (s : Linear) (b : Fraction) (strict x : Bool) → list_any is_negative cs ≡ false → IsSum (taken f ls cs) s b strict
    → x ≡ refutes s.terms b strict → FarkasAnswersWhere (list_any is_negative cs) (taken f ls cs) (Ok x)
where_decided f ls cs s b strict x n h e =
    let P : Bool → Type 0 = λ t. FarkasAnswersWhere t (taken f ls cs) (Ok x) in
    let Q : Bool → Type 0 = λ t. IsTrue t ↔ IsFarkas (taken f ls cs) in
    subst P (sym n) (h.fit, subst Q (sym e) (decided f ls cs s b strict n h))
