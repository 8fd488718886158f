-- The steps of testing a point: a clause's literals, the clauses, and the Booleans.
use Rattle.std.proofs.Common.{◌≡◌, ◌≢◌, ◌<◌, ◌≤◌, ℕ, zero, suc, ◌+◌, Bool, true, false, not, cond, ◌||◌, ◌&&◌, List, [], ◌∷◌, length, drop, get_or, refl, sym, ap, subst, ◌∙◌, arith, nat_lt, nat_le}
use Rattle.std.specs.List.{list_any, list_all}
use Rattle.std.proofs.lemmas.List.{drop_more, drop_all}
use Rattle.std.proofs.lemmas.Bool.{and_parts}
use Rattle.std.proofs.lemmas.Bool.Decides.{nat_tests}
use lib.IntN.{pos}
use Rattle.algebra.proofs.Solve.{k, ◌⊕◌, solve}
use Rattle.rational.specs.Fraction.{Fraction, whole, ◌+ℚ◌, ◌≤ℚ◌}
use Rattle.rational.proofs.FieldLaws.{fraction-ring}
use Rattle.rational.proofs.OrderLaws.{≤ℚ_refl}
use Rattle.lin.specs.Linear.{value_of, fixed}
use Rattle.formula.specs.declared.atom.Lit.{Lit}
use Rattle.formula.specs.Contents.{is_clause, is_clause_from}
use Rattle.formula.specs.Meets.{is_true, are_met, truth_at}

module _ {X : Type 0} where
  pub next_of : (xs : List X) (i : ℕ) (x : X) → i < length xs → x ≡ get_or xs i x → drop i xs ≡ x ∷ drop (i + 1) xs
  next_of xs i x l e = drop_more xs i x l ∙ ap (λ (y : X). y ∷ drop (i + 1) xs) (sym e)

  pub all_at : (p : X → Bool) (xs : List X) (i : ℕ) (x : X) → list_all p xs ≡ true → i < length xs → x ≡ get_or xs i x → p x ≡ true
  all_at p [] i x h l e = absurd (omega arith)
  all_at p (y ∷ ys) zero x h l e = subst (λ (z : X). p z ≡ true) (sym e) (and_parts (p y) _ h).0
  all_at p (y ∷ ys) (suc i) x h l e = all_at p ys i x (and_parts (p y) _ h).1 (omega arith) e

-- ---- a clause
is_less : (m n : ℕ) → nat_lt m n ≡ true → m < n
is_less m n e = grind (arith, nat_tests)

literal_within : (least n : ℕ) (ls : List Lit) (i : ℕ) (d : Lit) → is_clause_from least n ls ≡ true → i < length ls → (get_or ls i d).boolean < n
literal_within least n [] i d h w = absurd (omega arith)
literal_within least n (m ∷ ms) zero d h w =
    let p = and_parts (nat_le least m.boolean) _ h in let q = and_parts (nat_lt m.boolean n) _ p.1 in is_less m.boolean n q.0
literal_within least n (m ∷ ms) (suc i) d h w =
    let p = and_parts (nat_le least m.boolean) _ h in let q = and_parts (nat_lt m.boolean n) _ p.1 in
    literal_within (suc m.boolean) n ms i d q.1 (omega arith)

pub clause_within : (n : ℕ) (ls : List Lit) (i : ℕ) (d : Lit) → is_clause n ls ≡ true → i < length ls → (get_or ls i d).boolean < n
clause_within n ls i d h w = literal_within 0 n ls i d h w

test_same : (p t : Bool) → t ≡ p → cond p t (not t) ≡ true
test_same true t e = e
test_same false t e = ap not e

test_other : (p t : Bool) → t ≢ p → cond p t (not t) ≡ false
test_other true true e = absurd (e refl)
test_other true false e = refl
test_other false true e = refl
test_other false false e = absurd (e refl)

module _ (truth : List Bool) (ls : List Lit) (i : ℕ) (l : Lit) (w : i < length ls) (e : l ≡ get_or ls i l) where
  step : list_any (is_true truth) (drop i ls) ≡ list_any (is_true truth) (l ∷ drop (i + 1) ls)
  step = ap (list_any (is_true truth)) (next_of ls i l w e)

  pub literal_true : truth_at truth l.boolean ≡ l.pos → list_any (is_true truth) ls ≡ list_any (is_true truth) (drop i ls) → list_any (is_true truth) ls ≡ true
  literal_true t h = h ∙ step ∙ ap (λ (b : Bool). b || list_any (is_true truth) (drop (i + 1) ls)) (test_same l.pos (truth_at truth l.boolean) t)

  pub literal_false : truth_at truth l.boolean ≢ l.pos → list_any (is_true truth) ls ≡ list_any (is_true truth) (drop i ls) → list_any (is_true truth) ls ≡ list_any (is_true truth) (drop (i + 1) ls)
  literal_false t h = h ∙ step ∙ ap (λ (b : Bool). b || list_any (is_true truth) (drop (i + 1) ls)) (test_other l.pos (truth_at truth l.boolean) t)

pub literals_done : (truth : List Bool) (ls : List Lit) (i : ℕ) → length ls ≤ i → list_any (is_true truth) ls ≡ list_any (is_true truth) (drop i ls) → list_any (is_true truth) ls ≡ false
literals_done truth ls i l h = h ∙ ap (list_any (is_true truth)) (drop_all i ls l)

-- ---- the clauses
module _ (truth : List Bool) (cs : List (List Lit)) (i : ℕ) (c : List Lit) (w : i < length cs) (e : c ≡ get_or cs i c) where
  step_clause : are_met truth (drop i cs) ≡ are_met truth (c ∷ drop (i + 1) cs)
  step_clause = ap (are_met truth) (next_of cs i c w e)

  pub clause_fails : list_any (is_true truth) c ≡ false → are_met truth cs ≡ are_met truth (drop i cs) → are_met truth cs ≡ false
  clause_fails t h = h ∙ step_clause ∙ ap (λ (b : Bool). b && are_met truth (drop (i + 1) cs)) t

  pub clause_holds : list_any (is_true truth) c ≡ true → are_met truth cs ≡ are_met truth (drop i cs) → are_met truth cs ≡ are_met truth (drop (i + 1) cs)
  clause_holds t h = h ∙ step_clause ∙ ap (λ (b : Bool). b && are_met truth (drop (i + 1) cs)) t

pub clauses_done : (truth : List Bool) (cs : List (List Lit)) (i : ℕ) → length cs ≤ i → are_met truth cs ≡ are_met truth (drop i cs) → are_met truth cs ≡ true
clauses_done truth cs i l h = h ∙ ap (are_met truth) (drop_all i cs l)

-- ---- a truth variable says nothing
pub nothing_holds : (at : ℕ → Fraction) → value_of at (fixed (whole (pos 0))) ≤ℚ whole (pos 0)
nothing_holds at = let z : whole (pos 0) ≡ whole (pos 0) +ℚ whole (pos 0) = solve fraction-ring (k (pos 0)) (k (pos 0) ⊕ k (pos 0)) [] refl in
    subst (λ (x : Fraction). x ≤ℚ whole (pos 0)) z (≤ℚ_refl (whole (pos 0)))
