-- Clauses of a formula as lists whose Booleans rise and are in range.
use Rattle.std.proofs.Common.{◌≡◌, ◌<◌, ◌≤◌, ℕ, suc, true, List, [], ◌∷◌, refl, arith, nat_lt, nat_le}
use Rattle.std.specs.List.{All, list_all}
use Rattle.std.proofs.lemmas.Bool.{and_parts, and_from}
use Rattle.std.proofs.lemmas.Bool.Decides.{nat_tests}
use Rattle.std.proofs.lemmas.List.Elements.{All-nil, All-cons, All-head, All-tail}
use Rattle.formula.specs.declared.atom.Lit.{Lit}
use Rattle.formula.specs.Contents.{is_clause, is_clause_from}
use Rattle.clause_learn.specs.Learning.{IsRising}
use Rattle.clause_trail.specs.Decisions.{IsWithin}

is_less : (m n : ℕ) → nat_lt m n ≡ true → m < n
is_less m n e = grind (arith, nat_tests)

less : (m n : ℕ) → m < n → nat_lt m n ≡ true
less m n e = grind (arith, nat_tests)

at_least : (m n : ℕ) → m ≤ n → nat_le m n ≡ true
at_least m n e = grind (arith, nat_tests)

within_from : (least n : ℕ) (c : List Lit) → is_clause_from least n c ≡ true → IsWithin n c
within_from least n [] e = All-nil (λ (m : Lit). m.boolean < n)
within_from least n (l ∷ c) e =
    let p = and_parts (nat_le least l.boolean) _ e in
    let q = and_parts (nat_lt l.boolean n) _ p.1 in
    All-cons (λ (m : Lit). m.boolean < n) l c (is_less l.boolean n q.0) (within_from (suc l.boolean) n c q.1)

pub within_clause : (n : ℕ) (c : List Lit) → is_clause n c ≡ true → IsWithin n c
within_clause n c e = within_from 0 n c e

pub within_clauses : (n : ℕ) (cs : List (List Lit)) → list_all (is_clause n) cs ≡ true → All (IsWithin n) cs
within_clauses n [] e = All-nil (IsWithin n)
within_clauses n (c ∷ cs) e = let p = and_parts (is_clause n c) _ e in All-cons (IsWithin n) c cs (within_clause n c p.0) (within_clauses n cs p.1)

clause_from : (least n : ℕ) (c : List Lit) → All (λ m. least ≤ m.boolean) c → IsWithin n c → IsRising c → is_clause_from least n c ≡ true
clause_from least n [] a w r = refl
clause_from least n (l ∷ c) a w r =
    and_from _ _ (at_least least l.boolean (All-head (λ (m : Lit). least ≤ m.boolean) l c a))
    (and_from _ _ (less l.boolean n (All-head (λ (m : Lit). m.boolean < n) l c w))
    (clause_from (suc l.boolean) n c (λ k d lt. omega (arith, r.0 k d lt)) (All-tail (λ (m : Lit). m.boolean < n) l c w) r.1))

pub rising_clause : (n : ℕ) (c : List Lit) → IsWithin n c → IsRising c → is_clause n c ≡ true
rising_clause n c w r = clause_from 0 n c (λ k d lt. omega arith) w r
