-- The tests of clauses, and the facts that they decide.
use Rattle.std.proofs.Common.{◌≡◌, ◌<◌, ◌↔◌, ℕ, zero, suc, Bool, true, false, ◌||◌, List, [], ◌∷◌, length, get_or, refl, ap, ◌∙◌, arith}
use Rattle.std.specs.Prelude.{All}
use Rattle.std.specs.List.{list_any, AllByRecursion}
use Rattle.std.proofs.lemmas.Bool.{and_parts, and_from}
use Rattle.std.proofs.lemmas.List.Elements.{All-from_recursion, recursion_from_All}
use Rattle.formula.specs.declared.atom.Lit.{Lit}
use Rattle.formula.specs.Meets.{is_true, are_met, HasTrue}

has_true_in : (truth : List Bool) (l : Lit) (c : List Lit) (b : Bool) → is_true truth l ≡ b → (list_any (is_true truth) c ≡ true → HasTrue truth c) → (b || list_any (is_true truth) c) ≡ true → HasTrue truth (l ∷ c)
has_true_in truth l c true e rest h = (0, l, omega arith, refl, e)
has_true_in truth l c false e rest h = let r = rest h in let w : r.0 < length c = r.2 in (suc r.0, r.1, omega arith, r.3, r.4)

-- a clause whose test is true has a true literal
pub has_true : (truth : List Bool) (c : List Lit) → list_any (is_true truth) c ≡ true → HasTrue truth c
has_true truth [] h = absurd (cc)
has_true truth (l ∷ c) h = has_true_in truth l c (is_true truth l) refl (has_true truth c) h

or_left : (a b : Bool) → a ≡ true → (a || b) ≡ true
or_left true b e = refl
or_left false b e = absurd (cc)

or_right : (a b : Bool) → b ≡ true → (a || b) ≡ true
or_right true b e = refl
or_right false b e = e

true_at : (truth : List Bool) (c : List Lit) (i : ℕ) (l : Lit) → i < length c → get_or c i l ≡ l → is_true truth l ≡ true → list_any (is_true truth) c ≡ true
true_at truth [] i l w e h = absurd (omega arith)
true_at truth (m ∷ c) zero l w e h = or_left (is_true truth m) _ (ap (is_true truth) e ∙ h)
true_at truth (m ∷ c) (suc i) l w e h = or_right (is_true truth m) _ (true_at truth c i l (omega arith) e h)

-- and the test is true where it has one
pub is_met : (truth : List Bool) (c : List Lit) → HasTrue truth c → list_any (is_true truth) c ≡ true
is_met truth c h = true_at truth c h.0 h.1 h.2 h.3 h.4

-- clauses are met exactly where each has a true literal
pub met_iff : (truth : List Bool) (cs : List (List Lit)) → (are_met truth cs ≡ true) ↔ All (HasTrue truth) cs
met_iff truth cs = (λ h. All-from_recursion (HasTrue truth) cs (each cs h), λ h. all cs (recursion_from_All (HasTrue truth) cs h))
  where
    each : (cs : List (List Lit)) → are_met truth cs ≡ true → AllByRecursion (HasTrue truth) cs
    each [] h = tt
    each (c ∷ cs) h = let p = and_parts (list_any (is_true truth) c) _ h in (has_true truth c p.0, each cs p.1)

    all : (cs : List (List Lit)) → AllByRecursion (HasTrue truth) cs → are_met truth cs ≡ true
    all [] h = refl
    all (c ∷ cs) h = and_from _ _ (is_met truth c h.0) (all cs h.1)
