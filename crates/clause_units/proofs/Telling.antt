-- A table of truths, and the literals that it makes true.
use Rattle.std.proofs.Common.{◌≡◌, ◌≢◌, ◌⊎◌, inl, inr, ℕ, ◌<◌, Option, Some, None, Bool, true, false, not, List, [], ◌∷◌, length, set, refl, sym, ap, subst, ◌∙◌, arith}
use Rattle.std.specs.Prelude.{slice_get}
use Rattle.std.specs.Option.{option_map}
use Rattle.std.specs.List.{Contains}
use Rattle.std.proofs.lemmas.Option.{same_Some}
use Rattle.std.proofs.lemmas.Bool.{cases_eq}
use Rattle.formula.specs.declared.atom.Lit.{Lit}
use Rattle.formula.specs.Equal.{same_bool}
use Rattle.formula.specs.Reading.{opposite}
use Rattle.clause_units.specs.Truth.{truth_where, truth_of, Tells, IsBare}
use Rattle.clause_units.proofs.Tables.{get-set_same, get-set_other}
use Rattle.clause_units.proofs.Literals.{lit_same, in_cons, cons_in, cons_same}

same-self : (b : Bool) → same_bool b b ≡ true
same-self true = refl
same-self false = refl

same-is : (a b : Bool) → same_bool a b ≡ true → a ≡ b
same-is true true e = refl
same-is true false e = cc
same-is false true e = cc
same-is false false e = refl

same-not : (t p : Bool) → same_bool t (not p) ≡ not (same_bool t p)
same-not true p = refl
same-not false p = refl

-- ---- opposites

where_opposite : (p : Bool) (o : Option (Option Bool)) → truth_where (not p) o ≡ option_map not (truth_where p o)
where_opposite p None = refl
where_opposite p (Some None) = refl
where_opposite p (Some (Some t)) = ap (λ (b : Bool). Some b) (same-not t p)

truth_opposite : (table : List (Option Bool)) (l : Lit) → truth_of table (opposite l) ≡ option_map not (truth_of table l)
truth_opposite table l = where_opposite l.pos (slice_get table l.boolean)

turned : (o : Option Bool) → option_map not o ≡ Some true → o ≡ Some false
turned None e = absurd (cc)
turned (Some true) e = absurd (cc)
turned (Some false) e = refl

pub false_opposite : (table : List (Option Bool)) (l : Lit) → truth_of table l ≡ Some false → truth_of table (opposite l) ≡ Some true
false_opposite table l h = truth_opposite table l ∙ ap (option_map not) h

pub opposite_false : (table : List (Option Bool)) (l : Lit) → truth_of table (opposite l) ≡ Some true → truth_of table l ≡ Some false
opposite_false table l h = turned (truth_of table l) (sym (truth_opposite table l) ∙ h)

-- the opposites of the true literals are false
pub false_told : (table : List (Option Bool)) (trues : List Lit) → Tells table trues → (l : Lit) → truth_of table l ≡ Some false → Contains trues (opposite l)
false_told table trues h l e = (h (opposite l)).1 (false_opposite table l e)

pub told_false : (table : List (Option Bool)) (trues : List Lit) → Tells table trues → (l : Lit) → Contains trues (opposite l) → truth_of table l ≡ Some false
told_false table trues h l e = opposite_false table l ((h (opposite l)).0 e)

-- ---- a table that makes nothing true

bare_open : (p : Bool) (o : Option (Option Bool)) → ((t : Bool) → o ≡ Some (Some t) → ⊥) → truth_where p o ≡ None
bare_open p None h = refl
bare_open p (Some None) h = refl
bare_open p (Some (Some t)) h = absurd (h t refl)

pub bare_truth : (table : List (Option Bool)) → IsBare table → (l : Lit) → truth_of table l ≡ None
bare_truth table h l = bare_open l.pos (slice_get table l.boolean) (h l.boolean)

pub tells_none : (table : List (Option Bool)) → IsBare table → Tells table []
tells_none table h l = (λ c. absurd (omega (arith, c.1)), λ e. let n = bare_truth table h l in absurd (cc))

-- ---- one more literal

open_here : (p : Bool) (o : Option (Option Bool)) → truth_where p o ≡ None → (q : Bool) → truth_where q o ≡ None
open_here p None e q = refl
open_here p (Some None) e q = refl
open_here p (Some (Some t)) e q = absurd (cc)

-- a literal of an open Boolean is open
pub open_same : (table : List (Option Bool)) (l m : Lit) → truth_of table l ≡ None → m.boolean ≡ l.boolean → truth_of table m ≡ None
open_same table l m e b = ap (λ (n : ℕ). truth_where m.pos (slice_get table n)) b ∙ open_here l.pos (slice_get table l.boolean) e m.pos

module _ (table : List (Option Bool)) (l : Lit) (lt : l.boolean < length table) where
  now : List (Option Bool)
  now = set table l.boolean (Some l.pos)

  same_now : (m : Lit) → m.boolean ≡ l.boolean → truth_of now m ≡ Some (same_bool l.pos m.pos)
  unfolding now
  same_now m b = ap (λ (n : ℕ). truth_where m.pos (slice_get now n)) b ∙ ap (truth_where m.pos) (get-set_same table l.boolean (Some l.pos) lt)

  other_now : (m : Lit) → m.boolean ≢ l.boolean → truth_of now m ≡ truth_of table m
  unfolding now
  other_now m b = ap (truth_where m.pos) (get-set_other table l.boolean m.boolean (Some l.pos) b)

  module _ (trues : List Lit) (tells : Tells table trues) (is_open : truth_of table l ≡ None) where
    true_now : (m : Lit) → Contains (l ∷ trues) m → truth_of now m ≡ Some true
    true_now m c = by_part (in_cons l m trues c)
      where
        old : Contains trues m → (m.boolean ≡ l.boolean) ⊎ (m.boolean ≢ l.boolean) → truth_of now m ≡ Some true
        old h (inl same) = let e = (tells m).0 h in let n = open_same table l m is_open same in absurd (cc)
        old h (inr other) = other_now m other ∙ (tells m).0 h

        by_part : (l ≡ m) ⊎ Contains trues m → truth_of now m ≡ Some true
        by_part (inl is) = subst (λ (x : Lit). truth_of now x ≡ Some true) is (same_now l refl ∙ ap (λ (b : Bool). Some b) (same-self l.pos))
        by_part (inr h) = old h (cases_eq m.boolean l.boolean)

    now_true : (m : Lit) → truth_of now m ≡ Some true → Contains (l ∷ trues) m
    now_true m e = by_boolean (cases_eq m.boolean l.boolean)
      where
        by_boolean : (m.boolean ≡ l.boolean) ⊎ (m.boolean ≢ l.boolean) → Contains (l ∷ trues) m
        by_boolean (inl same) =
            let p : l.pos ≡ m.pos = same-is l.pos m.pos (same_Some _ _ (sym (same_now m same) ∙ e)) in
            subst (λ (x : Lit). Contains (l ∷ trues) x) (lit_same l m (sym same) p) (cons_same l trues)
        by_boolean (inr other) = cons_in l m trues ((tells m).1 (sym (other_now m other) ∙ e))

    told : Tells now (l ∷ trues)
    told m = (true_now m, now_true m)

pub tells_more : (table : List (Option Bool)) (trues : List Lit) (l : Lit) → l.boolean < length table → Tells table trues → truth_of table l ≡ None → Tells (set table l.boolean (Some l.pos)) (l ∷ trues)
unfolding now
tells_more table trues l lt tells e = told table l lt trues tells e
