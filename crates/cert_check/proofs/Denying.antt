-- A clause taken as false, literal by literal: its Booleans rise, so each is still open.
use Rattle.std.proofs.Common.{◌≡◌, ◌≢◌, ◌⊎◌, inl, inr, ℕ, suc, ◌<◌, ◌≤◌, ◌+◌, Option, Some, None, Bool, true, nat_le, nat_lt, List, [], ◌∷◌, ◌++◌, length, take, drop, map, set, get_or, refl, sym, ap, subst, ◌∙◌, arith, length-set}
use Rattle.std.specs.Prelude.{slice_get}
use Rattle.std.specs.List.{Contains}
use Rattle.std.proofs.lemmas.Bool.{and_parts}
use Rattle.std.proofs.lemmas.Bool.Decides.{nat_tests}
use Rattle.std.proofs.lemmas.List.{drop_more, map-append, take_all}
use Rattle.std.proofs.lemmas.List.Elements.{Contains-append_left, Contains-push, Contains-push_cases}
use Rattle.std.proofs.Math.Seq.{take-suc}
use Rattle.formula.specs.declared.atom.Lit.{Lit}
use Rattle.formula.specs.Contents.{is_clause, is_clause_from}
use Rattle.formula.specs.Reading.{opposite}
use Rattle.clause_units.specs.Truth.{truth_where, truth_of, Tells, IsBare}
use Rattle.clause_units.proofs.Tables.{get-set_other}
use Rattle.clause_units.proofs.Literals.{in_cons, cons_in, cons_same}
use Rattle.clause_units.proofs.Telling.{tells_none, tells_more}

-- the same literals in another order
tells_same : (table : List (Option Bool)) (xs ys : List Lit) → ((m : Lit) → Contains xs m → Contains ys m) → ((m : Lit) → Contains ys m → Contains xs m) → Tells table xs → Tells table ys
tells_same table xs ys f g h m = (λ c. (h m).0 (g m c), λ e. f m ((h m).1 e))

tells_push : (table : List (Option Bool)) (trues : List Lit) (l : Lit) → l.boolean < length table → Tells table trues → truth_of table l ≡ None → Tells (set table l.boolean (Some l.pos)) (trues ++ l ∷ [])
tells_push table trues l lt h e = tells_same (set table l.boolean (Some l.pos)) (l ∷ trues) (trues ++ l ∷ []) forth back (tells_more table trues l lt h e)
  where
    forth_by : (m : Lit) → (l ≡ m) ⊎ Contains trues m → Contains (trues ++ l ∷ []) m
    forth_by m (inl same) = subst (λ (x : Lit). Contains (trues ++ l ∷ []) x) same (Contains-push trues l)
    forth_by m (inr c) = Contains-append_left trues (l ∷ []) m c

    forth : (m : Lit) → Contains (l ∷ trues) m → Contains (trues ++ l ∷ []) m
    forth m c = forth_by m (in_cons l m trues c)

    back_by : (m : Lit) → Contains trues m ⊎ (l ≡ m) → Contains (l ∷ trues) m
    back_by m (inl c) = cons_in l m trues c
    back_by m (inr same) = subst (λ (x : Lit). Contains (l ∷ trues) x) same (cons_same l trues)

    back : (m : Lit) → Contains (trues ++ l ∷ []) m → Contains (l ∷ trues) m
    back m c = back_by m (Contains-push_cases trues l m c)

-- the literals before the place are false, and what is left of the clause is open
pub record IsDenied (n : ℕ) (lits : List Lit) (table : List (Option Bool)) (i : ℕ) : Type 0 where
  pub least : ℕ
  pub rest : is_clause_from least n (drop i lits) ≡ true
  pub above : (b : ℕ) (t : Bool) → least ≤ b → slice_get table b ≡ Some (Some t) → ⊥
  pub tells : Tells table (map opposite (take i lits))
  pub long : length table ≡ n

pub denied_none : (lits : List Lit) (table : List (Option Bool)) (n : ℕ) → length table ≡ n → IsBare table → is_clause n lits ≡ true → IsDenied n lits table 0
denied_none lits table n long bare clause = record {
  least = 0;
  rest = clause;
  above = λ b t le h. bare b t h;
  tells = tells_none table bare;
  long = long;
}

is_less : (m n : ℕ) → nat_lt m n ≡ true → m < n
is_less m n e = grind (arith, nat_tests)

is_most : (m n : ℕ) → nat_le m n ≡ true → m ≤ n
is_most m n e = grind (arith, nat_tests)

open_from : (p : Bool) (o : Option (Option Bool)) → ((t : Bool) → o ≡ Some (Some t) → ⊥) → truth_where p o ≡ None
open_from p None h = refl
open_from p (Some None) h = refl
open_from p (Some (Some t)) h = absurd (h t refl)

module _ (n : ℕ) (lits : List Lit) (table : List (Option Bool)) (i : ℕ) (d : Lit) (denied : IsDenied n lits table i) (lt : i < length lits) where
  here : Lit
  here = get_or lits i d

  front : is_clause_from denied.least n (get_or lits i d ∷ drop (i + 1) lits) ≡ true
  front = subst (λ (xs : List Lit). is_clause_from denied.least n xs ≡ true) (drop_more lits i d lt) denied.rest

  low : denied.least ≤ (get_or lits i d).boolean
  low = is_most denied.least (get_or lits i d).boolean (and_parts _ _ front).0

  pub denied_within : (get_or lits i d).boolean < length table
  denied_within = omega (arith, is_less (get_or lits i d).boolean n (and_parts _ _ (and_parts (nat_le denied.least (get_or lits i d).boolean) _ front).1).0, denied.long)

  behind : is_clause_from (suc (get_or lits i d).boolean) n (drop (i + 1) lits) ≡ true
  behind = (and_parts (nat_lt (get_or lits i d).boolean n) _ (and_parts (nat_le denied.least (get_or lits i d).boolean) _ front).1).1

  open_here : truth_of table (opposite (get_or lits i d)) ≡ None
  open_here = open_from (opposite (get_or lits i d)).pos (slice_get table (get_or lits i d).boolean) (λ t h. denied.above (get_or lits i d).boolean t low h)

  more : map opposite (take (i + 1) lits) ≡ map opposite (take i lits) ++ opposite (get_or lits i d) ∷ []
  more = let one : i + 1 ≡ suc i = omega arith in ap (λ (k : ℕ). map opposite (take k lits)) one ∙ ap (map opposite) (take-suc lits i d lt) ∙ map-append opposite (take i lits) (get_or lits i d ∷ [])

  pub denied_more : IsDenied n lits (set table (opposite (get_or lits i d)).boolean (Some (opposite (get_or lits i d)).pos)) (i + 1)
  denied_more = record {
    least = suc (get_or lits i d).boolean;
    rest = behind;
    above = λ b t le h.
        let other : b ≢ (get_or lits i d).boolean = λ e. absurd (omega (arith, le, e)) in
        denied.above b t (omega (arith, le, low)) (sym (get-set_other table (get_or lits i d).boolean b (Some (opposite (get_or lits i d)).pos) other) ∙ h);
    tells = subst (λ (xs : List Lit). Tells (set table (opposite (get_or lits i d)).boolean (Some (opposite (get_or lits i d)).pos)) xs) (sym more)
        (tells_push table (map opposite (take i lits)) (opposite (get_or lits i d)) denied_within denied.tells open_here);
    long = length-set table (get_or lits i d).boolean (Some (opposite (get_or lits i d)).pos) ∙ denied.long;
  }

pub denied_all : (n : ℕ) (lits : List Lit) (table : List (Option Bool)) (i : ℕ) → IsDenied n lits table i → length lits ≤ i → Tells table (map opposite lits)
denied_all n lits table i denied past = subst (λ (xs : List Lit). Tells table (map opposite xs)) (take_all i lits past) denied.tells
