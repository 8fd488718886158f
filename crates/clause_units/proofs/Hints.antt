-- What hints say, from what a scan of their clauses says.
use Rattle.std.proofs.Common.{◌≡◌, ◌≢◌, ◌↔◌, ◌⊎◌, ◌<◌, ◌≤◌, ◌+◌, inl, inr, ℕ, Option, Some, None, Bool, true, false, List, [], ◌∷◌, length, drop, set, get_or, refl, sym, ap, subst, ◌∙◌, arith}
use Rattle.std.specs.Prelude.{slice_get, IsTrue}
use Rattle.std.proofs.lemmas.List.{drop_more, at_drop_all}
use Rattle.std.specs.List.{Contains}
use Rattle.std.proofs.lemmas.Option.{same_Some}
use Rattle.formula.specs.declared.atom.Lit.{Lit}
use Rattle.theory_law.specs.Units.{IsFalse, IsUnit, Follows}
use Rattle.clause_units.specs.Truth.{truth_of, Tells}
use Rattle.clause_units.specs.Scanning.{IsUnitIn, HasTwoOpen, IsBroken, GoesOn}
use Rattle.clause_units.proofs.Literals.{lit_or}
use Rattle.clause_units.proofs.Telling.{false_told, told_false, tells_more}

module _ (table : List (Option Bool)) (trues : List Lit) (tells : Tells table trues) where
  pub false_is : (clause : List Lit) → ((m : Lit) → Contains clause m → truth_of table m ≡ Some false) → IsFalse trues clause
  false_is clause h m c = false_told table trues tells m (h m c)

  pub is_false : (clause : List Lit) → IsFalse trues clause → (m : Lit) → Contains clause m → truth_of table m ≡ Some false
  is_false clause h m c = told_false table trues tells m (h m c)

  pub unit_is : (clause : List Lit) (l : Lit) → IsUnitIn table clause l → IsUnit trues clause l
  unit_is clause l u = record {
    within = u.within;
    not_true = λ c. let e = (tells l).0 c in let n = u.is_open in absurd (cc);
    not_false = λ c. let e = told_false table trues tells l c in let n = u.is_open in absurd (cc);
    others = λ m c ne. false_told table trues tells m (u.others m c ne);
  }

  truth_or : (o : Option Bool) → (o ≡ Some true → ⊥) → (o ≡ Some false → ⊥) → o ≡ None
  truth_or None a b = refl
  truth_or (Some true) a b = absurd (a refl)
  truth_or (Some false) a b = absurd (b refl)

  pub is_unit : (clause : List Lit) (l : Lit) → IsUnit trues clause l → IsUnitIn table clause l
  is_unit clause l u = record {
    within = u.within;
    is_open = truth_or (truth_of table l) (λ e. u.not_true ((tells l).1 e)) (λ e. u.not_false (false_told table trues tells l e));
    others = λ m c ne. told_false table trues tells m (u.others m c ne);
  }

-- ---- one unit at most

pub one_unit : (table : List (Option Bool)) (clause : List Lit) (l m : Lit) → IsUnitIn table clause l → IsUnitIn table clause m → m ≡ l
one_unit table clause l m a b = by_same (lit_or m l)
  where
    by_same : (m ≡ l) ⊎ (m ≢ l) → m ≡ l
    by_same (inl e) = e
    by_same (inr ne) = let f = a.others m b.within ne in let n = b.is_open in absurd (cc)

pub no_unit_met : (table : List (Option Bool)) (clause : List Lit) (m : Lit) → Contains clause m → truth_of table m ≡ Some true → (l : Lit) → IsUnitIn table clause l → ⊥
no_unit_met table clause m c e l u = by_same (lit_or m l)
  where
    by_same : (m ≡ l) ⊎ (m ≢ l) → ⊥
    by_same (inl same) = let n : truth_of table m ≡ None = subst (λ (x : Lit). truth_of table x ≡ None) (sym same) u.is_open in absurd (cc)
    by_same (inr ne) = let f = u.others m c ne in absurd (cc)

pub no_unit_false : (table : List (Option Bool)) (clause : List Lit) → ((m : Lit) → Contains clause m → truth_of table m ≡ Some false) → (l : Lit) → IsUnitIn table clause l → ⊥
no_unit_false table clause h l u = let f = h l u.within in let n = u.is_open in absurd (cc)

pub no_unit_open : (table : List (Option Bool)) (clause : List Lit) → HasTwoOpen table clause → (l : Lit) → IsUnitIn table clause l → ⊥
no_unit_open table clause h l u = by_same (lit_or h.first l)
  where
    second_other : h.first ≡ l → h.second ≢ l
    second_other e f = h.differ (e ∙ sym f)

    by_same : (h.first ≡ l) ⊎ (h.first ≢ l) → ⊥
    by_same (inl same) = let f = u.others h.second h.second_in (second_other same) in let n = h.second_open in absurd (cc)
    by_same (inr ne) = let f = u.others h.first h.first_in ne in let n = h.first_open in absurd (cc)

-- ---- hints one after another

pub last_hint : (clauses : List (List Lit)) (trues c : List Lit) (h : ℕ) → slice_get clauses h ≡ Some c → IsFalse trues c ↔ Follows clauses trues (h ∷ [])
last_hint clauses trues c h at = (
  λ f. (c, at, f),
  λ f. subst (λ (x : List Lit). IsFalse trues x) (same_Some _ _ (sym f.1 ∙ at)) f.2,
)

module _ (clauses : List (List Lit)) (table : List (Option Bool)) (trues : List Lit) (tells : Tells table trues) (c : List Lit) (h i : ℕ) (hints : List ℕ) (at : slice_get clauses h ≡ Some c) where
  pub first_hint : (l : Lit) → IsUnitIn table c l → Follows clauses (l ∷ trues) (i ∷ hints) ↔ Follows clauses trues (h ∷ i ∷ hints)
  first_hint l u = (
    λ f. (c, at, l, unit_is table trues tells c l u, f),
    λ f.
        let there : IsUnitIn table c f.2 = subst (λ (x : List Lit). IsUnitIn table x f.2) (same_Some _ _ (sym f.1 ∙ at)) (is_unit table trues tells f.0 f.2 f.3) in
        subst (λ (x : Lit). Follows clauses (x ∷ trues) (i ∷ hints)) (one_unit table c l f.2 u there) f.4,
  )

  pub no_hint : ((l : Lit) → IsUnitIn table c l → ⊥) → Follows clauses trues (h ∷ i ∷ hints) → ⊥
  no_hint none f = none f.2 (subst (λ (x : List Lit). IsUnitIn table x f.2) (same_Some _ _ (sym f.1 ∙ at)) (is_unit table trues tells f.0 f.2 f.3))

-- ---- the hints from a place on

rest_one : (hints : List ℕ) (i d : ℕ) → i + 1 ≡ length hints → drop i hints ≡ get_or hints i d ∷ []
rest_one hints i d last = drop_more hints i d (omega (arith, last)) ∙ ap (λ (xs : List ℕ). get_or hints i d ∷ xs) (at_drop_all (λ (xs : List ℕ). xs) hints (i + 1) (omega (arith, last)))

rest_two : (hints : List ℕ) (i d : ℕ) → i + 1 < length hints → drop i hints ≡ get_or hints i d ∷ get_or hints (i + 1) d ∷ drop (i + 1 + 1) hints
rest_two hints i d more = drop_more hints i d (omega (arith, more)) ∙ ap (λ (xs : List ℕ). get_or hints i d ∷ xs) (drop_more hints (i + 1) d more)

module _ (clauses : List (List Lit)) (trues : List Lit) (hints : List ℕ) (table : List (Option Bool)) (i d : ℕ) (goes : GoesOn clauses trues hints table (drop i hints)) where
  pub goes_end : length hints ≤ i → Follows clauses trues hints → ⊥
  goes_end past f = subst (λ (xs : List ℕ). Follows clauses goes.now xs) (at_drop_all (λ (xs : List ℕ). xs) hints i past) (goes.same.1 f)

  module _ (c : List Lit) (at : slice_get clauses (get_or hints i d) ≡ Some c) where
    pub goes_last : (b : Bool) → i + 1 ≡ length hints → IsTrue b ↔ IsBroken table c → IsTrue b ↔ Follows clauses trues hints
    goes_last b last says =
        let here : IsFalse goes.now c ↔ Follows clauses goes.now (get_or hints i d ∷ []) = last_hint clauses goes.now c (get_or hints i d) at in
        let is : drop i hints ≡ get_or hints i d ∷ [] = rest_one hints i d last in (
          λ t. goes.same.0 (subst (λ (xs : List ℕ). Follows clauses goes.now xs) (sym is) (here.0 (false_is table goes.now goes.tells c (says.0 t)))),
          λ f. says.1 (is_false table goes.now goes.tells c (here.1 (subst (λ (xs : List ℕ). Follows clauses goes.now xs) is (goes.same.1 f)))),
        )

    pub goes_none : i + 1 < length hints → ((l : Lit) → IsUnitIn table c l → ⊥) → Follows clauses trues hints → ⊥
    goes_none more none f =
        no_hint clauses table goes.now goes.tells c (get_or hints i d) (get_or hints (i + 1) d) (drop (i + 1 + 1) hints) at none
        (subst (λ (xs : List ℕ). Follows clauses goes.now xs) (rest_two hints i d more) (goes.same.1 f))

    pub goes_on : (l : Lit) → i + 1 < length hints → IsUnitIn table c l → l.boolean < length table → GoesOn clauses trues hints (set table l.boolean (Some l.pos)) (drop (i + 1) hints)
    goes_on l more u lt =
        let two : drop i hints ≡ get_or hints i d ∷ get_or hints (i + 1) d ∷ drop (i + 1 + 1) hints = rest_two hints i d more in
        let one : drop (i + 1) hints ≡ get_or hints (i + 1) d ∷ drop (i + 1 + 1) hints = drop_more hints (i + 1) d more in
        let step = first_hint clauses table goes.now goes.tells c (get_or hints i d) (get_or hints (i + 1) d) (drop (i + 1 + 1) hints) at l u in
        record {
          now = l ∷ goes.now;
          tells = tells_more table goes.now l lt goes.tells u.is_open;
          same = (
            λ f. goes.same.0 (subst (λ (xs : List ℕ). Follows clauses goes.now xs) (sym two) (step.0 (subst (λ (xs : List ℕ). Follows clauses (l ∷ goes.now) xs) one f))),
            λ f. subst (λ (xs : List ℕ). Follows clauses (l ∷ goes.now) xs) (sym one) (step.1 (subst (λ (xs : List ℕ). Follows clauses goes.now xs) two (goes.same.1 f))),
          );
        }

pub never : (P : Type 0) → (P → ⊥) → IsTrue false ↔ P
never P none = (λ t. absurd (cc), λ p. absurd (none p))
