-- From entries to literals.
use Rattle.std.proofs.Common.{◌≡◌, ℕ, zero, suc, List, [], ◌∷◌, ◌++◌, Option, Some, None, refl, ap, arith, inl, inr, subst, ◌∙◌, ◌⊎◌, get_or, Ok, Err, Result, ◌+◌, sym}
use Rattle.std.specs.List.{slice_get, Contains, All}
use Rattle.std.specs.Option.{MatchOption}
use Rattle.std.specs.Result.{IfOk}
use Rattle.std.proofs.lemmas.Option.{same_Some, get_or_from_slice_get}
use Rattle.std.proofs.lemmas.List.{map-append}
use Rattle.formula.specs.declared.atom.Lit.{Lit}
use Rattle.formula.specs.Reading.{opposite}
use Rattle.theory_law.specs.Units.{IsUnit, IsFalse}
use Rattle.clause_trail.specs.declared.trail.Entry.{Entry}
use Rattle.clause_trail.specs.Standing.{Stands, IsFree, IsApart}
use Rattle.clause_trail.specs.Scanning.{IsSatisfied, HasTwoFree, IsFalseAmong, IsConflict}
use Rattle.clause_trail.specs.Propagation.{IsOpen, HasTwo, IsQuiet, IsComplete, IsFalseAt, AddsUnits, IsGrown}
use Rattle.clause_trail.specs.Decisions.{lit_of, lits_of}
use Rattle.clause_trail.specs.Pushing.{IsForced, Pushes, IsPushed}
use Rattle.clause_trail.proofs.Gets.{get-within, get-from}
use Rattle.clause_trail.proofs.Lits.{in_cons, cons_in, cons_same, not_opposite, same_stand}

pub contains_at : {A : Type 0} (xs : List A) (k : ℕ) (x : A) → slice_get xs k ≡ Some x → Contains xs x
contains_at xs k x h = (k, get-within xs k x h, get_or_from_slice_get xs k x x h)

pub at_contains : {A : Type 0} (xs : List A) (x : A) → Contains xs x → (k : ℕ) × (slice_get xs k ≡ Some x)
at_contains xs x h = (h.0, get-from xs h.0 x x h.1 h.2)

pub lits_stand : (entries : List Entry) (p : ℕ) (l : Lit) → Stands entries p l → Contains (lits_of entries) l
lits_stand [] p l s = let e = s.1 in absurd (cc)
lits_stand (e ∷ entries) zero l s = subst (λ (x : Lit). Contains (lits_of (e ∷ entries)) x) (ap lit_of (same_Some _ _ s.1)) (cons_same e.lit (lits_of entries))
lits_stand (e ∷ entries) (suc p) l s = cons_in e.lit l (lits_of entries) (lits_stand entries p l s)

pub stand_lits : (entries : List Entry) (l : Lit) → Contains (lits_of entries) l → (p : ℕ) × Stands entries p l
stand_lits [] l h = absurd (omega (arith, h.1))
stand_lits (e ∷ entries) l h = elim (in_cons e.lit l (lits_of entries) h) [
  | inl same ↦ (0, (e.reason, ap (λ (x : Lit). let y : Entry = record { lit = x; reason = e.reason } in Some y) same))
  | inr more ↦ let s = stand_lits entries l more in (suc s.0, s.1)
]

pub open_free : (entries : List Entry) (l : Lit) → IsFree entries l.boolean → IsOpen (lits_of entries) l
open_free entries l f = record {
  not_true = λ c. let s = stand_lits entries l c in f s.0 l s.1 refl;
  not_false = λ c. let s = stand_lits entries (opposite l) c in f s.0 (opposite l) s.1 refl;
}

pub two_free : (entries : List Entry) (clause : List Lit) → HasTwoFree entries clause → HasTwo (lits_of entries) clause
two_free entries clause t = record {
  first = t.first;
  second = t.second;
  first_in = t.first_in;
  second_in = t.second_in;
  differ = t.differ;
  first_open = open_free entries t.first t.first_free;
  second_open = open_free entries t.second t.second_free;
}

pub quiet_entries : (entries : List Entry) (clause : List Lit) → IsSatisfied entries clause ⊎ HasTwoFree entries clause → IsQuiet (lits_of entries) clause
quiet_entries entries clause h = elim h [
  | inl s ↦ inl (s.0, s.1, lits_stand entries s.2.0 s.0 s.2.1)
  | inr t ↦ inr (two_free entries clause t)
]

pub complete_entries : (entries : List Entry) (clauses : List (List Lit)) → All (λ c. IsSatisfied entries c ⊎ HasTwoFree entries c) clauses → IsComplete clauses (lits_of entries)
complete_entries entries clauses h k d lt = quiet_entries entries (get_or clauses k d) (h k d lt)

pub falsified_entries : (entries : List Entry) (clause : List Lit) → IsFalseAmong entries clause → IsFalse (lits_of entries) clause
falsified_entries entries clause f m c = let b = f m c in lits_stand entries b.0 (opposite m) b.2

pub false_at_entries : (entries : List Entry) (clauses : List (List Lit)) (k : ℕ) → IsConflict clauses entries k → IsFalseAt clauses (lits_of entries) k
false_at_entries entries clauses k f = (f.0, f.1, falsified_entries entries f.0 f.2)

pub conflict_lits : (entries : List Entry) (clauses : List (List Lit)) (k : ℕ) → IsFalseAt clauses (lits_of entries) k → IsConflict clauses entries k
conflict_lits entries clauses k f = (f.0, f.1, λ m c. let s = stand_lits entries (opposite m) (f.2 m c) in (s.0, get-within entries s.0 _ s.1.1, s.1))

pub unit_entries : {clauses : List (List Lit)} {n : ℕ} {entries : List Entry} {e : Entry} → (f : IsForced clauses n entries e) → IsUnit (lits_of entries) f.clause e.lit
unit_entries {entries = entries} {e = e} f =
    let o = open_free entries e.lit f.unassigned in
    record {
      within = f.forces.within;
      not_true = o.not_true;
      not_false = o.not_false;
      others = λ m c ne. let b = f.forces.others m c ne in lits_stand entries b.0 (opposite m) b.2;
    }

pub lits_push : (entries : List Entry) (e : Entry) → lits_of (entries ++ e ∷ []) ≡ lits_of entries ++ e.lit ∷ []
lits_push entries e = map-append lit_of entries (e ∷ [])

pub adds_units : (clauses : List (List Lit)) (n : ℕ) (entries added : List Entry) → Pushes clauses n entries added → AddsUnits clauses (lits_of entries) (lits_of added)
adds_units clauses n entries [] h = tt
adds_units clauses n entries (e ∷ added) h = (
  (h.0.clause, contains_at clauses h.0.reason h.0.clause h.0.at, unit_entries h.0),
  subst (λ (x : List Lit). AddsUnits clauses x (lits_of added)) (lits_push entries e) (adds_units clauses n (entries ++ e ∷ []) added h.1),
)

pub grown : {clauses : List (List Lit)} {n : ℕ} {before after : List Entry} → IsPushed clauses n before after → IsGrown clauses (lits_of before) (lits_of after)
grown {clauses = clauses} {n = n} {before = before} {after = after} h = record {
  added = lits_of h.added;
  is = ap lits_of h.is ∙ map-append lit_of before h.added;
  units = adds_units clauses n before h.added h.pushes;
}

abbrev pub Found : List (List Lit) → List Entry → Option ℕ → Type 0
Found clauses entries r = MatchOption r (All (λ c. IsSatisfied entries c ⊎ HasTwoFree entries c) clauses) (IsConflict clauses entries)

found : (entries : List Entry) (clauses : List (List Lit)) (r : Option ℕ) → Found clauses entries r → MatchOption r (IsComplete clauses (lits_of entries)) (IsFalseAt clauses (lits_of entries))
found entries clauses None h = complete_entries entries clauses h
found entries clauses (Some k) h = false_at_entries entries clauses k h

pub answered : {E : Type 0} (entries : List Entry) (clauses clauses' : List (List Lit)) (r : Result (Option ℕ) E) → clauses ≡ clauses' → IfOk r (Found clauses entries) → IfOk r (λ o. MatchOption o (IsComplete clauses' (lits_of entries)) (IsFalseAt clauses' (lits_of entries)))
answered entries clauses clauses' (Ok o) e h = found entries clauses' o (subst (λ (x : List (List Lit)). Found x entries o) e h)
answered entries clauses clauses' (Err f) e h = tt

pub no_both : (entries : List Entry) → IsApart entries → (p q : ℕ) (m : Lit) → Stands entries p m → Stands entries q (opposite m) → ⊥
no_both entries apart p q m a b =
    let same : p ≡ q = apart p q m (opposite m) a b refl in
    not_opposite m (same_stand entries p m (opposite m) a (subst (λ (x : ℕ). Stands entries x (opposite m)) (sym same) b))

pub consistent : (entries : List Entry) → IsApart entries → (m : Lit) → Contains (lits_of entries) m → Contains (lits_of entries) (opposite m) → ⊥
consistent entries apart m a b = let s = stand_lits entries m a in let t = stand_lits entries (opposite m) b in no_both entries apart s.0 t.0 m s.1 t.1
