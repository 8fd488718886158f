-- A trail to which clauses added what they force.
use Rattle.std.proofs.Common.{◌≡◌, inl, inr, ℕ, ◌<◌, ◌+◌, List, [], ◌∷◌, ◌++◌, length, Some, refl, sym, ap, subst, ◌∙◌, append_assoc, append-nil, Ok, Err, Result}
use Rattle.std.specs.List.{slice_get, All}
use Rattle.std.specs.Result.{OnOk, OnErr}
use Rattle.std.proofs.lemmas.Option.{get_or_from_slice_get}
use Rattle.std.proofs.lemmas.List.Elements.{All-contains}
use Rattle.formula.specs.declared.atom.Lit.{Lit}
use Rattle.clause_trail.specs.declared.trail.Entry.{Entry}
use Rattle.clause_trail.specs.Decisions.{IsWithin}
use Rattle.clause_trail.specs.Pushing.{IsForced, IsPushed, Pushes, AssertsClause}
use Rattle.clause_trail.proofs.Gets.{get-within}
use Rattle.clause_trail.specs.Standing.{Forces, IsFree}
use Rattle.clause_trail.specs.Scanning.{ScanHolds, IsSatisfied, IsFalseAmong, HasTwoFree}
use Rattle.clause_trail.specs.declared.scanning.Scanned.{Scanned}
use Rattle.clause_trail.specs.declared.scanning.Scanned.TheVariants.{Satisfied, Falsified, Unit as UnitOf, Open}

pub pushed_none : {clauses : List (List Lit)} {n : ℕ} (entries : List Entry) → IsPushed clauses n entries entries
pushed_none entries = record { added = []; is = sym (append-nil entries); pushes = tt }

pushes_push : {clauses : List (List Lit)} {n : ℕ} (before added : List Entry) (e : Entry) → Pushes clauses n before added → IsForced clauses n (before ++ added) e → Pushes clauses n before (added ++ e ∷ [])
pushes_push {clauses = clauses} {n = n} before [] e h f = (subst (λ (x : List Entry). IsForced clauses n x e) (append-nil before) f, tt)
pushes_push {clauses = clauses} {n = n} before (x ∷ added) e h f = (h.0, pushes_push (before ++ x ∷ []) added e h.1 (subst (λ (y : List Entry). IsForced clauses n y e) (sym (append_assoc before (x ∷ []) added)) f))

pub pushed_push : {clauses : List (List Lit)} {n : ℕ} {before now after : List Entry} → IsPushed clauses n before now → (e : Entry) → after ≡ now ++ e ∷ [] → IsForced clauses n now e → IsPushed clauses n before after
pushed_push {clauses = clauses} {n = n} {before = before} h e is f = record {
  added = h.added ++ e ∷ [];
  is = is ∙ ap (λ (x : List Entry). x ++ e ∷ []) h.is ∙ append_assoc before h.added (e ∷ []);
  pushes = pushes_push before h.added e h.pushes (subst (λ (x : List Entry). IsForced clauses n x e) h.is f);
}

pub pushed_result : {E : Type 0} (r : Result (Unit {0}) E) {clauses : List (List Lit)} {n : ℕ} {before after : List Entry} (e : Entry) → OnOk r (after ≡ before ++ e ∷ []) → OnErr r (after ≡ before) → IsForced clauses n before e → IsPushed clauses n before after
pushed_result (Ok done) {before = before} e ok err f = pushed_push (pushed_none before) e ok f
pushed_result (Err x) {clauses = clauses} {n = n} {before = before} e ok err f = subst (λ (x : List Entry). IsPushed clauses n before x) (sym err) (pushed_none before)

All-at : {A : Type 0} (xs : List A) (k : ℕ) (x : A) (P : A → Type 0) → All P xs → slice_get xs k ≡ Some x → P x
All-at xs k x P h at = subst P (get_or_from_slice_get xs k x x at) (h k x (get-within xs k x at))

pub forced_next : (clauses : List (List Lit)) (n : ℕ) (entries : List Entry) (k : ℕ) (l : Lit) → All (IsWithin n) clauses → (c : List Lit) → slice_get clauses k ≡ Some c → Forces entries (length entries) c l → IsFree entries l.boolean → IsForced clauses n entries (record { lit = l; reason = Some k })
forced_next clauses n entries k l w c at f free = record {
  reason = k;
  clause = c;
  has = refl;
  at = at;
  forces = f;
  unassigned = free;
  low = All-contains (λ (m : Lit). m.boolean < n) c l (All-at clauses k c (IsWithin n) w at) f.within;
}

-- a unit clause made its literal true
pub asserts_unit : {E : Type 0} (r : Result (Unit {0}) E) (clauses : List (List Lit)) (k : ℕ) (c : List Lit) (l : Lit) (before after : List Entry) → slice_get clauses k ≡ Some c → Forces before (length before) c l → IsFree before l.boolean
    → OnOk r (after ≡ before ++ record { lit = l; reason = Some k } ∷ []) → OnOk r (AssertsClause clauses k before after)
asserts_unit (Ok done) clauses k c l before after at forces free is = (c, at, inl (record { lit = l; forces = forces; unassigned = free; is = is }))
asserts_unit (Err x) clauses k c l before after at forces free is = tt

-- any other clause leaves the trail as it was
pub asserts_nothing : (clauses : List (List Lit)) (k : ℕ) (c : List Lit) (s : Scanned) (entries : List Entry) → slice_get clauses k ≡ Some c → ScanHolds entries c s → ((l : Lit) → s ≡ UnitOf l → ⊥) → AssertsClause clauses k entries entries
asserts_nothing clauses k c Satisfied entries at h none = (c, at, inr (record { same = refl; says = inr (inl h) }))
asserts_nothing clauses k c Falsified entries at h none = (c, at, inr (record { same = refl; says = inl h }))
asserts_nothing clauses k c (UnitOf l) entries at h none = absurd (none l refl)
asserts_nothing clauses k c Open entries at h none = (c, at, inr (record { same = refl; says = inr (inr h) }))
