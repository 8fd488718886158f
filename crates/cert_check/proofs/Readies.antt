-- A formula and a table that has room for its Booleans.
use Rattle.std.proofs.Common.{◌==◌, ◌≡◌, ◌↔◌, ℕ, suc, ◌<◌, ◌≤◌, ◌+◌, Option, Some, None, Bool, true, false, nat_le, nat_lt, List, [], ◌∷◌, ◌++◌, ◌⊎◌, inl, inr, length, length-append, map, replicate, refl, sym, ap, subst, ◌∙◌, arith, All}
use Rattle.std.specs.Prelude.{IsTrue, slice_get}
use Rattle.std.proofs.lemmas.Option.{slice_get_within, get_or_from_slice_get}
use Rattle.std.specs.List.{list_all, Contains}
use Rattle.std.proofs.lemmas.Bool.{and_parts, and_from}
use Rattle.std.proofs.lemmas.Bool.Decides.{nat_tests}
use Rattle.std.proofs.lemmas.List.{length-replicate}
use Rattle.std.proofs.lemmas.List.Elements.{All-nil, All-cons, All-weaker, All-contains, Contains-append_left, Contains-push, Contains-push_cases}
use Rattle.formula.specs.declared.atom.Atom.{Atom}
use Rattle.formula.specs.declared.atom.Lit.{Lit}
use Rattle.formula.specs.Contents.{Contents, is_clause, is_clause_from, with_clause, with_boolean}
use Rattle.formula.proofs.Growing.{clauses-more}
use Rattle.clause_units.specs.Truth.{AreWithin}
use Rattle.clause_index.specs.Places.{Places, HasRoom, IsListed, Keeps, with_empty}
use Rattle.cert_check.specs.inside.Ready.{IsReady, IsKept}
use Rattle.cert_check.specs.inside.Indexed.{IsIndexed}
use Rattle.cert_check.proofs.Indexing.{indexed_still, indexed_more}
use Rattle.clause_units.proofs.Tables.{bare_replicate, get-push_cases}

-- a clause of so many Booleans is one of more
pub clause_fits : (n m : ℕ) → n ≤ m → (c : List Lit) → is_clause n c ≡ true → is_clause m c ≡ true
clause_fits n m h c e = (and_parts (is_clause m c) true (clauses-more n m h (c ∷ []) (and_from (is_clause n c) true e refl))).0

is_less : (m n : ℕ) → nat_lt m n ≡ true → m < n
is_less m n e = grind (arith, nat_tests)

pub clause_within : (least n m : ℕ) → n ≤ m → (c : List Lit) → is_clause_from least n c ≡ true → AreWithin m c
clause_within least n m h [] e = All-nil (λ l. l.boolean < m)
clause_within least n m h (l ∷ c) e =
    let p = and_parts (nat_le least l.boolean) _ e in
    let q = and_parts (nat_lt l.boolean n) _ p.1 in
    let low : l.boolean < n = is_less l.boolean n q.0 in
    All-cons (λ l. l.boolean < m) l c (omega (arith, low, h)) (clause_within (suc l.boolean) n m h c q.1)

pub clauses_within : (n m : ℕ) → n ≤ m → (cs : List (List Lit)) → list_all (is_clause n) cs ≡ true → All (AreWithin m) cs
clauses_within n m h [] e = All-nil (AreWithin m)
clauses_within n m h (c ∷ cs) e = let p = and_parts (is_clause n c) _ e in All-cons (AreWithin m) c cs (clause_within 0 n m h c p.0) (clauses_within n m h cs p.1)

-- there is room for the literals of a clause
pub rooms : (index : Places) (n : ℕ) (c : List Lit) → HasRoom index n → AreWithin n c → All (λ l. HasRoom index (l.boolean + 1)) c
rooms index n c room within = All-weaker (λ l. l.boolean < n) (λ l. HasRoom index (l.boolean + 1)) (λ l less. record { positive = omega (arith, less, room.positive); negative = omega (arith, less, room.negative) }) c within

pub rooms_of : (f : Contents) (index : Places) (n : ℕ) (c : List Lit) → HasRoom index (length f.atoms) → list_all (is_clause (length f.atoms)) f.clauses ≡ true → slice_get f.clauses n ≡ Some c → All (λ l. HasRoom index (l.boolean + 1)) c
rooms_of f index n c room are at =
    rooms index (length f.atoms) c room (All-contains (AreWithin (length f.atoms)) f.clauses c (clauses_within (length f.atoms) (length f.atoms) (omega arith) f.clauses are) (n, slice_get_within f.clauses n c at, get_or_from_slice_get f.clauses n c c at))

pub rooms_for : (f : Contents) (index : Places) (c lits : List Lit) → HasRoom index (length f.atoms) → is_clause (length f.atoms) c ≡ true → lits ≡ c → All (λ l. HasRoom index (l.boolean + 1)) lits
rooms_for f index c lits room is e = subst (λ (x : List Lit). All (λ l. HasRoom index (l.boolean + 1)) x) (sym e) (rooms index (length f.atoms) c room (clause_within 0 (length f.atoms) (length f.atoms) (omega arith) c is))

-- all was taken back
pub ready_cleared : (f : Contents) (now : List (Option Bool)) (n : ℕ) → length f.atoms ≤ n → now ≡ replicate n None → IsReady f now
ready_cleared f now n long e =
    let none : Option Bool = None in
    subst (λ (t : List (Option Bool)). IsReady f t) (sym e) (record { bare = bare_replicate n; long = omega (arith, long, length-replicate n none) })

-- ---- what the judge keeps

pub kept_new : (f : Contents) (table : List (Option Bool)) (n : ℕ) (index : Places) → table ≡ replicate n None → n ≡ length f.atoms → HasRoom index (length f.atoms) → IsIndexed f.clauses index → IsKept f table index
kept_new f table n index e long room indexed = record {
  ready = ready_cleared f table n (omega (arith, long)) e;
  room = room;
  indexed = indexed;
}

-- the same formula, with an index that has what it had
pub kept_same : (f same : Contents) (table : List (Option Bool)) (old new : Places) → IsKept f table old → same ≡ f → Keeps old new → new.empty ≡ old.empty → ((n : ℕ) → HasRoom old n → HasRoom new n) → IsKept same table new
kept_same f same table old new kept is keeps e room = subst (λ (x : Contents). IsKept x table new) (sym is) (record {
  ready = kept.ready;
  room = room (length f.atoms) kept.room;
  indexed = indexed_still f.clauses old new kept.indexed keeps e;
})

-- one more clause, which the index has
pub kept_clause : (f more : Contents) (table : List (Option Bool)) (old new : Places) (c : List Lit) → IsKept f table old → more ≡ with_clause c f → Keeps old new → ((n : ℕ) → HasRoom old n → HasRoom new n)
    → IsListed new (length f.clauses) c → IsTrue new.empty ↔ (IsTrue old.empty ⊎ (c ≡ [])) → IsKept more table new
kept_clause f more table old new c kept is keeps room there flag = subst (λ (x : Contents). IsKept x table new) (sym is) (record {
  ready = record { bare = kept.ready.bare; long = kept.ready.long };
  room = room (length f.atoms) kept.room;
  indexed = indexed_more f.clauses c old new kept.indexed keeps there flag;
})

-- the clause that was added is empty, or not
pub flag_without : (old new : Places) (c : List Lit) → new.empty ≡ old.empty → (c ≡ [] → ⊥) → IsTrue new.empty ↔ (IsTrue old.empty ⊎ (c ≡ []))
flag_without old new c e none = (λ t. inl (sym e ∙ t), λ h. by_part h)
  where
    by_part : IsTrue old.empty ⊎ (c ≡ []) → IsTrue new.empty
    by_part (inl t) = e ∙ t
    by_part (inr is) = absurd (none is)

pub flag_with : (old new : Places) (c : List Lit) → new.empty ≡ true → c ≡ [] → IsTrue new.empty ↔ (IsTrue old.empty ⊎ (c ≡ []))
flag_with old new c e none = (λ t. inr none, λ h. e)

-- a clause by other names
pub listed_named : (index : Places) (n m : ℕ) (lits c : List Lit) → n ≡ m → lits ≡ c → IsListed index n lits → IsListed index m c
listed_named index n m lits c e g h = subst (λ (k : ℕ). IsListed index k c) e (subst (λ (x : List Lit). IsListed index n x) g h)

-- an index with the flag set keeps what it had
pub full_keeps : (index full : Places) → full ≡ with_empty index → Keeps index full
full_keeps index full is number [] h = tt
full_keeps index full is number (l ∷ ls) h = subst (λ (i : Places). IsListed i number (l ∷ ls)) (sym is) h

pub full_room : (index full : Places) → full ≡ with_empty index → (n : ℕ) → HasRoom index n → HasRoom full n
full_room index full is n room = subst (λ (i : Places). HasRoom i n) (sym is) (record { positive = room.positive; negative = room.negative })

ready_longer : (f : Contents) (table : List (Option Bool)) → IsReady f table → IsReady f (table ++ None ∷ [])
ready_longer f table ready =
    let none : Option Bool = None in
    record {
      bare = λ b t h. elim (get-push_cases table none b (Some t) h) as (λ _. ⊥) [ inl old ↦ ready.bare b t old | inr new ↦ let g = new.1 in cc ];
      long = omega (arith, ready.long, length-append table (none ∷ []));
    }

ready_boolean : (f : Contents) (table : List (Option Bool)) (a : Option Atom) → IsReady f table → IsReady (with_boolean a f) (table ++ None ∷ [])
ready_boolean f table a ready =
    let none : Option Bool = None in
    record {
      bare = λ b t h. elim (get-push_cases table none b (Some t) h) as (λ _. ⊥) [ inl old ↦ ready.bare b t old | inr new ↦ let g = new.1 in cc ];
      long = omega (arith, ready.long, length-append table (none ∷ []), length-append f.atoms (a ∷ []));
    }

pub kept_boolean : (f more : Contents) (table longer : List (Option Bool)) (old new : Places) (a : Option Atom) → IsKept f table old → longer ≡ table ++ None ∷ [] → more ≡ with_boolean a f → Keeps old new → new.empty ≡ old.empty
    → ((n : ℕ) → HasRoom old n → HasRoom new (n + 1)) → IsKept more longer new
kept_boolean f more table longer old new a kept e is keeps same room =
    subst (λ (x : Contents). IsKept x longer new) (sym is) (subst (λ (t : List (Option Bool)). IsKept (with_boolean a f) t new) (sym e) (record {
      ready = ready_boolean f table a kept.ready;
      room = subst (λ (n : ℕ). HasRoom new n) (sym (length-append f.atoms (a ∷ []))) (room (length f.atoms) kept.room);
      indexed = indexed_still f.clauses old new kept.indexed keeps same;
    }))

-- a longer table alone
pub kept_longer : (f more : Contents) (table longer : List (Option Bool)) (old new : Places) → IsKept f table old → longer ≡ table ++ None ∷ [] → more ≡ f → Keeps old new → new.empty ≡ old.empty → ((n : ℕ) → HasRoom old n → HasRoom new n)
    → IsKept more longer new
kept_longer f more table longer old new kept e is keeps same room =
    subst (λ (x : Contents). IsKept x longer new) (sym is) (subst (λ (t : List (Option Bool)). IsKept f t new) (sym e) (record {
      ready = ready_longer f table kept.ready;
      room = room (length f.atoms) kept.room;
      indexed = indexed_still f.clauses old new kept.indexed keeps same;
    }))

zero_is : (n : ℕ) → (n == 0) ≡ true → n ≡ 0
zero_is n e = grind (arith, nat_tests)

no_literal : (c : List Lit) → (length c == 0) ≡ true → c ≡ []
no_literal [] e = refl
no_literal (l ∷ c) e = let z = zero_is (length (l ∷ c)) e in absurd (omega (arith, z))

-- a list without a length is empty
pub is_none : (lits c : List Lit) (r : Bool) → r ≡ (length lits == 0) → lits ≡ c → r ≡ true → c ≡ []
is_none lits c r e g t = sym g ∙ no_literal lits (sym e ∙ t)

pub is_some_literal : (lits c : List Lit) (r : Bool) → r ≡ (length lits == 0) → lits ≡ c → r ≡ false → c ≡ [] → ⊥
is_some_literal lits c r e g f none = let h : (length lits == 0) ≡ true = ap (λ (x : List Lit). length x == 0) (g ∙ none) in cc
