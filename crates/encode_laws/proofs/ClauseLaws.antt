-- A numbered clause is true exactly where its row is.
use Rattle.std.proofs.Common.{◌≡◌, ℕ, Bool, true, false, not, cond, ◌||◌, List, [], ◌∷◌, refl, sym, ap, ◌∙◌, nat_eq, nat_lt}
use Rattle.std.specs.Prelude.{⊤, Option, Some, None}
use Rattle.std.proofs.lemmas.Bool.{eqb-true}
use Rattle.std.specs.List.{AllByRecursion, list_any}
use Rattle.rational.specs.Floor.{IsWhole}
use Rattle.encode_laws.specs.Rows.{Assignment, Literal, true_at, row_at, signed, Item, number, boolean, row, needs, MeetsAll}
use Rattle.formula.specs.declared.atom.Lit.{Lit}
use Rattle.std.specs.Bool.{beq}
use Rattle.formula.specs.Meets.{truth_at, is_true}
use Rattle.encode_laws.specs.Numbering.{Key, Plain, always, never, of, plain, index_of, front_of, with_lit, with_numbered, clause_from, clause_of, with_clause, clauses_of}
use Rattle.encode_laws.proofs.PlainLaws.{is_counted_in, key_true, plain_true, plain-literal}
use Rattle.encode_laws.proofs.TableLaws.{IsIn, PlainIn, RowIn, ItemIn}

abbrev pub clause_true : List Bool → List Lit → Bool
clause_true values c = list_any (is_true values) c

-- each count is whole
abbrev pub NumberMet : Assignment → Item → Type 0
NumberMet pt (number v true) = IsWhole (pt.value v)
NumberMet pt (number v false) = ⊤
NumberMet pt (boolean f) = ⊤
NumberMet pt (needs ops) = ⊤
NumberMet pt (row ls) = ⊤

module _ (values : List Bool) where
  -- the truth of a clause, and of the row that is left out
  abbrev pub left_true : Option (List Lit) → Bool
  left_true None = true
  left_true (Some ls) = clause_true values ls

  same_sign : (b c t : Bool) → beq b c ≡ true → cond b t (not t) ≡ cond c t (not t)
  same_sign true true t h = refl
  same_sign true false t h = absurd (cc)
  same_sign false true t h = absurd (cc)
  same_sign false false t h = refl

  other_sign : (b c t : Bool) → beq b c ≡ false → cond b t (not t) ≡ not (cond c t (not t))
  other_sign true true t h = absurd (cc)
  other_sign true false true h = refl
  other_sign true false false h = refl
  other_sign false true t h = refl
  other_sign false false t h = absurd (cc)

  twice : (x y : Bool) → (x || y) ≡ (x || (x || y))
  twice true y = refl
  twice false y = refl

  either : (x y : Bool) → true ≡ (not x || (x || y))
  either true y = refl
  either false y = refl

  swap : (x y z : Bool) → (x || (y || z)) ≡ (y || (x || z))
  swap true true z = refl
  swap true false z = refl
  swap false true z = refl
  swap false false z = refl

  or-true : (x : Bool) → true ≡ (x || true)
  or-true true = refl
  or-true false = refl

  front_true : (l : Lit) (o : Option (List Lit)) → left_true (front_of l o) ≡ (is_true values l || left_true o)
  front_true l None = or-true (is_true values l)
  front_true l (Some ls) = refl

  same_order : (m l : Lit) (b : Bool) → beq m.pos l.pos ≡ b → beq l.pos m.pos ≡ b
  same_order m l b h = bool_sym l.pos m.pos ∙ h
    where
      bool_sym : (x y : Bool) → beq x y ≡ beq y x
      bool_sym true true = refl
      bool_sym true false = refl
      bool_sym false true = refl
      bool_sym false false = refl

  with_lit-true : (l : Lit) (ls : List Lit) → left_true (with_lit l ls) ≡ (is_true values l || clause_true values ls)
  with_lit-true l [] = refl
  with_lit-true l (m ∷ ms) = by_order (nat_lt m.boolean l.boolean) (nat_eq m.boolean l.boolean) refl (with_lit-true l ms)
    where
      by_sign : l.boolean ≡ m.boolean → (s : Bool) → beq l.pos m.pos ≡ s → left_true (cond s (Some (m ∷ ms)) None) ≡ (is_true values l || clause_true values (m ∷ ms))
      by_sign e true h = twice (is_true values m) (clause_true values ms)
          ∙ sym (ap (λ b. b || clause_true values (m ∷ ms)) (ap (λ (n : ℕ). cond l.pos (truth_at values n) (not (truth_at values n))) e ∙ same_sign l.pos m.pos (truth_at values m.boolean) h))
      by_sign e false h = either (is_true values m) (clause_true values ms)
          ∙ sym (ap (λ b. b || clause_true values (m ∷ ms)) (ap (λ (n : ℕ). cond l.pos (truth_at values n) (not (truth_at values n))) e ∙ other_sign l.pos m.pos (truth_at values m.boolean) h))

      by_order : (a e : Bool) → nat_eq m.boolean l.boolean ≡ e → left_true (with_lit l ms) ≡ (is_true values l || clause_true values ms)
          → left_true (cond a (front_of m (with_lit l ms)) (cond e (cond (beq m.pos l.pos) (Some (m ∷ ms)) None) (Some (l ∷ m ∷ ms)))) ≡ (is_true values l || clause_true values (m ∷ ms))
      by_order true e h ih = front_true m (with_lit l ms) ∙ ap (λ b. is_true values m || b) ih ∙ swap (is_true values m) (is_true values l) (clause_true values ms)
      by_order false true h ih = by_sign (sym (eqb-true m.boolean l.boolean h)) (beq m.pos l.pos) (same_order m l (beq m.pos l.pos) refl)
      by_order false false h ih = refl

-- the truths of the Booleans are those of what they stand for
abbrev pub Fits : List Bool → Assignment → List Key → Type 0
Fits values pt table = (key : Key) → IsIn key table → truth_at values (index_of key table) ≡ key_true pt key

module _ (pt : Assignment) (counts : List Bool) (whole_counts : (v : ℕ) → is_counted_in counts v ≡ true → IsWhole (pt.value v)) (values : List Bool) (table : List Key) (fits : Fits values pt table) where
  numbered-true : (q : Plain) (o : Option (List Lit)) → PlainIn table q → left_true values (with_numbered table q o) ≡ (plain_true pt q || left_true values o)
  numbered-true q None h = or_true (plain_true pt q)
    where
      or_true : (x : Bool) → true ≡ (x || true)
      or_true true = refl
      or_true false = refl
  numbered-true always (Some ls) h = refl
  numbered-true never (Some ls) h = refl
  numbered-true (of s key) (Some ls) h = with_lit-true values (record { boolean = index_of key table; pos = s }) ls ∙ ap (λ t. signed s t || clause_true values ls) (fits key h)

  regroup : (q o r : Bool) → ((q || o) || r) ≡ (o || (q || r))
  regroup true true r = refl
  regroup true false r = refl
  regroup false true r = refl
  regroup false false r = refl

  or-false : (x : Bool) → x ≡ (x || false)
  or-false true = refl
  or-false false = refl

  clause_from-true : (o : Option (List Lit)) (ls : List Literal) → RowIn counts table ls → left_true values (clause_from table counts o ls) ≡ (left_true values o || row_at pt ls)
  clause_from-true o [] h = or-false (left_true values o)
  clause_from-true o (l ∷ ls) h = clause_from-true (with_numbered table (plain counts l) o) ls h.1
      ∙ ap (λ b. b || row_at pt ls) (numbered-true (plain counts l) o h.0) ∙ ap (λ b. (b || left_true values o) || row_at pt ls) (sym (plain-literal pt counts whole_counts l))
      ∙ regroup (true_at pt l) (left_true values o) (row_at pt ls)

  clause-true : (ls : List Literal) → RowIn counts table ls → left_true values (clause_of table counts ls) ≡ row_at pt ls
  clause-true ls h = clause_from-true (Some []) ls h

  ClausesTrue : List (List Lit) → Type 0
  ClausesTrue cs = AllByRecursion (λ c. clause_true values c ≡ true) cs

  clause_met : (o : Option (List Lit)) (cs : List (List Lit)) → AllByRecursion (λ c. clause_true values c ≡ true) (with_clause o cs) → (left_true values o ≡ true) × AllByRecursion (λ c. clause_true values c ≡ true) cs
  clause_met None cs h = (refl, h)
  clause_met (Some c) cs h = h

  meet_clause : (o : Option (List Lit)) (cs : List (List Lit)) → left_true values o ≡ true → AllByRecursion (λ c. clause_true values c ≡ true) cs → AllByRecursion (λ c. clause_true values c ≡ true) (with_clause o cs)
  meet_clause None cs e h = h
  meet_clause (Some c) cs e h = (e, h)

  pub clauses-down : (xs : List Item) → AllByRecursion (NumberMet pt) xs → AllByRecursion (ItemIn counts table) xs
      → AllByRecursion (λ c. clause_true values c ≡ true) (clauses_of table counts xs) → MeetsAll pt xs
  clauses-down [] w i h = tt
  clauses-down (number v true ∷ xs) w i h = (w.0, clauses-down xs w.1 i.1 h)
  clauses-down (number v false ∷ xs) w i h = (tt, clauses-down xs w.1 i.1 h)
  clauses-down (needs ops ∷ xs) w i h = (tt, clauses-down xs w.1 i.1 h)
  clauses-down (boolean f ∷ xs) w i h = (tt, clauses-down xs w.1 i.1 h)
  clauses-down (row ls ∷ xs) w i h =
      let b = clause_met (clause_of table counts ls) (clauses_of table counts xs) h in
      (sym (clause-true ls i.0) ∙ b.0, clauses-down xs w.1 i.1 b.1)

  pub clauses-up : (xs : List Item) → AllByRecursion (ItemIn counts table) xs → MeetsAll pt xs → AllByRecursion (λ c. clause_true values c ≡ true) (clauses_of table counts xs)
  clauses-up [] i h = tt
  clauses-up (number v c ∷ xs) i h = clauses-up xs i.1 h.1
  clauses-up (needs ops ∷ xs) i h = clauses-up xs i.1 h.1
  clauses-up (boolean f ∷ xs) i h = clauses-up xs i.1 h.1
  clauses-up (row ls ∷ xs) i h = meet_clause (clause_of table counts ls) (clauses_of table counts xs) (clause-true ls i.0 ∙ h.0) (clauses-up xs i.1 h.1)
