-- The fold that a program makes, item by item, with Booleans numbered as they come: it gives the numbered formula.
use Rattle.std.proofs.Common.{◌≡◌, ℕ, zero, suc, ◌+◌, ◌<◌, Bool, true, false, cond, inl, inr, List, [], ◌∷◌, ◌++◌, length, get_or, refl, sym, ap, subst, ◌∙◌, arith, append_assoc, length-append}
use Rattle.std.specs.Prelude.{Option, Some, None}
use Rattle.std.specs.Prelude.{⊤}
use Rattle.std.proofs.lemmas.List.{append-nil, get_or_append_left, get_or_at}
use Rattle.std.proofs.lemmas.Option.{unwrap_or-slice_get}
use Rattle.std.specs.List.{AllByRecursion}
use Rattle.rational.specs.Fraction.{neg_ℚ, ◌/ℚ◌}
use Rattle.rational.specs.Linear.{Terms}
use Rattle.encode_laws.specs.Rows.{Assignment, MeetsItem, MeetsAll, Fact, at_most, below, named, Literal, yes, no, lit, Item, number, boolean, row, needs}
use Rattle.rational.specs.Floor.{IsWhole}
use Rattle.formula.specs.declared.atom.Lit.{Lit}
use Rattle.formula.specs.Atoms.{is_one_count}
use Rattle.encode_laws.specs.Numbering.{Key, Plain, always, never, of, is_positive, plain_at_most, plain_below, at_most_terms, below_terms, plain_fact, signed_plain, plain, same_key, with_key, index_of, with_plain, with_row, with_item, table_from, table_of, with_lit, with_numbered, clause_from, clause_of, with_clause, clauses_of, counts_of, numbered}
pub use Rattle.encode_laws.specs.Made.{Made, put, made_from, nothing_made, TermsBelow, FactBelow, LiteralBelow}
use Rattle.encode_laws.proofs.PlainLaws.{is_counted_in}
use Rattle.encode_laws.proofs.ClauseLaws.{NumberMet}
use Rattle.encode_laws.proofs.TableLaws.{IsIn, PlainIn, RowIn, row_in, with_key-keeps}

-- ---- items in order: each variable is made before it is used, and numbered by its place
abbrev pub Steady : ℕ → List Item → Type 0
Steady n [] = ⊤
Steady n (number m c ∷ xs) = (m ≡ n) × Steady (suc n) xs
Steady n (needs ops ∷ xs) = ⊤ × Steady n xs
Steady n (boolean f ∷ xs) = FactBelow n f × Steady n xs
Steady n (row ls ∷ xs) = AllByRecursion (LiteralBelow n) ls × Steady n xs

-- ---- a table that grows keeps its numbers
abbrev pub Grows : List Key → List Key → Type 0
Grows old new = (key : Key) → IsIn key old → IsIn key new × (index_of key new ≡ index_of key old)

pub grows-same : (t : List Key) → Grows t t
grows-same t key h = (h, refl)

pub grows-then : (a b c : List Key) → Grows a b → Grows b c → Grows a c
grows-then a b c f g key h = let x = f key h in let y = g key x.0 in (y.0, y.1 ∙ x.1)

index-with_key : (key other : Key) (t : List Key) → IsIn key t → index_of key (with_key other t) ≡ index_of key t
index-with_key key other [] h = absurd h
index-with_key key other (k ∷ ks) h = by_test (same_key k other) (same_key k key) refl h (index-with_key key other ks)
  where
    further : same_key k key ≡ false → IsIn key (k ∷ ks) → IsIn key ks
    further e (inl f) = absurd (cc)
    further e (inr j) = j

    by_test : (b c : Bool) → same_key k key ≡ c → IsIn key (k ∷ ks) → (IsIn key ks → index_of key (with_key other ks) ≡ index_of key ks)
        → index_of key (cond b (k ∷ ks) (k ∷ with_key other ks)) ≡ index_of key (k ∷ ks)
    by_test true c e h f = refl
    by_test false true e h f = ap (λ (b : Bool). cond b zero (suc (index_of key (with_key other ks)))) e ∙ sym (ap (λ (b : Bool). cond b zero (suc (index_of key ks))) e)
    by_test false false e h f = ap (λ (n : ℕ). cond (same_key k key) zero (suc n)) (f (further e h))

grows_key : (other : Key) (t : List Key) → Grows t (with_key other t)
grows_key other t key h = (with_key-keeps key other t h, index-with_key key other t h)

grows_plain : (q : Plain) (t : List Key) → Grows t (with_plain q t)
grows_plain always t = grows-same t
grows_plain never t = grows-same t
grows_plain (of s key) t = grows_key key t

module _ (counts : List Bool) where
  grows_row : (ls : List Literal) (t : List Key) → Grows t (with_row counts ls t)
  grows_row [] t = grows-same t
  grows_row (l ∷ ls) t = grows-then t (with_plain (plain counts l) t) (with_row counts ls (with_plain (plain counts l) t)) (grows_plain (plain counts l) t) (grows_row ls (with_plain (plain counts l) t))

  pub grows_item : (x : Item) (t : List Key) → Grows t (with_item counts x t)
  grows_item (number n c) t = grows-same t
  grows_item (needs ops) t = grows-same t
  grows_item (boolean f) t = grows_plain (plain_fact counts f) t
  grows_item (row ls) t = grows_row ls t

  pub grows_all : (xs : List Item) (t : List Key) → Grows t (table_from counts xs t)
  grows_all [] t = grows-same t
  grows_all (x ∷ xs) t = grows-then t (with_item counts x t) (table_from counts xs (with_item counts x t)) (grows_item x t) (grows_all xs (with_item counts x t))

  -- a clause is the same by each later table
  numbered-same : (old new : List Key) → Grows old new → (q : Plain) (o : Option (List Lit)) → PlainIn old q → with_numbered new q o ≡ with_numbered old q o
  numbered-same old new g q None h = refl
  numbered-same old new g always (Some ls) h = refl
  numbered-same old new g never (Some ls) h = refl
  numbered-same old new g (of s key) (Some ls) h = ap (λ (n : ℕ). with_lit (record { boolean = n; pos = s }) ls) (g key h).1

  pub clause-same : (old new : List Key) → Grows old new → (o : Option (List Lit)) (ls : List Literal) → RowIn counts old ls → clause_from new counts o ls ≡ clause_from old counts o ls
  clause-same old new g o [] h = refl
  clause-same old new g o (l ∷ ls) h =
      ap (λ (w : Option (List Lit)). clause_from new counts w ls) (numbered-same old new g (plain counts l) o h.0) ∙ clause-same old new g (with_numbered old (plain counts l) o) ls h.1

-- ---- a fact is plain in one way by all tests that agree on its variables
module _ (n : ℕ) (f g : List Bool) (same : (m : ℕ) → m < n → is_counted_in f m ≡ is_counted_in g m) where
  pub one_count-same : (ts : Terms) → TermsBelow n ts → is_one_count f ts ≡ is_one_count g ts
  one_count-same [] h = refl
  one_count-same (t ∷ []) h = same t.0 h.0
  one_count-same (t ∷ u ∷ ts) h = refl

  pub fact-same : (x : Fact) → FactBelow n x → plain_fact f x ≡ plain_fact g x
  fact-same (at_most l) h = by_terms l.terms h
    where
      by_terms : (ts : Terms) → TermsBelow n ts → at_most_terms f ts l.constant ≡ at_most_terms g ts l.constant
      by_terms [] h = refl
      by_terms (t ∷ ts) h = ap (λ (o : Bool). plain_at_most o (is_positive t.1) t.0 t.1 (t ∷ ts) (neg_ℚ l.constant /ℚ t.1)) (one_count-same (t ∷ ts) h)
  fact-same (below l) h = by_terms l.terms h
    where
      by_terms : (ts : Terms) → TermsBelow n ts → below_terms f ts l.constant ≡ below_terms g ts l.constant
      by_terms [] h = refl
      by_terms (t ∷ ts) h = ap (λ (o : Bool). plain_below o (is_positive t.1) t.0 t.1 (t ∷ ts) (neg_ℚ l.constant /ℚ t.1)) (one_count-same (t ∷ ts) h)
  fact-same (named m) h = refl

  pub literal-same : (l : Literal) → LiteralBelow n l → plain f l ≡ plain g l
  literal-same yes h = refl
  literal-same no h = refl
  literal-same (lit s x) h = ap (signed_plain s) (fact-same x h)

  pub row-same : (ls : List Literal) (t : List Key) → AllByRecursion (LiteralBelow n) ls → with_row f ls t ≡ with_row g ls t
  row-same [] t h = refl
  row-same (l ∷ ls) t h = ap (λ (q : Plain). with_row f ls (with_plain q t)) (literal-same l h.0) ∙ row-same ls (with_plain (plain g l) t) h.1

  pub clause-by : (t : List Key) (o : Option (List Lit)) (ls : List Literal) → AllByRecursion (LiteralBelow n) ls → clause_from t f o ls ≡ clause_from t g o ls
  clause-by t o [] h = refl
  clause-by t o (l ∷ ls) h = ap (λ (q : Plain). clause_from t f (with_numbered t q o) ls) (literal-same l h.0) ∙ clause-by t (with_numbered t (plain g l) o) ls h.1

-- ---- the fold is the numbered formula
pub append-clause : (cs ds : List (List Lit)) (o : Option (List Lit)) → (cs ++ with_clause o []) ++ ds ≡ cs ++ with_clause o ds
append-clause cs ds None = ap (λ (x : List (List Lit)). x ++ ds) (append-nil cs)
append-clause cs ds (Some c) = append_assoc cs (c ∷ []) ds

module _ (all : List Bool) where
  pub agrees : (counts rest : List Bool) → all ≡ counts ++ rest → (m : ℕ) → m < length counts → is_counted_in counts m ≡ is_counted_in all m
  agrees counts rest e m h = unwrap_or-slice_get counts m false
      ∙ sym (unwrap_or-slice_get all m false ∙ ap (λ (bs : List Bool). get_or bs m false) e ∙ get_or_append_left counts rest false m h)

  pub record IsMade (xs : List Item) (m : Made) : Type 0 where
    pub counts : (made_from xs m).counts ≡ m.counts ++ counts_of xs
    pub keys : (made_from xs m).keys ≡ table_from all xs m.keys
    pub clauses : (made_from xs m).clauses ≡ m.clauses ++ clauses_of (table_from all xs m.keys) all xs

  pub is-made : (xs : List Item) (m : Made) → all ≡ m.counts ++ counts_of xs → Steady (length m.counts) xs → IsMade xs m
  is-made [] m e h = record { counts = sym (append-nil m.counts); keys = refl; clauses = sym (append-nil m.clauses) }
  is-made (number n c ∷ xs) m e h =
      let l : length (m.counts ++ c ∷ []) ≡ suc (length m.counts) = omega (arith, length-append {A = Bool} m.counts (c ∷ [])) in
      let ih = is-made xs (put (number n c) m) (e ∙ sym (append_assoc m.counts (c ∷ []) (counts_of xs))) (subst (λ (k : ℕ). Steady k xs) (sym l) h.1) in
      record { counts = ih.counts ∙ append_assoc m.counts (c ∷ []) (counts_of xs); keys = ih.keys; clauses = ih.clauses }
  is-made (needs ops ∷ xs) m e h = let ih = is-made xs m e h.1 in record { counts = ih.counts; keys = ih.keys; clauses = ih.clauses }
  is-made (boolean f ∷ xs) m e h =
      let same = fact-same (length m.counts) m.counts all (agrees m.counts (counts_of xs) e) f h.0 in
      let ih = is-made xs (put (boolean f) m) e h.1 in
      let k : with_plain (plain_fact m.counts f) m.keys ≡ with_plain (plain_fact all f) m.keys = ap (λ (q : Plain). with_plain q m.keys) same in
      record {
        counts = ih.counts;
        keys = ih.keys ∙ ap (table_from all xs) k;
        clauses = ih.clauses ∙ ap (λ (t : List Key). m.clauses ++ clauses_of (table_from all xs t) all xs) k;
      }
  is-made (row ls ∷ xs) m e h =
      let n = length m.counts in
      let same = agrees m.counts (counts_of xs) e in
      let ih = is-made xs (put (row ls) m) e h.1 in
      let new = with_row all ls m.keys in
      let k : with_row m.counts ls m.keys ≡ new = row-same n m.counts all same ls m.keys h.0 in
      let final = table_from all xs new in
      let c : clause_of (with_row m.counts ls m.keys) m.counts ls ≡ clause_of final all ls =
      ap (λ (t : List Key). clause_of t m.counts ls) k ∙ clause-by n m.counts all same new (Some []) ls h.0
      ∙ sym (clause-same all new final (grows_all all xs new) (Some []) ls (row_in all ls m.keys)) in
      record {
        counts = ih.counts;
        keys = ih.keys ∙ ap (table_from all xs) k;
        clauses = ih.clauses
            ∙ ap (λ (t : List Key). (m.clauses ++ with_clause (clause_of (with_row m.counts ls m.keys) m.counts ls) []) ++ clauses_of (table_from all xs t) all xs) k
            ∙ append-clause m.clauses (clauses_of final all xs) (clause_of (with_row m.counts ls m.keys) m.counts ls)
            ∙ ap (λ (o : Option (List Lit)). m.clauses ++ with_clause o (clauses_of final all xs)) c;
      }

-- what is made item by item is the numbered formula
pub record MakesFormula (items : List Item) : Type 0 where
  pub counts : (made_from items nothing_made).counts ≡ (numbered items).counts
  pub keys : (made_from items nothing_made).keys ≡ table_of items
  pub clauses : (made_from items nothing_made).clauses ≡ (numbered items).clauses

pub makes-formula : (items : List Item) → Steady 0 items → MakesFormula items
makes-formula items h =
    let made = is-made (counts_of items) items nothing_made refl h in
    record { counts = made.counts; keys = made.keys; clauses = made.clauses }

-- ---- counts are whole where the formula says so
pub numbers-whole : (pt : Assignment) (all front : List Bool) (xs : List Item) → all ≡ front ++ counts_of xs → Steady (length front) xs
    → ((m : ℕ) → is_counted_in all m ≡ true → IsWhole (pt.value m)) → AllByRecursion (NumberMet pt) xs
numbers-whole pt all front [] e h w = tt
numbers-whole pt all front (number m c ∷ xs) e h w = (
  by_kind c e,
  numbers-whole pt all (front ++ c ∷ []) xs (e ∙ sym (append_assoc front (c ∷ []) (counts_of xs)))
      (subst (λ (k : ℕ). Steady k xs) (let l : suc (length front) ≡ length (front ++ c ∷ []) = omega (arith, length-append {A = Bool} front (c ∷ [])) in l) h.1) w,
)
  where
    by_kind : (b : Bool) → all ≡ front ++ b ∷ counts_of xs → NumberMet pt (number m b)
    by_kind true g = w m (unwrap_or-slice_get all m false ∙ ap (λ (bs : List Bool). get_or bs m false) g ∙ get_or_at front true (counts_of xs) false m (sym h.0))
    by_kind false g = tt
numbers-whole pt all front (needs ops ∷ xs) e h w = (tt, numbers-whole pt all front xs e h.1 w)
numbers-whole pt all front (boolean f ∷ xs) e h w = (tt, numbers-whole pt all front xs e h.1 w)
numbers-whole pt all front (row ls ∷ xs) e h w = (tt, numbers-whole pt all front xs e h.1 w)

pub whole-from : (pt : Assignment) (n : ℕ) (xs : List Item) → Steady n xs → MeetsAll pt xs → (i m : ℕ) → m ≡ n + i → get_or (counts_of xs) i false ≡ true → IsWhole (pt.value m)
whole-from pt n [] h j i m e g = absurd (cc)
whole-from pt n (number w c ∷ xs) h j zero m e g = subst (λ (u : ℕ). IsWhole (pt.value u)) (let f = h.0 in let l : w ≡ m = omega arith in l) (at_count c g j.0)
  where
    at_count : (b : Bool) → b ≡ true → MeetsItem pt (number w b) → IsWhole (pt.value w)
    at_count true f k = k
    at_count false f k = absurd (cc)
whole-from pt n (number w c ∷ xs) h j (suc i) m e g = whole-from pt (suc n) xs h.1 j.1 i m (omega arith) g
whole-from pt n (needs ops ∷ xs) h j i m e g = whole-from pt n xs h.1 j.1 i m e g
whole-from pt n (boolean f ∷ xs) h j i m e g = whole-from pt n xs h.1 j.1 i m e g
whole-from pt n (row ls ∷ xs) h j i m e g = whole-from pt n xs h.1 j.1 i m e g
