-- What is made item by item grows, keeps its numbers, and names the operations of the formula.
use Rattle.std.proofs.Common.{◌≡◌, ℕ, suc, ◌<◌, Bool, true, false, List, [], ◌∷◌, ◌++◌, length, map, refl, sym, ap, ap₂, subst, ◌∙◌, arith, append_assoc, length-append}
use Rattle.std.specs.Prelude.{Option, Some, None, not, if◌then◌else◌}
use Rattle.std.specs.List.{AllByRecursion, flat_map}
use Rattle.std.proofs.lemmas.List.{append-nil}
use Rattle.rational.specs.Linear.{Terms}
use Rattle.frac128.specs.declared.operations.Wide.{Wide}
use Rattle.lin.specs.Linear.{Linear}
use Rattle.formula.specs.declared.atom.Lit.{Lit}
use Rattle.encode_laws.specs.Rows.{Fact, at_most, below, named, Literal, yes, no, lit, Item, number, boolean, row, needs}
use Rattle.encode_laws.specs.Numbering.{Key, is_positive, with_item, with_row, with_clause, clause_of, counts_of, table_from, table_of}
use Rattle.encode_laws.specs.Refusals.{bound_ops, bound_ops_of, fact_ops, literal_ops, item_ops, one_more, operations_from}
use Rattle.encode_laws.specs.Made.{Made, put, made_from, nothing_made, named_from, TermsBelow, FactBelow, LiteralBelow}
use Rattle.encode_laws.proofs.PlainLaws.{is_counted_in}
use Rattle.encode_laws.proofs.Making.{Steady, Grows, grows-same, grows-then, grows_item, grows_all, one_count-same, row-same, clause-by, clause-same, agrees}
use Rattle.encode_laws.proofs.TableLaws.{row_in}

-- ---- items in a row
pub made-append : (xs ys : List Item) (m : Made) → made_from (xs ++ ys) m ≡ made_from ys (made_from xs m)
made-append [] ys m = refl
made-append (x ∷ xs) ys m = made-append xs ys (put x m)

pub named-append : (xs ys : List Item) (m : Made) → named_from (xs ++ ys) m ≡ named_from xs m ++ named_from ys (made_from xs m)
named-append [] ys m = refl
named-append (x ∷ xs) ys m =
    ap (λ (os : List (ℕ × Wide)). map (λ o. (suc (length m.clauses), o)) (item_ops m.counts x) ++ os) (named-append xs ys (put x m))
    ∙ sym (append_assoc (map (λ o. (suc (length m.clauses), o)) (item_ops m.counts x)) (named_from xs (put x m)) (named_from ys (made_from xs (put x m))))

grows-put : (x : Item) (m : Made) → Grows m.keys (put x m).keys
grows-put (number n c) m = grows-same m.keys
grows-put (needs ops) m = grows-same m.keys
grows-put (boolean f) m = grows_item m.counts (boolean f) m.keys
grows-put (row ls) m = grows_item m.counts (row ls) m.keys

pub grows-made : (xs : List Item) (m : Made) → Grows m.keys (made_from xs m).keys
grows-made [] m = grows-same m.keys
grows-made (x ∷ xs) m = grows-then m.keys (put x m).keys (made_from xs (put x m)).keys (grows-put x m) (grows-made xs (put x m))

counts-put : (x : Item) (m : Made) → (put x m).counts ≡ m.counts ++ counts_of (x ∷ [])
counts-put (number n c) m = refl
counts-put (needs ops) m = sym (append-nil m.counts)
counts-put (boolean f) m = sym (append-nil m.counts)
counts-put (row ls) m = sym (append-nil m.counts)

pub counts-append : (xs ys : List Item) → counts_of (xs ++ ys) ≡ counts_of xs ++ counts_of ys
counts-append [] ys = refl
counts-append (number n c ∷ xs) ys = ap (λ (cs : List Bool). c ∷ cs) (counts-append xs ys)
counts-append (needs ops ∷ xs) ys = counts-append xs ys
counts-append (boolean f ∷ xs) ys = counts-append xs ys
counts-append (row ls ∷ xs) ys = counts-append xs ys

pub counts-made : (xs : List Item) (m : Made) → (made_from xs m).counts ≡ m.counts ++ counts_of xs
counts-made [] m = sym (append-nil m.counts)
counts-made (x ∷ xs) m =
    counts-made xs (put x m) ∙ ap (λ (cs : List Bool). cs ++ counts_of xs) (counts-put x m) ∙ append_assoc m.counts (counts_of (x ∷ [])) (counts_of xs)
    ∙ ap (λ (cs : List Bool). m.counts ++ cs) (sym (counts-append (x ∷ []) xs))

-- ---- operations by all tests that agree on the variables
module _ (n : ℕ) (f g : List Bool) (same : (m : ℕ) → m < n → is_counted_in f m ≡ is_counted_in g m) where
  bound_ops-same : (strict : Bool) (l : Linear) (ts : Terms) → TermsBelow n ts → bound_ops f strict l ts ≡ bound_ops g strict l ts
  bound_ops-same strict l [] h = refl
  bound_ops-same strict l (t ∷ ts) h =
      ap (λ (o : Bool). bound_ops_of o (if strict then not (is_positive t.1) else is_positive t.1) t.1 l) (one_count-same n f g same (t ∷ ts) h)

  pub fact_ops-same : (x : Fact) → FactBelow n x → fact_ops f x ≡ fact_ops g x
  fact_ops-same (at_most l) h = bound_ops-same false l l.terms h
  fact_ops-same (below l) h = bound_ops-same true l l.terms h
  fact_ops-same (named m) h = refl

  pub literal_ops-same : (l : Literal) → LiteralBelow n l → literal_ops f l ≡ literal_ops g l
  literal_ops-same yes h = refl
  literal_ops-same no h = refl
  literal_ops-same (lit s x) h = fact_ops-same x h

  row_ops-same : (ls : List Literal) → AllByRecursion (LiteralBelow n) ls → flat_map (literal_ops f) ls ≡ flat_map (literal_ops g) ls
  row_ops-same [] h = refl
  row_ops-same (l ∷ ls) h = ap₂ (λ (os ps : List Wide). os ++ ps) (literal_ops-same l h.0) (row_ops-same ls h.1)

-- ---- the operations that are named are those of the formula
one-clause : (cs : List (List Lit)) (o : Option (List Lit)) → length (cs ++ with_clause o []) ≡ one_more o (length cs)
one-clause cs None = ap length (append-nil cs)
one-clause cs (Some c) = omega (arith, length-append {A = List Lit} cs (c ∷ []))

module _ (all : List Bool) where
  pub named-are : (xs : List Item) (m : Made) → all ≡ m.counts ++ counts_of xs → Steady (length m.counts) xs
      → named_from xs m ≡ operations_from (table_from all xs m.keys) all (length m.clauses) xs
  named-are [] m e h = refl
  named-are (number n c ∷ xs) m e h =
      let l : length (m.counts ++ c ∷ []) ≡ suc (length m.counts) = omega (arith, length-append {A = Bool} m.counts (c ∷ [])) in
      named-are xs (put (number n c) m) (e ∙ sym (append_assoc m.counts (c ∷ []) (counts_of xs))) (subst (λ (k : ℕ). Steady k xs) (sym l) h.1)
  named-are (needs ops ∷ xs) m e h = ap (λ (os : List (ℕ × Wide)). map (λ o. (suc (length m.clauses), o)) ops ++ os) (named-are xs m e h.1)
  named-are (boolean f ∷ xs) m e h =
      let same = agrees all m.counts (counts_of xs) e in
      let k : (put (boolean f) m).keys ≡ with_item all (boolean f) m.keys = keys-same f m e h.0 in
      ap₂ (λ (os : List Wide) (ps : List (ℕ × Wide)). map (λ o. (suc (length m.clauses), o)) os ++ ps) (fact_ops-same (length m.counts) m.counts all same f h.0)
      (named-are xs (put (boolean f) m) e h.1 ∙ ap (λ (t : List Key). operations_from (table_from all xs t) all (length m.clauses) xs) k)
    where
      keys-same : (f : Fact) (m : Made) → all ≡ m.counts ++ counts_of xs → FactBelow (length m.counts) f → (put (boolean f) m).keys ≡ with_item all (boolean f) m.keys
      keys-same f m e b = row-same (length m.counts) m.counts all (agrees all m.counts (counts_of xs) e) (lit true f ∷ []) m.keys (b, tt)
  named-are (row ls ∷ xs) m e h =
      let n = length m.counts in
      let same = agrees all m.counts (counts_of xs) e in
      let new = with_row all ls m.keys in
      let k : with_row m.counts ls m.keys ≡ new = row-same n m.counts all same ls m.keys h.0 in
      let final = table_from all xs new in
      let c : clause_of (with_row m.counts ls m.keys) m.counts ls ≡ clause_of final all ls =
      ap (λ (t : List Key). clause_of t m.counts ls) k ∙ clause-by n m.counts all same new (Some []) ls h.0
      ∙ sym (clause-same all new final (grows_all all xs new) (Some []) ls (row_in all ls m.keys)) in
      let r : length (put (row ls) m).clauses ≡ one_more (clause_of final all ls) (length m.clauses) =
      one-clause m.clauses (clause_of (with_row m.counts ls m.keys) m.counts ls) ∙ ap (λ (o : Option (List Lit)). one_more o (length m.clauses)) c in
      ap₂ (λ (os : List Wide) (ps : List (ℕ × Wide)). map (λ o. (suc (length m.clauses), o)) os ++ ps) (row_ops-same n m.counts all same ls h.0)
      (named-are xs (put (row ls) m) e h.1 ∙ ap₂ (λ (t : List Key) (q : ℕ). operations_from (table_from all xs t) all q xs) k r)

pub named-formula : (items : List Item) → Steady 0 items → named_from items nothing_made ≡ operations_from (table_of items) (counts_of items) 0 items
named-formula items h = named-are (counts_of items) items nothing_made refl h
