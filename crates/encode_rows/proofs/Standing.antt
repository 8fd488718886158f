-- Items that are made one after another, and what stays known while they are.
use Rattle.std.proofs.Common.{◌≡◌, ℕ, suc, ◌<◌, ◌≤◌, Bool, true, false, cond, not, inl, inr, List, [], ◌∷◌, ◌++◌, length, map, refl, sym, ap, subst, ◌∙◌, arith, append_assoc, length-append}
use Rattle.std.specs.Prelude.{Option, Some, None, Result, Ok, Err}
use Rattle.std.specs.List.{AllByRecursion, All, flat_map, Contains}
use Rattle.std.proofs.lemmas.List.{append-nil, length-map}
use Rattle.std.proofs.lemmas.List.Elements.{All-cons, Contains-append_left, Contains-append_right}
use Rattle.frac128.specs.Operations.{Fits}
use Rattle.frac128.specs.declared.operations.Wide.{Wide}
use Rattle.lin.specs.Operations.{AllFit, IsFirstPassing, IsRefusal}
use Rattle.lin.specs.declared.failure.LinFail.{LinFail}
use Rattle.lin.specs.declared.failure.LinFail.TheVariants as fail
use Rattle.formula.specs.declared.atom.Lit.{Lit}
use Rattle.formula.specs.Contents.{Contents}
use Rattle.encode_rows.specs.declared.clause.Truth.{Truth}
use Rattle.encode_rows.specs.declared.clause.Truth.TheVariants.{Of}
use Rattle.encode_laws.specs.Rows.{Fact, Literal, yes, no, lit, opposite, Item, row}
use Rattle.encode_laws.specs.Numbering.{Key, Plain, always, never, of, plain, signed_plain, plain_fact, same_key, with_key, with_plain, with_row, index_of, with_numbered, clause_from, clause_of, with_clause, counts_of, atom_in}
use Rattle.encode_laws.specs.Refusals.{literal_ops, AllNamedFit, IsNamedPassing}
use Rattle.encode_laws.specs.Made.{Made, put, made_from, named_from, contents_of, IsIn, PlainIn, LiteralBelow}
use Rattle.encode_laws.proofs.PlainLaws.{is_counted_in}
use Rattle.encode_laws.proofs.TableLaws.{index-below}
use Rattle.encode_laws.proofs.Making.{Grows, agrees, literal-same}
use Rattle.encode_laws.proofs.MadeLaws.{made-append, named-append, grows-made, counts-made, literal_ops-same}
use Rattle.encode_laws.proofs.Below.{literal-later}
use Rattle.encode_rows.specs.Clauses.{truth_by, with_truth, clause_with, IsNumbered, with_clause_if, with_row as with_numbered_row}
use Rattle.encode_rows.specs.Standing.{Stands, Known, IsUndecided, Knows, opposite_truth, AreKnown, IsMakingRefusal, Makes, SoFar}

-- ---- named operations
pub all_append : {X : Type 0} (P : X → Type 0) (xs ys : List X) → AllByRecursion P xs → AllByRecursion P ys → AllByRecursion P (xs ++ ys)
all_append P [] ys h g = g
all_append P (x ∷ xs) ys h g = (h.0, all_append P xs ys h.1 g)

pub all_left : {X : Type 0} (P : X → Type 0) (xs ys : List X) → AllByRecursion P (xs ++ ys) → AllByRecursion P xs
all_left P [] ys h = tt
all_left P (x ∷ xs) ys h = (h.0, all_left P xs ys h.1)

pub all_right : {X : Type 0} (P : X → Type 0) (xs ys : List X) → AllByRecursion P (xs ++ ys) → AllByRecursion P ys
all_right P [] ys h = h
all_right P (x ∷ xs) ys h = all_right P xs ys h.1

pub named_append_fit : (xs ys : List (ℕ × Wide)) → AllNamedFit xs → AllNamedFit ys → AllNamedFit (xs ++ ys)
named_append_fit xs ys h g = all_append (λ o. Fits o.1.op o.1.x o.1.y) xs ys h g

pub named_fit : (r : ℕ) (ops : List Wide) → AllFit ops → AllNamedFit (map (λ o. (r, o)) ops)
named_fit r [] h = tt
named_fit r (o ∷ os) h = (h.0, named_fit r os h.1)

pub fit_named : (r : ℕ) (ops : List Wide) → AllNamedFit (map (λ o. (r, o)) ops) → AllFit ops
fit_named r [] h = tt
fit_named r (o ∷ os) h = (h.0, fit_named r os h.1)

contains_mapped : (r : ℕ) (w : Wide) (front behind : List Wide) → Contains {X = ℕ × Wide} (map (λ o. (r, o)) (front ++ w ∷ behind)) (r, w)
contains_mapped r w [] behind = (0, omega arith, refl)
contains_mapped r w (o ∷ os) behind = Contains-append_right {X = ℕ × Wide} ((r, o) ∷ []) (map (λ o. (r, o)) (os ++ w ∷ behind)) (r, w) (contains_mapped r w os behind)

pub passing_named : (r : ℕ) (w : Wide) (ops : List Wide) → IsFirstPassing w ops → IsNamedPassing (map (λ o. (r, o)) ops) r w
passing_named r w ops h = record {
  named = subst (λ (os : List Wide). Contains {X = ℕ × Wide} (map (λ o. (r, o)) os) (r, w)) (sym h.place) (contains_mapped r w h.front h.behind);
  passes = h.passes;
}

pub refusal_named : (r : ℕ) (ops : List Wide) (e : LinFail) → IsRefusal ops e → IsMakingRefusal (map (λ o. (r, o)) ops) r e
refusal_named r ops (fail.Wide w) h = passing_named r w ops h
refusal_named r ops fail.Memory h = tt

pub refusal_left : (xs ys : List (ℕ × Wide)) (r : ℕ) (e : LinFail) → IsMakingRefusal xs r e → IsMakingRefusal (xs ++ ys) r e
refusal_left xs ys r (fail.Wide w) h = record { named = Contains-append_left {X = ℕ × Wide} xs ys (r, w) h.named; passes = h.passes }
refusal_left xs ys r fail.Memory h = tt

pub refusal_right : (xs ys : List (ℕ × Wide)) (r : ℕ) (e : LinFail) → IsMakingRefusal ys r e → IsMakingRefusal (xs ++ ys) r e
refusal_right xs ys r (fail.Wide w) h = record { named = Contains-append_right {X = ℕ × Wide} xs ys (r, w) h.named; passes = h.passes }
refusal_right xs ys r fail.Memory h = tt

-- ---- items one after another
pub makes_then : {X : Type 0} (xs ys : List Item) (m : Made) (new : Contents) (r : Result X LinFail) → AllNamedFit (named_from xs m) → Makes ys (made_from xs m) new r → Makes (xs ++ ys) m new r
makes_then xs ys m new (Ok x) f h = (
  subst AllNamedFit (sym (named-append xs ys m)) (named_append_fit (named_from xs m) (named_from ys (made_from xs m)) f h.0),
  subst (λ (k : Made). Stands k new) (sym (made-append xs ys m)) h.1,
)
makes_then xs ys m new (Err e) f h =
    subst (λ (os : List (ℕ × Wide)). IsMakingRefusal os (suc (length new.clauses)) e) (sym (named-append xs ys m))
    (refusal_right (named_from xs m) (named_from ys (made_from xs m)) (suc (length new.clauses)) e h)

pub makes_stop : (X Y : Type 0) (xs ys : List Item) (m : Made) (new : Contents) (e : LinFail) → Makes {X = X} xs m new (Err e) → Makes {X = Y} (xs ++ ys) m new (Err e)
makes_stop X Y xs ys m new e h =
    subst (λ (os : List (ℕ × Wide)). IsMakingRefusal os (suc (length new.clauses)) e) (sym (named-append xs ys m))
    (refusal_left (named_from xs m) (named_from ys (made_from xs m)) (suc (length new.clauses)) e h)

pub so_far_start : (all : List Item) (m : Made) (f : Contents) → Stands m f → SoFar all all m f
so_far_start all m f s = record { done = []; split = refl; fit = tt; stands = s }

module _ (all x left : List Item) (m : Made) (f g : Contents) (s : SoFar all (x ++ left) m f) where
  pub so_far_step : (X : Type 0) (r : X) → Makes {X = X} x (made_from s.done m) g (Ok r) → SoFar all left m g
  so_far_step X r h = record {
    done = s.done ++ x;
    split = s.split ∙ sym (append_assoc s.done x left);
    fit = subst AllNamedFit (sym (named-append s.done x m)) (named_append_fit (named_from s.done m) (named_from x (made_from s.done m)) s.fit h.0);
    stands = subst (λ (k : Made). Stands k g) (sym (made-append s.done x m)) h.1;
  }

  pub so_far_stop : (X Y : Type 0) (e : LinFail) → Makes {X = X} x (made_from s.done m) g (Err e) → Makes {X = Y} all m g (Err e)
  so_far_stop X Y e h =
      subst (λ (xs : List Item). Makes {X = Y} xs m g (Err e)) (sym s.split)
      (makes_then {X = Y} s.done (x ++ left) m g (Err e) s.fit (makes_stop X Y x left (made_from s.done m) g e h))

pub so_far_end : (all : List Item) (m : Made) (f : Contents) (X : Type 0) (r : X) → SoFar all [] m f → Makes {X = X} all m f (Ok r)
so_far_end all m f X r s =
    let e : all ≡ s.done = s.split ∙ append-nil s.done in
    subst (λ (xs : List Item). Makes {X = X} xs m f (Ok r)) (sym e) (s.fit, s.stands)

-- the call that makes all that is left
pub so_far_last : {X : Type 0} (all x : List Item) (m : Made) (f g : Contents) (r : Result X LinFail) (s : SoFar all x m f) → Makes x (made_from s.done m) g r → Makes all m g r
so_far_last all x m f g r s h = subst (λ (xs : List Item). Makes xs m g r) (sym s.split) (makes_then s.done x m g r s.fit h)

-- ---- keys
pub with_key-present : (key : Key) (t : List Key) → IsIn key t → with_key key t ≡ t
with_key-present key [] h = absurd h
with_key-present key (k ∷ ks) h = by_test (same_key k key) refl h (with_key-present key ks)
  where
    further : same_key k key ≡ false → IsIn key (k ∷ ks) → IsIn key ks
    further e (inl f) = absurd (cc)
    further e (inr j) = j

    by_test : (b : Bool) → same_key k key ≡ b → IsIn key (k ∷ ks) → (IsIn key ks → with_key key ks ≡ ks) → cond b (k ∷ ks) (k ∷ with_key key ks) ≡ k ∷ ks
    by_test true e h f = refl
    by_test false e h f = ap (λ (xs : List Key). k ∷ xs) (f (further e h))

pub with_plain-present : (q : Plain) (t : List Key) → PlainIn t q → with_plain q t ≡ t
with_plain-present always t h = refl
with_plain-present never t h = refl
with_plain-present (of s key) t h = with_key-present key t h

pub plain-grows : (q : Plain) (old new : List Key) → Grows old new → PlainIn old q → PlainIn new q
plain-grows always old new g h = tt
plain-grows never old new g h = tt
plain-grows (of s key) old new g h = (g key h).0

pub truth_by-grows : (q : Plain) (old new : List Key) → Grows old new → PlainIn old q → truth_by new q ≡ truth_by old q
truth_by-grows always old new g h = refl
truth_by-grows never old new g h = refl
truth_by-grows (of s key) old new g h = ap (λ (n : ℕ). Of (record { boolean = n; pos = s })) (g key h).1

-- ---- what is known stays known
module _ (xs : List Item) (m : Made) where
  later-same : (k : ℕ) → k < length m.counts → is_counted_in m.counts k ≡ is_counted_in (made_from xs m).counts k
  later-same = agrees (made_from xs m).counts m.counts (counts_of xs) (counts-made xs m)

  pub counts-later : length m.counts ≤ length (made_from xs m).counts
  counts-later = let e = ap length (counts-made xs m) in omega (arith, e, length-append {A = Bool} m.counts (counts_of xs))

  pub known-later : (l : Literal) (t : Truth) → LiteralBelow (length m.counts) l → Known m l t → Known (made_from xs m) l t
  known-later l t b h =
      let new = made_from xs m in
      let p : plain m.counts l ≡ plain new.counts l = literal-same (length m.counts) m.counts new.counts later-same l b in
      let g : Grows m.keys new.keys = grows-made xs m in
      record {
        inside = subst (PlainIn new.keys) p (plain-grows (plain m.counts l) m.keys new.keys g h.inside);
        number = h.number ∙ sym (truth_by-grows (plain m.counts l) m.keys new.keys g h.inside) ∙ ap (truth_by new.keys) p;
        fit = subst AllFit (literal_ops-same (length m.counts) m.counts new.counts later-same l b) h.fit;
      }

  pub knows-later : (l : Literal) (t : Truth) → Knows m l t → Knows (made_from xs m) l t
  knows-later l t h =
      let p : plain m.counts l ≡ plain (made_from xs m).counts l = literal-same (length m.counts) m.counts (made_from xs m).counts later-same l h.below in
      record {
        known = known-later l t h.below h.known;
        undecided = subst (IsUndecided l) p h.undecided;
        below = literal-later (length m.counts) (length (made_from xs m).counts) counts-later l h.below;
      }

-- ---- opposites
opposite-truth_by : (t : List Key) (s : Bool) (q : Plain) → truth_by t (signed_plain (not s) q) ≡ opposite_truth (truth_by t (signed_plain s q))
opposite-truth_by t true always = refl
opposite-truth_by t true never = refl
opposite-truth_by t true (of b key) = refl
opposite-truth_by t false always = refl
opposite-truth_by t false never = refl
opposite-truth_by t false (of b key) = ap (λ (c : Bool). Of (record { boolean = index_of key t; pos = c })) (sym (not-not b))
  where
    not-not : (b : Bool) → not (not b) ≡ b
    not-not true = refl
    not-not false = refl

opposite-in : (t : List Key) (s : Bool) (q : Plain) → PlainIn t (signed_plain s q) → PlainIn t (signed_plain (not s) q)
opposite-in t true always h = tt
opposite-in t true never h = tt
opposite-in t true (of b key) h = h
opposite-in t false always h = tt
opposite-in t false never h = tt
opposite-in t false (of b key) h = h

opposite-undecided : (s : Bool) (f : Fact) (q : Plain) → IsUndecided (lit s f) (signed_plain s q) → IsUndecided (lit (not s) f) (signed_plain (not s) q)
opposite-undecided true f always h = h
opposite-undecided true f never h = h
opposite-undecided true f (of b key) h = tt
opposite-undecided false f always h = h
opposite-undecided false f never h = h
opposite-undecided false f (of b key) h = tt

pub known-opposite : (m : Made) (l : Literal) (t : Truth) → Known m l t → Known m (opposite l) (opposite_truth t)
known-opposite m yes t h = record { inside = tt; number = ap opposite_truth h.number; fit = tt }
known-opposite m no t h = record { inside = tt; number = ap opposite_truth h.number; fit = tt }
known-opposite m (lit s f) t h = record {
  inside = opposite-in m.keys s (plain_fact m.counts f) h.inside;
  number = ap opposite_truth h.number ∙ sym (opposite-truth_by m.keys s (plain_fact m.counts f));
  fit = h.fit;
}

pub knows-opposite : (m : Made) (l : Literal) (t : Truth) → Knows m l t → Knows m (opposite l) (opposite_truth t)
knows-opposite m yes t h = record { known = known-opposite m yes t h.known; undecided = tt; below = tt }
knows-opposite m no t h = record { known = known-opposite m no t h.known; undecided = tt; below = tt }
knows-opposite m (lit s f) t h = record { known = known-opposite m (lit s f) t h.known; undecided = opposite-undecided s f (plain_fact m.counts f) h.undecided; below = h.below }

-- ---- a row of known literals
truth_by-with : (keys : List Key) (q : Plain) (o : Option (List Lit)) → with_truth (truth_by keys q) o ≡ with_numbered keys q o
truth_by-with keys q None = refl
truth_by-with keys always (Some ls) = refl
truth_by-with keys never (Some ls) = refl
truth_by-with keys (of s key) (Some ls) = refl

pub clause-known : (m : Made) (ls : List Literal) (ts : List Truth) → AreKnown m ls ts → (o : Option (List Lit)) → clause_with o ts ≡ clause_from m.keys m.counts o ls
clause-known m [] [] h o = refl
clause-known m [] (t ∷ ts) h o = absurd h
clause-known m (l ∷ ls) [] h o = absurd h
clause-known m (l ∷ ls) (t ∷ ts) h o =
    ap (λ (u : Truth). clause_with (with_truth u o) ts) h.0.number ∙ ap (λ (p : Option (List Lit)). clause_with p ts) (truth_by-with m.keys (plain m.counts l) o)
    ∙ clause-known m ls ts h.1 (with_numbered m.keys (plain m.counts l) o)

pub row-present : (m : Made) (ls : List Literal) (ts : List Truth) → AreKnown m ls ts → with_row m.counts ls m.keys ≡ m.keys
row-present m [] ts h = refl
row-present m (l ∷ ls) [] h = absurd h
row-present m (l ∷ ls) (t ∷ ts) h = ap (with_row m.counts ls) (with_plain-present (plain m.counts l) m.keys h.0.inside) ∙ row-present m ls ts h.1

fit-append : (os ps : List Wide) → AllFit os → AllFit ps → AllFit (os ++ ps)
fit-append os ps h g = all_append (λ o. Fits o.op o.x o.y) os ps h g

pub row-fit : (m : Made) (ls : List Literal) (ts : List Truth) → AreKnown m ls ts → AllFit (flat_map (literal_ops m.counts) ls)
row-fit m [] ts h = tt
row-fit m (l ∷ ls) [] h = absurd h
row-fit m (l ∷ ls) (t ∷ ts) h = fit-append (literal_ops m.counts l) (flat_map (literal_ops m.counts) ls) h.0.fit (row-fit m ls ts h.1)

truth-numbered : (n : ℕ) (keys : List Key) (q : Plain) → length keys ≡ n → PlainIn keys q → IsNumbered n (truth_by keys q)
truth-numbered n keys always e h = tt
truth-numbered n keys never e h = tt
truth-numbered n keys (of s key) e h = let b = index-below key keys h in omega arith

pub row-numbered : (n : ℕ) (m : Made) (ls : List Literal) (ts : List Truth) → length m.keys ≡ n → AreKnown m ls ts → All (IsNumbered n) ts
row-numbered n m [] [] e h = λ k d l. absurd (omega arith)
row-numbered n m [] (t ∷ ts) e h = absurd h
row-numbered n m (l ∷ ls) [] e h = absurd h
row-numbered n m (l ∷ ls) (t ∷ ts) e h =
    All-cons (IsNumbered n) t ts (subst (IsNumbered n) (sym h.0.number) (truth-numbered n m.keys (plain m.counts l) e h.0.inside)) (row-numbered n m ls ts e h.1)

clause-put : (m : Made) (o : Option (List Lit)) → with_clause_if o (contents_of m) ≡ contents_of (record { counts = m.counts; keys = m.keys; clauses = m.clauses ++ with_clause o [] })
clause-put m None = ap (λ (cs : List (List Lit)). contents_of (record { counts = m.counts; keys = m.keys; clauses = cs })) (sym (append-nil m.clauses))
clause-put m (Some c) = refl

module _ (m : Made) (ls : List Literal) (ts : List Truth) (h : AreKnown m ls ts) where
  pub row-put : put (row ls) m ≡ record { counts = m.counts; keys = m.keys; clauses = m.clauses ++ with_clause (clause_with (Some []) ts) [] }
  row-put =
      ap (λ (t : List Key). let k : Made = record { counts = m.counts; keys = t; clauses = m.clauses ++ with_clause (clause_of t m.counts ls) [] } in k) (row-present m ls ts h)
      ∙ ap (λ (o : Option (List Lit)). let k : Made = record { counts = m.counts; keys = m.keys; clauses = m.clauses ++ with_clause o [] } in k) (sym (clause-known m ls ts h (Some [])))

  pub row-stands : (f : Contents) → Stands m f → Stands (put (row ls) m) (with_numbered_row ts f)
  row-stands f s =
      let k : Made = record { counts = m.counts; keys = m.keys; clauses = m.clauses ++ with_clause (clause_with (Some []) ts) [] } in
      let t : Stands k (with_numbered_row ts f) = record { contents = ap (with_numbered_row ts) s.contents ∙ clause-put m (clause_with (Some []) ts); plain = s.plain } in
      subst (λ (k : Made). Stands k (with_numbered_row ts f)) (sym row-put) t

  pub row-makes : (X : Type 0) (x : X) (f g : Contents) → Stands m f → g ≡ with_numbered_row ts f → Makes {X = X} (row ls ∷ []) m g (Ok x)
  row-makes X x f g s e = (
    named_append_fit (map (λ o. (suc (length m.clauses), o)) (flat_map (literal_ops m.counts) ls)) [] (named_fit (suc (length m.clauses)) (flat_map (literal_ops m.counts) ls) (row-fit m ls ts h)) tt,
    subst (Stands (put (row ls) m)) (sym e) (row-stands f s),
  )

pub stands-length : (m : Made) (f : Contents) → Stands m f → length m.keys ≡ length f.atoms
stands-length m f s = sym (ap (λ (g : Contents). length g.atoms) s.contents ∙ length-map m.keys atom_in)
