-- A literal of a comparison is made as the Boolean of its fact; a row that begins with known literals makes the same.
use Rattle.std.proofs.Common.{◌≡◌, ℕ, suc, Bool, true, false, cond, inl, inr, List, [], ◌∷◌, ◌++◌, length, map, is_some, refl, sym, ap, subst, ◌∙◌, append_assoc}
use Rattle.std.specs.Prelude.{Option, Some, ⊤, ◌⊎◌, Result, Ok, Err, IfOk, unwrap_or}
use Rattle.std.specs.List.{AllByRecursion, flat_map, Contains}
use Rattle.std.proofs.lemmas.List.{append-nil, length-map}
use Rattle.std.proofs.lemmas.List.Elements.{Contains-append_left, Contains-append_right, Contains-append_cases}
use lib.IntN.{pos}
use Rattle.rational.specs.Fraction.{Fraction, whole, neg_ℚ, ◌/ℚ◌}
use Rattle.rational.specs.Linear.{Terms}
use Rattle.frac128.specs.declared.operations.Wide.{Wide}
use Rattle.lin.specs.Linear.{Linear}
use Rattle.lin.specs.Operations.{AllFit, IsRefusal}
use Rattle.lin.specs.declared.failure.LinFail.{LinFail}
use Rattle.lin.specs.declared.failure.LinFail.TheVariants as fail
use Rattle.formula.specs.declared.atom.Atom.{Atom}
use Rattle.formula.specs.Atoms.{is_one_count}
use Rattle.formula.specs.Contents.{Contents, with_boolean}
use Rattle.formula.specs.Equal.{boolean_of}
use Rattle.encode_rows.specs.declared.clause.Truth.{Truth}
use Rattle.encode_rows.specs.declared.clause.Truth.TheVariants.{Of}
use Rattle.encode_laws.specs.Rows.{Fact, Literal, lit, is_at_most, is_below, boolean, row}
use Rattle.encode_laws.specs.Numbering.{Key, atom, truth, Plain, always, never, of, constant_plain, is_positive, plain_at_most, plain_below, at_most_terms, below_terms, plain_fact, signed_plain, plain, same_key, with_key, with_plain, with_row, atom_in, with_clause, clause_of}
use Rattle.encode_laws.specs.Refusals.{bound_ops, fact_ops, literal_ops}
use Rattle.encode_laws.specs.Made.{Made, put, named_from, contents_of}
use Rattle.encode_laws.proofs.TableLaws.{plain_in}
use Rattle.encode_rows.specs.Bounds.{compared}
use Rattle.encode_rows.specs.Clauses.{truth_by}
use Rattle.encode_rows.specs.Literals.{with_literal, numbered_in, LiteralAnswers}
use Rattle.encode_rows.specs.Standing.{IsPlainKey, Stands, Known, IsMakingRefusal, Makes, MakesFact, compared_fact}
use Rattle.encode_rows.proofs.Joining.{index-found, atoms-found, index-own}
use Rattle.encode_rows.proofs.Standing.{named_append_fit, named_fit, refusal_named, refusal_left, all_right, with_plain-present}

-- ---- atoms of facts have no constant
abbrev pub IsPlainAtom : Plain → Type 0
IsPlainAtom always = ⊤
IsPlainAtom never = ⊤
IsPlainAtom (of s (atom a)) = a.lin.constant ≡ whole (pos 0)
IsPlainAtom (of s (truth n)) = ⊥

atom-constant : (b : Bool) → IsPlainAtom (constant_plain b)
atom-constant true = tt
atom-constant false = tt

atom-at_most : (o s : Bool) (c : ℕ) (a : Fraction) (ts : Terms) (b : Fraction) → IsPlainAtom (plain_at_most o s c a ts b)
atom-at_most true true c a ts b = refl
atom-at_most true false c a ts b = refl
atom-at_most false true c a ts b = refl
atom-at_most false false c a ts b = refl

atom-below : (o s : Bool) (c : ℕ) (a : Fraction) (ts : Terms) (b : Fraction) → IsPlainAtom (plain_below o s c a ts b)
atom-below true true c a ts b = refl
atom-below true false c a ts b = refl
atom-below false true c a ts b = refl
atom-below false false c a ts b = refl

at_most-atom : (counts : List Bool) (ts : Terms) (k : Fraction) → IsPlainAtom (at_most_terms counts ts k)
at_most-atom counts [] k = atom-constant (is_at_most k (whole (pos 0)))
at_most-atom counts (t ∷ ts) k = atom-at_most (is_one_count counts (t ∷ ts)) (is_positive t.1) t.0 t.1 (t ∷ ts) (neg_ℚ k /ℚ t.1)

below-atom : (counts : List Bool) (ts : Terms) (k : Fraction) → IsPlainAtom (below_terms counts ts k)
below-atom counts [] k = atom-constant (is_below k (whole (pos 0)))
below-atom counts (t ∷ ts) k = atom-below (is_one_count counts (t ∷ ts)) (is_positive t.1) t.0 t.1 (t ∷ ts) (neg_ℚ k /ℚ t.1)

pub compared-atom : (counts : List Bool) (strict : Bool) (l : Linear) → IsPlainAtom (plain_fact counts (compared_fact strict l))
compared-atom counts true l = below-atom counts l.terms l.constant
compared-atom counts false l = at_most-atom counts l.terms l.constant

-- ---- keys stay without constants
key-keeps : (key : Key) (t : List Key) → IsPlainKey key → AllByRecursion IsPlainKey t → AllByRecursion IsPlainKey (with_key key t)
key-keeps key [] h g = (h, tt)
key-keeps key (k ∷ ks) h g = by_test (same_key k key) (key-keeps key ks h g.1)
  where
    by_test : (b : Bool) → AllByRecursion IsPlainKey (with_key key ks) → AllByRecursion IsPlainKey (cond b (k ∷ ks) (k ∷ with_key key ks))
    by_test true f = g
    by_test false f = (g.0, f)

atom-keeps : (q : Plain) (t : List Key) → IsPlainAtom q → AllByRecursion IsPlainKey t → AllByRecursion IsPlainKey (with_plain q t)
atom-keeps always t h g = g
atom-keeps never t h g = g
atom-keeps (of s (atom a)) t h g = key-keeps (atom a) t h g
atom-keeps (of s (truth n)) t h g = absurd h

-- ---- one more Boolean, unless it is there
module _ (m : Made) (plains : AllByRecursion IsPlainKey m.keys) where
  more : (a : Atom) (b : Bool) (xs ys : List (Option Atom)) → ys ≡ cond b xs (xs ++ Some a ∷ [])
      → cond b (record { counts = m.counts; atoms = xs; clauses = m.clauses }) (with_boolean (Some a) (record { counts = m.counts; atoms = xs; clauses = m.clauses }))
      ≡ record { counts = m.counts; atoms = ys; clauses = m.clauses }
  more a true xs ys e = ap (λ (zs : List (Option Atom)). let f : Contents = record { counts = m.counts; atoms = zs; clauses = m.clauses } in f) (sym e)
  more a false xs ys e = ap (λ (zs : List (Option Atom)). let f : Contents = record { counts = m.counts; atoms = zs; clauses = m.clauses } in f) (sym e)

  literal-made : (q : Plain) → IsPlainAtom q → with_literal q (contents_of m) ≡ contents_of (record { counts = m.counts; keys = with_plain q m.keys; clauses = m.clauses })
  literal-made always h = refl
  literal-made never h = refl
  literal-made (of s (atom a)) h = more a (is_some (boolean_of a (map atom_in m.keys))) (map atom_in m.keys) (map atom_in (with_key (atom a) m.keys)) (atoms-found a h m.keys plains)
  literal-made (of s (truth n)) h = absurd h

  numbered-made : (q : Plain) → IsPlainAtom q → numbered_in (contents_of m) q ≡ truth_by (with_plain q m.keys) q
  numbered-made always h = refl
  numbered-made never h = refl
  numbered-made (of s (atom a)) h =
      ap (λ (n : ℕ). Of (record { boolean = n; pos = s }))
      (ap (unwrap_or (boolean_of a (map atom_in m.keys))) (length-map m.keys atom_in) ∙ index-found a h m.keys plains ∙ sym (index-own (atom a) m.keys))
  numbered-made (of s (truth n)) h = absurd h

-- ---- the Boolean of a fact
module _ (m : Made) (x : Fact) (atomic : IsPlainAtom (plain_fact m.counts x)) where
  pub fact-stands : (old new : Contents) → Stands m old → new ≡ with_literal (plain_fact m.counts x) old → Stands (put (boolean x) m) new
  fact-stands old new s e = record {
    contents = e ∙ ap (with_literal (plain_fact m.counts x)) s.contents ∙ literal-made m s.plain (plain_fact m.counts x) atomic;
    plain = atom-keeps (plain_fact m.counts x) m.keys atomic s.plain;
  }

  pub fact-known : (old : Contents) (t : Truth) → Stands m old → AllFit (fact_ops m.counts x) → t ≡ numbered_in old (plain_fact m.counts x) → Known (put (boolean x) m) (lit true x) t
  fact-known old t s f e = record {
    inside = plain_in m.counts (plain_fact m.counts x) m.keys;
    number = e ∙ ap (λ (g : Contents). numbered_in g (plain_fact m.counts x)) s.contents ∙ numbered-made m s.plain (plain_fact m.counts x) atomic;
    fit = f;
  }

  pub fact-makes : (old new : Contents) (r : Result Truth LinFail) → Stands m old → AllFit (fact_ops m.counts x)
      → IfOk r (λ t. (new ≡ with_literal (plain_fact m.counts x) old) × (t ≡ numbered_in old (plain_fact m.counts x))) → ((e : LinFail) → r ≡ Err e → e ≡ fail.Memory)
      → MakesFact m x new r
  fact-makes old new (Ok t) s f h g = (
    (named_append_fit (map (λ o. (suc (length m.clauses), o)) (fact_ops m.counts x)) [] (named_fit (suc (length m.clauses)) (fact_ops m.counts x) f) tt, fact-stands old new s h.0),
    fact-known old t s f h.1,
  )
  fact-makes old new (Err e) s f h g =
      (subst (IsMakingRefusal (named_from (boolean x ∷ []) m) (suc (length new.clauses))) (sym (g e refl)) tt, tt)

compared-is : (m : Made) (f : Contents) → Stands m f → (strict : Bool) (l : Linear) → compared f.counts strict l ≡ plain_fact m.counts (compared_fact strict l)
compared-is m f s true l = ap (λ (g : Contents). below_terms g.counts l.terms l.constant) s.contents
compared-is m f s false l = ap (λ (g : Contents). at_most_terms g.counts l.terms l.constant) s.contents

ops-are : (m : Made) (f : Contents) → Stands m f → (strict : Bool) (l : Linear) → bound_ops f.counts strict l l.terms ≡ fact_ops m.counts (compared_fact strict l)
ops-are m f s true l = ap (λ (g : Contents). bound_ops g.counts true l l.terms) s.contents
ops-are m f s false l = ap (λ (g : Contents). bound_ops g.counts false l l.terms) s.contents

pub literal-makes : (m : Made) (old new : Contents) (strict : Bool) (l : Linear) (r : Result Truth LinFail) → Stands m old → LiteralAnswers old strict l new r → MakesFact m (compared_fact strict l) new r
literal-makes m old new strict l (Ok t) s h =
    let x = compared_fact strict l in
    let q = compared-is m old s strict l in
    let fit = subst AllFit (ops-are m old s strict l) h.0 in (
      (
        named_append_fit (map (λ o. (suc (length m.clauses), o)) (fact_ops m.counts x)) [] (named_fit (suc (length m.clauses)) (fact_ops m.counts x) fit) tt,
        fact-stands m x (compared-atom m.counts strict l) old new s (h.1 ∙ ap (λ (p : Plain). with_literal p old) q),
      ),
      fact-known m x (compared-atom m.counts strict l) old t s fit (h.2 ∙ ap (numbered_in old) q),
    )
literal-makes m old new strict l (Err e) s h = (
  refusal_left (map (λ o. (suc (length m.clauses), o)) (fact_ops m.counts (compared_fact strict l))) [] (suc (length new.clauses)) e
      (subst (λ (r : ℕ). IsMakingRefusal (map (λ o. (suc (length m.clauses), o)) (fact_ops m.counts (compared_fact strict l))) r e) (ap (λ (f : Contents). suc (length f.clauses)) (sym (h.1 ∙ s.contents)))
      (refusal_named (suc (length m.clauses)) (fact_ops m.counts (compared_fact strict l)) e (subst (λ (ops : List Wide). IsRefusal ops e) (ops-are m old s strict l) h.0))),
  tt,
)

-- ---- a row makes its last Boolean itself
with_signed : (s : Bool) (q : Plain) (t : List Key) → with_plain (signed_plain s q) t ≡ with_plain q t
with_signed true q t = refl
with_signed false always t = refl
with_signed false never t = refl
with_signed false (of b key) t = refl

row-last : (counts : List Bool) (ls : List Literal) (l : Literal) (t : List Key) → with_row counts (ls ++ l ∷ []) t ≡ with_plain (plain counts l) (with_row counts ls t)
row-last counts [] l t = refl
row-last counts (k ∷ ks) l t = row-last counts ks l (with_plain (plain counts k) t)

ops-last : (counts : List Bool) (ls : List Literal) (l : Literal) → flat_map (literal_ops counts) (ls ++ l ∷ []) ≡ flat_map (literal_ops counts) ls ++ (literal_ops counts l ++ [])
ops-last counts [] l = refl
ops-last counts (k ∷ ks) l = ap (λ (os : List Wide). literal_ops counts k ++ os) (ops-last counts ks l) ∙ sym (append_assoc (literal_ops counts k) (flat_map (literal_ops counts) ks) (literal_ops counts l ++ []))

pub map-append : (r : ℕ) (os ps : List Wide) → map {B = ℕ × Wide} (λ o. (r, o)) (os ++ ps) ≡ map {B = ℕ × Wide} (λ o. (r, o)) os ++ map {B = ℕ × Wide} (λ o. (r, o)) ps
map-append r [] ps = refl
map-append r (o ∷ os) ps = ap (λ (xs : List (ℕ × Wide)). (r, o) ∷ xs) (map-append r os ps)

module _ (m : Made) (ls : List Literal) (s : Bool) (x : Fact) (before : with_row m.counts ls m.keys ≡ m.keys) (behind : with_row m.counts ls (put (boolean x) m).keys ≡ (put (boolean x) m).keys) where
  keys-drop : with_row m.counts (ls ++ lit s x ∷ []) (put (boolean x) m).keys ≡ with_row m.counts (ls ++ lit s x ∷ []) m.keys
  keys-drop =
      let q = plain_fact m.counts x in
      row-last m.counts ls (lit s x) (with_plain q m.keys) ∙ ap (with_plain (signed_plain s q)) behind ∙ with_signed s q (with_plain q m.keys) ∙ with_plain-present q (with_plain q m.keys) (plain_in m.counts q m.keys)
      ∙ sym (row-last m.counts ls (lit s x) m.keys ∙ ap (with_plain (signed_plain s q)) before ∙ with_signed s q m.keys)

  pub put-drop : put (row (ls ++ lit s x ∷ [])) (put (boolean x) m) ≡ put (row (ls ++ lit s x ∷ [])) m
  put-drop =
      ap (λ (t : List Key). let k : Made = record { counts = m.counts; keys = t; clauses = m.clauses ++ with_clause (clause_of t m.counts (ls ++ lit s x ∷ [])) [] } in k) keys-drop

  fact-within : (r : ℕ) (w : Wide) → Contains {X = ℕ × Wide} (map (λ o. (suc (length m.clauses), o)) (fact_ops m.counts x)) (r, w)
      → Contains {X = ℕ × Wide} (map (λ o. (suc (length m.clauses), o)) (flat_map (literal_ops m.counts) (ls ++ lit s x ∷ []))) (r, w)
  fact-within r w h =
      subst (λ (os : List Wide). Contains {X = ℕ × Wide} (map (λ o. (suc (length m.clauses), o)) os) (r, w)) (sym (ops-last m.counts ls (lit s x)))
      (subst (λ (os : List (ℕ × Wide)). Contains {X = ℕ × Wide} os (r, w)) (sym (map-append (suc (length m.clauses)) (flat_map (literal_ops m.counts) ls) (fact_ops m.counts x ++ [])))
      (Contains-append_right {X = ℕ × Wide} (map (λ o. (suc (length m.clauses), o)) (flat_map (literal_ops m.counts) ls)) (map (λ o. (suc (length m.clauses), o)) (fact_ops m.counts x ++ [])) (r, w)
      (subst (λ (os : List Wide). Contains {X = ℕ × Wide} (map (λ o. (suc (length m.clauses), o)) os) (r, w)) (sym (append-nil (fact_ops m.counts x))) h)))

  pub makes-drop : {X : Type 0} (new : Contents) (r : Result X LinFail) → Makes (boolean x ∷ row (ls ++ lit s x ∷ []) ∷ []) m new r → Makes (row (ls ++ lit s x ∷ []) ∷ []) m new r
  makes-drop new (Ok u) h = (
    all_right _ (map (λ o. (suc (length m.clauses), o)) (fact_ops m.counts x)) (map (λ o. (suc (length m.clauses), o)) (flat_map (literal_ops m.counts) (ls ++ lit s x ∷ [])) ++ []) h.0,
    subst (λ (k : Made). Stands k new) put-drop h.1,
  )
  makes-drop new (Err (fail.Wide w)) h = record { named = by_part (Contains-append_cases {X = ℕ × Wide} (map (λ o. (suc (length m.clauses), o)) (fact_ops m.counts x)) _ (suc (length new.clauses), w) h.named); passes = h.passes }
    where
      by_part : Contains {X = ℕ × Wide} (map (λ o. (suc (length m.clauses), o)) (fact_ops m.counts x)) (suc (length new.clauses), w)
          ⊎ Contains {X = ℕ × Wide} (map (λ o. (suc (length m.clauses), o)) (flat_map (literal_ops m.counts) (ls ++ lit s x ∷ [])) ++ []) (suc (length new.clauses), w)
          → Contains {X = ℕ × Wide} (map (λ o. (suc (length m.clauses), o)) (flat_map (literal_ops m.counts) (ls ++ lit s x ∷ [])) ++ []) (suc (length new.clauses), w)
      by_part (inl f) = Contains-append_left {X = ℕ × Wide} (map (λ o. (suc (length m.clauses), o)) (flat_map (literal_ops m.counts) (ls ++ lit s x ∷ []))) [] (suc (length new.clauses), w) (fact-within (suc (length new.clauses)) w f)
      by_part (inr f) = f
  makes-drop new (Err fail.Memory) h = tt
