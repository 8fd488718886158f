-- A truth variable that items don't name stays new.
use Rattle.std.proofs.Common.{◌≡◌, Bool, true, false, cond, inl, inr, List, [], ◌∷◌, ◌++◌, subst}
use Rattle.std.specs.Prelude.{⊤}
use Rattle.std.specs.List.{AllByRecursion}
use Rattle.encode_laws.specs.Rows.{Name, Fact, at_most, below, named, Literal, yes, no, lit, opposite, Item, number, boolean, row, needs}
use Rattle.encode_laws.specs.Numbering.{Key, atom, truth, Plain, always, never, of, plain_fact, signed_plain, plain, same_key, with_key, with_plain, with_row}
use Rattle.encode_laws.specs.Made.{Made, put, made_from, IsIn}
use Rattle.encode_laws.proofs.TableLaws.{same_key-true}
use Rattle.encode_rows.specs.declared.clause.Truth.{Truth}
use Rattle.encode_rows.specs.Standing.{Knows, IsNew}
use Rattle.encode_rows.specs.Changing.{change_of_name}
use Rattle.encode_rows.specs.Names.{FactNames, LiteralNames, ItemNames}
use Rattle.encode_rows.proofs.LiteralLaws.{IsPlainAtom, compared-atom}

module _ (n : Name) where
  new-key : (key : Key) (t : List Key) → (same_key key (truth n) ≡ true → ⊥) → IsNew n t → IsNew n (with_key key t)
  new-key key [] a h (inl e) = a e
  new-key key [] a h (inr e) = e
  new-key key (k ∷ ks) a h i = by_test (same_key k key) i (new-key key ks a (λ j. h (inr j)))
    where
      by_test : (b : Bool) → IsIn (truth n) (cond b (k ∷ ks) (k ∷ with_key key ks)) → (IsIn (truth n) (with_key key ks) → ⊥) → ⊥
      by_test true j f = h j
      by_test false (inl e) f = h (inl e)
      by_test false (inr j) f = f j

  abbrev IsApart : Plain → Type 0
  IsApart always = ⊤
  IsApart never = ⊤
  IsApart (of s key) = same_key key (truth n) ≡ true → ⊥

  new-plain : (q : Plain) (t : List Key) → IsApart q → IsNew n t → IsNew n (with_plain q t)
  new-plain always t a h = h
  new-plain never t a h = h
  new-plain (of s key) t a h = new-key key t a h

  atom-apart : (q : Plain) → IsPlainAtom q → IsApart q
  atom-apart always h = tt
  atom-apart never h = tt
  atom-apart (of s (atom a)) h = λ e. absurd (cc)
  atom-apart (of s (truth m)) h = absurd h

  signed-apart : (s : Bool) (q : Plain) → IsApart q → IsApart (signed_plain s q)
  signed-apart true q h = h
  signed-apart false always h = tt
  signed-apart false never h = tt
  signed-apart false (of s key) h = h

  truth-same : (m : Name) → same_key (truth m) (truth n) ≡ true → m ≡ n
  truth-same m e = let f : truth m ≡ truth n = same_key-true (truth m) (truth n) e in cc

  module _ (P : Name → Type 0) (apart : P n → ⊥) where
    fact-apart : (counts : List Bool) (f : Fact) → FactNames P f → IsApart (plain_fact counts f)
    fact-apart counts (at_most l) h = atom-apart (plain_fact counts (at_most l)) (compared-atom counts false l)
    fact-apart counts (below l) h = atom-apart (plain_fact counts (below l)) (compared-atom counts true l)
    fact-apart counts (named m) h = λ e. apart (subst P (truth-same m e) h)

    literal-apart : (counts : List Bool) (l : Literal) → LiteralNames P l → IsApart (plain counts l)
    literal-apart counts yes h = tt
    literal-apart counts no h = tt
    literal-apart counts (lit s f) h = signed-apart s (plain_fact counts f) (fact-apart counts f h)

    new-row : (counts : List Bool) (ls : List Literal) (t : List Key) → AllByRecursion (LiteralNames P) ls → IsNew n t → IsNew n (with_row counts ls t)
    new-row counts [] t h g = g
    new-row counts (l ∷ ls) t h g = new-row counts ls (with_plain (plain counts l) t) h.1 (new-plain (plain counts l) t (literal-apart counts l h.0) g)

    new-item : (x : Item) (m : Made) → ItemNames P x → IsNew n m.keys → IsNew n (put x m).keys
    new-item (number v c) m h g = g
    new-item (needs ops) m h g = g
    new-item (boolean f) m h g = new-plain (plain_fact m.counts f) m.keys (fact-apart m.counts f h) g
    new-item (row ls) m h g = new-row m.counts ls m.keys h g

    pub names-stay : (xs : List Item) (m : Made) → AllByRecursion (ItemNames P) xs → IsNew n m.keys → IsNew n (made_from xs m).keys
    names-stay [] m h g = g
    names-stay (x ∷ xs) m h g = names-stay xs (put x m) h.1 (new-item x m h.0 g)

  -- a literal that is known doesn't name what is new
  pub knows-apart : (m : Made) (l : Literal) (t : Truth) → Knows m l t → IsNew n m.keys → LiteralNames (λ k. k ≡ n → ⊥) l
  knows-apart m yes t h g = tt
  knows-apart m no t h g = tt
  knows-apart m (lit s (at_most l)) t h g = tt
  knows-apart m (lit s (below l)) t h g = tt
  knows-apart m (lit true (named k)) t h g = λ e. g (subst (λ (j : Name). IsIn (truth j) m.keys) e h.known.inside)
  knows-apart m (lit false (named k)) t h g = λ e. g (subst (λ (j : Name). IsIn (truth j) m.keys) e h.known.inside)

-- ---- the names of what is made
module _ (P : Name → Type 0) where
  pub opposite-names : (l : Literal) → LiteralNames P l → LiteralNames P (opposite l)
  opposite-names yes h = h
  opposite-names no h = h
  opposite-names (lit s f) h = h

  pub names-append : (xs ys : List Item) → AllByRecursion (ItemNames P) xs → AllByRecursion (ItemNames P) ys → AllByRecursion (ItemNames P) (xs ++ ys)
  names-append [] ys h g = g
  names-append (x ∷ xs) ys h g = (h.0, names-append xs ys h.1 g)

  pub change-names : (b : Bool) (o : Literal) (m : Name) (l : Literal) → LiteralNames P o → P m → LiteralNames P l → AllByRecursion (ItemNames P) (change_of_name b o m l)
  change-names true o m yes ho hm hl = tt
  change-names true o m no ho hm hl = tt
  change-names true o m (lit s f) ho hm hl = (hm, ((hm, (ho, (hl, tt))), ((hm, (opposite-names o ho, tt)), ((hm, (hl, tt)), tt))))
  change-names false o m yes ho hm hl = tt
  change-names false o m no ho hm hl = tt
  change-names false o m (lit s f) ho hm hl = (hm, ((hm, (opposite-names o ho, tt)), ((hm, (hl, tt)), ((hm, (ho, (hl, tt))), tt))))
