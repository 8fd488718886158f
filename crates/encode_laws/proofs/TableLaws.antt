-- The table has each key that a row uses, at its index; each atom on one count has a whole bound.
use Rattle.std.proofs.Common.{◌≡◌, ◌≢◌, ℕ, zero, suc, ◌<◌, Bool, true, false, cond, inl, inr, List, [], ◌∷◌, length, get_or, refl, ap, ap₂, ◌∙◌, nat_eq, arith}
use Rattle.std.proofs.lemmas.Bool.{and_parts, and_from, eqb-true, eq-eqb}
use Rattle.std.specs.List.{AllByRecursion}
use Rattle.std.specs.Prelude.{⊤}
use lib.IntN.{ℤ, pos, negsuc, ◌+ℤ◌}
use Rattle.rational.specs.Fraction.{Fraction, whole}
use Rattle.rational.specs.Linear.{Terms}
use Rattle.rational.specs.Floor.{floor_of, ceil_of}
use Rattle.rational.proofs.FieldLaws.{same_parts}
pub use Rattle.encode_laws.specs.Made.{IsIn, PlainIn}
use Rattle.encode_laws.specs.Rows.{Name, is_done, behind, Fact, at_most, below, named, Literal, yes, no, lit, Item, number, boolean, row, needs}
use Rattle.lin.specs.Normal.{IsNormal}
use Rattle.lin.specs.Code.{same_linear}
use Rattle.lin.proofs.Merging.{normal_parts, collected-normal}
use Rattle.encode_laws.proofs.Quotients.{is_zero-false, divided-normal}
use Rattle.lin.specs.Linear.{Linear, var, linear_of}
use Rattle.formula.specs.declared.atom.Atom.{Atom}
use Rattle.formula.specs.Atoms.{is_one_count}
use Rattle.formula.specs.Equal.{same_ℤ, same_fraction, same_terms, same_bool, same_atom}
use Rattle.encode_laws.specs.Numbering.{Key, atom, truth, Plain, always, never, of, constant_plain, is_positive, divided, linear_atom, plain_at_most, plain_below, at_most_terms, below_terms, plain_fact, signed_plain, plain, same_name, same_key, with_key, index_of, with_plain, with_row, with_item, table_from}

-- ---- the tests of equality: true exactly at equal ones
self : (n : ℕ) → nat_eq n n ≡ true
self n = eq-eqb n n refl

same_ℤ-true : (m n : ℤ) → same_ℤ m n ≡ true → m ≡ n
same_ℤ-true (pos m) (pos n) h = ap pos (eqb-true m n h)
same_ℤ-true (negsuc m) (negsuc n) h = ap negsuc (eqb-true m n h)
same_ℤ-true (pos m) (negsuc n) h = absurd (cc)
same_ℤ-true (negsuc m) (pos n) h = absurd (cc)

same_ℤ-self : (m : ℤ) → same_ℤ m m ≡ true
same_ℤ-self (pos m) = self m
same_ℤ-self (negsuc m) = self m

same_fraction-true : (x y : Fraction) → same_fraction x y ≡ true → x ≡ y
same_fraction-true x y h = let b = and_parts _ _ h in same_parts x y (same_ℤ-true x.num y.num b.0) (eqb-true x.den y.den b.1)

pub same_fraction-self : (x : Fraction) → same_fraction x x ≡ true
same_fraction-self x = and_from _ _ (same_ℤ-self x.num) (self x.den)

same_terms-true : (ts us : Terms) → same_terms ts us ≡ true → ts ≡ us
same_terms-true [] [] h = refl
same_terms-true [] (u ∷ us) h = absurd (cc)
same_terms-true (t ∷ ts) [] h = absurd (cc)
same_terms-true (t ∷ ts) (u ∷ us) h =
    let b = and_parts _ _ h in
    let c = and_parts _ _ b.1 in
    let first : t ≡ u = (λ i. (eqb-true t.0 u.0 b.0 i, same_fraction-true t.1 u.1 c.0 i)) in
    ap₂ (λ (x : ℕ × Fraction) (xs : Terms). x ∷ xs) first (same_terms-true ts us c.1)

same_terms-self : (ts : Terms) → same_terms ts ts ≡ true
same_terms-self [] = refl
same_terms-self (t ∷ ts) = and_from _ _ (self t.0) (and_from _ _ (same_fraction-self t.1) (same_terms-self ts))

same_bool-true : (b c : Bool) → same_bool b c ≡ true → b ≡ c
same_bool-true true true h = refl
same_bool-true true false h = absurd (cc)
same_bool-true false true h = absurd (cc)
same_bool-true false false h = refl

same_bool-self : (b : Bool) → same_bool b b ≡ true
same_bool-self true = refl
same_bool-self false = refl

same_name-true : (m n : Name) → same_name m n ≡ true → m ≡ n
same_name-true (is_done i) (is_done j) h = ap is_done (eqb-true i j h)
same_name-true (is_done i) (behind j p) h = absurd (cc)
same_name-true (behind i p) (is_done j) h = absurd (cc)
same_name-true (behind i p) (behind j q) h = let b = and_parts _ _ h in ap₂ behind (eqb-true i j b.0) (eqb-true p q b.1)

same_name-self : (n : Name) → same_name n n ≡ true
same_name-self (is_done i) = self i
same_name-self (behind i p) = and_from _ _ (self i) (self p)

abbrev made : Linear → Bool → Fraction → Atom
made l s b = record { lin = l; strict = s; bound = b }

pub same_atom-true : (a b : Atom) → same_fraction a.lin.constant b.lin.constant ≡ true → same_atom a b ≡ true → a ≡ b
same_atom-true a b c h =
    let x = and_parts _ _ h in
    let y = and_parts _ _ x.1 in
    ap (λ (s : Bool). made a.lin s a.bound) (same_bool-true a.strict b.strict x.0)
    ∙ ap (λ (r : Fraction). made a.lin b.strict r) (same_fraction-true a.bound b.bound y.0)
    ∙ ap (λ (l : Linear). made l b.strict b.bound)
    (same_linear a.lin b.lin (same_terms-true a.lin.terms b.lin.terms y.1) (same_fraction-true a.lin.constant b.lin.constant c))

pub same_key-true : (k l : Key) → same_key k l ≡ true → k ≡ l
same_key-true (atom a) (atom b) h = let p = and_parts _ _ h in ap atom (same_atom-true a b p.0 p.1)
same_key-true (atom a) (truth n) h = absurd (cc)
same_key-true (truth m) (atom b) h = absurd (cc)
same_key-true (truth m) (truth n) h = ap truth (same_name-true m n h)

pub same_key-self : (k : Key) → same_key k k ≡ true
same_key-self (atom a) =
    and_from _ _ (same_fraction-self a.lin.constant) (and_from _ _ (same_bool-self a.strict) (and_from _ _ (same_fraction-self a.bound) (same_terms-self a.lin.terms)))
same_key-self (truth n) = same_name-self n

-- ---- what the table has

pub with_key-in : (key : Key) (table : List Key) → IsIn key (with_key key table)
with_key-in key [] = inl (same_key-self key)
with_key-in key (k ∷ ks) = by_test (same_key k key) refl (with_key-in key ks)
  where
    by_test : (b : Bool) → same_key k key ≡ b → IsIn key (with_key key ks) → IsIn key (cond b (k ∷ ks) (k ∷ with_key key ks))
    by_test true e h = inl e
    by_test false e h = inr h

pub with_key-keeps : (other key : Key) (table : List Key) → IsIn other table → IsIn other (with_key key table)
with_key-keeps other key [] h = absurd h
with_key-keeps other key (k ∷ ks) h = by_test (same_key k key) h (with_key-keeps other key ks)
  where
    inside : IsIn other (k ∷ ks) → (IsIn other ks → IsIn other (with_key key ks)) → IsIn other (k ∷ with_key key ks)
    inside (inl e) f = inl e
    inside (inr j) f = inr (f j)

    by_test : (b : Bool) → IsIn other (k ∷ ks) → (IsIn other ks → IsIn other (with_key key ks)) → IsIn other (cond b (k ∷ ks) (k ∷ with_key key ks))
    by_test true h f = h
    by_test false h f = inside h f

pub index-key : (key d : Key) (table : List Key) → IsIn key table → get_or table (index_of key table) d ≡ key
index-key key d [] h = absurd h
index-key key d (k ∷ ks) h = by_test (same_key k key) refl h (index-key key d ks)
  where
    further : same_key k key ≡ false → IsIn key (k ∷ ks) → IsIn key ks
    further e (inl f) = absurd (cc)
    further e (inr j) = j

    by_test : (b : Bool) → same_key k key ≡ b → IsIn key (k ∷ ks) → (IsIn key ks → get_or ks (index_of key ks) d ≡ key) → get_or (k ∷ ks) (cond b zero (suc (index_of key ks))) d ≡ key
    by_test true e h f = same_key-true k key e
    by_test false e h f = f (further e h)

pub index-below : (key : Key) (table : List Key) → IsIn key table → index_of key table < length table
index-below key [] h = absurd h
index-below key (k ∷ ks) h = by_test (same_key k key) refl h (index-below key ks)
  where
    further : same_key k key ≡ false → IsIn key (k ∷ ks) → IsIn key ks
    further e (inl f) = absurd (cc)
    further e (inr j) = j

    by_test : (b : Bool) → same_key k key ≡ b → IsIn key (k ∷ ks) → (IsIn key ks → index_of key ks < length ks) → cond b zero (suc (index_of key ks)) < suc (length ks)
    by_test true e h f = omega arith
    by_test false e h f = let g = f (further e h) in omega arith

-- ---- an atom on one count isn't strict and has a whole bound
module _ (counts : List Bool) where
  abbrev pub IsGood : Key → Type 0
  IsGood (truth n) = ⊤
  IsGood (atom a) =
      is_one_count counts a.lin.terms ≡ true → (a.strict ≡ false) × ((z : ℤ) × (a.bound ≡ whole z)) × ((c : ℕ) × (a.lin ≡ var c))

  abbrev pub GoodPlain : Plain → Type 0
  GoodPlain always = ⊤
  GoodPlain never = ⊤
  GoodPlain (of s key) = IsGood key

  one_count-divided : (a : Fraction) (ts : Terms) → is_one_count counts (divided a ts) ≡ is_one_count counts ts
  one_count-divided a [] = refl
  one_count-divided a (t ∷ []) = refl
  one_count-divided a (t ∷ u ∷ us) = refl

  pub one_count-quotient : (a : Fraction) (ts : Terms) → a ≢ whole (pos 0) → IsNormal ts → is_one_count counts (linear_of (divided a ts) (whole (pos 0))).terms ≡ is_one_count counts ts
  one_count-quotient a ts z n = ap (is_one_count counts) (collected-normal 0 (divided a ts) (divided-normal a z 0 ts n)) ∙ one_count-divided a ts

  good_constant : (c : Bool) → GoodPlain (constant_plain c)
  good_constant true = tt
  good_constant false = tt

  good_linear : (a : Fraction) (ts : Terms) (strict : Bool) (b : Fraction) → a ≢ whole (pos 0) → IsNormal ts → is_one_count counts ts ≡ false → IsGood (linear_atom a ts strict b)
  good_linear a ts strict b z n e h = absurd (let g = one_count-quotient a ts z n in cc)

  good_at_most : (o s : Bool) (c : ℕ) (a : Fraction) (ts : Terms) (b : Fraction) → a ≢ whole (pos 0) → IsNormal ts → is_one_count counts ts ≡ o → GoodPlain (plain_at_most o s c a ts b)
  good_at_most true true c a ts b z n e = λ h. (refl, (floor_of b, refl), (c, refl))
  good_at_most true false c a ts b z n e = λ h. (refl, (ceil_of b +ℤ negsuc 0, refl), (c, refl))
  good_at_most false true c a ts b z n e = good_linear a ts false b z n e
  good_at_most false false c a ts b z n e = good_linear a ts true b z n e

  good_below : (o s : Bool) (c : ℕ) (a : Fraction) (ts : Terms) (b : Fraction) → a ≢ whole (pos 0) → IsNormal ts → is_one_count counts ts ≡ o → GoodPlain (plain_below o s c a ts b)
  good_below true true c a ts b z n e = λ h. (refl, (ceil_of b +ℤ negsuc 0, refl), (c, refl))
  good_below true false c a ts b z n e = λ h. (refl, (floor_of b, refl), (c, refl))
  good_below false true c a ts b z n e = good_linear a ts true b z n e
  good_below false false c a ts b z n e = good_linear a ts false b z n e

  good_fact : (f : Fact) → GoodPlain (plain_fact counts f)
  good_fact (at_most l) = by_terms l.terms l.normal
    where
      by_terms : (ts : Terms) → IsNormal ts → GoodPlain (at_most_terms counts ts l.constant)
      by_terms [] n = good_constant _
      by_terms (t ∷ ts) n = good_at_most (is_one_count counts (t ∷ ts)) (is_positive t.1) t.0 t.1 (t ∷ ts) _ (is_zero-false t.1 (normal_parts 0 t ts n).some) n refl
  good_fact (below l) = by_terms l.terms l.normal
    where
      by_terms : (ts : Terms) → IsNormal ts → GoodPlain (below_terms counts ts l.constant)
      by_terms [] n = good_constant _
      by_terms (t ∷ ts) n = good_below (is_one_count counts (t ∷ ts)) (is_positive t.1) t.0 t.1 (t ∷ ts) _ (is_zero-false t.1 (normal_parts 0 t ts n).some) n refl
  good_fact (named n) = tt

  good_signed : (s : Bool) (q : Plain) → GoodPlain q → GoodPlain (signed_plain s q)
  good_signed true q h = h
  good_signed false always h = tt
  good_signed false never h = tt
  good_signed false (of s key) h = h

  good_literal : (l : Literal) → GoodPlain (plain counts l)
  good_literal yes = tt
  good_literal no = tt
  good_literal (lit s f) = good_signed s (plain_fact counts f) (good_fact f)

  good_with_key : (key : Key) (table : List Key) → IsGood key → AllByRecursion IsGood table → AllByRecursion IsGood (with_key key table)
  good_with_key key [] g h = (g, tt)
  good_with_key key (k ∷ ks) g h = by_test (same_key k key) (good_with_key key ks g h.1)
    where
      by_test : (b : Bool) → AllByRecursion IsGood (with_key key ks) → AllByRecursion IsGood (cond b (k ∷ ks) (k ∷ with_key key ks))
      by_test true f = h
      by_test false f = (h.0, f)

  good_with_plain : (q : Plain) (table : List Key) → GoodPlain q → AllByRecursion IsGood table → AllByRecursion IsGood (with_plain q table)
  good_with_plain always table g h = h
  good_with_plain never table g h = h
  good_with_plain (of s key) table g h = good_with_key key table g h

  good_with_row : (ls : List Literal) (table : List Key) → AllByRecursion IsGood table → AllByRecursion IsGood (with_row counts ls table)
  good_with_row [] table h = h
  good_with_row (l ∷ ls) table h = good_with_row ls (with_plain (plain counts l) table) (good_with_plain (plain counts l) table (good_literal l) h)

  good_with_item : (x : Item) (table : List Key) → AllByRecursion IsGood table → AllByRecursion IsGood (with_item counts x table)
  good_with_item (number w c) table h = h
  good_with_item (needs ops) table h = h
  good_with_item (boolean f) table h = good_with_plain (plain_fact counts f) table (good_fact f) h
  good_with_item (row ls) table h = good_with_row ls table h

  pub good_table : (xs : List Item) (table : List Key) → AllByRecursion IsGood table → AllByRecursion IsGood (table_from counts xs table)
  good_table [] table h = h
  good_table (x ∷ xs) table h = good_table xs (with_item counts x table) (good_with_item x table h)

  pub good_at : (table : List Key) (b : ℕ) → AllByRecursion IsGood table → IsGood (get_or table b (truth (is_done 0)))
  good_at [] b h = tt
  good_at (k ∷ ks) zero h = h.0
  good_at (k ∷ ks) (suc b) h = good_at ks b h.1

  -- ---- each literal of a row is in the table
  abbrev pub RowIn : List Key → List Literal → Type 0
  RowIn table ls = AllByRecursion (λ l. PlainIn table (plain counts l)) ls

  abbrev pub ItemIn : List Key → Item → Type 0
  ItemIn table (number w c) = ⊤
  ItemIn table (needs ops) = ⊤
  ItemIn table (boolean f) = ⊤
  ItemIn table (row ls) = RowIn table ls

  keeps_plain : (k : Key) (q : Plain) (table : List Key) → IsIn k table → IsIn k (with_plain q table)
  keeps_plain k always table h = h
  keeps_plain k never table h = h
  keeps_plain k (of s key) table h = with_key-keeps k key table h

  keeps_row : (k : Key) (ls : List Literal) (table : List Key) → IsIn k table → IsIn k (with_row counts ls table)
  keeps_row k [] table h = h
  keeps_row k (l ∷ ls) table h = keeps_row k ls (with_plain (plain counts l) table) (keeps_plain k (plain counts l) table h)

  keeps_item : (k : Key) (x : Item) (table : List Key) → IsIn k table → IsIn k (with_item counts x table)
  keeps_item k (number w c) table h = h
  keeps_item k (needs ops) table h = h
  keeps_item k (boolean f) table h = keeps_plain k (plain_fact counts f) table h
  keeps_item k (row ls) table h = keeps_row k ls table h

  keeps_all : (k : Key) (xs : List Item) (table : List Key) → IsIn k table → IsIn k (table_from counts xs table)
  keeps_all k [] table h = h
  keeps_all k (x ∷ xs) table h = keeps_all k xs (with_item counts x table) (keeps_item k x table h)

  pub plain_in : (q : Plain) (table : List Key) → PlainIn (with_plain q table) q
  plain_in always table = tt
  plain_in never table = tt
  plain_in (of s key) table = with_key-in key table

  pub lift_plain : (q : Plain) (old new : List Key) → ((k : Key) → IsIn k old → IsIn k new) → PlainIn old q → PlainIn new q
  lift_plain always old new f h = tt
  lift_plain never old new f h = tt
  lift_plain (of s key) old new f h = f key h

  pub row_in : (ls : List Literal) (table : List Key) → RowIn (with_row counts ls table) ls
  row_in [] table = tt
  row_in (l ∷ ls) table = (
    lift_plain (plain counts l) (with_plain (plain counts l) table) (with_row counts ls (with_plain (plain counts l) table))
        (λ k. keeps_row k ls (with_plain (plain counts l) table)) (plain_in (plain counts l) table),
    row_in ls (with_plain (plain counts l) table),
  )

  lift_row : (ls : List Literal) (old new : List Key) → ((k : Key) → IsIn k old → IsIn k new) → RowIn old ls → RowIn new ls
  lift_row [] old new f h = tt
  lift_row (l ∷ ls) old new f h = (lift_plain (plain counts l) old new f h.0, lift_row ls old new f h.1)

  item_in : (x : Item) (table : List Key) → ItemIn (with_item counts x table) x
  item_in (number w c) table = tt
  item_in (needs ops) table = tt
  item_in (boolean f) table = tt
  item_in (row ls) table = row_in ls table

  lift_item : (x : Item) (old new : List Key) → ((k : Key) → IsIn k old → IsIn k new) → ItemIn old x → ItemIn new x
  lift_item (number w c) old new f h = tt
  lift_item (needs ops) old new f h = tt
  lift_item (boolean g) old new f h = tt
  lift_item (row ls) old new f h = lift_row ls old new f h

  pub table_in : (xs : List Item) (table : List Key) → AllByRecursion (ItemIn (table_from counts xs table)) xs
  table_in [] table = tt
  table_in (x ∷ xs) table = (
    lift_item x (with_item counts x table) (table_from counts xs (with_item counts x table)) (λ k. keeps_all k xs (with_item counts x table)) (item_in x table),
    table_in xs (with_item counts x table),
  )
