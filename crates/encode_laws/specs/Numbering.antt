-- Rows of facts become clauses over numbered Booleans. A comparison becomes a literal of an atom, an atom equal to an earlier one
-- is that earlier one, and rows are simplified. The bounds of counts are rounded, since counts are whole.
use Rattle.std.specs.Prelude.{ℕ, zero, suc, Bool, true, false, not, ◌&&◌, List, [], ◌∷◌, map, Option, Some, None, nat_eq, nat_lt, if◌then◌else◌}
use Rattle.std.specs.Bool.{beq}
use lib.IntN.{ℤ, pos, negsuc, ◌+ℤ◌}
use Rattle.rational.specs.Fraction.{Fraction, whole, ◌/ℚ◌, neg_ℚ}
use Rattle.rational.specs.Floor.{floor_of, ceil_of}
use Rattle.rational.specs.Linear.{Terms}
pub use Rattle.relaxed.specs.Range.{is_positive}
use Rattle.lin.specs.Linear.{var, linear_of}
use Rattle.formula.specs.declared.atom.Atom.{Atom}
use Rattle.formula.specs.declared.atom.Lit.{Lit}
use Rattle.formula.specs.Atoms.{is_one_count}
use Rattle.formula.specs.Contents.{Contents}
use Rattle.formula.specs.Equal.{same_fraction, same_atom}
use Rattle.encode_laws.specs.Rows.{Name, is_done, behind, Fact, at_most, below, named, Literal, yes, no, lit, is_at_most, is_below, Item, number, boolean, row, needs}

-- what a Boolean stands for
pub data Key : Type 0 where
  atom : Atom → Key
  truth : Name → Key

-- a literal that is always true, always false, or of a key
pub data Plain : Type 0 where
  always never : Plain
  of : Bool → Key → Plain

abbrev pub constant_plain : Bool → Plain
constant_plain true = always
constant_plain false = never

-- ---- the literal of `l <= 0` and of `l < 0`
-- c <= z, c a count
abbrev pub count_atom : ℕ → ℤ → Key
count_atom c z = atom (record { lin = var c; strict = false; bound = whole z })

abbrev pub divided : Fraction → Terms → Terms
divided a ts = map (λ t. (t.0, t.1 /ℚ a)) ts

-- the expression without its constant, divided by its first coefficient
abbrev pub linear_atom : Fraction → Terms → Bool → Fraction → Key
linear_atom a ts strict bound = atom (record { lin = linear_of (divided a ts) (whole (pos 0)); strict = strict; bound = bound })

-- by whether it is one count and whether its first coefficient a is above 0; c is the first variable, and b is -k / a where k is
-- the constant
abbrev pub plain_at_most : Bool → Bool → ℕ → Fraction → Terms → Fraction → Plain
plain_at_most true true c a ts b = of true (count_atom c (floor_of b))
plain_at_most true false c a ts b = of false (count_atom c (ceil_of b +ℤ negsuc 0))
plain_at_most false true c a ts b = of true (linear_atom a ts false b)
plain_at_most false false c a ts b = of false (linear_atom a ts true b)

abbrev pub plain_below : Bool → Bool → ℕ → Fraction → Terms → Fraction → Plain
plain_below true true c a ts b = of true (count_atom c (ceil_of b +ℤ negsuc 0))
plain_below true false c a ts b = of false (count_atom c (floor_of b))
plain_below false true c a ts b = of true (linear_atom a ts true b)
plain_below false false c a ts b = of false (linear_atom a ts false b)

abbrev pub at_most_terms : List Bool → Terms → Fraction → Plain
at_most_terms counts [] k = constant_plain (is_at_most k (whole (pos 0)))
at_most_terms counts (t ∷ ts) k = plain_at_most (is_one_count counts (t ∷ ts)) (is_positive t.1) t.0 t.1 (t ∷ ts) (neg_ℚ k /ℚ t.1)

abbrev pub below_terms : List Bool → Terms → Fraction → Plain
below_terms counts [] k = constant_plain (is_below k (whole (pos 0)))
below_terms counts (t ∷ ts) k = plain_below (is_one_count counts (t ∷ ts)) (is_positive t.1) t.0 t.1 (t ∷ ts) (neg_ℚ k /ℚ t.1)

abbrev pub plain_fact : List Bool → Fact → Plain
plain_fact counts (at_most l) = at_most_terms counts l.terms l.constant
plain_fact counts (below l) = below_terms counts l.terms l.constant
plain_fact counts (named n) = of true (truth n)

abbrev pub signed_plain : Bool → Plain → Plain
signed_plain true q = q
signed_plain false always = never
signed_plain false never = always
signed_plain false (of s key) = of (not s) key

abbrev pub plain : List Bool → Literal → Plain
plain counts yes = always
plain counts no = never
plain counts (lit s f) = signed_plain s (plain_fact counts f)

-- ---- equal keys
abbrev pub same_name : Name → Name → Bool
same_name (is_done i) (is_done j) = nat_eq i j
same_name (is_done i) (behind j p) = false
same_name (behind i p) (is_done j) = false
same_name (behind i p) (behind j q) = nat_eq i j && nat_eq p q

-- the constants of atoms are 0; they are compared too, so that equal keys are one
abbrev pub same_key : Key → Key → Bool
same_key (atom a) (atom b) = same_fraction a.lin.constant b.lin.constant && same_atom a b
same_key (atom a) (truth n) = false
same_key (truth m) (atom b) = false
same_key (truth m) (truth n) = same_name m n

-- ---- the table: each key once, in the order of its first making
abbrev pub with_key : Key → List Key → List Key
with_key key [] = key ∷ []
with_key key (k ∷ ks) = if same_key k key then (k ∷ ks) else (k ∷ with_key key ks)

abbrev pub index_of : Key → List Key → ℕ
index_of key [] = zero
index_of key (k ∷ ks) = if same_key k key then zero else suc (index_of key ks)

abbrev pub with_plain : Plain → List Key → List Key
with_plain always table = table
with_plain never table = table
with_plain (of s key) table = with_key key table

abbrev pub with_row : List Bool → List Literal → List Key → List Key
with_row counts [] table = table
with_row counts (l ∷ ls) table = with_row counts ls (with_plain (plain counts l) table)

abbrev pub with_item : List Bool → Item → List Key → List Key
with_item counts (number v c) table = table
with_item counts (needs ops) table = table
with_item counts (boolean f) table = with_plain (plain_fact counts f) table
with_item counts (row ls) table = with_row counts ls table

abbrev pub table_from : List Bool → List Item → List Key → List Key
table_from counts [] table = table
table_from counts (x ∷ xs) table = table_from counts xs (with_item counts x table)

-- ---- clauses
-- one more literal of a clause, in rising Boolean; none where its opposite is in it
abbrev pub front_of : Lit → Option (List Lit) → Option (List Lit)
front_of l None = None
front_of l (Some ls) = Some (l ∷ ls)

abbrev pub with_lit : Lit → List Lit → Option (List Lit)
with_lit l [] = Some (l ∷ [])
with_lit l (m ∷ ms) =
    if nat_lt m.boolean l.boolean then front_of m (with_lit l ms)
    else (if nat_eq m.boolean l.boolean then (if beq m.pos l.pos then Some (m ∷ ms) else None) else Some (l ∷ m ∷ ms))

abbrev pub with_numbered : List Key → Plain → Option (List Lit) → Option (List Lit)
with_numbered table q None = None
with_numbered table always (Some ls) = None
with_numbered table never (Some ls) = Some ls
with_numbered table (of s key) (Some ls) = with_lit (record { boolean = index_of key table; pos = s }) ls

abbrev pub clause_from : List Key → List Bool → Option (List Lit) → List Literal → Option (List Lit)
clause_from table counts so_far [] = so_far
clause_from table counts so_far (l ∷ ls) = clause_from table counts (with_numbered table (plain counts l) so_far) ls

-- the clause of a row, or none where the row is always true
abbrev pub clause_of : List Key → List Bool → List Literal → Option (List Lit)
clause_of table counts ls = clause_from table counts (Some []) ls

abbrev pub with_clause : Option (List Lit) → List (List Lit) → List (List Lit)
with_clause None cs = cs
with_clause (Some c) cs = c ∷ cs

abbrev pub clauses_of : List Key → List Bool → List Item → List (List Lit)
clauses_of table counts [] = []
clauses_of table counts (number v c ∷ xs) = clauses_of table counts xs
clauses_of table counts (needs ops ∷ xs) = clauses_of table counts xs
clauses_of table counts (boolean f ∷ xs) = clauses_of table counts xs
clauses_of table counts (row ls ∷ xs) = with_clause (clause_of table counts ls) (clauses_of table counts xs)

-- ---- the formula
-- for each numeric variable whether it is a count
abbrev pub counts_of : List Item → List Bool
counts_of [] = []
counts_of (number v c ∷ xs) = c ∷ counts_of xs
counts_of (needs ops ∷ xs) = counts_of xs
counts_of (boolean f ∷ xs) = counts_of xs
counts_of (row ls ∷ xs) = counts_of xs

abbrev pub atom_in : Key → Option Atom
atom_in (atom a) = Some a
atom_in (truth n) = None

abbrev pub table_of : List Item → List Key
table_of items = table_from (counts_of items) items []

abbrev pub numbered : List Item → Contents
numbered items = record {
  counts = counts_of items;
  atoms = map atom_in (table_of items);
  clauses = clauses_of (table_of items) (counts_of items) items;
}
