-- The formula as it is made item by item, with Booleans numbered as they come, and the operations that are named on the way.
use Rattle.std.specs.Prelude.{◌≡◌, ◌<◌, ◌⊎◌, ℕ, suc, Bool, true, List, [], ◌∷◌, ◌++◌, map, length, ⊤}
use Rattle.std.specs.List.{AllByRecursion}
use Rattle.rational.specs.Linear.{Terms}
use Rattle.frac128.specs.declared.operations.Wide.{Wide}
use Rattle.formula.specs.declared.atom.Lit.{Lit}
use Rattle.formula.specs.Contents.{Contents}
use Rattle.encode_laws.specs.Rows.{Fact, at_most, below, named, Literal, yes, no, lit, Item, number, boolean, row, needs}
use Rattle.encode_laws.specs.Numbering.{Key, Plain, always, never, of, plain_fact, same_key, with_plain, with_row, with_clause, clause_of, atom_in}
use Rattle.encode_laws.specs.Refusals.{item_ops}

-- for each numeric variable whether it is a count, the key of each Boolean, and the clauses
pub record Made : Type 0 where
  pub counts : List Bool
  pub keys : List Key
  pub clauses : List (List Lit)

abbrev pub put : Item → Made → Made
put (number n c) m = record { counts = m.counts ++ c ∷ []; keys = m.keys; clauses = m.clauses }
put (needs ops) m = m
put (boolean f) m = record { counts = m.counts; keys = with_plain (plain_fact m.counts f) m.keys; clauses = m.clauses }
put (row ls) m = record {
  counts = m.counts;
  keys = with_row m.counts ls m.keys;
  clauses = m.clauses ++ with_clause (clause_of (with_row m.counts ls m.keys) m.counts ls) [];
}

abbrev pub made_from : List Item → Made → Made
made_from [] m = m
made_from (x ∷ xs) m = made_from xs (put x m)

abbrev pub nothing_made : Made
nothing_made = record { counts = []; keys = []; clauses = [] }

-- the operations of the items, each with its row
abbrev pub named_from : List Item → Made → List (ℕ × Wide)
named_from [] m = []
named_from (x ∷ xs) m = map (λ o. (suc (length m.clauses), o)) (item_ops m.counts x) ++ named_from xs (put x m)

abbrev pub contents_of : Made → Contents
contents_of m = record { counts = m.counts; atoms = map atom_in m.keys; clauses = m.clauses }

-- ---- what has a Boolean
abbrev pub IsIn : Key → List Key → Type 0
IsIn key [] = ⊥
IsIn key (k ∷ ks) = (same_key k key ≡ true) ⊎ IsIn key ks

abbrev pub PlainIn : List Key → Plain → Type 0
PlainIn table always = ⊤
PlainIn table never = ⊤
PlainIn table (of s key) = IsIn key table

-- ---- what speaks of variables below n alone
abbrev pub TermsBelow : ℕ → Terms → Type 0
TermsBelow n ts = AllByRecursion (λ t. t.0 < n) ts

abbrev pub FactBelow : ℕ → Fact → Type 0
FactBelow n (at_most l) = TermsBelow n l.terms
FactBelow n (below l) = TermsBelow n l.terms
FactBelow n (named m) = ⊤

abbrev pub LiteralBelow : ℕ → Literal → Type 0
LiteralBelow n yes = ⊤
LiteralBelow n no = ⊤
LiteralBelow n (lit s f) = FactBelow n f
