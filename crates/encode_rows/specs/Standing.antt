-- What is made so far, and what the code holds of it.
use Rattle.std.specs.Prelude.{◌≡◌, ℕ, suc, Bool, true, false, not, List, [], ◌∷◌, ◌++◌, length, Result, Ok, Err, IfOk, ⊤, if◌then◌else◌}
use Rattle.std.specs.List.{AllByRecursion}
use lib.IntN.{pos}
use Rattle.rational.specs.Fraction.{Fraction, whole}
use Rattle.frac128.specs.declared.operations.Wide.{Wide}
use Rattle.lin.specs.Linear.{Linear, var}
use Rattle.lin.specs.Operations.{AllFit}
use Rattle.lin.specs.declared.failure.LinFail.{LinFail}
use Rattle.lin.specs.declared.failure.LinFail.TheVariants as fail
use Rattle.formula.specs.Contents.{Contents}
use Rattle.encode_rows.specs.declared.clause.Truth.{Truth}
use Rattle.encode_rows.specs.declared.clause.Truth.TheVariants.{Yes, No, Of}
use Rattle.encode_laws.specs.Rows.{Name, Fact, at_most, below, Literal, yes, no, lit, Item, boolean}
use Rattle.encode_laws.specs.Numbering.{Key, atom, truth, Plain, always, never, of, plain_fact, plain}
use Rattle.encode_laws.specs.Refusals.{fact_ops, literal_ops, AllNamedFit, IsNamedPassing}
use Rattle.encode_laws.specs.Made.{Made, put, made_from, named_from, contents_of, IsIn, PlainIn, LiteralBelow}
use Rattle.encode_rows.specs.Clauses.{truth_by}

-- ---- the formula
abbrev pub IsPlainKey : Key → Type 0
IsPlainKey (atom a) = a.lin.constant ≡ whole (pos 0)
IsPlainKey (truth n) = ⊤

-- the formula has what is made so far; the expressions of its atoms have no constant
pub record Stands (m : Made) (f : Contents) : Type 0 where
  pub contents : f ≡ contents_of m
  pub plain : AllByRecursion IsPlainKey m.keys

-- ---- literals
-- the truth that is held for a literal has its number, and the literal's operations fit
pub record Known (m : Made) (l : Literal) (t : Truth) : Type 0 where
  pub inside : PlainIn m.keys (plain m.counts l)
  pub number : t ≡ truth_by m.keys (plain m.counts l)
  pub fit : AllFit (literal_ops m.counts l)

-- a fact isn't always true or always false
abbrev pub IsUndecided : Literal → Plain → Type 0
IsUndecided yes q = ⊤
IsUndecided no q = ⊤
IsUndecided (lit s f) always = ⊥
IsUndecided (lit s f) never = ⊥
IsUndecided (lit s f) (of b key) = ⊤

-- and it stays so, whatever is made later
pub record Knows (m : Made) (l : Literal) (t : Truth) : Type 0 where
  pub known : Known m l t
  pub undecided : IsUndecided l (plain m.counts l)
  pub below : LiteralBelow (length m.counts) l

abbrev pub opposite_truth : Truth → Truth
opposite_truth Yes = No
opposite_truth No = Yes
opposite_truth (Of l) = Of (record { boolean = l.boolean; pos = not l.pos })

abbrev pub signed_truth : Bool → Truth → Truth
signed_truth s t = if s then t else opposite_truth t

-- the truths of a row
abbrev pub AreKnown : Made → List Literal → List Truth → Type 0
AreKnown m [] [] = ⊤
AreKnown m [] (t ∷ ts) = ⊥
AreKnown m (l ∷ ls) [] = ⊥
AreKnown m (l ∷ ls) (t ∷ ts) = Known m l t × AreKnown m ls ts

-- ---- what a call answers that makes items
abbrev pub IsMakingRefusal : List (ℕ × Wide) → ℕ → LinFail → Type 0
IsMakingRefusal ops r (fail.Wide w) = IsNamedPassing ops r w
IsMakingRefusal ops r fail.Memory = ⊤

-- all operations fit and the formula has the items too; or one passes, in the row behind those made so far
abbrev pub Makes : {X : Type 0} → List Item → Made → Contents → Result X LinFail → Type 0
Makes items m new (Ok x) = AllNamedFit (named_from items m) × Stands (made_from items m) new
Makes items m new (Err e) = IsMakingRefusal (named_from items m) (suc (length new.clauses)) e

-- the items so far, and those that are left
pub record SoFar (all left : List Item) (m : Made) (f : Contents) : Type 0 where
  pub done : List Item
  pub split : all ≡ done ++ left
  pub fit : AllNamedFit (named_from done m)
  pub stands : Stands (made_from done m) f

-- ---- comparisons
-- `l < 0` where it is strict, and else `l <= 0`
abbrev pub compared_fact : Bool → Linear → Fact
compared_fact strict l = if strict then below l else at_most l

-- ---- the Boolean of a fact
-- it is made, and its truth is known
abbrev pub MakesFact : Made → Fact → Contents → Result Truth LinFail → Type 0
MakesFact m x new r = Makes (boolean x ∷ []) m new r × IfOk r (Known (put (boolean x) m) (lit true x))

-- the fact is `c <= k` for a count c, with operations that fit
pub record IsCountFact (counts : List Bool) (x : Fact) (c : ℕ) (k : Fraction) : Type 0 where
  pub plain : plain_fact counts x ≡ of true (atom (record { lin = var c; strict = false; bound = k }))
  pub fit : AllFit (fact_ops counts x)

-- no key is this name
abbrev pub IsNew : Name → List Key → Type 0
IsNew n keys = IsIn (truth n) keys → ⊥
