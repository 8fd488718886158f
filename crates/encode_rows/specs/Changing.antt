-- Atoms that an occurrence changes.
use Rattle.std.specs.Prelude.{Bool, true, List, [], ◌∷◌, ℕ, Result, IfOk, ⊤, if◌then◌else◌}
use Rattle.lin.specs.declared.failure.LinFail.{LinFail}
use Rattle.formula.specs.Contents.{Contents}
use Rattle.encode_rows.specs.declared.clause.Truth.{Truth}
use Rattle.encode_rows.specs.declared.clause.Truth.TheVariants.{Of}
use Rattle.encode_laws.specs.Rows.{Name, Fact, named, Literal, lit, Item, boolean, row}
use Rattle.encode_laws.specs.Symbolic.{added, deleted, added_rows, deleted_rows}
use Rattle.encode_laws.specs.Made.{Made, put, made_from}
use Rattle.encode_rows.specs.Standing.{Stands, Knows, Makes, IsNew}

-- ---- a truth variable is made
abbrev pub Names : Contents → Contents → Result ℕ LinFail → Type 0
Names old new r = (m : Made) (n : Name) → Stands m old → IsNew n m.keys
    → Makes (boolean (named n) ∷ []) m new r × IfOk r (λ b. Knows (put (boolean (named n)) m) (lit true (named n)) (Of (record { boolean = b; pos = true })))

-- ---- three rows
abbrev pub KnowsEach : Made → List Literal → List Truth → Type 0
KnowsEach m [] [] = ⊤
KnowsEach m [] (t ∷ ts) = ⊥
KnowsEach m (l ∷ ls) [] = ⊥
KnowsEach m (l ∷ ls) (t ∷ ts) = Knows m l t × KnowsEach m ls ts

pub record HasRows (f : Contents) (ts us vs : List Truth) : Type 0 where
  pub made : Made
  pub first : List Literal
  pub second : List Literal
  pub third : List Literal
  pub stands : Stands made f
  pub knows_first : KnowsEach made first ts
  pub knows_second : KnowsEach made second us
  pub knows_third : KnowsEach made third vs

abbrev pub PutsRows : {X : Type 0} → Contents → List Truth → List Truth → List Truth → Contents → Result X LinFail → Type 0
PutsRows old ts us vs new r = (m : Made) (ls ks js : List Literal) → Stands m old → KnowsEach m ls ts → KnowsEach m ks us → KnowsEach m js vs
    → Makes (row ls ∷ row ks ∷ row js ∷ []) m new r

-- ---- one atom
-- the literals that the occurrence happens and of the atom are known, and a name is new
pub record HasChange (f : Contents) (on t : Truth) : Type 0 where
  pub made : Made
  pub happens : Literal
  pub literal : Literal
  pub name : Name
  pub stands : Stands made f
  pub knows_on : Knows made happens on
  pub knows : Knows made literal t
  pub is_new : IsNew name made.keys

abbrev pub change_of_name : Bool → Literal → Name → Literal → List Item
change_of_name is_added o n l = if is_added then added_rows o n l else deleted_rows o n l

abbrev pub changed_by : Bool → Literal → Name → Literal → Literal
changed_by is_added o n l = if is_added then added o (lit true (named n)) l else deleted o (lit true (named n)) l

abbrev pub Changes : Bool → Contents → Truth → Truth → Contents → Result Truth LinFail → Type 0
Changes is_added old on t new r = (m : Made) (o l : Literal) (n : Name) → Stands m old → Knows m o on → Knows m l t → IsNew n m.keys
    → Makes (change_of_name is_added o n l) m new r × IfOk r (Knows (made_from (change_of_name is_added o n l) m) (changed_by is_added o n l))

-- where the atom is neither always true nor always false
abbrev pub Chooses : Bool → Contents → Truth → Truth → Contents → Result Truth LinFail → Type 0
Chooses is_added old on t new r = (m : Made) (o : Literal) (s : Bool) (f : Fact) (n : Name) → Stands m old → Knows m o on → Knows m (lit s f) t → IsNew n m.keys
    → Makes (change_of_name is_added o n (lit s f)) m new r × IfOk r (Knows (made_from (change_of_name is_added o n (lit s f)) m) (lit true (named n)))
