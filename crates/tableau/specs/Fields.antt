-- What a tableau's fields stand for.
use Rattle.std.specs.Prelude.{◌≡◌, ℕ, ◌<◌, false, Vec, length, map, slice_index_or, if◌then◌else◌}
use Rattle.std.specs.Global.{Global}
use Rattle.frac128.specs.declared.fraction.Frac.{Frac}
use Rattle.tableau.specs.Table.{Table, IsTidy}
use Rattle.tableau.specs.inside.Basis.{numbers_of}
use Rattle.tableau.specs.declared.tableau.Tableau.TheInside.{Inside}

abbrev pub table_of : Inside → Table
table_of a = record { rows = map (λ v. v.items) a.rows.items; basic = a.basic.items }

-- how long the row of a variable is
abbrev pub row_length : Inside → ℕ → ℕ
row_length a i = if slice_index_or a.basic.items i false then length a.basic.items else 0

-- the row of a basic variable has a place for each variable, and the others have none; so has the room for the next rows
pub record IsShaped (a : Inside) : Type 0 where
  pub rows : length a.rows.items ≡ length a.basic.items
  pub each_row : (i : ℕ) (d : Vec Frac Global) → i < length a.rows.items → length (slice_index_or a.rows.items i d).items ≡ row_length a i
  pub next : length a.next.items ≡ length a.basic.items
  pub each_next : (i : ℕ) (d : Vec Frac Global) → i < length a.next.items → length (slice_index_or a.next.items i d).items ≡ row_length a i
  pub solved : length a.solved.items ≡ length a.basic.items
  pub basis : a.basis.items ≡ numbers_of a.basic.items
  pub tidy : IsTidy (table_of a)
