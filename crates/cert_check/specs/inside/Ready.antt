-- What the judge keeps beside the formula so far.
use Rattle.std.specs.Prelude.{◌≤◌, Bool, List, Option, length}
use Rattle.formula.specs.Contents.{Contents}
use Rattle.clause_units.specs.Truth.{IsBare}
use Rattle.clause_index.specs.Places.{Places, HasRoom}
use Rattle.cert_check.specs.inside.Indexed.{IsIndexed}

-- room for each Boolean, and nothing is assigned between steps
pub record IsReady (f : Contents) (table : List (Option Bool)) : Type 0 where
  pub bare : IsBare table
  pub long : length f.atoms ≤ length table

-- the index has each clause
pub record IsKept (f : Contents) (table : List (Option Bool)) (index : Places) : Type 0 where
  pub ready : IsReady f table
  pub room : HasRoom index (length f.atoms)
  pub indexed : IsIndexed f.clauses index
