-- What tables are after some more ground things were seen: those that are new stand behind the others, in order of their first
-- sight (this project).
use Rattle.std.specs.Prelude.{◌≡◌, List, fold}
use Rattle.ground_numbers.specs.declared.named.Named.{Named}
use Rattle.ground_numbers.specs.Numbers.{same, with_seen}
use Rattle.ground_seen.specs.declared.tables.Tables.{Tables}

abbrev pub seen : List Named → List Named → List Named
seen old things = fold (with_seen same) old things

pub record Sees (old new : Tables) (more_atoms more_funcs : List Named) : Type 0 where
  pub atoms : new.atoms ≡ seen old.atoms more_atoms
  pub funcs : new.funcs ≡ seen old.funcs more_funcs
