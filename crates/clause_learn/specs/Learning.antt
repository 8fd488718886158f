-- Learned clauses.
use Rattle.std.specs.Prelude.{◌<◌, List, [], ◌∷◌}
use Rattle.std.specs.List.{All}
use Rattle.formula.specs.declared.atom.Lit.{Lit}

-- in strictly rising order of their Booleans
abbrev pub IsRising : List Lit → Type 0
IsRising [] = Unit {0}
IsRising (l ∷ lits) = All (λ m. l.boolean < m.boolean) lits × IsRising lits
