-- The level that a clause asks for.
use Rattle.std.specs.Prelude.{◌≡◌, ℕ, ◌<◌, ◌+◌, List, [], ◌∷◌}
use Rattle.std.specs.List.{Contains}
use Rattle.formula.specs.declared.atom.Lit.{Lit}
use Rattle.clause_trail.specs.declared.trail.Entry.{Entry}
use Rattle.clause_trail.specs.Standing.{Stands}
use Rattle.clause_trail.specs.Decisions.{HasDecisionAt}

-- the number is one more than the place of a literal's Boolean
pub record IsAfter (entries : List Entry) (clause : List Lit) (n : ℕ) : Type 0 where
  pub place : ℕ
  pub is : n ≡ place + 1
  pub lit : Lit
  pub within : Contains clause lit
  pub standing : Lit
  pub stands : Stands entries place standing
  pub same : standing.boolean ≡ lit.boolean

-- the clause is one literal, which stands at the place, before each decision
pub record IsSettled (entries : List Entry) (clause : List Lit) (p : ℕ) : Type 0 where
  pub lit : Lit
  pub is : clause ≡ lit ∷ []
  pub stands : Stands entries p lit
  pub low : (d : ℕ) → HasDecisionAt entries d → p < d
