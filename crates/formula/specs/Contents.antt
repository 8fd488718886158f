-- What a formula has: for each numeric variable whether it is a count, for each Boolean its atom, if any, and the clauses.
use Rattle.std.specs.Prelude.{◌≡◌, ℕ, suc, Bool, true, ◌&&◌, nat_le, nat_lt, List, [], ◌∷◌, ◌++◌, length, Option, Some, None, ⊤, refl, All}
use Rattle.std.specs.List.{list_all}
use Rattle.std.specs.Coded.{Coded, code_by, coded×, coded_list, coded_bool, coded_option}
use Rattle.formula.specs.declared.atom.Atom.{Atom}
use Rattle.formula.specs.declared.atom.Lit.{Lit}
use Rattle.formula.specs.contracts.atom.Atom as atom
use Rattle.formula.specs.contracts.atom.Lit as lit
use Rattle.formula.specs.Atoms.{IsAtom}

pub record Contents : Type 0 where
  pub counts : List Bool
  pub atoms : List (Option Atom)
  pub clauses : List (List Lit)

abbrev pub contents_code : Coded Contents
contents_code =
    code_by (List Bool × (List (Option Atom) × List (List Lit)))
    (coded× (coded_list coded_bool) (coded× (coded_list (coded_option atom.the_row.coded)) (coded_list (coded_list lit.the_row.coded))))
    (λ f. (f.counts, (f.atoms, f.clauses))) (λ p. record { counts = p.0; atoms = p.1.0; clauses = p.1.1 }) (λ _. refl)

-- the Booleans of the literals rise strictly from `least` on, and are below `booleans`
abbrev pub is_clause_from : ℕ → ℕ → List Lit → Bool
is_clause_from least booleans [] = true
is_clause_from least booleans (l ∷ ls) = nat_le least l.boolean && (nat_lt l.boolean booleans && is_clause_from (suc l.boolean) booleans ls)

abbrev pub is_clause : ℕ → List Lit → Bool
is_clause booleans lits = is_clause_from 0 booleans lits

abbrev pub IsBoolean : List Bool → Option Atom → Type 0
IsBoolean counts None = ⊤
IsBoolean counts (Some a) = IsAtom counts a

pub record IsFormula (f : Contents) : Type 0 where
  pub atoms : All (IsBoolean f.counts) f.atoms
  pub clauses : list_all (is_clause (length f.atoms)) f.clauses ≡ true

-- one more numeric variable, Boolean or clause
abbrev pub with_variable : Bool → Contents → Contents
with_variable count f = record { counts = f.counts ++ count ∷ []; atoms = f.atoms; clauses = f.clauses }

abbrev pub with_boolean : Option Atom → Contents → Contents
with_boolean a f = record { counts = f.counts; atoms = f.atoms ++ a ∷ []; clauses = f.clauses }

abbrev pub with_clause : List Lit → Contents → Contents
with_clause c f = record { counts = f.counts; atoms = f.atoms; clauses = f.clauses ++ c ∷ [] }
