-- Names in use: each is a number, or the fault of a word that isn't declared.
use Rattle.std.specs.Prelude.{ℕ, List, [], ◌∷◌, ◌++◌, map, Option, Some, None, is_some, if◌then◌else◌}
use Rattle.name_table.specs.NameTable.{number_in, with_name}
use Rattle.pddl_form.specs.declared.fault.Fault.{Fault}
use Rattle.pddl_form.specs.declared.spot.Spot.{Spot}
use Rattle.pddl_form.specs.Judged.{Judged, good, bad, mapped, each}
use Rattle.pddl_form.specs.Names.{is_variable}
use Rattle.pddl_task.specs.declared.expression.Term.{Term}
use Rattle.pddl_task.specs.declared.expression.Term.TheVariants.{Param, Object}

-- a word in use that isn't declared (kind 6), and one that is declared a second time (kind 7)
abbrev pub unknown : ℕ → Fault
unknown place = record { kind = 6; place = place; word = [] }

abbrev pub again : ℕ → Fault
again place = record { kind = 7; place = place; word = [] }

-- the declared names of each space, each once, in the order of their numbers; the parameters are those of one action, and none
-- elsewhere
pub record Scope : Type 0 where
  pub types : List (List ℕ)
  pub objects : List (List ℕ)
  pub preds : List (List ℕ)
  pub funcs : List (List ℕ)
  pub params : List (List ℕ)

abbrev pub texts : List Spot → List (List ℕ)
texts spots = map (λ s. s.text) spots

-- what follows from what a word stands for; a word that stands for nothing is unknown
abbrev pub known_as : {A B : Type 0} → Spot → Option A → (A → Judged B) → Judged B
known_as spot None next = bad (unknown spot.place) []
known_as spot (Some a) next = next a

-- the number of a name in use
unfoldable pub named : List (List ℕ) → Spot → Judged ℕ
named names spot = known_as spot (number_in names spot.text) good

-- a parameter or an object
abbrev pub term_named : Scope → Spot → Judged Term
term_named scope spot = if is_variable spot.text then mapped Param (named scope.params spot) else mapped Object (named scope.objects spot)

abbrev pub terms_named : Scope → List Spot → Judged (List Term)
terms_named scope spots = each (map (term_named scope) spots)

-- ---- declarations

-- names in the order of first sight, behind those that were seen
abbrev pub sighted : List (List ℕ) → List (List ℕ) → List (List ℕ)
sighted seen [] = seen
sighted seen (name ∷ more) = sighted (with_name seen name) more

abbrev pub distinct : List (List ℕ) → List (List ℕ)
distinct names = sighted [] names

-- the fault of a name that was seen
abbrev pub again_behind : List (List ℕ) → Spot → List Fault
again_behind seen spot = if is_some (number_in seen spot.text) then again spot.place ∷ [] else []

-- the names that are declared a second time, behind those that were seen
abbrev pub declared_again : List (List ℕ) → List Spot → List Fault
declared_again seen [] = []
declared_again seen (spot ∷ more) = again_behind seen spot ++ declared_again (with_name seen spot.text) more
