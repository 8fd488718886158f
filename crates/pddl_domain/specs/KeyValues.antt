-- What stands behind the name of an action, in the words of the grammar: a key and its value in turn, and no key twice.
use Rattle.std.specs.Prelude.{◌≡◌, ℕ, Bool, true, IsTrue, not, ◌&&◌, List, [], ◌∷◌, map}
use Rattle.sexpr.specs.declared.tree.Tree.{Tree}
use Rattle.pddl_form.specs.Judged.{Judged, good, each}
use Rattle.pddl_form.specs.Names.{is_one_of}
use Rattle.pddl_form.specs.Words.{word_of}
use Rattle.pddl_domain.specs.declared.action.Part.{Part}
use Rattle.pddl_domain.specs.Action.{key_of, part_by}

-- a key, and the tree behind it
pub record KeyValue : Type 0 where
  pub key : Tree
  pub value : Tree

-- all of them in turn
abbrev pub in_turn : List KeyValue → List Tree
in_turn [] = []
in_turn (p ∷ pairs) = p.key ∷ p.value ∷ in_turn pairs

-- the words of the keys
abbrev pub key_words : List KeyValue → List (List ℕ)
key_words pairs = map (λ p. word_of p.key) pairs

-- no word stands twice
abbrev pub are_distinct : List (List ℕ) → Bool
are_distinct [] = true
are_distinct (w ∷ words) = not (is_one_of words w) && are_distinct words

-- a value by its key; a word that is no key has none
abbrev pub value_form : KeyValue → Judged Part
value_form p = part_by (key_of (word_of p.key)) p.key p.value

-- the trees are keys with their values, and these are their syntaxes in order
pub record AreKeysAndValues (trees : List Tree) (parts : List Part) : Type 0 where
  pub pairs : List KeyValue
  pub once : IsTrue (are_distinct (key_words pairs))
  pub spelled : trees ≡ in_turn pairs
  pub syntax : each (map value_form pairs) ≡ good parts
