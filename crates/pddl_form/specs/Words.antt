-- Words in the places of a form.
use Rattle.std.specs.Prelude.{ℕ, Bool, List, [], map, bytes_eq, if◌then◌else◌, unwrap_or}
use Rattle.sexpr.specs.declared.tree.Tree.{Tree}
use Rattle.sexpr.specs.Opened.{text_of, start_of}
use Rattle.pddl_form.specs.declared.names.Sort.{Sort}
use Rattle.pddl_form.specs.declared.spot.Spot.{Spot}
use Rattle.pddl_form.specs.Judged.{Judged, good, misshapen, each}
use Rattle.pddl_form.specs.Names.{takes}

-- the text of a word; a list has none
unfoldable pub word_of : Tree → List ℕ
word_of tree = unwrap_or (text_of tree) []

-- a tree is this word
abbrev pub is_word : List ℕ → Tree → Bool
is_word text tree = bytes_eq (word_of tree) text

-- a word with its place
abbrev pub spot_of : Tree → Spot
spot_of tree = record { text = word_of tree; place = start_of tree }

abbrev pub spotted : Bool → Tree → Judged Spot
spotted fits tree = if fits then good (spot_of tree) else misshapen (start_of tree)

-- a word of a sort: a name, a variable, either of them, or a keyword
unfoldable pub word_form : Sort → Tree → Judged Spot
word_form sort tree = spotted (takes sort (word_of tree)) tree

-- words of a sort, one behind another
abbrev pub word_forms : Sort → List Tree → Judged (List Spot)
word_forms sort trees = each (map (word_form sort) trees)
