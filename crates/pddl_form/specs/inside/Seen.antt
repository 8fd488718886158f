-- Which words of sections were seen.
use Rattle.std.specs.Prelude.{◌≡◌, ℕ, Bool, List, [], ◌∷◌, Some, slice_get}
use Rattle.std.specs.Option.{is_some}
use Rattle.sexpr.specs.declared.tree.Tree.{Tree, out-Tree}
use Rattle.sexpr.specs.declared.tree.Tree.TheOpen.{Tree-F}
use Rattle.pddl_form.specs.Words.{word_of}
use Rattle.pddl_form.specs.Sections.{section_with, section_words}

abbrev pub first_of_items : List Tree → List ℕ
first_of_items [] = []
first_of_items (head ∷ parts) = word_of head

abbrev pub first_word_at : Tree-F Tree → List ℕ
first_word_at (Tree-F.Word start end text) = []
first_word_at (Tree-F.List start end items) = first_of_items items

-- the word that a list starts with
unfoldable pub first_word : Tree → List ℕ
first_word tree = first_word_at (out-Tree tree)

-- each word has a flag at its index, which says whether a section in front starts with it
pub record HasSeen (front : List Tree) (flags : List Bool) : Type 0 where
  pub each_flag : (at : ℕ) (word : List ℕ) → slice_get section_words at ≡ Some word → slice_get flags at ≡ Some (is_some (section_with word front))
