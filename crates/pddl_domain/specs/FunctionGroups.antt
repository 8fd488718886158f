-- The section of functions in the words of the grammar: groups of one or more functions, each group with `- number` behind it, and
-- at the end functions without one.
use Rattle.std.specs.Prelude.{◌≡◌, Bool, IsTrue, not, ◌&&◌, ◌==◌, List, [], ◌∷◌, ◌++◌, map, length, codes}
use Rattle.std.specs.List.{list_all}
use Rattle.sexpr.specs.declared.tree.Tree.{Tree}
use Rattle.pddl_form.specs.Judged.{good, each}
use Rattle.pddl_form.specs.Words.{is_word}
use Rattle.pddl_domain.specs.declared.head.Head.{Head}
use Rattle.pddl_domain.specs.Heads.{head_form}

-- some functions, and the two words behind them
pub record FunctionGroup : Type 0 where
  pub heads : List Tree
  pub dash : Tree
  pub number : Tree

-- there is a function, and the words are `-` and `number`
abbrev pub is_function_group : FunctionGroup → Bool
is_function_group g = not (length g.heads == 0) && (is_word (codes "-") g.dash && is_word (codes "number") g.number)

-- the trees of some groups, and the functions behind them
abbrev pub trees_of : List FunctionGroup → List Tree → List Tree
trees_of [] last = last
trees_of (g ∷ groups) last = g.heads ++ g.dash ∷ g.number ∷ trees_of groups last

-- the functions alone
abbrev pub heads_of : List FunctionGroup → List Tree → List Tree
heads_of [] last = last
heads_of (g ∷ groups) last = g.heads ++ heads_of groups last

-- the trees are a list of functions, and these are its functions in order
pub record IsFunctionList (trees : List Tree) (funcs : List Head) : Type 0 where
  pub groups : List FunctionGroup
  pub last : List Tree
  pub are_groups : IsTrue (list_all is_function_group groups)
  pub spelled : trees ≡ trees_of groups last
  pub syntax : each (map head_form (heads_of groups last)) ≡ good funcs
