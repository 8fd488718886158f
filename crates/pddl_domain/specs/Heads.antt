-- Declared predicates and functions: `(NAME VARIABLES)`, with a typed list of variables.
use Rattle.std.specs.Prelude.{ℕ, Bool, true, false, List, [], ◌∷◌, ◌++◌, codes, if◌then◌else◌}
use Rattle.sexpr.specs.declared.tree.Tree.{Tree, out-Tree}
use Rattle.sexpr.specs.declared.tree.Tree.TheOpen.{Tree-F}
use Rattle.sexpr.specs.Opened.{start_of}
use Rattle.pddl_form.specs.declared.names.Sort.TheVariants.{Variable}
use Rattle.pddl_form.specs.declared.typed.Typed.{Typed}
use Rattle.pddl_form.specs.Faults.{shape}
use Rattle.pddl_form.specs.Judged.{Judged, good, misshapen, lacking, unread_feature, mapped, both, provided}
use Rattle.pddl_form.specs.Names.{is_symbol}
use Rattle.pddl_form.specs.Words.{word_of, is_word, spot_of}
use Rattle.pddl_form.specs.Typed.{only, typed_list}
use Rattle.pddl_domain.specs.declared.head.Head.{Head}

-- a name with its parameters
abbrev pub headed : Tree → List Typed → Head
headed name params = record { name = spot_of name; params = params }

-- a list that starts with a name
abbrev pub head_list : ℕ → ℕ → List Tree → Judged Head
head_list start end [] = lacking end
head_list start end (name ∷ params) = if is_symbol (word_of name) then mapped (headed name) (typed_list Variable end params) else misshapen start

-- such a list, by the tree that stands there
abbrev pub head_at : Tree-F Tree → Judged Head
head_at (Tree-F.Word start end text) = misshapen start
head_at (Tree-F.List start end items) = head_list start end items

-- a declared predicate or function
unfoldable pub head_form : Tree → Judged Head
head_form tree = head_at (out-Tree tree)

-- the word `number`, by the tree that stands there
abbrev pub number_at : Tree → Tree-F Tree → Judged (List Head)
number_at tree (Tree-F.Word start end text) = if is_word (codes "number") tree then good [] else unread_feature (start_of tree) (word_of tree)
number_at tree (Tree-F.List start end items) = misshapen start

-- what may stand behind a `-` among functions: the word `number`, which adds no function
unfoldable pub number_mark : Tree → Judged (List Head)
number_mark tree = number_at tree (out-Tree tree)

abbrev mutual
  -- functions, behind one that waits for a `-` or not
  pub functions_behind : ℕ → Bool → List Tree → Judged (List Head)
  functions_behind end waits [] = good []
  functions_behind end waits (t ∷ more) = if is_word (codes "-") t then both ◌++◌ (provided waits (shape (start_of t)) (good [])) (behind_dash end more) else both ◌++◌ (mapped only (head_form t)) (functions_behind end true more)

  -- what follows a `-`: the word `number`, and functions
  pub behind_dash : ℕ → List Tree → Judged (List Head)
  behind_dash end [] = lacking end
  behind_dash end (t ∷ more) = both ◌++◌ (number_mark t) (functions_behind end false more)

-- functions in a list that ends before this place
unfoldable pub functions : ℕ → List Tree → Judged (List Head)
functions end trees = functions_behind end false trees
