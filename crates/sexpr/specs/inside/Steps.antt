-- What the steps of the passes answer.
use Rattle.std.specs.Prelude.{◌≡◌, ◌⊎◌, ℕ, ◌+◌, ◌<◌, ◌≤◌, List, ◌∷◌, ◌++◌, [], length, Option, Some, None, IsSome, MatchOption, Result, Ok, Err}
use Rattle.sexpr.specs.declared.tree.Tree.{Tree}
use Rattle.sexpr.specs.declared.tree.Tree.TheVariants as tree
use Rattle.sexpr.specs.declared.reading.Level.{Level}
use Rattle.sexpr.specs.declared.reading.Reading.{Reading}
use Rattle.sexpr.specs.declared.reading.Stop.{Stop}
use Rattle.sexpr.specs.declared.reading.Stop.TheVariants.{Paren, Deep, Memory}
use Rattle.sexpr.specs.Spelling.{Spells}
use Rattle.sexpr.specs.Faults.{deepest}
use Rattle.sexpr.specs.Read.{ByteFault, TreeFault, HasNone, IsFirst}
use Rattle.sexpr.specs.inside.Reached.{IsReadTo}

-- the pass over the bytes answers the place of its first fault
abbrev pub PassesBytes : List ℕ → Option ℕ → Type 0
PassesBytes bytes result = MatchOption result (HasNone (ByteFault bytes)) (λ place. (place < length bytes) × IsFirst (ByteFault bytes) 1 place)

-- a list is opened in the innermost
pub record OpensList (at : ℕ) (old new : Reading) : Type 0 where
  pub level : Level
  pub is : new.lists.items ≡ old.lists.items ++ level ∷ []
  pub starts : level.start ≡ at
  pub empty : level.items.items ≡ []
  pub same_whole : new.whole ≡ old.whole
  pub room : length old.lists.items < deepest
  pub first : length old.lists.items ≡ 0 → old.whole ≡ None

-- a tree is put at the end of the innermost list
pub record Adds (tree : Tree) (old new : List Level) : Type 0 where
  pub around : List Level
  pub level : Level
  pub grown : Level
  pub was : old ≡ around ++ level ∷ []
  pub is : new ≡ around ++ grown ∷ []
  pub same_start : grown.start ≡ level.start
  pub one_more : grown.items.items ≡ level.items.items ++ tree ∷ []

-- the innermost list is closed, and is the one list or an item of the next
pub record ClosesList (at : ℕ) (old new : Reading) : Type 0 where
  pub around : List Level
  pub level : Level
  pub was : old.lists.items ≡ around ++ level ∷ []
  pub is : ((around ≡ []) × (new.lists.items ≡ []) × (new.whole ≡ Some (tree.List level.start (at + 1) level.items.items)))
      ⊎ (Adds (tree.List level.start (at + 1) level.items.items) around new.lists.items × (new.whole ≡ old.whole))

abbrev pub Opens : ℕ → Reading → Reading → Result Unit Stop → Type 0
Opens at old new (Ok u) = OpensList at old new
Opens at old new (Err (Paren place)) = (place ≡ at) × (old.lists.items ≡ []) × IsSome old.whole
Opens at old new (Err (Deep place)) = (place ≡ at) × (deepest ≤ length old.lists.items)
Opens at old new (Err Memory) = Unit {0}

abbrev pub Closes : ℕ → Reading → Reading → Result Unit Stop → Type 0
Closes at old new (Ok u) = ClosesList at old new
Closes at old new (Err (Paren place)) = (place ≡ at) × (old.lists.items ≡ [])
Closes at old new (Err (Deep place)) = ⊥
Closes at old new (Err Memory) = Unit {0}

abbrev pub AddsWord : ℕ → ℕ → List ℕ → Reading → Reading → Result Unit Stop → Type 0
AddsWord start end text old new (Ok u) = Adds (tree.Word start end text) old.lists.items new.lists.items × (new.whole ≡ old.whole)
AddsWord start end text old new (Err (Paren place)) = (place ≡ start) × (old.lists.items ≡ [])
AddsWord start end text old new (Err (Deep place)) = ⊥
AddsWord start end text old new (Err Memory) = Unit {0}

abbrev pub Finishes : ℕ → Reading → Result Tree Stop → Type 0
Finishes at reading (Ok tree) = (reading.lists.items ≡ []) × (reading.whole ≡ Some tree)
Finishes at reading (Err (Paren place)) = (place ≡ at) × ((0 < length reading.lists.items) ⊎ (reading.whole ≡ None))
Finishes at reading (Err (Deep place)) = ⊥
Finishes at reading (Err Memory) = Unit {0}

-- the first fault of the pass over the tree, unless memory ran out
abbrev pub Stops : List ℕ → Stop → Type 0
Stops bytes (Paren place) = IsFirst (TreeFault bytes) 2 place
Stops bytes (Deep place) = IsFirst (TreeFault bytes) 3 place
Stops bytes Memory = Unit {0}

-- all is read up to a later place
abbrev pub Steps : List ℕ → ℕ → Reading → Result ℕ Stop → Type 0
Steps bytes at reading (Ok next) = (at < next) × IsReadTo bytes reading.whole reading.lists.items next
Steps bytes at reading (Err stop) = Stops bytes stop

-- the pass over the tree
abbrev pub ReadsTree : List ℕ → Result Tree Stop → Type 0
ReadsTree bytes (Ok tree) = HasNone (TreeFault bytes) × Spells bytes tree
ReadsTree bytes (Err stop) = Stops bytes stop
