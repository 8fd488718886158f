-- What one text comes to: the syntax that it spells, or its first fault. `form` is what the crate of the domain or of the
-- problem makes of a tree.
use Rattle.std.specs.Prelude.{◌≡◌, ◌⊎◌, ℕ, List, [], Some, None, Ok, Err, Result}
use Rattle.sexpr.specs.declared.tree.Tree.{Tree}
use Rattle.sexpr.specs.declared.fault.Source.{Source}
use Rattle.sexpr.specs.declared.fault.TextFault.{TextFault}
use Rattle.sexpr.specs.declared.fault.TextRefusal.{TextRefusal}
use Rattle.sexpr.specs.declared.fault.TextRefusal.TheVariants as refusal
use Rattle.sexpr.specs.Read.{IsText, IsFirstFault}
use Rattle.pddl_form.specs.declared.fault.Fault.{Fault}
use Rattle.pddl_form.specs.Judged.{Judged, good, noted}

-- a fault of a file, as it is answered
abbrev pub report : Source → ℕ → ℕ → List ℕ → TextFault
report file kind place word = record { file = file; kind = kind; place = place; word = word }

module _ {A : Type 0} (form : Tree → Judged A) where
  -- no pass over the text by itself finds a fault in these bytes, and they spell this syntax
  pub record IsSpelled (bytes : List ℕ) (syntax : A) : Type 0 where
    pub tree : Tree
    pub text : IsText bytes tree
    pub is : form tree ≡ good syntax

  -- the first fault of the bytes and of their parentheses
  pub record IsUnread (file : Source) (bytes : List ℕ) (fault : TextFault) : Type 0 where
    pub kind : ℕ
    pub place : ℕ
    pub first : IsFirstFault bytes kind place
    pub is : fault ≡ report file kind place []

  -- the first fault of the tree's shape
  pub record IsMisshapen (file : Source) (bytes : List ℕ) (fault : TextFault) : Type 0 where
    pub tree : Tree
    pub text : IsText bytes tree
    pub of : Fault
    pub first : noted None (form tree) ≡ Some of
    pub is : fault ≡ report file of.kind of.place of.word

  -- the first fault of the text by itself
  abbrev pub IsFault : Source → List ℕ → TextFault → Type 0
  IsFault file bytes fault = IsUnread file bytes fault ⊎ IsMisshapen file bytes fault

  -- what reading the text answers
  abbrev pub ReadsText : Source → List ℕ → Result A TextRefusal → Type 0
  ReadsText file bytes (Ok syntax) = IsSpelled bytes syntax
  ReadsText file bytes (Err (refusal.Fault fault)) = IsFault file bytes fault
  ReadsText file bytes (Err refusal.Memory) = Unit {0}
