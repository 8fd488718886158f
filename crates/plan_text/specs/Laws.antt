-- Words for the laws: what is written is read back, and the fault that is answered is the least.
use Rattle.std.specs.Prelude.{◌≡◌, ℕ, ◌<◌, ◌≤◌, ◌^◌, Bool, true, ◌&&◌, ◌==◌, List}
use Rattle.std.specs.List.{list_all}
use Rattle.std.specs.Char.{to_ascii_lowercase}
use Rattle.name_table.specs.NameTable.{AreDistinct}
use Rattle.sexpr.specs.Bytes.{is_in_word}
use Rattle.pddl_form.specs.declared.fault.Fault.{Fault}
use Rattle.pddl_form.specs.Judged.{faults_of}
use Rattle.pddl_form.specs.Laws.{IsFirstOf}
use Rattle.pddl_form.specs.Names.{is_name}
use Rattle.plan_form.specs.declared.plan.Part.{Part}
use Rattle.plan_text.specs.PlanText.{Names, plan_judged}

-- a name as texts spell it: a word in lower case that starts with a letter or an underline
abbrev pub is_spelled : List ℕ → Bool
is_spelled name = is_name name && list_all (λ b. is_in_word b && to_ascii_lowercase b == b) name

-- names that can be told apart in a text
pub record AreSpelled (names : Names) : Type 0 where
  pub actions : list_all is_spelled names.actions ≡ true
  pub objects : list_all is_spelled names.objects ≡ true
  pub one_action : AreDistinct names.actions
  pub one_object : AreDistinct names.objects

-- a count that a text may have
abbrev pub HasTextCount : Part → Type 0
HasTextCount part = (1 ≤ part.count) × (part.count < 2 ^ 127)

-- the place and the kind of the least of all faults of a text
pub record IsLeastFault (names : Names) (bytes : List ℕ) (kind place : ℕ) : Type 0 where
  pub fault : Fault
  pub kind_is : kind ≡ fault.kind
  pub place_is : place ≡ fault.place
  pub least : IsFirstOf (faults_of (plan_judged names bytes)) fault
