-- What a reader of a whole text answers.
use Rattle.std.specs.Prelude.{◌≡◌, Option, Some, None, Result, Ok, Err}
use Rattle.sexpr.specs.declared.fault.Source.{Source}
use Rattle.sexpr.specs.declared.fault.TextFault.{TextFault}
use Rattle.sexpr.specs.declared.fault.TextRefusal.{TextRefusal}
use Rattle.sexpr.specs.declared.fault.TextRefusal.TheVariants as refusal
use Rattle.pddl_form.specs.declared.fault.Fault.{Fault}
use Rattle.pddl_form.specs.Judged.{Judged, good, noted}

-- a fault of a text, which is that of a domain or of a problem
abbrev pub text_fault : Source → Fault → TextFault
text_fault file f = record { file = file; kind = f.kind; place = f.place; word = f.word }

-- there is a syntax or a fault
abbrev pub HasOutcome : {A : Type 0} → Option A → Option Fault → Type 0
HasOutcome (Some a) first = Unit {0}
HasOutcome None (Some f) = Unit {0}
HasOutcome None None = ⊥

-- the first fault where there is one, and else the syntax
abbrev pub Concludes : {A : Type 0} → Source → Option A → Option Fault → Result A TextRefusal → Type 0
Concludes file made (Some f) r = r ≡ Err (refusal.Fault (text_fault file f))
Concludes file (Some a) None r = r ≡ Ok a
Concludes file None None r = ⊥

-- the fault is the first of all
abbrev pub RefusesBy : {A : Type 0} → Source → Judged A → TextRefusal → Type 0
RefusesBy file j (refusal.Fault f) = (first : Fault) × (noted None j ≡ Some first) × (f ≡ text_fault file first)
RefusesBy file j refusal.Memory = Unit {0}

-- the syntax where there is no fault, and else the first fault, unless memory ran out
abbrev pub Answers : {A : Type 0} → Source → Judged A → Result A TextRefusal → Type 0
Answers file j (Ok a) = j ≡ good a
Answers file j (Err e) = RefusesBy file j e
