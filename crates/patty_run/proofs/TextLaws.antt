-- A text spells one syntax, or has one first fault.
use Rattle.std.proofs.Common.{◌≡◌, inl, inr, ℕ, List, [], Some, None, Result, Ok, Err, sym, ◌∙◌, ap}
use Rattle.sexpr.specs.declared.tree.Tree.{Tree}
use Rattle.sexpr.specs.declared.fault.Source.{Source}
use Rattle.sexpr.specs.declared.fault.TextFault.{TextFault}
use Rattle.sexpr.specs.Read.{IsText, IsFirstFault, Reports, Reads}
use Rattle.sexpr.proofs.FirstFault.{one_first_fault}
use Rattle.sexpr.proofs.Unique.{one_tree}
use Rattle.pddl_form.specs.declared.fault.Fault.{Fault}
use Rattle.pddl_form.specs.Judged.{Judged, good, noted}
use Rattle.pddl_form.proofs.Judging.{noted-good}
use Rattle.sexpr.specs.declared.fault.TextRefusal.{TextRefusal}
use Rattle.sexpr.specs.declared.fault.TextRefusal.TheVariants as refusal
use Rattle.pddl_form.specs.Concluded.{Answers}
use Rattle.patty_run.specs.Texts.{report, IsSpelled, IsFault, ReadsText}

-- a fault is what it reports
report_is : (file : Source) (fault : TextFault) (kind place : ℕ) → Reports file fault kind place → fault ≡ report file kind place []
report_is file fault kind place is =
    ap (λ (s : Source). report s fault.kind fault.place fault.word) is.of
    ∙ ap (λ (n : ℕ). report file n fault.place fault.word) is.kind_is
    ∙ ap (λ (n : ℕ). report file kind n fault.word) is.place_is
    ∙ ap (λ (w : List ℕ). report file kind place w) is.no_word

same_tree : (bytes : List ℕ) (s t : Tree) → IsText bytes s → IsText bytes t → s ≡ t
same_tree bytes s t is also = one_tree bytes s t is.spelled also.spelled

-- a first fault of the bytes and their parentheses is some fault, and a text that spells a tree has none
no_fault : (bytes : List ℕ) (tree : Tree) (kind place : ℕ) → IsText bytes tree → IsFirstFault bytes kind place → ⊥
no_fault bytes tree kind place is (inl first) = is.good_bytes kind place first.is
no_fault bytes tree kind place is (inr first) = is.good_tree kind place first.1.is

module _ {A : Type 0} (form : Tree → Judged A) (bytes : List ℕ) where
  pub one_syntax : (x y : A) → IsSpelled form bytes x → IsSpelled form bytes y → x ≡ y
  one_syntax x y is also = let same = sym is.is ∙ ap form (same_tree bytes is.tree also.tree is.text also.text) ∙ also.is in cc (same)

  -- a good tree has no fault of its shape
  not_misshapen : (s t : Tree) (x : A) (f : Fault) → IsText bytes s → IsText bytes t → form s ≡ good x → noted None (form t) ≡ Some f → ⊥
  not_misshapen s t x f is also first second =
      let none : noted None (form t) ≡ None = ap (noted None) (sym (ap form (same_tree bytes s t is also)) ∙ first) ∙ noted-good None x in
      cc (none, second)

  pub fault_not : (file : Source) (fault : TextFault) (x : A) → IsFault form file bytes fault → IsSpelled form bytes x → ⊥
  fault_not file fault x (inl unread) is = no_fault bytes is.tree unread.kind unread.place is.text unread.first
  fault_not file fault x (inr shape) is = not_misshapen is.tree shape.tree x shape.of is.text shape.text is.is shape.first

  same_report : (file : Source) (f g : Fault) → f ≡ g → report file f.kind f.place f.word ≡ report file g.kind g.place g.word
  same_report file f g same = ap (λ (h : Fault). report file h.kind h.place h.word) same

  pub one_fault : (file : Source) (f g : TextFault) → IsFault form file bytes f → IsFault form file bytes g → f ≡ g
  one_fault file f g (inl is) (inl also) =
      let same = one_first_fault bytes is.kind is.place also.kind also.place is.first also.first in
      is.is ∙ ap (λ (n : ℕ). report file n is.place []) same.0 ∙ ap (λ (n : ℕ). report file also.kind n []) same.1 ∙ sym also.is
  one_fault file f g (inl is) (inr also) = absurd (no_fault bytes also.tree is.kind is.place also.text is.first)
  one_fault file f g (inr is) (inl also) = absurd (no_fault bytes is.tree also.kind also.place is.text also.first)
  one_fault file f g (inr is) (inr also) =
      let same = sym is.first ∙ ap (λ (t : Tree). noted None (form t)) (same_tree bytes is.tree also.tree is.text also.text) ∙ also.first in
      let faults : is.of ≡ also.of = cc (same) in
      is.is ∙ same_report file is.of also.of faults ∙ sym also.is

  -- the tree isn't read
  pub unread : (file : Source) (e : TextRefusal) → Reads file bytes (Err e) → ReadsText form file bytes (Err e)
  unread file (refusal.Fault fault) is = inl (record { kind = is.0; place = is.1; first = is.2; is = report_is file fault is.0 is.1 is.3 })
  unread file refusal.Memory is = tt

  -- the tree is read
  pub read : (file : Source) (tree : Tree) (r : Result A TextRefusal) → IsText bytes tree → Answers file (form tree) r → ReadsText form file bytes r
  read file tree (Ok syntax) text is = record { tree = tree; text = text; is = is }
  read file tree (Err (refusal.Fault fault)) text is = inr (record { tree = tree; text = text; of = is.0; first = is.1; is = is.2 })
  read file tree (Err refusal.Memory) text is = tt
