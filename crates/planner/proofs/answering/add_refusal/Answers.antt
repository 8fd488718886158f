use Rattle.std.proofs.Common.{◌≡◌, ℕ, List, [], ◌∷◌, ◌++◌, sym, ◌∙◌, ap, append_assoc}
use Rattle.std.proofs.lemmas.List.{append-nil}
use Rattle.std.specs.Prelude.{codes}
use Rattle.operation_text.specs.Operation.{operation_text}
use Rattle.ground_entry.specs.declared.failure.GroundFail.{GroundFail}
use Rattle.patty_run.specs.Printed.{joined}
use Rattle.planner.specs.Planner.{refusal_lines}
use Rattle.planner.proofs.answering.add_refusal.Goals as goal

-- a line that is added piece by piece
in_pieces : (before word operation : List ℕ) → ((before ++ word) ++ operation) ++ 10 ∷ [] ≡ before ++ (((word ++ operation) ++ 10 ∷ []) ++ [])
in_pieces before word operation =
    ap (λ (l : List ℕ). l ++ 10 ∷ []) (append_assoc before word operation) ∙ append_assoc before (word ++ operation) (10 ∷ []) ∙ ap (λ (l : List ℕ). before ++ l) (sym (append-nil ((word ++ operation) ++ 10 ∷ [])))

pub returns-in_ok-push-in-CoefWide : goal.returns-in_ok-push-in-CoefWide
returns-in_ok-push-in-CoefWide c =
    c.in_ok-push-in-CoefWide.ensures.items
    ∙ ap (λ (l : List ℕ). l ++ 10 ∷ []) (c.in_ok-write_operation-in-CoefWide.ensures.ok ∙ ap (λ (l : List ℕ). l ++ operation_text c.in-CoefWide.wide) c.in_ok-extend_from_slice-in-CoefWide.ensures.items)
    ∙ in_pieces c.args.line.now.items (codes "fault task 16 ") (operation_text c.in-CoefWide.wide) ∙ ap (λ (f : GroundFail). c.args.line.now.items ++ joined (refusal_lines f)) (sym c.in-CoefWide.is)
