use Rattle.std.proofs.Common.{◌≡◌, ℕ, ◌+◌, ◌++◌, [], ◌∷◌, length, Ok, refl, ap, subst, ◌∙◌, length-append}
use Rattle.std.proofs.lemmas.Result.{err_from_is_err_and}
use Rattle.simplex_law.specs.Config.{pair_at}
use Rattle.simplex_check.specs.Checks.{limits, LeadsTo}
use Rattle.simplex_check.specs.inside.Choices.{StepAnswers, IsMoved}
use Rattle.simplex_check.specs.declared.step.Step.{Step}
use Rattle.simplex_check.proofs.Stepping.{leads_start, leads_more}
use Rattle.simplex_check.proofs.checking.check.Goals as goal

pub loop-done-init : goal.loop-done-init
loop-done-init c = (leads_start _ _ _ c.args.trace.now.items c.requires.empty c.requires.placed, ap length c.requires.empty, c.requires.known)

pub loop-done-preserved : goal.loop-done-preserved
loop-done-preserved c =
    let l = limits c.args.lower.now c.args.upper.now in
    let f : Step → Type 0 = λ s. StepAnswers l c.loop-done.t c.loop-done.place c.advance.new.t c.advance.new.place (Ok s) in
    let m : IsMoved l c.loop-done.t (pair_at c.loop-done.place) c.in-Ok-Moved.r c.in-Ok-Moved.e c.advance.new.t (pair_at c.advance.new.place) = subst f c.in-Ok-Moved.field-0-is c.in-Ok-Moved.ensures.answers in
    let s : c.note.new.trace.items ≡ c.loop-done.trace.items ++ (c.in-Ok-Moved.r, c.in-Ok-Moved.e) ∷ [] = c.in_ok-note-in-Ok-Moved.ensures in (
      leads_more l c.args.t.now (pair_at c.args.place.now) c.loop-done.trace.items c.loop-done.t (pair_at c.loop-done.place) c.loop-done.invariant.0 c.in-Ok-Moved.r c.in-Ok-Moved.e c.advance.new.t (pair_at c.advance.new.place) m c.note.new.trace.items s,
      ap length s ∙ length-append c.loop-done.trace.items ((c.in-Ok-Moved.r, c.in-Ok-Moved.e) ∷ []) ∙ ap (λ (n : ℕ). n + 1) c.loop-done.invariant.1,
      c.in-Ok-Moved.ensures.known,
    )

pub returns-in_err-note-in-Ok-Moved-clause-answers : goal.returns-in_err-note-in-Ok-Moved-clause-answers
returns-in_err-note-in-Ok-Moved-clause-answers c =
    let p = err_from_is_err_and c.from_residual.result c.from_residual.ensures.1 in
    let l = limits c.args.lower.now c.args.upper.now in
    let f : Step → Type 0 = λ s. StepAnswers l c.loop-done.t c.loop-done.place c.advance.new.t c.advance.new.place (Ok s) in
    let m : IsMoved l c.loop-done.t (pair_at c.loop-done.place) c.in-Ok-Moved.r c.in-Ok-Moved.e c.advance.new.t (pair_at c.advance.new.place) = subst f c.in-Ok-Moved.field-0-is c.in-Ok-Moved.ensures.answers in
    let w : LeadsTo l c.args.t.now (pair_at c.args.place.now) (c.loop-done.trace.items ++ (c.in-Ok-Moved.r, c.in-Ok-Moved.e) ∷ []) c.advance.new.t (pair_at c.advance.new.place) =
    leads_more l c.args.t.now (pair_at c.args.place.now) c.loop-done.trace.items c.loop-done.t (pair_at c.loop-done.place) c.loop-done.invariant.0 c.in-Ok-Moved.r c.in-Ok-Moved.e c.advance.new.t (pair_at c.advance.new.place) m _ refl in
    rw (p.1, p.2) (w.wide, w.same)
