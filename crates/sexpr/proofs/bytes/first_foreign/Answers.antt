use Rattle.std.proofs.Common.{refl, sym, ◌∙◌}
use Rattle.sexpr.proofs.Passing.{passed_at, passed_inside, passed_semicolon, passed_other, foreign_first}
use Rattle.sexpr.proofs.bytes.first_foreign.Goals as goal
use Rattle.sexpr.proofs.bytes.first_foreign.Goals.{then-in_comment, else-in_comment+in-Semicolon, else-in_comment+in_default}

pub returns-in-Foreign : goal.returns-in-Foreign
returns-in-Foreign c = (c.loop-at-test.true, foreign_first _ _ (passed_at _ _ _ _ c.if-in_comment.false c.loop-at.invariant) c.loop-at-test.true (sym c.class_at.ensures ∙ c.in-Foreign.is))

pub loop-at-preserved : goal.loop-at-preserved
loop-at-preserved c = elim c.if-in_comment.branch [
  | then-in_comment w ↦
      passed_at _ _ _ _ (sym w.in_comment-is) (passed_inside _ _ _ (passed_at _ _ _ _ w.if-in_comment.true c.loop-at.invariant) c.loop-at-test.true refl)
  | else-in_comment+in-Semicolon w ↦
      passed_at _ _ _ _ (sym w.in_comment-is) (passed_semicolon _ _ (passed_at _ _ _ _ w.if-in_comment.false c.loop-at.invariant) c.loop-at-test.true (sym w.class_at.ensures ∙ w.in-Semicolon.is))
  | else-in_comment+in_default w ↦
      passed_at _ _ _ _ (sym (w.in_comment-is ∙ w.if-in_comment.false))
      (passed_other _ _ _ (passed_at _ _ _ _ w.if-in_comment.false c.loop-at.invariant) c.loop-at-test.true (sym w.class_at.ensures) w.in_default.not-Semicolon w.in_default.not-Foreign)
]
