use Rattle.std.proofs.Common.{sym, ◌∙◌, arith}
use Rattle.plan_text.proofs.Pieces.{gap_passed, gap_to_end, open_first, close_first, has_word, word_first}
use Rattle.plan_text.proofs.piece.find_piece.Goals as goal

pub overflow_add-start : goal.overflow_add-start
overflow_add-start c = let passed = gap_passed _ _ _ c.requires.within c.gap_len.ensures in omega (arith, passed.within)

pub returns-then-start-text : goal.returns-then-start-text
returns-then-start-text c = gap_to_end _ _ _ (gap_passed _ _ _ c.requires.within c.gap_len.ensures) c.if-start-text.true

pub overflow_add-kind-in_default : goal.overflow_add-kind-in_default
overflow_add-kind-in_default c =
    let passed = gap_passed _ _ _ c.requires.within c.gap_len.ensures in
    let word = has_word _ _ _ _ _ passed c.if-start-text.false c.class_at.ensures c.in_default.not-Opens c.in_default.not-Closes c.word_len.ensures in
    omega (arith, word.room)

pub returns-in-Opens : goal.returns-in-Opens
returns-in-Opens c = open_first _ _ _ (gap_passed _ _ _ c.requires.within c.gap_len.ensures) c.if-start-text.false (sym c.class_at.ensures ∙ c.in-Opens.is)

pub returns-in-Closes : goal.returns-in-Closes
returns-in-Closes c = close_first _ _ _ (gap_passed _ _ _ c.requires.within c.gap_len.ensures) c.if-start-text.false (sym c.class_at.ensures ∙ c.in-Closes.is)

pub returns-in_default : goal.returns-in_default
returns-in_default c =
    let passed = gap_passed _ _ _ c.requires.within c.gap_len.ensures in
    word_first _ _ _ _ passed (has_word _ _ _ _ _ passed c.if-start-text.false c.class_at.ensures c.in_default.not-Opens c.in_default.not-Closes c.word_len.ensures)
