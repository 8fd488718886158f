use Rattle.std.proofs.Common.{inl, inr, ◌+◌, sym, ◌∙◌, arith}
use Rattle.std.proofs.lemmas.Result.{err_from_is_err_and}
use Rattle.sexpr.proofs.Steps.{skips_white, skips_foreign, skips_comment, opens_list, open_stops, closes_list, close_stops, adds_word, word_stops}
use Rattle.sexpr.proofs.reading.Reading.step.Goals as goal

pub overflow_add-result-in-Semicolon : goal.overflow_add-result-in-Semicolon
overflow_add-result-in-Semicolon c =
    let next = skips_comment _ _ _ c.args.at c.comment_len.result c.requires.so_far c.requires.within (sym c.class_at.ensures ∙ c.in-Semicolon.is) c.comment_len.ensures in
    omega (arith, next.1.within, c.requires.small)

pub returns-in-White : goal.returns-in-White
returns-in-White c = elim c.in-White.is [
  | inl white ↦ (omega arith, skips_white _ _ _ _ c.requires.so_far c.requires.within (sym c.class_at.ensures ∙ white))
  | inr foreign ↦ (omega arith, skips_foreign _ _ _ _ c.requires.so_far c.requires.within (sym c.class_at.ensures ∙ foreign))
]

pub returns-in-Semicolon : goal.returns-in-Semicolon
returns-in-Semicolon c = skips_comment _ _ _ c.args.at c.comment_len.result c.requires.so_far c.requires.within (sym c.class_at.ensures ∙ c.in-Semicolon.is) c.comment_len.ensures

pub returns-in_ok-open_list-in-Opens : goal.returns-in_ok-open_list-in-Opens
returns-in_ok-open_list-in-Opens c =
    (omega arith, opens_list _ _ _ _ c.requires.so_far c.requires.within (sym c.class_at.ensures ∙ c.in-Opens.is) c.in_ok-open_list-in-Opens.ensures)

pub returns-in_err-open_list-in-Opens : goal.returns-in_err-open_list-in-Opens
returns-in_err-open_list-in-Opens c =
    let is_err = err_from_is_err_and c.from_residual.result c.from_residual.ensures.1 in
    rw (is_err.1, is_err.2) (open_stops _ c.args.self.now c.open_list.new.self _ _ c.requires.so_far c.requires.within (sym c.class_at.ensures ∙ c.in-Opens.is) c.in_err-open_list-in-Opens.ensures)

pub returns-in_ok-close_list-in-Closes : goal.returns-in_ok-close_list-in-Closes
returns-in_ok-close_list-in-Closes c =
    (omega arith, closes_list _ _ _ _ c.requires.so_far c.requires.within (sym c.class_at.ensures ∙ c.in-Closes.is) c.in_ok-close_list-in-Closes.ensures)

pub returns-in_err-close_list-in-Closes : goal.returns-in_err-close_list-in-Closes
returns-in_err-close_list-in-Closes c =
    let is_err = err_from_is_err_and c.from_residual-in_err-close_list-in-Closes.result c.from_residual-in_err-close_list-in-Closes.ensures.1 in
    rw (is_err.1, is_err.2) (close_stops _ c.args.self.now c.close_list.new.self _ _ c.requires.so_far c.requires.within (sym c.class_at.ensures ∙ c.in-Closes.is) c.in_err-close_list-in-Closes.ensures)

pub returns-in_ok-add_word-in-InWord : goal.returns-in_ok-add_word-in-InWord
returns-in_ok-add_word-in-InWord c =
    let added = c.in_ok-add_word-in-InWord.ensures in
    adds_word _ c.args.self.now c.add_word.new.self _ c.len.result _ c.requires.so_far c.requires.within (sym c.class_at.ensures ∙ c.in-InWord.is) c.in_ok-text-in-InWord.ensures c.len.ensures added.0 added.1

pub returns-in_err-add_word-in-InWord : goal.returns-in_err-add_word-in-InWord
returns-in_err-add_word-in-InWord c =
    let is_err = err_from_is_err_and c.from_residual-in_err-add_word-in-InWord.result c.from_residual-in_err-add_word-in-InWord.ensures.1 in
    rw (is_err.1, is_err.2) (word_stops _ c.args.self.now c.add_word.new.self _ (c.args.at + c.len.result) c.in_ok-text-in-InWord.text _ c.requires.so_far c.requires.within (sym c.class_at.ensures ∙ c.in-InWord.is) c.in_err-add_word-in-InWord.ensures)
