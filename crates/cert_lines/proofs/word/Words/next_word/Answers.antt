use Rattle.std.proofs.Common.{sym, ◌∙◌}
use Rattle.cert_lines.proofs.PieceLaws.{next_taken, last_left}
use Rattle.cert_lines.proofs.word.Words.next_word.Goals as goal

pub returns-then-end-self : goal.returns-then-end-self
returns-then-end-self c =
    let w = c.self.inside in
    sym c.self.view_is ∙ next_taken w.is_done w.text.now w.at c.word_len.result c.if-self.false c.word_len.ensures.value c.if-end-self.true

pub returns : goal.returns
returns c =
    let w = c.self.inside in
    sym c.self.view_is ∙ last_left w.is_done w.text.now w.at c.word_len.result c.if-self.false c.word_len.ensures.value c.if-end-self.false
