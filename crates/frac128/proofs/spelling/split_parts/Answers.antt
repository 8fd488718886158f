use Rattle.std.proofs.Common.{refl, arith}
use Rattle.std.proofs.lemmas.Bool.{false≢true}
use Rattle.std.proofs.lemmas.Bool.Decides.{nat_tests}
use Rattle.std.proofs.lemmas.List.Sums.{prefix_len-le-length}
use Rattle.frac128.proofs.OneSpelling.{digit_test, cut_is, none_empty, spells_whole, spells_behind, none_behind}
use Rattle.frac128.proofs.spelling.split_parts.Goals as goal
use Rattle.frac128.proofs.spelling.split_parts.Goals.{then-first-mark+else-is_numeral, else-first-mark}

pub split_at-requires : goal.split_at-requires
split_at-requires c = omega (arith, c.digit_count.ensures, prefix_len-le-length digit_test c.split_sign-negative.result.1.now)

pub returns-then-is_empty : goal.returns-then-is_empty
returns-then-is_empty c =
    let s = c.split_sign-negative.ensures in let cut = cut_is c.split_sign-negative.result.1.now c.requires s.whole s.unsigned c.digit_count.ensures c.split_at.ensures.front c.split_at.ensures.back in
    none_empty cut (grind (arith, nat_tests))

pub returns-in-empty : goal.returns-in-empty
returns-in-empty c =
    let s = c.split_sign-negative.ensures in let cut = cut_is c.split_sign-negative.result.1.now c.requires s.whole s.unsigned c.digit_count.ensures c.split_at.ensures.front c.split_at.ensures.back in
    spells_whole cut (grind (arith, nat_tests)) c.in-empty.len_below

pub returns-in-len1-up : goal.returns-in-len1-up
returns-in-len1-up c =
    let s = c.split_sign-negative.ensures in let cut = cut_is c.split_sign-negative.result.1.now c.requires s.whole s.unsigned c.digit_count.ensures c.split_at.ensures.front c.split_at.ensures.back in
    spells_behind cut (grind (arith, nat_tests)) c.in-len1-up.len_at_least c.if-first-mark.true (c.if-is_numeral.ensures.0 refl)

pub returns-in_default : goal.returns-in_default
returns-in_default c =
    let s = c.split_sign-negative.ensures in let cut = cut_is c.split_sign-negative.result.1.now c.requires s.whole s.unsigned c.digit_count.ensures c.split_at.ensures.front c.split_at.ensures.back in
    elim c.if-first-mark.branch [
      | then-first-mark+else-is_numeral w ↦ none_behind cut c.in-len1-up.len_at_least (λ e h. absurd (false≢true (w.if-is_numeral.ensures.1 h)))
      | else-first-mark w ↦ none_behind cut c.in-len1-up.len_at_least (λ e h. w.if-first-mark.false e)
    ]
