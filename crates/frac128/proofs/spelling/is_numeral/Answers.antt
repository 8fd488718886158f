use Rattle.std.proofs.Common.{◌≡◌, length, sym, ◌∙◌, arith, eq-eqb}
use Rattle.std.proofs.lemmas.Bool.Decides.{nat_tests}
use Rattle.frac128.proofs.OneSpelling.{all_from_prefix, prefix_from_all}
use Rattle.frac128.proofs.spelling.is_numeral.Goals as goal

pub returns-then-not-is_empty : goal.returns-then-not-is_empty
returns-then-not-is_empty c =
    let text = c.args.text.now in (
      λ h. let e : c.digit_count.result ≡ length text = grind (arith, nat_tests) in (grind (arith, nat_tests), all_from_prefix text (sym c.digit_count.ensures ∙ e)),
      λ h. let e : c.digit_count.result ≡ length text = c.digit_count.ensures ∙ prefix_from_all text h.1 in eq-eqb _ _ e,
    )
