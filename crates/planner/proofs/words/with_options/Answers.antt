use Rattle.std.proofs.Common.{ℕ, List, sym, ◌∙◌, ap₂}
use Rattle.planner.specs.Words.{with_option}
use Rattle.planner.proofs.Options.{next_option}
use Rattle.planner.proofs.words.with_options.Goals as goal

pub options-preserved : goal.options-preserved
options-preserved c =
    let taken = sym c.in_ok-given.was ∙ c.with_option.ensures.value ∙ ap₂ (λ (n v : List ℕ). with_option c.options.given n v) c.as_str.ensures.value c.as_str-in-len2-up.ensures.value in
    (next_option c.options.options.now c.name-item.result c.value-item.result c.options.given c.in_ok-given.given c.in-len2-up.len_at_least c.name-item.is c.value-item.is taken ∙ c.options.invariant.0, c.in_ok-given.ensures.low)
