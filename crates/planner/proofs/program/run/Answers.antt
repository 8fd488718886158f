use Rattle.std.proofs.Common.{refl, sym}
use Rattle.planner.proofs.Running.{runs_misused, few_words, no_limits}
use Rattle.planner.proofs.program.run.Goals as goal

pub returns-in_default : goal.returns-in_default
returns-in_default g c = runs_misused _ _ _ _ _ (few_words c.args.words.now c.in_default.len_below) (λ of. refl) c.print_stop.ensures

pub returns-in-None : goal.returns-in-None
returns-in-None g c = runs_misused _ _ _ _ _ (no_limits c.args.words.now c.in-len2-up.len_at_least (sym c.in-None.ensures.value)) (λ of. refl) c.print_stop-in-None.ensures
