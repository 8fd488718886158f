use Rattle.std.proofs.Common.{List, Bool, [], ◌∷◌, ◌++◌, ap, sym, ◌∙◌}
use Rattle.theory_law.proofs.Fronts.{take_get}
use Rattle.theory_law.proofs.none.counts_of.Goals as goal

pub loop-v-preserved : goal.loop-v-preserved
loop-v-preserved c =
    c.in_ok-push.ensures.ok
    ∙ ap (λ (l : List Bool). l ++ c.is_count.result ∷ []) c.loop-v.invariant
    ∙ sym (take_get c.args.formula.now.counts c.loop-v.v c.is_count.result c.is_count.ensures)
