use Rattle.std.proofs.Common.{List, Bool, [], ap, sym, ◌∙◌}
use Rattle.formula.specs.Contents.{Contents, with_variable}
use Rattle.theory_law.proofs.Fronts.{take_get}
use Rattle.simplex_fit.proofs.copying.variables_of.Goals as goal

pub loop-v-preserved : goal.loop-v-preserved
loop-v-preserved c =
    c.in_ok-add_var.ensures.added
    ∙ ap (λ (f : Contents). with_variable c.is_count.result f) c.loop-v.invariant
    ∙ ap (λ (counts : List Bool). record { counts = counts; atoms = []; clauses = [] }) (sym (take_get c.args.formula.now.counts c.loop-v.v c.is_count.result c.is_count.ensures))
