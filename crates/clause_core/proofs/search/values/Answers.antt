use Rattle.std.proofs.Common.{List, ◌++◌, ◌∷◌, [], ap, arith, sym, ◌∙◌}
use Rattle.std.proofs.lemmas.List.{take_all}
use Rattle.rational.specs.Fraction.{Fraction}
use Rattle.clause_trail.proofs.Fronts.{take_more}
use Rattle.clause_core.proofs.search.values.Goals as goal

pub loop-v-init : goal.loop-v-init
loop-v-init g c = λ p e n. c.new-values.ensures.items

pub loop-v-preserved : goal.loop-v-preserved
loop-v-preserved g c = λ p e n.
    c.in_ok-push.ensures.items ∙ ap (λ (x : List Fraction). x ++ c.point.result ∷ []) (c.loop-v.invariant p e n) ∙ sym (take_more p c.loop-v.v c.point.result (c.point.ensures p e))

pub returns : goal.returns
returns g c = λ p e n. c.loop-v.invariant p e n ∙ take_all c.loop-v.v p (omega (arith, n))
