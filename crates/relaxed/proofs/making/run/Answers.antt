use Rattle.std.proofs.Common.{◌≡◌, ℕ, suc, ◌+◌, false, subst, arith}
use Rattle.relaxed.specs.inside.Running.{IsAt}
use Rattle.relaxed.proofs.RunSteps.{all-first, all-fit}
use Rattle.relaxed.proofs.making.run.Goals as goal

pub returns-then-not-changed-clause-firsts : goal.returns-then-not-changed-clause-firsts
returns-then-not-changed-clause-firsts c =
    let same : c.in-Ok.changed ≡ false = cc in
    let step : c.loop-layer.layer + 1 ≡ suc c.loop-layer.layer = omega arith in
    all-first c.args.task.now c.requires.promised c.loop-layer.layer (c.in-Ok.ensures.ends same) c.advance.new.table c.advance.new.flags c.advance.new.first
    (subst (λ (n : ℕ). IsAt c.args.task.now n c.advance.new.table c.advance.new.flags c.advance.new.first) step c.in-Ok.ensures.next)

pub returns-then-not-changed-clause-fits : goal.returns-then-not-changed-clause-fits
returns-then-not-changed-clause-fits c =
    let same : c.in-Ok.changed ≡ false = cc in
    let step : c.loop-layer.layer + 1 ≡ suc c.loop-layer.layer = omega arith in
    all-fit c.args.task.now c.requires.promised c.loop-layer.layer (c.in-Ok.ensures.ends same) c.advance.new.table c.advance.new.flags c.advance.new.first
    (subst (λ (n : ℕ). IsAt c.args.task.now n c.advance.new.table c.advance.new.flags c.advance.new.first) step c.in-Ok.ensures.next)
