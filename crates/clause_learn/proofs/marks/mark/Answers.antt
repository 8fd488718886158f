use Rattle.std.proofs.Common.{◌≡◌, ◌<◌, sym, length, arith, true, ◌∙◌}
use Rattle.clause_trail.proofs.Gets.{get-set_same, get-within}
use Rattle.clause_learn.proofs.marks.mark.Goals as goal

pub returns-in-Some-clause-here : goal.returns-in-Some-clause-here
returns-in-Some-clause-here c = λ p l s e.
    let f = c.in-Some.ensures.found in
    let same : p ≡ c.in-Some.p = c.entries-entries.ensures.apart p c.in-Some.p l f.0 s f.1 (e ∙ sym f.2) in
    let lt = get-within c.args.trail.now.entries c.in-Some.p _ f.1.1 in
    let lt2 : c.in-Some.p < length c.args.marked.now = omega (arith, lt, c.requires) in
    rw same (get-set_same c.args.marked.now c.in-Some.p true lt2)

pub returns-in_default-clause-here : goal.returns-in_default-clause-here
returns-in_default-clause-here c = λ p l s e. absurd (c.in_default.ensures.found p l s e)
