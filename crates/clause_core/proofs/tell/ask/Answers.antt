use Rattle.std.proofs.Common.{◌∙◌}
use Rattle.clause_core.proofs.Answering.{is_told, full_told, answer_of, trouble_of}
use Rattle.clause_core.proofs.Cores.{core_told}
use Rattle.clause_trail.proofs.Bridge.{consistent}
use Rattle.clause_core.proofs.tell.ask.Goals as goal

pub check-requires : goal.check-requires
check-requires g c = λ e.
    let told = is_told (g.T.Theory.seen c.tell.new.theory) (g.T.Theory.seen c.core.inside.theory) c.core.inside.formula c.core.inside.trail.entries c.core.invariant.same_counts c.core.invariant.same_atoms c.tell.ensures in
    let full = rw (← c.core.view_is) at (c.requires.full e) in
    full_told c.core.inside.formula (g.T.Theory.seen c.core.inside.theory).pivots c.core.inside.trail.entries (g.T.Theory.seen c.tell.new.theory) told full

pub invariant_of-core : goal.invariant_of-core
invariant_of-core g c = core_told c.core.invariant c.entries-entries.result.now c.entries-entries.ensures.value (c.check.ensures.same ∙ c.tell.ensures)

pub returns-clause-answer : goal.returns-clause-answer
returns-clause-answer g c =
    let told = is_told (g.T.Theory.seen c.tell.new.theory) (g.T.Theory.seen c.core.inside.theory) c.core.inside.formula c.core.inside.trail.entries c.core.invariant.same_counts c.core.invariant.same_atoms c.tell.ensures in
    rw (← c.core.view_is) (answer_of g.T.Theory.shown g.T.Theory.cuts c.core.inside.formula (g.T.Theory.seen c.core.inside.theory).pivots c.core.inside.trail.entries c.args.full (g.T.Theory.fixed c.check.new.self) (g.T.Theory.seen c.tell.new.theory) _ c.check.result told c.check.ensures.answer)

pub returns-clause-trouble : goal.returns-clause-trouble
returns-clause-trouble g c =
    let told = is_told (g.T.Theory.seen c.tell.new.theory) (g.T.Theory.seen c.core.inside.theory) c.core.inside.formula c.core.inside.trail.entries c.core.invariant.same_counts c.core.invariant.same_atoms c.tell.ensures in
    let quiet = rw (← c.core.view_is) at c.requires.quiet in
    rw (← c.core.view_is) (trouble_of g.T.Theory.stuck c.core.inside.formula (g.T.Theory.seen c.core.inside.theory).pivots c.core.inside.trail.entries (g.T.Theory.seen c.tell.new.theory) _ c.check.result c.entries-entries.ensures.apart quiet told c.check.ensures.answer)

pub returns-clause-consistent : goal.returns-clause-consistent
returns-clause-consistent g c = rw (← c.core.view_is) (consistent c.core.inside.trail.entries c.entries-entries.ensures.apart)
