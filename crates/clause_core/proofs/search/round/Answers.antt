use Rattle.std.proofs.Common.{List, length, subst}
use Rattle.std.specs.List.{Contains}
use Rattle.std.proofs.lemmas.Option.{MatchOption-at_none, MatchOption-at_some}
use Rattle.formula.specs.declared.atom.Lit.{Lit}
use Rattle.clause_trail.specs.Propagation.{IsComplete, IsFalseAt}
use Rattle.clause_core.specs.inside.Asking.{IsFull}
use Rattle.clause_core.proofs.Sanity.{none_from, none_true}
use Rattle.clause_core.proofs.Events.{event_clash, IsFree, event_cut, event_full}
use Rattle.clause_core.proofs.search.round.Goals as goal

pub returns-in-Clash-clause-event : goal.returns-in-Clash-clause-event
returns-in-Clash-clause-event g c =
    let quiet = MatchOption-at_none (IsComplete c.propagate.new.core.formula.clauses c.propagate.new.core.trail) (IsFalseAt c.propagate.new.core.formula.clauses c.propagate.new.core.trail) c.in_default.is c.in_ok-conflict.ensures.quiet in
    let answer = rw c.in-Clash.is at c.in-Ok.ensures.answer in
    event_clash g.T.Theory.shown g.T.Theory.cuts c.propagate.new.core c.ask.new.core c.is_none.result (g.T.Theory.fixed c.ask.new.core.theory) (g.T.Theory.cut c.ask.new.core.theory) c.in-Clash.clause c.in-Clash.why c.in-Ok.ensures.formula c.in-Ok.ensures.trail quiet c.in-Ok.ensures.consistent answer

pub returns-in-Cut-clause-event : goal.returns-in-Cut-clause-event
returns-in-Cut-clause-event g c =
    let quiet = MatchOption-at_none (IsComplete c.propagate.new.core.formula.clauses c.propagate.new.core.trail) (IsFalseAt c.propagate.new.core.formula.clauses c.propagate.new.core.trail) c.in_default.is c.in_ok-conflict.ensures.quiet in
    let answer = rw c.in-Cut.is at c.in-Ok.ensures.answer in
    let cut = rw c.in-Cut.is at c.in-Ok.ensures.cut in
    let full = none_from _ _ (IsFull (length c.propagate.new.core.formula.atoms) c.propagate.new.core.trail) (IsFree c.propagate.new.core) c.is_none.ensures answer.1 c.choose-choice.ensures in
    event_cut g.T.Theory.shown g.T.Theory.cuts c.propagate.new.core c.ask.new.core c.is_none.result (g.T.Theory.fixed c.ask.new.core.theory) (g.T.Theory.cut c.ask.new.core.theory) c.in-Cut.var c.in-Cut.k c.in-Ok.ensures.formula c.in-Ok.ensures.trail quiet full cut answer

pub returns-in_default-choice-clause-event : goal.returns-in_default-choice-clause-event
returns-in_default-choice-clause-event g c =
    let quiet = MatchOption-at_none (IsComplete c.propagate.new.core.formula.clauses c.propagate.new.core.trail) (IsFalseAt c.propagate.new.core.formula.clauses c.propagate.new.core.trail) c.in_default.is c.in_ok-conflict.ensures.quiet in
    let answer = rw c.in-Fits.is at c.in-Ok.ensures.answer in
    let full = MatchOption-at_none (IsFull (length c.propagate.new.core.formula.atoms) c.propagate.new.core.trail) (IsFree c.propagate.new.core) c.in_default-choice.is c.choose-choice.ensures in
    event_full g.T.Theory.shown g.T.Theory.cuts c.propagate.new.core c.ask.new.core c.is_none.result (g.T.Theory.fixed c.ask.new.core.theory) (g.T.Theory.cut c.ask.new.core.theory) c.in-Ok.ensures.formula c.in-Ok.ensures.trail quiet full (none_true _ _ c.is_none.ensures c.in_default-choice.is) answer

pub decide-requires-clause-unassigned : goal.decide-requires-clause-unassigned
decide-requires-clause-unassigned g c = λ l h e.
    let free = MatchOption-at_some (IsFull (length c.propagate.new.core.formula.atoms) c.propagate.new.core.trail) (IsFree c.propagate.new.core) c.in-Some-choice.lit c.in-Some-choice.is c.choose-choice.ensures in
    free.1 l (subst (λ (x : List Lit). Contains x l) c.in-Ok.ensures.trail h) e
