use Rattle.std.proofs.Common.{◌<◌, List, Option, None, false, arith, ap, ◌∙◌, subst, length, get_or}
use Rattle.formula.specs.declared.atom.Lit.{Lit}
use Rattle.theory_law.specs.Seen.{Seen, IsAsserted}
use Rattle.clause_trail.specs.declared.trail.Entry.{Entry}
use Rattle.clause_core.proofs.Backs.{told_room, told_open, entry_at}
use Rattle.clause_core.proofs.Telling.{told_first, told_start, told_step, told_end}
use Rattle.clause_core.proofs.tell.tell.Goals as goal

first : Entry
first = record { lit = record { boolean = 0; pos = false }; reason = None }

pub loop-i-init : goal.loop-i-init
loop-i-init g c = told_start (g.T.Theory.seen c.args.theory.now) c.args.formula.now.atoms c.args.told c.args.trail.now.entries c.requires.told

pub begin-requires : goal.begin-requires
begin-requires g c =
    let lt : c.loop-i.i < length c.args.trail.now.entries = omega (arith, ap length c.entries-entries.ensures.value) in
    let told = told_first (g.T.Theory.seen c.loop-i.theory) (g.T.Theory.seen c.args.theory.now) c.args.formula.now.atoms c.args.trail.now.entries c.loop-i.i c.loop-i.invariant lt in
    let room = told_room told lt (omega (arith, c.booleans-booleans.ensures.counted, c.booleans-booleans.ensures.value, c.requires.booleans)) in
    omega (arith, room, ap length (ap (λ (s : Seen). s.atoms) c.loop-i.invariant), ap length c.requires.atoms)

pub put-requires-clause-low : goal.put-requires-clause-low
unfolding first
put-requires-clause-low g c =
    let e = get_or c.entries-entries.result.now c.loop-i.i first in
    let at = entry_at c.args.trail.now.entries c.entries-entries.result.now c.loop-i.i first c.entries-entries.ensures.value c.loop-i-test.true in
    let low = c.booleans-booleans.ensures.above c.loop-i.i e.lit (e.reason, at) in
    omega (arith, low, c.booleans-booleans.ensures.value, c.requires.booleans)

pub put-requires-clause-atoms : goal.put-requires-clause-atoms
put-requires-clause-atoms g c = ap (λ (s : Seen). s.atoms) c.begin.ensures ∙ ap (λ (s : Seen). s.atoms) c.loop-i.invariant ∙ c.requires.atoms

pub put-requires-clause-open : goal.put-requires-clause-open
unfolding first
put-requires-clause-open g c = λ s a.
    let e = get_or c.entries-entries.result.now c.loop-i.i first in
    let at = entry_at c.args.trail.now.entries c.entries-entries.result.now c.loop-i.i first c.entries-entries.ensures.value c.loop-i-test.true in
    let lt : c.loop-i.i < length c.args.trail.now.entries = omega (arith, ap length c.entries-entries.ensures.value) in
    let told = told_first (g.T.Theory.seen c.loop-i.theory) (g.T.Theory.seen c.args.theory.now) c.args.formula.now.atoms c.args.trail.now.entries c.loop-i.i c.loop-i.invariant lt in
    told_open told c.entries-entries.ensures.apart e at s (subst (λ (x : List (Option Lit)). IsAsserted x (record { boolean = e.lit.boolean; pos = s })) (ap (λ (x : Seen). x.asserted) c.begin.ensures) a)

pub loop-i-preserved : goal.loop-i-preserved
unfolding first
loop-i-preserved g c =
    let e = get_or c.entries-entries.result.now c.loop-i.i first in
    let at = entry_at c.args.trail.now.entries c.entries-entries.result.now c.loop-i.i first c.entries-entries.ensures.value c.loop-i-test.true in
    told_step (g.T.Theory.seen c.loop-i.theory) (g.T.Theory.seen c.begin.new.theory) (g.T.Theory.seen c.put.new.theory) (g.T.Theory.seen c.args.theory.now) c.args.formula.now.atoms c.args.trail.now.entries c.loop-i.i e c.loop-i.invariant at c.begin.ensures c.put.ensures

pub returns : goal.returns
returns g c =
    told_end (g.T.Theory.seen c.loop-i.theory) (g.T.Theory.seen c.args.theory.now) c.args.formula.now.atoms c.args.trail.now.entries c.loop-i.i c.loop-i.invariant
    (omega (arith, c.requires.told.within, ap length c.entries-entries.ensures.value))
