use Rattle.std.proofs.Common.{◌≡◌, ℕ, ◌+◌, arith, sym, Option, Some, None, refl, get_or, subst, false, slice_get}
use Rattle.clause_trail.specs.declared.trail.Entry.{Entry}
use Rattle.clause_trail.proofs.Gets.{get-from}
use Rattle.clause_trail.proofs.Lasts.{LastBelow, last_here, last_skip, last_all}
use Rattle.clause_trail.proofs.decisions.last_decision.Goals.{in-None, in-Some}
use Rattle.clause_trail.proofs.decisions.last_decision.Goals as goal

first : Entry
first = record { lit = record { boolean = 0; pos = false }; reason = None }

pub loop-i-preserved : goal.loop-i-preserved
unfolding first
loop-i-preserved c =
    let at : slice_get c.args.entries.now c.loop-i.i ≡ Some (get_or c.args.entries.now c.loop-i.i first) = get-from c.args.entries.now c.loop-i.i first _ (omega arith) refl in
    elim c.match-entry.branch [
      | in-None w ↦ subst (λ (o : Option ℕ). LastBelow c.args.entries.now (c.loop-i.i + 1) o) (sym w.last-is) (last_here c.args.entries.now c.loop-i.i _ at w.in-None.is)
      | in-Some w ↦ subst (λ (o : Option ℕ). LastBelow c.args.entries.now (c.loop-i.i + 1) o) (sym w.last-is) (last_skip c.args.entries.now c.loop-i.i c.loop-i.last _ _ at w.in-Some.is c.loop-i.invariant)
    ]

pub returns : goal.returns
returns c = last_all c.args.entries.now c.loop-i.i c.loop-i.last (omega arith) c.loop-i.invariant
