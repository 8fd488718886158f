use Rattle.clause_learn.proofs.Closing.{closed_at}
use Rattle.clause_learn.proofs.Licences.{marked_below}
use Rattle.clause_learn.proofs.marks.resolve_at.Goals as goal

pub returns-clause-closed : goal.returns-clause-closed
returns-clause-closed c = closed_at c.args.clauses.now c.args.trail.now.entries c.args.marked.now c.mark_clause.new.marked c.args.resolved.now c.args.place c.args.reason c.requires.entry.0 c.lits_at.result.now c.requires.closed c.mark_clause.ensures.kept c.requires.justified c.requires.entry.1 c.lits_at.ensures c.requires.here c.mark_clause.ensures.here

pub returns-clause-below : goal.returns-clause-below
returns-clause-below c = marked_below c.args.clauses.now c.args.trail.now.entries c.args.marked.now c.mark_clause.new.marked c.args.place c.args.reason c.requires.entry.0 c.lits_at.result.now c.entries-entries.ensures.apart c.requires.justified c.requires.entry.1 c.lits_at.ensures c.requires.here c.mark_clause.ensures.only
