use Rattle.std.proofs.Common.{rules, ◌≡◌, ℕ, List, Bool, true, false, length, sym, ◌∙◌, subst, replicate, slice_get, Some, arith}
use Rattle.std.specs.List.{Contains}
use Rattle.std.proofs.lemmas.Option.{same_Some}
use Rattle.formula.specs.declared.atom.Lit.{Lit}
use Rattle.clause_trail.specs.Standing.{Stands}
use Rattle.clause_learn.specs.inside.Analysis.{IsClosed, IsMarkedUp}
use Rattle.clause_trail.specs.Scanning.{IsFalseAmong}
use Rattle.clause_learn.specs.inside.Leaving.{HasOneLeft}
use Rattle.clause_trail.proofs.Gets.{written}
use Rattle.clause_learn.proofs.Licences.{one_none}
use Rattle.clause_learn.proofs.Closing.{closed_none, all_marked}
use Rattle.clause_learn.proofs.resolve.start.Goals as goal

pub returns-clause-marked : goal.returns-clause-marked
returns-clause-marked c =
    let entries = c.args.trail.now.entries in
    let new : List Bool = c.mark_clause.new.marked in
    let resolves : List Bool = c.in_ok-resolves.resolves.items in
    let f = c.requires in
    let none : c.in_ok-resolves.resolves.items ≡ replicate (length c.args.trail.now.entries) false = search rules in
    let n : c.in_ok-marks.marks.len ≡ length c.mark_clause.new.marked = search rules in
    let so_many : length c.mark_clause.new.marked ≡ length c.args.trail.now.entries = search rules in
    written (λ (x : List Bool). IsMarkedUp c.args.clauses.now entries c.args.conflict x resolves) _ new c.in_ok-marks.marks.items n (record {
      closed = subst (λ (x : List Bool). IsClosed c.args.clauses.now entries new x) (sym none) (closed_none c.args.clauses.now entries new (length entries));
      all_marked = λ d e. all_marked entries new d (subst (λ (x : List Lit). IsFalseAmong entries x) (same_Some _ _ (sym f.1 ∙ e)) f.2) (subst (λ (x : List Lit). (m : Lit) → Contains x m → (p : ℕ) (q : Lit) → Stands entries p q → q.boolean ≡ m.boolean → slice_get new p ≡ Some true) (same_Some _ _ (sym c.lits_at.ensures ∙ e)) c.mark_clause.ensures.here);
      marks = so_many;
      resolves = search rules;
    })

pub returns-clause-one : goal.returns-clause-one
returns-clause-one c =
    let new : List Bool = c.mark_clause.new.marked in
    let resolves : List Bool = c.in_ok-resolves.resolves.items in
    let n : c.in_ok-marks.marks.len ≡ length c.mark_clause.new.marked = search rules in
    let so_many : length c.mark_clause.new.marked ≡ length c.args.trail.now.entries = search rules in
    written (λ (x : List Bool). HasOneLeft c.args.base c.args.from (length c.args.trail.now.entries) x resolves) _ new c.in_ok-marks.marks.items n
    (one_none c.args.base c.args.from (length c.args.trail.now.entries) new resolves (omega (arith, so_many)))
