use Rattle.std.proofs.Common.{rules, ◌≡◌, ◌<◌, ◌∷◌, [], List, Bool, Some, map, sym, subst}
use Rattle.std.specs.List.{All}
use Rattle.std.proofs.lemmas.List.Elements.{All-cons, All-nil}
use Rattle.formula.specs.declared.atom.Lit.{Lit}
use Rattle.formula.specs.Reading.{opposite}
use Rattle.theory_law.specs.Units.{Follows}
use Rattle.theory_law.specs.Licence.{IsNew}
use Rattle.clause_trail.specs.declared.trail.Entry.{Entry}
use Rattle.clause_learn.specs.inside.Analysis.{IsAnalyzed}
use Rattle.clause_learn.proofs.Rup.{chained}
use Rattle.clause_learn.proofs.fixed.learn_fixed.Goals as goal

pub returns-clause-learned : goal.returns-clause-learned
returns-clause-learned c =
    let items : c.push.new.self.items ≡ c.args.fixed.now.lit ∷ [] = search rules in
    let entries = c.args.trail.now.entries in
    let place = c.args.fixed.now.place in
    let lit = c.args.fixed.now.lit in
    let reason = c.args.fixed.now.reason in
    let f = c.requires.justified place lit reason c.requires.entry in
    let a = chained c.args.clauses.now entries c.in_ok-marks.marks.marked.items c.in_ok-marks.marks.resolved.items place lit reason f.0 f.1 c.entries-entries.ensures.apart (Some reason, c.requires.entry) c.in_ok-marks.ensures in
    let a1 = subst (λ (x : List Entry). IsAnalyzed c.args.clauses.now x c.in_ok-marks.marks.marked.items c.in_ok-marks.marks.resolved.items reason (opposite lit ∷ [])) (sym c.entries-entries.ensures.value) a in
    let a2 = subst (λ (x : List Bool). IsAnalyzed c.args.clauses.now c.entries-entries.result.now c.in_ok-marks.marks.marked.items x reason (opposite lit ∷ [])) (sym c.as_slice.ensures.value) a1 in
    subst (λ (x : List Lit). Follows c.args.clauses.now (map opposite x) c.in_ok-hints.hints.items) (sym items)
    (c.in_ok-hints.ensures c.args.clauses.now c.in_ok-marks.marks.marked.items (opposite lit ∷ []) a2)

pub returns-clause-within : goal.returns-clause-within
returns-clause-within c =
    let items : c.push.new.self.items ≡ c.args.fixed.now.lit ∷ [] = search rules in
    let W : Lit → Type 0 = λ m. m.boolean < c.args.trail.now.booleans in
    subst (λ (x : List Lit). All W x) (sym items) (All-cons W c.args.fixed.now.lit [] (c.requires.below c.args.fixed.now.place c.args.fixed.now.lit (Some c.args.fixed.now.reason, c.requires.entry)) (All-nil W))

pub returns-clause-licensed : goal.returns-clause-licensed
returns-clause-licensed c =
    let items : c.push.new.self.items ≡ c.args.fixed.now.lit ∷ [] = search rules in
    subst (λ (x : List Lit). IsNew c.args.clauses.now x) (sym items) c.requires.unstated
