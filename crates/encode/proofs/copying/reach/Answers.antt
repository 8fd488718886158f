use Rattle.std.proofs.Common.{List, ℕ, Bool, subst}
use Rattle.std.specs.Prelude.{Ok, Err}
use Rattle.std.proofs.lemmas.Result.{err_from_is_err_and}
use Rattle.lin.specs.Linear.{Linear}
use Rattle.lin.specs.declared.comparison.Cmp.{Cmp}
use Rattle.encode_rows.specs.declared.clause.Truth.TheVariants.{No}
use Rattle.encode_rows.specs.Symbols.{MakesRows, asked_rows, first_rows}
use Rattle.encode.proofs.OccurringLaws.{rows-then, rows-stop, state-then}
use Rattle.encode.proofs.CopyingLaws.{goal-state, goal-makes}
use Rattle.encode.proofs.copying.reach.Goals as goal

pub ask_all-requires-clause-state : goal.ask_all-requires-clause-state
ask_all-requires-clause-state c = goal-state c.args.formula.now c.args.symbols.now c.requires.next

pub returns-in_err-ask_all : goal.returns-in_err-ask_all
returns-in_err-ask_all c =
    let p = err_from_is_err_and c.from_residual.result c.from_residual.ensures.1 in
    let asked = subst (λ (ls : List (ℕ × Bool)). MakesRows {X = Unit {0}} c.args.formula.now c.args.symbols.now No (asked_rows ls) c.ask_all.new.formula (Err c.in_err-ask_all.field-0.0)) c.as_slice-lits.ensures c.in_err-ask_all.ensures in
    rw (p.1, p.2)
    (goal-makes c.args.goal.now c.args.formula.now c.ask_all.new.formula c.args.symbols.now {X = Unit {0}} (Err c.in_err-ask_all.field-0.0)
    (rows-stop c.args.formula.now c.ask_all.new.formula c.args.symbols.now No (asked_rows c.args.goal.now.lits) (first_rows c.args.goal.now.cmps) (Unit {0}) (Unit {0}) c.in_err-ask_all.field-0.0 asked))

pub compare_all-requires-clause-state : goal.compare_all-requires-clause-state
compare_all-requires-clause-state c =
    state-then c.args.formula.now c.ask_all.new.formula c.args.symbols.now No (asked_rows c.as_slice-lits.result.now) (Unit {0}) tt (goal-state c.args.formula.now c.args.symbols.now c.requires.next) c.in_ok-ask_all.ensures

pub returns : goal.returns
returns c =
    let asked = subst (λ (ls : List (ℕ × Bool)). MakesRows {X = Unit {0}} c.args.formula.now c.args.symbols.now No (asked_rows ls) c.ask_all.new.formula (Ok tt)) c.as_slice-lits.ensures c.in_ok-ask_all.ensures in
    let compared = subst (λ (ks : List (Linear × Cmp)). MakesRows c.ask_all.new.formula c.args.symbols.now No (first_rows ks) c.compare_all.new.formula c.compare_all.result) c.as_slice-cmps.ensures c.compare_all.ensures in
    goal-makes c.args.goal.now c.args.formula.now c.compare_all.new.formula c.args.symbols.now c.compare_all.result
    (rows-then c.args.formula.now c.ask_all.new.formula c.args.symbols.now No (asked_rows c.args.goal.now.lits) (first_rows c.args.goal.now.cmps) (Unit {0}) c.compare_all.new.formula tt c.compare_all.result asked compared)
