use Rattle.std.proofs.Common.{List, ℕ, Bool, subst}
use Rattle.std.specs.Prelude.{Ok, Err}
use Rattle.std.proofs.lemmas.Result.{err_from_is_err_and}
use Rattle.lin.specs.Linear.{Linear}
use Rattle.lin.specs.declared.comparison.Cmp.{Cmp}
use Rattle.encode_rows.specs.Symbols.{MakesRows, asked_rows, first_rows}
use Rattle.encode.specs.inside.Occurring.{rolled_rows}
use Rattle.encode_rows.proofs.LastingLaws.{state-known}
use Rattle.encode.proofs.OccurringLaws.{needed-2, rows-then, rows-stop, state-then, replaced-by}
use Rattle.encode.proofs.occurring.need_all.Goals as goal

pub returns-in_err-ask_all : goal.returns-in_err-ask_all
returns-in_err-ask_all c =
    let p = err_from_is_err_and c.from_residual.result c.from_residual.ensures.1 in
    let asked = subst (λ (ls : List (ℕ × Bool)). MakesRows {X = Unit {0}} c.args.formula.now c.args.symbols.now c.args.front (asked_rows ls) c.ask_all.new.formula (Err c.in_err-ask_all.field-0.0)) c.as_slice-lits.ensures c.in_err-ask_all.ensures in
    rw (p.1, p.2)
    (rows-stop c.args.formula.now c.ask_all.new.formula c.args.symbols.now c.args.front (asked_rows c.args.a.now.lits) (needed-2 c.args.c c.args.a.now) (Unit {0}) (Unit {0}) c.in_err-ask_all.field-0.0 asked)

pub compare_all-requires-clause-state : goal.compare_all-requires-clause-state
compare_all-requires-clause-state c = state-then c.args.formula.now c.ask_all.new.formula c.args.symbols.now c.args.front (asked_rows c.as_slice-lits.result.now) (Unit {0}) tt c.requires.state c.in_ok-ask_all.ensures

pub returns-in_err-compare_all : goal.returns-in_err-compare_all
returns-in_err-compare_all c =
    let p = err_from_is_err_and c.from_residual-in_err-compare_all.result c.from_residual-in_err-compare_all.ensures.1 in
    let asked = subst (λ (ls : List (ℕ × Bool)). MakesRows {X = Unit {0}} c.args.formula.now c.args.symbols.now c.args.front (asked_rows ls) c.ask_all.new.formula (Ok tt)) c.as_slice-lits.ensures c.in_ok-ask_all.ensures in
    let compared = subst (λ (ks : List (Linear × Cmp)). MakesRows {X = Unit {0}} c.ask_all.new.formula c.args.symbols.now c.args.front (first_rows ks) c.compare_all.new.formula (Err c.in_err-compare_all.field-0.0)) c.as_slice-cmps.ensures c.in_err-compare_all.ensures in
    rw (p.1, p.2)
    (rows-then c.args.formula.now c.ask_all.new.formula c.args.symbols.now c.args.front (asked_rows c.args.a.now.lits) (needed-2 c.args.c c.args.a.now) (Unit {0}) {X = Unit {0}} c.compare_all.new.formula tt (Err c.in_err-compare_all.field-0.0) asked
    (rows-stop c.ask_all.new.formula c.compare_all.new.formula c.args.symbols.now c.args.front (first_rows c.args.a.now.cmps) (rolled_rows c.args.c c.args.a.now) (Unit {0}) (Unit {0}) c.in_err-compare_all.field-0.0 compared))

pub compare_rolled-requires-clause-state : goal.compare_rolled-requires-clause-state
compare_rolled-requires-clause-state c =
    state-then c.ask_all.new.formula c.compare_all.new.formula c.args.symbols.now c.args.front (first_rows c.as_slice-cmps.result.now) (Unit {0}) tt
    (state-then c.args.formula.now c.ask_all.new.formula c.args.symbols.now c.args.front (asked_rows c.as_slice-lits.result.now) (Unit {0}) tt c.requires.state c.in_ok-ask_all.ensures) c.in_ok-compare_all.ensures

pub compare_rolled-requires-clause-replaced : goal.compare_rolled-requires-clause-replaced
compare_rolled-requires-clause-replaced c =
    let compared = subst (λ (ks : List (Linear × Cmp)). MakesRows {X = Unit {0}} c.ask_all.new.formula c.args.symbols.now c.args.front (first_rows ks) c.compare_all.new.formula (Ok tt)) c.as_slice-cmps.ensures c.in_ok-compare_all.ensures in
    replaced-by c.ask_all.new.formula c.compare_all.new.formula c.args.symbols.now c.args.front c.args.a.now.cmps (Unit {0}) tt
    (state-then c.args.formula.now c.ask_all.new.formula c.args.symbols.now c.args.front (asked_rows c.as_slice-lits.result.now) (Unit {0}) tt c.requires.state c.in_ok-ask_all.ensures) compared

pub compare_rolled-requires-clause-known : goal.compare_rolled-requires-clause-known
compare_rolled-requires-clause-known c = λ e.
    let first = state-then c.args.formula.now c.ask_all.new.formula c.args.symbols.now c.args.front (asked_rows c.as_slice-lits.result.now) (Unit {0}) tt c.requires.state c.in_ok-ask_all.ensures in
    state-known c.ask_all.new.formula c.compare_all.new.formula c.args.symbols.now c.args.front (first_rows c.as_slice-cmps.result.now) (Unit {0}) tt c.args.c first c.in_ok-compare_all.ensures
    (state-known c.args.formula.now c.ask_all.new.formula c.args.symbols.now c.args.front (asked_rows c.as_slice-lits.result.now) (Unit {0}) tt c.args.c c.requires.state c.in_ok-ask_all.ensures (c.requires.known e))

pub returns : goal.returns
returns c =
    let asked = subst (λ (ls : List (ℕ × Bool)). MakesRows {X = Unit {0}} c.args.formula.now c.args.symbols.now c.args.front (asked_rows ls) c.ask_all.new.formula (Ok tt)) c.as_slice-lits.ensures c.in_ok-ask_all.ensures in
    let compared = subst (λ (ks : List (Linear × Cmp)). MakesRows {X = Unit {0}} c.ask_all.new.formula c.args.symbols.now c.args.front (first_rows ks) c.compare_all.new.formula (Ok tt)) c.as_slice-cmps.ensures c.in_ok-compare_all.ensures in
    rows-then c.args.formula.now c.ask_all.new.formula c.args.symbols.now c.args.front (asked_rows c.args.a.now.lits) (needed-2 c.args.c c.args.a.now) (Unit {0}) c.compare_rolled.new.formula tt c.compare_rolled.result asked
    (rows-then c.ask_all.new.formula c.compare_all.new.formula c.args.symbols.now c.args.front (first_rows c.args.a.now.cmps) (rolled_rows c.args.c c.args.a.now) (Unit {0}) c.compare_rolled.new.formula tt c.compare_rolled.result compared
    c.compare_rolled.ensures)
