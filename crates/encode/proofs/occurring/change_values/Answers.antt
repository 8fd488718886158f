use Rattle.std.proofs.Common.{List, ℕ, length, subst, arith}
use Rattle.std.specs.Prelude.{Ok, Err}
use Rattle.std.proofs.lemmas.Result.{err_from_is_err_and}
use Rattle.lin.specs.Linear.{Linear}
use Rattle.encode_rows.specs.Symbols.{MakesRows}
use Rattle.encode_rows.specs.Setting.{set_list}
use Rattle.encode_rows.specs.Growing.{Renews}
use Rattle.encode.proofs.OccurringLaws.{values-stop, values-number, values-made}
use Rattle.encode.proofs.occurring.change_values.Goals as goal

pub returns-in_err-set_all-clause-makes : goal.returns-in_err-set_all-clause-makes
returns-in_err-set_all-clause-makes c =
    let p = err_from_is_err_and c.from_residual.result c.from_residual.ensures.1 in
    let made = subst (λ (ss : List (ℕ × Linear)). MakesRows {X = Unit {0}} c.args.formula.now c.args.symbols.now c.args.on (set_list (length c.args.formula.now.counts) ss) c.set_all.new.formula (Err c.in_err-set_all.field-0.0)) c.as_slice-sets.ensures c.in_err-set_all.ensures in
    rw (p.1, p.2)
    (values-stop c.args.a.now c.args.c c.args.formula.now c.set_all.new.formula c.set_all.new.formula c.args.symbols.now c.args.symbols.now c.args.on (Unit {0}) (Unit {0}) c.in_err-set_all.field-0.0 made)

pub renew-requires-clause-numbered : goal.renew-requires-clause-numbered
renew-requires-clause-numbered c =
    let made = subst (λ (ss : List (ℕ × Linear)). MakesRows {X = Unit {0}} c.args.formula.now c.args.symbols.now c.args.on (set_list (length c.args.formula.now.counts) ss) c.set_all.new.formula (Ok tt)) c.as_slice-sets.ensures c.in_ok-set_all.ensures in
    let n = values-number c.args.a.now c.args.c c.args.formula.now c.set_all.new.formula c.set_all.new.formula c.args.symbols.now c.args.symbols.now c.args.on (Unit {0}) tt made c.requires.state in
    let w = c.vars-w.ensures in
    let v = c.vars-vars.ensures in
    omega arith

pub returns-clause-makes : goal.returns-clause-makes
returns-clause-makes c =
    let made = subst (λ (ss : List (ℕ × Linear)). MakesRows {X = Unit {0}} c.args.formula.now c.args.symbols.now c.args.on (set_list (length c.args.formula.now.counts) ss) c.set_all.new.formula (Ok tt)) c.as_slice-sets.ensures c.in_ok-set_all.ensures in
    values-made c.args.a.now c.args.c c.args.formula.now c.set_all.new.formula c.set_all.new.formula c.args.symbols.now (record { truths = c.args.symbols.now.truths; values = c.renew.new.values }) c.args.on (Unit {0}) tt made c.renew.result
    (subst (λ (w : ℕ). Renews c.args.c w c.args.a.now c.args.symbols.now.values c.renew.new.values c.renew.result) c.vars-w.ensures c.renew.ensures.renews)
