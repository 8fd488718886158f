use Rattle.std.proofs.Common.{length, refl}
use Rattle.std.proofs.lemmas.Result.{err_from_is_err_and}
use Rattle.encode_rows.proofs.OrderLaws.{changes-apart, changes-atoms}
use Rattle.encode.proofs.OccurringLaws.{sized-once, effect-truths, effect-stop, effect-state, effect-made}
use Rattle.encode.proofs.occurring.take_effect.Goals as goal

pub change_all-requires-clause-truths : goal.change_all-requires-clause-truths
change_all-requires-clause-truths c =
    effect-truths c.args.a.now c.args.c c.args.formula.now c.args.formula.now c.args.symbols.now c.args.symbols.now.truths c.args.on
    (sized-once (length c.args.symbols.now.truths) (length c.args.symbols.now.values) c.args.a.now c.requires.sized) c.requires.state

pub change_all-requires-clause-within : goal.change_all-requires-clause-within
change_all-requires-clause-within c = changes-atoms c.args.a.now (length c.args.symbols.now.truths) c.requires.sized.adds c.requires.sized.dels

pub change_all-requires-clause-apart : goal.change_all-requires-clause-apart
change_all-requires-clause-apart c = changes-apart c.args.a.now (sized-once (length c.args.symbols.now.truths) (length c.args.symbols.now.values) c.args.a.now c.requires.sized)

pub returns-in_err-change_all-clause-makes : goal.returns-in_err-change_all-clause-makes
returns-in_err-change_all-clause-makes c =
    let p = err_from_is_err_and c.from_residual.result c.from_residual.ensures.1 in
    rw (p.1, p.2)
    (effect-stop c.args.a.now c.args.c c.args.formula.now c.change_all.new.formula c.args.symbols.now c.change_all.new.truths c.args.on
    (sized-once (length c.args.symbols.now.truths) (length c.args.symbols.now.values) c.args.a.now c.requires.sized) (Unit {0}) (Unit {0})
    (record { truths = c.change_all.new.truths; values = c.args.symbols.now.values }) c.in_err-change_all.field-0.0 c.in_err-change_all.ensures.makes)

pub change_values-requires-clause-state : goal.change_values-requires-clause-state
change_values-requires-clause-state c =
    effect-state c.args.a.now c.args.c c.args.formula.now c.change_all.new.formula c.args.symbols.now c.change_all.new.truths c.args.on
    (sized-once (length c.args.symbols.now.truths) (length c.args.symbols.now.values) c.args.a.now c.requires.sized) (Unit {0}) tt c.in_ok-change_all.ensures.makes
    (record { truths = c.change_all.new.truths; values = c.args.symbols.now.values }) refl refl c.requires.state

pub returns-clause-makes : goal.returns-clause-makes
returns-clause-makes c =
    effect-made c.args.a.now c.args.c c.args.formula.now c.change_all.new.formula c.args.symbols.now c.change_all.new.truths c.args.on
    (sized-once (length c.args.symbols.now.truths) (length c.args.symbols.now.values) c.args.a.now c.requires.sized) (Unit {0}) tt c.in_ok-change_all.ensures.makes
    (record { truths = c.change_all.new.truths; values = c.args.symbols.now.values }) refl refl c.change_values.new.formula c.change_values.new.symbols c.change_values.result c.change_values.ensures.truths
    c.change_values.ensures.makes
