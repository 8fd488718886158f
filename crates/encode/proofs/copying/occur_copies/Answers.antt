use Rattle.std.proofs.Common.{◌≡◌, ◌≤◌, ◌+◌, ◌-◌, ℕ, List, subst, arith}
use Rattle.std.proofs.lemmas.Result.{err_from_is_err_and}
use Rattle.task_core.specs.declared.action.GAction.{GAction}
use Rattle.encode_laws.specs.Encoding.{copies}
use Rattle.encode.specs.inside.Copying.{actions_of}
use Rattle.encode.proofs.CopyingLaws.{Gone, gone-start, gone-step, gone-stop, gone-end, copies-left, copies-none}
use Rattle.encode.proofs.copying.occur_copies.Goals as goal

pub loop-copy-init : goal.loop-copy-init
loop-copy-init c =
    let e : c.args.n ≡ c.args.n - 0 = omega arith in
    subst (λ (k : ℕ). Gone c.args.formula.now c.args.symbols.now (actions_of c.args.task.now (copies c.args.n c.args.places.now)) (actions_of c.args.task.now (copies k c.args.places.now)) c.args.formula.now c.args.symbols.now) e
    (gone-start c.args.formula.now c.args.symbols.now (actions_of c.args.task.now (copies c.args.n c.args.places.now)) c.requires.next)

pub returns-in_err-occur_once-clause-makes : goal.returns-in_err-occur_once-clause-makes
returns-in_err-occur_once-clause-makes c =
    let e = err_from_is_err_and c.from_residual.result c.from_residual.ensures.1 in
    rw (e.1, e.2)
    (gone-stop c.args.formula.now c.args.symbols.now (actions_of c.args.task.now (copies c.args.n c.args.places.now)) (actions_of c.args.task.now c.args.places.now)
    (actions_of c.args.task.now (copies (c.args.n - (c.loop-copy.copy + 1)) c.args.places.now)) c.loop-copy.formula c.occur_once.new.formula c.loop-copy.symbols c.occur_once.new.symbols
    (subst (λ (xs : List GAction). Gone c.args.formula.now c.args.symbols.now (actions_of c.args.task.now (copies c.args.n c.args.places.now)) xs c.loop-copy.formula c.loop-copy.symbols)
    (copies-left c.args.task.now c.args.places.now c.args.n c.loop-copy.copy c.loop-copy-test.true) c.loop-copy.invariant) (Unit {0}) (Unit {0}) c.in_err-occur_once.field-0.0 c.occur_once.new.symbols
    c.in_err-occur_once.ensures.makes)

pub loop-copy-preserved : goal.loop-copy-preserved
loop-copy-preserved c =
    gone-step c.args.formula.now c.args.symbols.now (actions_of c.args.task.now (copies c.args.n c.args.places.now)) (actions_of c.args.task.now c.args.places.now)
    (actions_of c.args.task.now (copies (c.args.n - (c.loop-copy.copy + 1)) c.args.places.now)) c.loop-copy.formula c.occur_once.new.formula c.loop-copy.symbols c.occur_once.new.symbols
    (subst (λ (xs : List GAction). Gone c.args.formula.now c.args.symbols.now (actions_of c.args.task.now (copies c.args.n c.args.places.now)) xs c.loop-copy.formula c.loop-copy.symbols)
    (copies-left c.args.task.now c.args.places.now c.args.n c.loop-copy.copy c.loop-copy-test.true) c.loop-copy.invariant) (Unit {0}) tt c.in_ok-occur_once.ensures.makes c.in_ok-occur_once.ensures.kept

pub returns-clause-makes : goal.returns-clause-makes
returns-clause-makes c =
    let l : c.args.n ≤ c.loop-copy.copy = omega arith in
    gone-end c.args.formula.now c.args.symbols.now (actions_of c.args.task.now (copies c.args.n c.args.places.now)) c.loop-copy.formula c.loop-copy.symbols (Unit {0}) tt
    (subst (λ (xs : List GAction). Gone c.args.formula.now c.args.symbols.now (actions_of c.args.task.now (copies c.args.n c.args.places.now)) xs c.loop-copy.formula c.loop-copy.symbols)
    (copies-none c.args.task.now c.args.places.now c.args.n c.loop-copy.copy l) c.loop-copy.invariant)
