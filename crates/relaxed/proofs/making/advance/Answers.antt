use Rattle.std.proofs.Common.{◌≡◌, ℕ, suc, ◌+◌, ◌<◌, Bool, List, length, sym, subst, arith}
use Rattle.std.specs.List.{All}
use Rattle.std.proofs.lemmas.Bool.{not-false}
use Rattle.task_core.specs.declared.action.GAction.{GAction}
use Rattle.task_core.specs.Task.{IsOrderly}
use Rattle.relaxed.specs.Named.{AllPartsFit, given_operations}
use Rattle.relaxed.specs.inside.Kept.{layer_of}
use Rattle.relaxed.specs.inside.Nexting.{action_in, AreSupported, WidensByAll, FailsAmong}
use Rattle.relaxed.specs.inside.Testing.{TestsAll, TestsFit, TestFails}
use Rattle.relaxed.specs.inside.Running.{IsAt}
use Rattle.relaxed.proofs.RunSteps.{orderly, flags-are, next-at, same-ends, test-passes, given-passes}
use Rattle.relaxed.proofs.making.advance.Goals as goal

pub returns-in-Err-clause-fails : goal.returns-in-Err-clause-fails
returns-in-Err-clause-fails c =
    let is = c.actions-actions.ensures.value in
    test-passes c.args.task.now c.actions-actions.ensures.promised c.args.layer c.args.table.now c.args.flags.now c.args.first.now c.in-Err.fail c.requires
    (subst (λ (acts : List GAction). TestFails c.args.layer (layer_of c.args.table.now) acts c.args.flags.now c.in-Err.fail) is c.in-Err.ensures.fails)

pub next_table-requires-clause-orderly : goal.next_table-requires-clause-orderly
next_table-requires-clause-orderly c =
    subst (λ (acts : List GAction). All IsOrderly acts) (sym c.actions-actions.ensures.value) (orderly c.args.task.now c.actions-actions.ensures.promised)

pub next_table-requires-clause-flags : goal.next_table-requires-clause-flags
next_table-requires-clause-flags c =
    let is = c.actions-actions.ensures.value in
    let y = layer_of c.args.table.now in
    let tests = subst (λ (acts : List GAction). TestsAll y c.args.layer acts c.args.flags.now c.test_actions.new.flags c.args.first.now c.test_actions.new.first) is c.in-Ok.ensures.tests in
    subst (λ (fs : List Bool). AreSupported y c.actions-actions.result.now fs) (sym c.as_slice.ensures)
    (subst (λ (acts : List GAction). AreSupported y acts c.test_actions.new.flags) (sym is)
    (flags-are c.args.task.now c.actions-actions.ensures.promised c.args.layer c.args.table.now c.args.flags.now c.args.first.now c.requires
    c.test_actions.new.flags c.test_actions.new.first tests))

pub returns-in-Ok-next_table-clause-next : goal.returns-in-Ok-next_table-clause-next
returns-in-Ok-next_table-clause-next c =
    let is = c.actions-actions.ensures.value in
    let y = layer_of c.args.table.now in
    let tests = subst (λ (acts : List GAction). TestsAll y c.args.layer acts c.args.flags.now c.test_actions.new.flags c.args.first.now c.test_actions.new.first) is c.in-Ok.ensures.tests in
    let step : suc c.args.layer ≡ c.args.layer + 1 = omega arith in
    subst (λ (n : ℕ). IsAt c.args.task.now n c.in-Ok-next_table.next c.test_actions.new.flags c.test_actions.new.first) step
    (next-at c.args.task.now c.actions-actions.ensures.promised c.args.layer c.args.table.now c.args.flags.now c.args.first.now c.requires
    c.test_actions.new.flags c.test_actions.new.first tests
    (subst (λ (acts : List GAction). TestsFit y acts c.args.flags.now) is c.in-Ok.ensures.fits)
    (subst (λ (acts : List GAction). (i : ℕ) → i < length acts → AllPartsFit (given_operations y (action_in acts i))) is c.in-Ok-next_table.ensures.fits)
    c.in-Ok-next_table.next (subst (λ (acts : List GAction). WidensByAll y acts c.args.table.now c.in-Ok-next_table.next) is c.in-Ok-next_table.ensures.widens))

pub returns-in-Ok-next_table-clause-ends : goal.returns-in-Ok-next_table-clause-ends
returns-in-Ok-next_table-clause-ends c e =
    let is = c.actions-actions.ensures.value in
    let y = layer_of c.args.table.now in
    let tests = subst (λ (acts : List GAction). TestsAll y c.args.layer acts c.args.flags.now c.test_actions.new.flags c.args.first.now c.test_actions.new.first) is c.in-Ok.ensures.tests in
    same-ends c.args.task.now c.actions-actions.ensures.promised c.args.layer c.args.table.now c.args.flags.now c.args.first.now c.requires
    c.test_actions.new.flags c.test_actions.new.first tests c.in-Ok-next_table.next
    (subst (λ (acts : List GAction). WidensByAll y acts c.args.table.now c.in-Ok-next_table.next) is c.in-Ok-next_table.ensures.widens)
    (c.is_same-changed.ensures (not-false c.is_same-changed.result e))

pub returns-in-Err-next_table-clause-fails : goal.returns-in-Err-next_table-clause-fails
returns-in-Err-next_table-clause-fails c =
    let is = c.actions-actions.ensures.value in
    given-passes c.args.task.now c.actions-actions.ensures.promised c.args.layer c.args.table.now c.args.flags.now c.args.first.now c.in-Err-next_table.fail c.requires
    (subst (λ (acts : List GAction). FailsAmong c.args.layer (given_operations (layer_of c.args.table.now)) acts c.in-Err-next_table.fail) is c.in-Err-next_table.ensures.fails)
