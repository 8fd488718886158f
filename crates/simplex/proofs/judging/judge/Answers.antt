use Rattle.std.proofs.Common.{ℕ, subst}
use Rattle.simplex_law.specs.Config.{IsConsistent}
use Rattle.simplex_clash.specs.Setting.{limits_of}
use Rattle.simplex.proofs.JudgeLaws.{fit_after, decided, arrived}
use Rattle.simplex.proofs.judging.judge.Goals as goal

pub returns-in_err-ran-clause-fit : goal.returns-in_err-ran-clause-fit
returns-in_err-ran-clause-fit c = fit_after c.args.formula.now c.args.sides.now c.args.t.now c.pivot.new.t c.requires.fit c.pivot.ensures.wide c.pivot.ensures.same c.pivot.ensures.tidy

pub conclude-requires-clause-at : goal.conclude-requires-clause-at
conclude-requires-clause-at c =
    arrived c.args.formula.now c.args.sides.now c.args.t.now c.args.events.now c.in_ok-begun.begun c.requires.fit c.in_ok-begun.ensures c.requires.bare c.requires.of_atoms c.args.pivots c.pivot.new.t c.in_ok-ran.ran
    (subst (λ (n : ℕ). IsConsistent (limits_of c.in_ok-begun.begun.both.lower c.in_ok-begun.begun.both.upper) n) c.in_ok-begun.ensures.setting.lower_is.long c.in_default.ensures)
    c.in_ok-ran.ensures.answers c.pivot.ensures.wide c.pivot.ensures.same c.pivot.ensures.tidy

pub conclude-requires-clause-decided : goal.conclude-requires-clause-decided
conclude-requires-clause-decided c = λ e. decided c.args.formula.now c.args.sides.now c.args.t.now c.args.events.now c.in_ok-begun.begun c.requires.fit c.in_ok-begun.ensures c.requires.bare c.requires.of_atoms (c.requires.full e)

pub returns-clause-fit : goal.returns-clause-fit
returns-clause-fit c = fit_after c.args.formula.now c.args.sides.now c.args.t.now c.pivot.new.t c.requires.fit c.pivot.ensures.wide c.pivot.ensures.same c.pivot.ensures.tidy
