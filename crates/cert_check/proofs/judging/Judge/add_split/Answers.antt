use Rattle.std.proofs.Common.{Some, refl}
use Rattle.theory_law.specs.Splits.{at_most}
use Rattle.cert_check.proofs.Readies.{kept_boolean, kept_longer}
use Rattle.cert_check.proofs.judging.Judge.add_split.Goals as goal

pub invariant_of-self-in_err-add_boolean-2 : goal.invariant_of-self-in_err-add_boolean-2
invariant_of-self-in_err-add_boolean-2 c =
    kept_longer c.self.inside.formula c.self.inside.formula c.self.inside.truths c.add_boolean.new.self c.self.inside.index c.add_boolean-2.new.self c.self.invariant c.in_ok-add_boolean.ensures.done refl
    c.in_err-add_boolean-2.ensures.keeps c.in_err-add_boolean-2.ensures.same c.in_err-add_boolean-2.ensures.kept

pub invariant_of-self-in_err-add_split : goal.invariant_of-self-in_err-add_split
invariant_of-self-in_err-add_split c =
    kept_longer c.self.inside.formula c.add_split.new.self c.self.inside.truths c.add_boolean.new.self c.self.inside.index c.add_boolean-2.new.self c.self.invariant c.in_ok-add_boolean.ensures.done c.in_err-add_split.ensures.same
    c.in_ok-add_boolean-2.ensures.keeps c.in_ok-add_boolean-2.ensures.same c.in_ok-add_boolean-2.ensures.kept

pub invariant_of-self-2 : goal.invariant_of-self-2
invariant_of-self-2 c =
    kept_boolean c.self.inside.formula c.add_split.new.self c.self.inside.truths c.add_boolean.new.self c.self.inside.index c.add_boolean-2.new.self (Some (at_most c.args.var c.args.k)) c.self.invariant c.in_ok-add_boolean.ensures.done
    c.in_ok-add_split.ensures.added c.in_ok-add_boolean-2.ensures.keeps c.in_ok-add_boolean-2.ensures.same c.in_ok-add_boolean-2.ensures.room
