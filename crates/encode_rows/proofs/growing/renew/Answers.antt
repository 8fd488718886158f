use Rattle.std.proofs.Common.{ℕ, List, subst}
use Rattle.std.specs.Prelude.{Ok}
use Rattle.rational.specs.Linear.{Terms}
use Rattle.lin.specs.Linear.{Linear}
use Rattle.encode_rows.specs.Growing.{Grows, SetsVariables}
use Rattle.encode_rows.proofs.GrowingLaws.{renewed}
use Rattle.encode_rows.proofs.growing.renew.Goals as goal

pub returns-clause-renews : goal.returns-clause-renews
returns-clause-renews c =
    renewed c.args.c c.args.w c.args.a.now c.args.values.now c.grow.new.values c.set_variables.new.values (Unit {0}) (Unit {0}) tt tt
    (subst (λ (qs : Terms). Grows {X = Unit {0}} c.args.c qs c.args.values.now c.grow.new.values (Ok tt)) c.as_slice.ensures c.in_ok-grow.ensures.grows)
    (subst (λ (ss : List (ℕ × Linear)). SetsVariables c.args.w ss c.grow.new.values c.set_variables.new.values) c.as_slice-2.ensures c.in_ok-set_variables.ensures.made)
