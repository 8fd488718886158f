use Rattle.std.proofs.Common.{◌≡◌, Bool, true, false, not, refl}
use Rattle.plan_text.proofs.Numbering.{numbering_known, numbering_new}
use Rattle.plan_text.proofs.numbers.Numbers.add.Goals as goal

not_true : (b t : Bool) → t ≡ not b → t ≡ true → b ≡ false
not_true true t is so = cc
not_true false t is so = refl

not_false : (b t : Bool) → t ≡ not b → t ≡ false → b ≡ true
not_false true t is so = refl
not_false false t is so = cc

pub returns-in_ok-push : goal.returns-in_ok-push
returns-in_ok-push c = λ names is n. numbering_new names _ _ c.args.name.now c.args.place (not_true _ _ c.in_ok-add.ensures.added c.if-branch.true) c.in_ok-add.ensures.names c.in_ok-push.ensures.ok is n

pub returns-else-branch : goal.returns-else-branch
returns-else-branch c = λ names is n. numbering_known names _ _ c.args.name.now (not_false _ _ c.in_ok-add.ensures.added c.if-branch.false) c.in_ok-add.ensures.names refl n
