use Rattle.std.proofs.Common.{ℕ, ◌/◌, ◌++◌, List, length, length-append, ap, ◌∙◌, arith}
use Rattle.frac128.specs.Text.{digits}
use Rattle.frac128.proofs.Digits.{room_left, digits_step, digits_end, length-digits}
use Rattle.frac128.proofs.backward.Backward.put_digits.Goals as goal

pub put-requires : goal.put-requires
put-requires c = room_left c.loop-rest.rest c.args.n c.loop-rest.self c.args.self.now c.loop-rest.invariant c.requires.small c.requires.room

pub loop-rest-preserved : goal.loop-rest-preserved
loop-rest-preserved c =
    let r = c.loop-rest.rest in
    ap (λ (xs : List ℕ). digits (r / 10) ++ xs) c.put.ensures ∙ digits_step r c.loop-rest.self c.loop-rest-test.true ∙ c.loop-rest.invariant

pub put-requires-2 : goal.put-requires-2
put-requires-2 c = room_left c.loop-rest.rest c.args.n c.loop-rest.self c.args.self.now c.loop-rest.invariant c.requires.small c.requires.room

pub returns-clause-value : goal.returns-clause-value
returns-clause-value c = c.put-2.ensures ∙ digits_end c.loop-rest.rest c.loop-rest.self c.loop-rest-test.false ∙ c.loop-rest.invariant

pub returns-clause-room : goal.returns-clause-room
returns-clause-room c =
    let e = c.put-2.ensures ∙ digits_end c.loop-rest.rest c.loop-rest.self c.loop-rest-test.false ∙ c.loop-rest.invariant in
    omega (arith, ap length e, length-append (digits c.args.n) c.args.self.now, length-digits c.args.n c.requires.small)
