use Rattle.std.proofs.Common.{◌≡◌, ℕ, suc, ◌≤◌, arith, subst}
use Rattle.patty_run.specs.Outside.{output_seen}
use Rattle.search.specs.inside.Going.{IsGoing}
use Rattle.search.proofs.GoingLaws.{leaves_fails}
use Rattle.search.proofs.AdvanceLaws.{found_at, more_at}
use Rattle.search.proofs.searching.plan_layered.Goals as goal

pub returns-in-Ok-Some : goal.returns-in-Ok-Some
returns-in-Ok-Some g c = found_at (output_seen g.O.Sink.written g.O.Sink.faults c.args.out.now c.put_block.new.out) c.args.task.now c.args.limits.now c.args.opened.now.pattern c.loop-n.n
    c.in-Ok-Some.field-0 c.in-Ok-Some.found c.in-Ok-Some.field-0-is (c.in-Ok-Some.ensures (g.O.Sink.written c.args.out.now) (g.O.Sink.faults c.args.out.now) c.loop-n.invariant)

pub returns-in-Err-put_block : goal.returns-in-Err-put_block
returns-in-Err-put_block g c = leaves_fails (output_seen g.O.Sink.written g.O.Sink.faults c.args.out.now c.put_block.new.out) c.args.task.now c.args.limits.now c.in-Err-put_block.fail
    (c.in-Err-put_block.ensures (g.O.Sink.written c.args.out.now) (g.O.Sink.faults c.args.out.now) c.loop-n.invariant)

pub unreachable-requires : goal.unreachable-requires
unreachable-requires g c =
    let least = c.loop-n-test.false in
    let most = c.loop-n.auto.n-end in
    let e : c.loop-n.n ≡ c.args.limits.now.max_n = omega (arith, least, most) in
    let going = subst (λ (n : ℕ). IsGoing (output_seen g.O.Sink.written g.O.Sink.faults c.args.out.now c.loop-n.out) c.args.task.now c.args.limits.now c.args.opened.now.pattern n) e c.loop-n.invariant in
    let more : suc c.args.limits.now.max_n ≤ c.args.limits.now.max_n = more_at (output_seen g.O.Sink.written g.O.Sink.faults c.args.out.now c.put_block-2.new.out) c.args.task.now c.args.limits.now c.args.opened.now.pattern c.args.limits.now.max_n
    c.in-Ok-None-put_block.field-0 c.in-Ok-None-put_block.field-0-is (c.in-Ok-None-put_block.ensures (g.O.Sink.written c.args.out.now) (g.O.Sink.faults c.args.out.now) going) in
    omega (arith, more)

pub returns-in-Ok-Some-put_block : goal.returns-in-Ok-Some-put_block
returns-in-Ok-Some-put_block g c =
    let least = c.loop-n-test.false in
    let most = c.loop-n.auto.n-end in
    let e : c.loop-n.n ≡ c.args.limits.now.max_n = omega (arith, least, most) in
    let going = subst (λ (n : ℕ). IsGoing (output_seen g.O.Sink.written g.O.Sink.faults c.args.out.now c.loop-n.out) c.args.task.now c.args.limits.now c.args.opened.now.pattern n) e c.loop-n.invariant in
    found_at (output_seen g.O.Sink.written g.O.Sink.faults c.args.out.now c.put_block-2.new.out) c.args.task.now c.args.limits.now c.args.opened.now.pattern c.args.limits.now.max_n
    c.in-Ok-Some-put_block.field-0 c.in-Ok-Some-put_block.found c.in-Ok-Some-put_block.field-0-is (c.in-Ok-Some-put_block.ensures (g.O.Sink.written c.args.out.now) (g.O.Sink.faults c.args.out.now) going)

pub returns-in-Err-put_block-2 : goal.returns-in-Err-put_block-2
returns-in-Err-put_block-2 g c =
    let least = c.loop-n-test.false in
    let most = c.loop-n.auto.n-end in
    let e : c.loop-n.n ≡ c.args.limits.now.max_n = omega (arith, least, most) in
    let going = subst (λ (n : ℕ). IsGoing (output_seen g.O.Sink.written g.O.Sink.faults c.args.out.now c.loop-n.out) c.args.task.now c.args.limits.now c.args.opened.now.pattern n) e c.loop-n.invariant in
    leaves_fails (output_seen g.O.Sink.written g.O.Sink.faults c.args.out.now c.put_block-2.new.out) c.args.task.now c.args.limits.now c.in-Err-put_block-2.fail
    (c.in-Err-put_block-2.ensures (g.O.Sink.written c.args.out.now) (g.O.Sink.faults c.args.out.now) going)
