use Rattle.std.proofs.Common.{sym, refl, ◌∙◌, take, arith, subst, ◌∷◌}
use Rattle.plan_step.specs.Touches.{changes_of, change_in}
use Rattle.plan_step.proofs.Placing.{changes_more}
use Rattle.plan_step.proofs.Tabling.{Tells, clash_is, tells_more, head_kept, clashes_here, no_clash_here}
use Rattle.plan_step.proofs.clashes.test_table.Goals as goal

pub loop-i-init : goal.loop-i-init
loop-i-init c = record {
  head = omega (arith, c.in_ok-sums.ensures.heads);
  tells = record { says = λ f args. c.in_ok-sums.ensures.empty.none 0 (f ∷ args) };
  clash = refl;
}

pub returns-then-branch : goal.returns-then-branch
returns-then-branch c =
    let t = c.index-touches-i.result in
    let i = c.loop-i.i in
    let front = changes_of (take i c.args.touches.now) in
    let clash = clash_is front c.loop-i.sums c.loop-i.invariant.tells (change_in t) ∙ sym c.in_ok-add_touch.ensures.clash ∙ c.if-branch.true in
    c.loop-i.invariant.clash ∙ clashes_here c.args.touches.now i t c.loop-i-test.true c.index-touches-i.is clash

pub loop-i-preserved : goal.loop-i-preserved
loop-i-preserved c =
    let touches = c.args.touches.now in
    let t = c.index-touches-i.result in
    let i = c.loop-i.i in
    let front = changes_of (take i touches) in
    let free = clash_is front c.loop-i.sums c.loop-i.invariant.tells (change_in t) ∙ sym c.in_ok-add_touch.ensures.clash ∙ c.if-branch.false in
    let added = c.in_ok-add_touch.ensures.added c.if-branch.false in
    let within = c.loop-i-test.true in
    let is = c.index-touches-i.is in
    record {
      head = head_kept (change_in t) c.loop-i.sums c.add_touch.new.sums added c.loop-i.invariant.head;
      tells = subst (λ cs. Tells cs c.add_touch.new.sums) (sym (changes_more touches i t within is)) (tells_more front c.loop-i.sums c.add_touch.new.sums (change_in t) c.loop-i.invariant.tells free added);
      clash = c.loop-i.invariant.clash ∙ no_clash_here touches i t within is free;
    }
