use Rattle.std.proofs.Common.{ℕ, ◌<◌, eqb, length, get_or, ◌∙◌, ap, arith}
use Rattle.std.proofs.lemmas.List.{get_or_read}
use Rattle.hierarchy.specs.Hierarchy.{is_below}
use Rattle.hierarchy.proofs.AnswerLaws.{below_circle, step_same, jump_same, end_same, jump_in_range}
use Rattle.hierarchy.proofs.hierarchy.Hierarchy.below.Goals as goal

pub returns-then-depth-eq0 : goal.returns-then-depth-eq0
returns-then-depth-eq0 c =
    let s = c.self.inside in
    let lengths = c.self.invariant.lengths in
    let t_in : c.args.t < length s.parents.items = omega (arith, ap length c.self.view_is, c.requires.below) in
    let u_in : c.args.u < length s.parents.items = omega (arith, ap length c.self.view_is, c.requires.above) in
    let depth = get_or_read s.depths.items c.args.u c.index-depth.result.now (omega (arith, lengths.depths_length, u_in)) c.index-depth.ensures 0 in
    let one = get_or_read s.circles.items c.args.t c.index.result.now (omega (arith, lengths.circles_length, t_in)) c.index.ensures 0 in
    let other = get_or_read s.circles.items c.args.u c.index-then-depth-eq0.result.now (omega (arith, lengths.circles_length, u_in)) c.index-then-depth-eq0.ensures 0 in
    rw (← c.self.view_is)
    (ap (λ (n : ℕ). eqb n c.index-then-depth-eq0.result.now) one ∙ ap (λ (n : ℕ). eqb (get_or s.circles.items c.args.t 0) n) other
    ∙ below_circle _ _ _ _ c.self.invariant c.args.t c.args.u t_in u_in (omega (arith, depth, c.if-depth-eq0.true)))

pub index-requires-in-climb-2 : goal.index-requires-in-climb-2
index-requires-in-climb-2 c =
    let s = c.self.inside in
    let lengths = c.self.invariant.lengths in
    let jump = get_or_read s.jumps.items c.climb.at c.index-jump.result.now (omega (arith, lengths.jumps_length, c.climb.invariant.within)) c.index-jump.ensures 0 in
    omega (arith, jump, jump_in_range _ _ _ _ c.self.invariant c.climb.at c.climb.invariant.within, lengths.depths_length, s.depths.ok.0)

pub climb-preserved-then-index-depth : goal.climb-preserved-then-index-depth
climb-preserved-then-index-depth c =
    let s = c.self.inside in
    let lengths = c.self.invariant.lengths in
    let u_in : c.args.u < length s.parents.items = omega (arith, ap length c.self.view_is, c.requires.above) in
    let depth = get_or_read s.depths.items c.args.u c.index-depth.result.now (omega (arith, lengths.depths_length, u_in)) c.index-depth.ensures 0 in
    let jump = get_or_read s.jumps.items c.climb.at c.index-jump.result.now (omega (arith, lengths.jumps_length, c.climb.invariant.within)) c.index-jump.ensures 0 in
    let jump_in = jump_in_range _ _ _ _ c.self.invariant c.climb.at c.climb.invariant.within in
    let there = get_or_read s.depths.items c.index-jump.result.now c.index-in-climb-2.result.now (omega (arith, jump, jump_in, lengths.depths_length)) c.index-in-climb-2.ensures 0
    ∙ ap (λ (n : ℕ). get_or s.depths.items n 0) jump in
    let same = jump_same _ _ _ _ c.self.invariant c.climb.at c.args.u c.climb.invariant.within (omega (arith, depth, c.if-depth-eq0.false)) u_in (omega (arith, depth, there, c.if-index-depth.true)) in
    record {
      within = omega (arith, jump, jump_in);
      below = ap (λ (n : ℕ). is_below s.parents.items n c.args.u) jump ∙ same ∙ c.climb.invariant.below;
    }

pub climb-preserved : goal.climb-preserved
climb-preserved c =
    let s = c.self.inside in
    let lengths = c.self.invariant.lengths in
    let u_in : c.args.u < length s.parents.items = omega (arith, ap length c.self.view_is, c.requires.above) in
    let depth = get_or_read s.depths.items c.args.u c.index-depth.result.now (omega (arith, lengths.depths_length, u_in)) c.index-depth.ensures 0 in
    let here = get_or_read s.depths.items c.climb.at c.index-in-climb.result.now (omega (arith, lengths.depths_length, c.climb.invariant.within)) c.index-in-climb.ensures 0 in
    let next = get_or_read s.parents.items c.climb.at c.index-else-index-depth.result.now c.climb.invariant.within c.index-else-index-depth.ensures 0 in
    let same = step_same _ _ _ _ c.self.invariant c.climb.at c.args.u c.climb.invariant.within (omega (arith, depth, here, c.climb-test.true)) in
    record {
      within = omega (arith, next, lengths.hierarchy c.climb.at c.climb.invariant.within);
      below = ap (λ (n : ℕ). is_below s.parents.items n c.args.u) next ∙ same ∙ c.climb.invariant.below;
    }

pub returns : goal.returns
returns c =
    let s = c.self.inside in
    let lengths = c.self.invariant.lengths in
    let u_in : c.args.u < length s.parents.items = omega (arith, ap length c.self.view_is, c.requires.above) in
    let depth = get_or_read s.depths.items c.args.u c.index-depth.result.now (omega (arith, lengths.depths_length, u_in)) c.index-depth.ensures 0 in
    let here = get_or_read s.depths.items c.climb.at c.index-in-climb.result.now (omega (arith, lengths.depths_length, c.climb.invariant.within)) c.index-in-climb.ensures 0 in
    rw (← c.self.view_is)
    (end_same _ _ _ _ c.self.invariant c.climb.at c.args.u c.climb.invariant.within (omega (arith, depth, c.if-depth-eq0.false)) (omega (arith, depth, here, c.climb-test.false)) ∙ c.climb.invariant.below)
