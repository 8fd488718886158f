use Rattle.std.proofs.Common.{ℕ, ◌<◌, eqb, length, ◌∙◌, ap, arith}
use Rattle.std.proofs.lemmas.List.{get_or_read}
use Rattle.hierarchy.proofs.AnswerLaws.{own_ancestor}
use Rattle.hierarchy.proofs.hierarchy.Hierarchy.is_own_ancestor.Goals as goal

pub returns : goal.returns
returns c =
    let s = c.self.inside in
    let within : c.args.t < length s.parents.items = omega (arith, ap length c.self.view_is, c.requires) in
    let depth = get_or_read s.depths.items c.args.t c.index.result.now (omega (arith, c.self.invariant.lengths.depths_length, within)) c.index.ensures 0 in
    rw (← c.self.view_is) (ap (λ (d : ℕ). eqb d 0) depth ∙ own_ancestor _ _ _ _ c.self.invariant c.args.t within)
