use Rattle.std.proofs.Common.{◌∙◌, subst, sym, refl, IsSome}
use Rattle.formula.proofs.Indexing.{looked-up}
use Rattle.formula.proofs.formula.Formula.push_atom.Goals as goal

pub push_again-requires-clause-known : goal.push_again-requires-clause-known
push_again-requires-clause-known c =
    subst IsSome (sym (looked-up c.self.inside.index _ _ _ c.args.self.now c.in_ok-key.key c.args.a _ c.copied.result c.self.view_is c.self.invariant.1 c.in_ok-key.ensures c.get.ensures.value c.copied.ensures ∙ c.in-Some.is)) refl

pub push_first-requires-clause-first : goal.push_first-requires-clause-first
push_first-requires-clause-first c =
    looked-up c.self.inside.index _ _ _ c.args.self.now c.in_ok-key.key c.args.a _ c.copied.result c.self.view_is c.self.invariant.1 c.in_ok-key.ensures c.get.ensures.value c.copied.ensures ∙ c.in-None.is
