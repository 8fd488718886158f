use Rattle.std.proofs.Common.{◌≡◌, ◌∙◌, List, Option, Some, None, length, subst, sym, ap}
use Rattle.formula.specs.declared.atom.Atom.{Atom}
use Rattle.formula.specs.Atoms.{IsAtom}
use Rattle.formula.specs.Contents.{Contents, IsFormula}
use Rattle.formula.specs.Equal.{boolean_of}
use Rattle.formula.proofs.Growing.{pushed-boolean}
use Rattle.formula.proofs.Indexing.{index-first}
use Rattle.formula.proofs.formula.Formula.push_first.Goals as goal

pub invariant_of-self-in_err-push : goal.invariant_of-self-in_err-push
invariant_of-self-in_err-push c = (
  subst (λ (xs : List (Option Atom)). IsFormula (record { counts = c.self.inside.counts; atoms = xs; clauses = c.self.inside.clauses })) (sym c.in_err-push.ensures.err) c.self.invariant.0,
  λ key a k. c.reserve.ensures.entries.2 key ∙ c.self.invariant.1 key a k ∙ ap (λ (xs : List (Option Atom)). boolean_of a xs) (sym c.in_err-push.ensures.err),
)

pub invariant_of-self-2 : goal.invariant_of-self-2
invariant_of-self-2 c = (
  pushed-boolean _ _ _ _ (Some c.args.a) c.self.invariant.0 (subst (λ (f : Contents). IsAtom f.counts c.args.a) (sym c.self.view_is) c.requires.atom) c.in_ok-push.ensures.ok,
  index-first c.reserve.new.self c.put.new.index c.args.key _ _ c.args.a c.booleans-number.result (λ key b k. c.reserve.ensures.entries.2 key ∙ c.self.invariant.1 key b k)
      (subst (λ (f : Contents). boolean_of c.args.a f.atoms ≡ None) (sym c.self.view_is) c.requires.first) c.requires.key
      (c.booleans-number.ensures ∙ ap (λ (f : Contents). length f.atoms) (sym c.self.view_is)) c.put.ensures.0 c.in_ok-push.ensures.ok,
)
