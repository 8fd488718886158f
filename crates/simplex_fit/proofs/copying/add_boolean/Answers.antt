use Rattle.std.proofs.Common.{◌≡◌, true, ◌∙◌, sym, ap, subst, Option, Some}
use Rattle.std.specs.Option.{option_copied}
use Rattle.formula.specs.declared.atom.Atom.{Atom}
use Rattle.formula.specs.Atoms.{IsAtom, is_one_count}
use Rattle.formula.specs.Contents.{IsBoolean, with_boolean}
use Rattle.simplex_fit.proofs.CopyLaws.{one_count_is}
use Rattle.simplex_fit.proofs.copying.add_boolean.Goals as goal

pub returns-then-is_one_count : goal.returns-then-is_one_count
returns-then-is_one_count c =
    let given : option_copied c.args.atom ≡ Some c.in-Some.atom.now = ap option_copied c.in-Some.is in
    let atom : IsAtom c.args.copy.now.counts c.in-Some.atom.now = subst (λ (o : Option Atom). IsBoolean c.args.copy.now.counts o) given c.requires in
    let one : is_one_count c.args.copy.now.counts c.in-Some.atom.now.lin.terms ≡ true = sym c.is_one_count.ensures ∙ c.if-is_one_count.true in
    c.in_ok-add_split.ensures.added
    ∙ ap (λ (a : Atom). with_boolean (Some a) c.args.copy.now) (sym (one_count_is c.args.copy.now.counts c.in-Some.atom.now c.term.result atom one c.term.ensures).0)
    ∙ ap (λ (o : Option Atom). with_boolean o c.args.copy.now) (sym given)
