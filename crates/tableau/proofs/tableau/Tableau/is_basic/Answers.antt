use Rattle.std.proofs.Common.{arith, sym, ◌∙◌, ◌<◌, length, false}
use Rattle.std.proofs.lemmas.List.{get_or_read}
use Rattle.tableau.proofs.TableFacts.{width_is, in_basic, basic_is}
use Rattle.tableau.proofs.tableau.Tableau.is_basic.Goals as goal

pub index-requires : goal.index-requires
index-requires c = in_basic c.self.inside c.self.invariant _ c.self.view_is _ c.requires

pub returns : goal.returns
returns c =
    let h : c.args.v < length c.self.inside.basic.items = omega (arith, c.requires, width_is c.self.inside c.self.invariant _ c.self.view_is) in
    get_or_read c.self.inside.basic.items _ _ h c.index.ensures false ∙ sym (basic_is c.self.inside c.self.invariant _ c.self.view_is c.args.v)
