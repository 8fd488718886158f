-- The table has a value there, so it lends its place.
use Rattle.std.proofs.Common.{◌≡◌, ◌∙◌, subst, ap, refl, is_some, IsSome, true, false}
use Rattle.ground_map.proofs.Values.{value_at-table, IsPut-tables, within_heads}
use Rattle.ground_map.proofs.map.GroundMap.put.Goals as goal

pub unreachable-requires : goal.unreachable-requires
unreachable-requires g c =
    let there = value_at-table c.self.inside.tables.items _ c.self.view_is c.args.head c.args.args.now c.index_mut.result.now c.index_mut.ensures.value (within_heads _ _ _ c.requires) in
    let never : false ≡ true = ap is_some (c.in_default.ensures.value ∙ there) ∙ c.requires in
    cc

pub returns : goal.returns
returns g c =
    IsPut-tables c.self.inside.tables.items _ c.self.view_is c.args.head c.args.args.now c.args.value c.index_mut.result.now (c.get_mut.follows.lender c.args.value)
    c.index_mut.ensures.value (within_heads _ _ _ c.requires) ((c.get_mut.follows.holds c.args.value).3 (subst IsSome c.in-Some.ensures.value refl))
