-- The value is what the head's table has at the arguments.
use Rattle.std.proofs.Common.{◌≡◌, ◌∙◌, ◌<◌, length, get_or, subst}
use Rattle.ground_map.proofs.Values.{value_at-table, within_seen}
use Rattle.ground_map.proofs.map.GroundMap.get.Goals as goal

pub returns : goal.returns
returns g c =
    let table = c.in_ok-table.table.now in
    let tables = c.self.inside.tables.items in
    let read : table ≡ get_or tables c.args.head table = subst (λ l. table ≡ get_or l c.args.head table) c.deref.ensures.value c.in_ok-table.ensures.lookup.1 in
    let inside : c.args.head < length tables = subst (λ l. c.args.head < length l) c.deref.ensures.value c.in_ok-table.ensures.lookup.3.0 in
    c.copied.ensures ∙ c.get-2.ensures.value ∙ value_at-table tables _ c.self.view_is c.args.head c.args.args.now table read (within_seen tables _ c.self.view_is c.args.head inside)
