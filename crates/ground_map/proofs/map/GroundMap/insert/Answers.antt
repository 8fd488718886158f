-- The table takes the value, or keeps its entries.
use Rattle.std.proofs.Common.{subst, Some}
use Rattle.std.specs.HashMap.{UpdatesBy}
use Rattle.ground_map.proofs.Values.{IsPut-tables, IsSame-tables, on_err, has_args, same_key}
use Rattle.ground_map.proofs.map.GroundMap.insert.Goals as goal

pub returns-in_err-insert-clause-err : goal.returns-in_err-insert-clause-err
returns-in_err-insert-clause-err g c =
    on_err c.from_residual-in_err-insert.result
    (IsSame-tables c.self.inside.tables.items _ c.self.view_is c.args.head c.index_mut.result.now c.insert.new.self c.index_mut.ensures.value c.requires c.in_err-insert.ensures.err)

pub returns-clause-ok : goal.returns-clause-ok
returns-clause-ok g c =
    IsPut-tables c.self.inside.tables.items _ c.self.view_is c.args.head c.args.args.now c.args.value c.index_mut.result.now c.insert.new.self c.index_mut.ensures.value c.requires
    (subst (λ xs. UpdatesBy same_key (has_args xs) c.index_mut.result.now c.insert.new.self (Some c.args.value)) c.in_ok-args.ensures.items c.in_ok-insert.ensures.updates)
