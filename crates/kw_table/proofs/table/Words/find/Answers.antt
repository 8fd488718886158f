use Rattle.std.proofs.Common.{rules}
use Rattle.std.proofs.lemmas.Fn.{always_returns_same}
use Rattle.kw_table.specs.Table.{byte_order}
use Rattle.kw_table.proofs.Sorting.{finds}
use Rattle.kw_table.proofs.table.Words.find.Goals as goal

pub returns-clause-found : goal.returns-clause-found
returns-clause-found g c =
    finds g.W.AsStr.text c.args.word.now c.args.self.now.words c.binary_search_by.result c.ok.result c.requires c.ok.ensures.value c.binary_search_by.ensures.bound
    (c.binary_search_by.ensures.position (λ y. byte_order (g.W.AsStr.text y) c.args.word.now) (always_returns_same _ _ _ (λ a r f' called. search rules)))
