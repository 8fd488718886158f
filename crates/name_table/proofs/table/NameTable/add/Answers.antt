-- The set tells whether a key has the name's bytes, and a new key goes last.
use Rattle.std.proofs.Common.{◌∙◌, sym, ap, not}
use Rattle.name_table.proofs.Numbers.{has_number-keys, with_name-there, with_name-new}
use Rattle.name_table.proofs.table.NameTable.add.Goals as goal

pub returns-then-contains-clause-added : goal.returns-then-contains-clause-added
returns-then-contains-clause-added c =
    ap not (sym c.if-contains.true ∙ c.contains.ensures ∙ has_number-keys c.self.inside.names.keys _ c.args.name.now c.self.view_is)

pub returns-then-contains-clause-names : goal.returns-then-contains-clause-names
returns-then-contains-clause-names c =
    with_name-there _ c.args.name.now (sym (has_number-keys c.self.inside.names.keys _ c.args.name.now c.self.view_is) ∙ sym c.contains.ensures ∙ c.if-contains.true)

pub returns-clause-added : goal.returns-clause-added
returns-clause-added c =
    ap not (sym c.if-contains.false ∙ c.contains.ensures ∙ has_number-keys c.self.inside.names.keys _ c.args.name.now c.self.view_is)

pub returns-clause-names : goal.returns-clause-names
returns-clause-names c =
    with_name-new c.self.inside.names.keys c.insert.new.self.keys _ c.args.name.now c.in_ok-name.name c.self.view_is c.in_ok-name.ensures.ok
    (sym c.contains.ensures ∙ c.if-contains.false) c.in_ok-insert.ensures.keys
