use Rattle.encode_rows.proofs.AskedRows.{asked-row, asked-makes, held-truth}
use Rattle.encode_rows.proofs.row.ask.Goals as goal

pub put_row-requires : goal.put_row-requires
put_row-requires c =
    asked-row c.args.formula.now c.args.symbols.now c.args.front c.args.literal.now c.signed-truth.result
    (held-truth c.args.literal.now.1 c.args.symbols.now.truths c.as_slice.result.now c.args.literal.now.0 _ c.signed-truth.result c.as_slice.ensures c.requires.known c.signed-truth.ensures) c.requires.state

pub returns : goal.returns
returns c =
    asked-makes c.args.formula.now c.args.symbols.now c.args.front c.args.literal.now c.signed-truth.result
    (held-truth c.args.literal.now.1 c.args.symbols.now.truths c.as_slice.result.now c.args.literal.now.0 _ c.signed-truth.result c.as_slice.ensures c.requires.known c.signed-truth.ensures) _ _ c.put_row.ensures
