use Rattle.encode_rows.proofs.Standing.{row-numbered, stands-length, row-makes}
use Rattle.encode_rows.proofs.row.put_row.Goals as goal

pub add_row-requires : goal.add_row-requires
add_row-requires c = row-numbered _ c.requires.made c.requires.literals c.args.row.now (stands-length c.requires.made _ c.requires.stands) c.requires.known

pub returns : goal.returns
returns c = λ m ls s k. row-makes m ls c.args.row.now k (Unit {0}) tt _ _ s c.in_ok-add_row.ensures.added
