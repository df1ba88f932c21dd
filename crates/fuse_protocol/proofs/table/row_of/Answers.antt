use Rattle.std.proofs.Common.{refl}
use Rattle.fuse_protocol.proofs.RowPlaces.{places_in_struct}
use Rattle.fuse_protocol.proofs.table.row_of.Goals as goal

pub returns : goal.returns
returns c =
    let lie = places_in_struct c.args.opcode in
    rw c.listed_row.ensures record {
      row = refl;
      node = lie.node;
      handle = lie.handle;
      asked = lie.asked;
      tail = lie.tail;
    }
