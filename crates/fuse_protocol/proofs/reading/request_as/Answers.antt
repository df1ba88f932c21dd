use Rattle.std.proofs.Common.{arith, sym, refl, length, ◌+◌, ◌-◌}
use Rattle.fuse_protocol.proofs.Splits.{rejoin, end_length}
use Rattle.fuse_protocol.specs.Names.{names_in, spelled}
use Rattle.fuse_protocol.proofs.reading.request_as.Goals as goal

pub returns-then-is_tail-clause-ok : goal.returns-then-is_tail-clause-ok
returns-then-is_tail-clause-ok c =
    let head = c.requires in
    let row = sym c.row_alone-row.ensures.row in
    let size = sym c.size_of_struct-size.ensures.size in
    let extra = sym c.size_of_extensions-extra.ensures in
    let bytes = c.args.bytes.now in
    record {
      short = head.0.1;
      len = head.0.2;
      opcode = sym head.1;
      unique = sym c.u64_at.ensures;
      nodeid = sym c.u64_at-then-is_tail.ensures;
      whole = rw row (rw (size, extra) (omega (arith, head.0.0, c.if-bytes-size.false, c.if-bytes-size-2.false)));
      node = rw row (sym c.node_in.ensures);
      handle = rw row (sym c.handle_in.ensures);
      asked = rw row (sym c.asked_in.ensures);
      fixed = rw row (rw size refl);
      parts = rw row (rw size (rejoin bytes (spelled (names_in c.in-Some.names)) c.in-Some.tail.now (40 + c.size_of_struct-size.result)
          (length bytes - c.size_of_extensions-extra.result) (omega (arith, head.0.0, c.if-bytes-size.false, c.if-bytes-size-2.false)) c.in-Some.ensures.0));
      names = rw row c.in-Some.ensures.1;
      tail = rw row (c.if-is_tail.ensures.0 refl);
      extensions = rw extra (end_length bytes c.size_of_extensions-extra.result (omega (arith, head.0.0, c.if-bytes-size.false, c.if-bytes-size-2.false)));
    }
