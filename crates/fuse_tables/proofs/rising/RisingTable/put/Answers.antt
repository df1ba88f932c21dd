use Rattle.std.proofs.Common.{◌≡◌, ap, length, None, arith}
use Rattle.fuse_spec.specs.Values.Maps.{get}
use Rattle.fuse_tables.specs.LateValues.{entries_of}
use Rattle.fuse_tables.proofs.Live.{length_more}
use Rattle.fuse_tables.proofs.LateEntries.{sorted_entries}
use Rattle.fuse_tables.proofs.rising.RisingTable.put.Goals as goal

pub invariant_of-self : goal.invariant_of-self
invariant_of-self g c =
    let entries = entries_of c.self.inside.rows.items c.self.inside.late.entries in
    let absent : get entries c.args.key ≡ None = rw (← c.self.view_is) at c.requires.absent in
    let more = length_more entries c.args.key c.args.value (sorted_entries c.self.invariant.kept) absent in
    let grown = ap length c.put_value.ensures.entries in
    let room = rw (← c.self.view_is) at c.requires.room in
    record {
      kept = c.put_value.ensures.kept;
      counted = omega (arith, more, grown, c.self.invariant.counted);
      half = omega (arith, room, c.put_value.ensures.capacity);
    }
