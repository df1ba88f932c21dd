use Rattle.std.proofs.Common.{arith}
use Rattle.fuse_tables.specs.LateValues.{entries_of}
use Rattle.fuse_tables.proofs.Live.{length_replaced}
use Rattle.fuse_tables.proofs.LateEntries.{sorted_entries}
use Rattle.fuse_tables.proofs.rising.RisingTable.replace.Goals as goal

pub invariant_of-self : goal.invariant_of-self
invariant_of-self g c =
    let old = entries_of c.self.inside.rows.items c.self.inside.late.entries in
    let new = entries_of c.replace_value.new.rows.items c.replace_value.new.late.entries in
    let long = length_replaced old new c.args.key c.args.value c.replace_value.result
    (sorted_entries c.self.invariant.kept) c.replace_value.ensures.value c.replace_value.ensures.entries
    c.replace_value.ensures.absent in
    record {
      kept = c.replace_value.ensures.kept;
      counted = omega (arith, long, c.self.invariant.counted);
      half = omega (arith, c.self.invariant.half, c.replace_value.ensures.capacity);
    }

pub returns-clause-sorted : goal.returns-clause-sorted
returns-clause-sorted g c = rw (← c.self.view_is) (sorted_entries c.self.invariant.kept)
