use Rattle.std.proofs.Common.{◌∙◌, ap, sym, length, arith}
use Rattle.fuse_tables.specs.LateValues.{entries_of}
use Rattle.fuse_tables.proofs.Rows.{absent_is}
use Rattle.fuse_tables.proofs.Live.{length_less}
use Rattle.fuse_tables.proofs.LateEntries.{sorted_entries}
use Rattle.fuse_tables.proofs.rising.RisingTable.remove.Goals as goal

pub invariant_of-self : goal.invariant_of-self
invariant_of-self g c =
    let entries = entries_of c.self.inside.rows.items c.self.inside.late.entries in
    let same = c.in_default.ensures.entries ∙ absent_is entries c.args.key (sym c.in_default.ensures.value) in
    let long = ap length same in
    record {
      kept = c.in_default.ensures.kept;
      counted = omega (arith, long, c.self.invariant.counted);
      half = omega (arith, c.self.invariant.half, c.in_default.ensures.capacity);
    }

pub returns-in_default-clause-sorted : goal.returns-in_default-clause-sorted
returns-in_default-clause-sorted g c = rw (← c.self.view_is) (sorted_entries c.self.invariant.kept)

pub invariant_of-self-2 : goal.invariant_of-self-2
invariant_of-self-2 g c =
    let entries = entries_of c.self.inside.rows.items c.self.inside.late.entries in
    let there = sym c.in-Some.ensures.value in
    let less = length_less entries c.args.key c.in-Some.value (sorted_entries c.self.invariant.kept) there in
    let long = ap length c.in-Some.ensures.entries in
    record {
      kept = c.in-Some.ensures.kept;
      counted = omega (arith, long, less, c.self.invariant.counted);
      half = omega (arith, c.self.invariant.half, c.in-Some.ensures.capacity);
    }

pub returns-clause-sorted : goal.returns-clause-sorted
returns-clause-sorted g c = rw (← c.self.view_is) (sorted_entries c.self.invariant.kept)
