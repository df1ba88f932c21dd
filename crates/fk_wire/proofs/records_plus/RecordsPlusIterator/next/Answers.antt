use Rattle.std.proofs.Common.{◌<◌, true, arith}
use Rattle.fk_wire.proofs.RecordLists.{first_inside, first_name, first_time}
use Rattle.fk_wire.proofs.records_plus.RecordsPlusIterator.next.Goals as goal

pub first_record-end-requires : goal.first_record-end-requires
first_record-end-requires c = (first_inside true c.args.self.now.left c.args.self.now.place c.args.self.now.bytes.now
    (omega arith) c.args.self.now.ends).1

pub entry_at-entry_out-requires : goal.entry_at-entry_out-requires
entry_at-entry_out-requires c = let k =
    first_inside true c.args.self.now.left c.args.self.now.place c.args.self.now.bytes.now
    (omega arith) c.args.self.now.ends in omega (arith, k.0, k.1)

pub invariant_of-self : goal.invariant_of-self
invariant_of-self c =
    let some : 0 < c.args.self.now.left = omega arith in
    record {
      ends = rw c.first_record-end.ensures.end
          (first_inside true c.args.self.now.left c.args.self.now.place c.args.self.now.bytes.now some c.args.self.now.ends).2;
      named = rw c.first_record-end.ensures.end
          ((first_name true c.args.self.now.left c.args.self.now.place c.args.self.now.bytes.now some).0 c.args.self.now.named).1;
      timed = rw c.first_record-end.ensures.end
          ((first_time c.args.self.now.left c.args.self.now.place c.args.self.now.bytes.now some).0 c.args.self.now.timed).1;
    }
