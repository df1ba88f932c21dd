use Rattle.fuse_replies.proofs.RecordLists.{no_more_plus, one_more_plus, fewer_plus}
use Rattle.fuse_replies.proofs.records.EntryRecordsIterator.next.Goals as goal

pub returns-in_default-clause-steps : goal.returns-in_default-clause-steps
returns-in_default-clause-steps c =
    let none = no_more_plus c.args.self.now.place c.args.self.now.bytes.now c.in_default.ensures in (none, none)

pub returns-clause-steps : goal.returns-clause-steps
returns-clause-steps c =
    let more = one_more_plus c.args.self.now.place c.args.self.now.bytes.now c.in-Some.ensures.0 in
    let entry = c.entry_at-entry.ensures in
    let said = c.record_in-record.ensures in
    let there = c.in-Some.ensures.1 in
    cc

pub returns-clause-goes : goal.returns-clause-goes
returns-clause-goes c = record {
  on = λ _. (tt, tt, fewer_plus c.in-Some.end c.args.self.now.place c.args.self.now.bytes.now c.in-Some.ensures.0 c.in-Some.ensures.1);
  keeps = tt;
  rests = λ _. tt;
}
