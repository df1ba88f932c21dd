use Rattle.std.proofs.Common.{◌≡◌, ◌++◌, ◌||◌, None, length}
use Rattle.std.specs.Prelude.{flat_map, map}
use Rattle.fuse_replies.specs.Records.{entry_records_in}
use Rattle.fuse_sessions.specs.ReplyActs.{record_acts}
use Rattle.fuse_sessions.specs.Warnings.{repeats_behind, last_behind}
use Rattle.session_frames.proofs.entries.write_records.Given as goal

abbrev pub invariant-records : goal.invariant-records
invariant-records g l = record {
  acts : l.acts.items ++ flat_map (record_acts l.fn.certain l.fn.asked) (entry_records_in l.left)
      ≡ l.fn.acts.items ++ flat_map (record_acts l.fn.certain l.fn.asked) (entry_records_in l.fn.records);
  repeats : l.offsets.repeats || repeats_behind l.offsets.last (map (λ r. r.said.off) (entry_records_in l.left))
      ≡ repeats_behind None (map (λ r. r.said.off) (entry_records_in l.fn.records));
  last : last_behind l.offsets.last (map (λ r. r.said.off) (entry_records_in l.left))
      ≡ last_behind None (map (λ r. r.said.off) (entry_records_in l.fn.records));
}

abbrev pub decreases-records : goal.decreases-records
decreases-records g l = length (entry_records_in l.left)
