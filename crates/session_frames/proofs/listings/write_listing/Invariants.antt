use Rattle.std.proofs.Common.{◌≡◌, ◌||◌, None, length}
use Rattle.std.specs.Prelude.{map}
use Rattle.fuse_replies.specs.Records.{records_in}
use Rattle.fuse_sessions.specs.Warnings.{repeats_behind, last_behind}
use Rattle.session_frames.proofs.listings.write_listing.Given as goal

abbrev pub invariant-records : goal.invariant-records
invariant-records g l = record {
  repeats : l.offsets.repeats || repeats_behind l.offsets.last (map (λ r. r.off) (records_in l.left))
      ≡ repeats_behind None (map (λ r. r.off) (records_in l.fn.records));
  last : last_behind l.offsets.last (map (λ r. r.off) (records_in l.left))
      ≡ last_behind None (map (λ r. r.off) (records_in l.fn.records));
}

abbrev pub decreases-records : goal.decreases-records
decreases-records g l = length (records_in l.left)
