use Rattle.std.proofs.Common.{length}
use Rattle.std.specs.Prelude.{◌↔◌}
use Rattle.fuse_replies.specs.Records.{entry_records_in, AreListedPlus}
use Rattle.fuse_replies.proofs.listed.are_listed_plus.Given as goal

abbrev pub invariant-records : goal.invariant-records
invariant-records l = AreListedPlus l.agreed (entry_records_in l.left)
    ↔ AreListedPlus l.agreed (entry_records_in l.fn.records)

abbrev pub decreases-records : goal.decreases-records
decreases-records l = length (entry_records_in l.left)
