use Rattle.std.proofs.Common.{length}
use Rattle.std.specs.Prelude.{◌↔◌}
use Rattle.fuse_replies.specs.Records.{records_in, AreListed}
use Rattle.fuse_replies.proofs.listed.are_listed.Given as goal

abbrev pub invariant-records : goal.invariant-records
invariant-records l = AreListed l.agreed (records_in l.left) ↔ AreListed l.agreed (records_in l.fn.records)

abbrev pub decreases-records : goal.decreases-records
decreases-records l = length (records_in l.left)
