use Rattle.std.proofs.Common.{◌≡◌, ◌++◌, map}
use Rattle.fk_wire.specs.Records.{records_in}
use Rattle.fuse_frames.specs.ReplyTies.{dirent_read}
use Rattle.fk_nodes.proofs.listed_names.names_of_dirents.Given as goal

abbrev pub invariant-loop-record : goal.invariant-loop-record
invariant-loop-record g l =
    l.names ++ map dirent_read (records_in l.record-iterator) ≡ map dirent_read (records_in l.fn.records)
