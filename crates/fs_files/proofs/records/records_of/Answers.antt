use Rattle.std.proofs.Common.{sym}
use Rattle.fk_wire.specs.Records.{records_in}
use Rattle.fs_files.specs.Listed.{dirents_in}
use Rattle.fs_files.proofs.Listing.{dirents_are, records_read}
use Rattle.fs_files.proofs.records.records_of.Goals as goal

pub over_known-requires : goal.over_known-requires
over_known-requires c =
    let bytes = c.args.bytes.now in
    let are = c.requires.records in
    (dirents_in bytes, (are.named, records_read (dirents_in bytes) bytes are.fit are.spelled), sym c.requires.count)

pub returns : goal.returns
returns c = sym (dirents_are (records_in c.over_known.result) c.args.bytes.now c.over_known.ensures.1)
