use Rattle.std.proofs.Common.{◌≡◌, ◌++◌, drop, map}
use Rattle.fk_wire.specs.Dirents.{dirents, HaveRecordNames}
use Rattle.fk_wire.specs.Fields.{InRange, spellings}
use Rattle.fs_files.specs.Listing.{written_record_of}
use Rattle.fs_files.proofs.records.record_bytes.Given as goal

abbrev pub invariant-loop-record : goal.invariant-loop-record
invariant-loop-record g l =
    record {
      items : l.bytes.items ++ spellings (dirents (map written_record_of (drop l.record-index l.records)))
          ≡ spellings (dirents (map written_record_of l.records));
      fits : InRange (dirents (map written_record_of (drop l.record-index l.records)))
          → InRange (dirents (map written_record_of l.records));
      named : HaveRecordNames (map written_record_of (drop l.record-index l.records))
          → HaveRecordNames (map written_record_of l.records);
    }
