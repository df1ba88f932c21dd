-- The records of a listing, and the names in it.
use Rattle.std.specs.Prelude.{ℕ, true, false, List, [], ◌∷◌, map}
use Rattle.fuse_protocol.specs.declared.agreed.Agreed.{Agreed}
use Rattle.fuse_protocol.specs.declared.names.NameRule.TheVariants as rule
use Rattle.fuse_protocol.specs.Names.{IsNameBy}
use Rattle.fuse_replies.specs.declared.records.Records.{Records}
use Rattle.fuse_replies.specs.declared.records.EntryRecords.{EntryRecords}
use Rattle.fuse_replies.specs.RecordPlaces.{record_places}
use Rattle.fuse_replies.specs.Record.{RecordContent, EntryRecordContent, record_at, entry_record_at}

-- the whole records from a place on
abbrev pub records_from : ℕ → List ℕ → List RecordContent
records_from place bytes = map (record_at bytes) (record_places false place bytes)

abbrev pub entry_records_from : ℕ → List ℕ → List EntryRecordContent
entry_records_from place bytes = map (entry_record_at bytes) (record_places true place bytes)

-- the records that are left
abbrev pub records_in : Records → List RecordContent
records_in r = records_from r.place r.bytes.now

abbrev pub entry_records_in : EntryRecords → List EntryRecordContent
entry_records_in r = entry_records_from r.place r.bytes.now

-- Each name is one of a listing.
abbrev pub AreListed : Agreed → List RecordContent → Type 0
AreListed agreed [] = Unit {0}
AreListed agreed (r ∷ rs) = IsNameBy agreed rule.Listed r.name × AreListed agreed rs

abbrev pub AreListedPlus : Agreed → List EntryRecordContent → Type 0
AreListedPlus agreed [] = Unit {0}
AreListedPlus agreed (r ∷ rs) = IsNameBy agreed rule.Listed r.said.name × AreListedPlus agreed rs
