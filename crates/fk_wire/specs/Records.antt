-- The records that are left in an iterator, and the faults of lists of records.
use Rattle.std.specs.Prelude.{ℕ, List}
use Rattle.fk_wire.specs.declared.records.Dirent.{Dirent}
use Rattle.fk_wire.specs.declared.records.Records.{Records}
use Rattle.fk_wire.specs.declared.records_plus.DirentPlus.{DirentPlus}
use Rattle.fk_wire.specs.declared.records_plus.RecordsPlus.{RecordsPlus}
use Rattle.fk_wire.specs.declared.fault.WireFault.{WireFault}
use Rattle.fk_wire.specs.declared.fault.WireFault.TheVariants as faults
use Rattle.fk_wire.specs.Fields.{ReadsAs}
use Rattle.fk_wire.specs.Entries.{entry_content}
use Rattle.fk_wire.specs.Dirents.{DirentContent, DirentPlusContent, dirents, dirents_from, direntpluses}
use Rattle.fk_wire.specs.Dirents.{direntpluses_from, HaveRecordNames, HavePlusNames, HaveEntries}

-- what a value of the code says
abbrev pub dirent_content : Dirent → DirentContent
dirent_content d = record { ino = d.ino; off = d.off; kind = d.kind; name = d.name.now }

-- what a pair of the code says
abbrev pub direntplus_content : DirentPlus → DirentPlusContent
direntplus_content p = record { entry_out = entry_content p.entry_out; dirent = dirent_content p.dirent }

-- the records that are left
abbrev pub records_in : Records → List DirentContent
records_in r = dirents_from r.left r.place r.bytes.now

-- the pairs that are left
abbrev pub pluses_in : RecordsPlus → List DirentPlusContent
pluses_in r = direntpluses_from r.left r.place r.bytes.now

-- The bytes from a place to the end are these records.
abbrev pub AreRecords : ℕ → List ℕ → List DirentContent → Type 0
AreRecords place bytes ds = HaveRecordNames ds × ReadsAs place (dirents ds) bytes

-- The bytes from a place to the end are these pairs.
abbrev pub AreRecordsPlus : ℕ → List ℕ → List DirentPlusContent → Type 0
AreRecordsPlus place bytes ps = HaveEntries ps × HavePlusNames ps × ReadsAs place (direntpluses ps) bytes

-- The fault of a list of records. It is in the names only where all else is right.
abbrev pub RecordsFaultIs : ℕ → List ℕ → WireFault → Type 0
RecordsFaultIs place bytes faults.Body = (ds : List DirentContent) → ReadsAs place (dirents ds) bytes → ⊥
RecordsFaultIs place bytes faults.Name = (ds : List DirentContent) × ReadsAs place (dirents ds) bytes
    × (HaveRecordNames ds → ⊥)
RecordsFaultIs place bytes _ = ⊥

-- the fault of a list of pairs
abbrev pub PlusFaultIs : ℕ → List ℕ → WireFault → Type 0
PlusFaultIs place bytes faults.Body = (ps : List DirentPlusContent) → HaveEntries ps
    → ReadsAs place (direntpluses ps) bytes → ⊥
PlusFaultIs place bytes faults.Name = (ps : List DirentPlusContent) × HaveEntries ps
    × ReadsAs place (direntpluses ps) bytes × (HavePlusNames ps → ⊥)
PlusFaultIs place bytes _ = ⊥
