-- Why a record or a pair is not written.
use Rattle.fk_wire.specs.declared.fault.WireFault.{WireFault}
use Rattle.fk_wire.specs.declared.fault.WireFault.TheVariants as faults
use Rattle.fk_wire.specs.Fields.{IsRecordName}
use Rattle.fk_wire.specs.Entries.{IsEntry}
use Rattle.fk_wire.specs.Dirents.{DirentContent, DirentPlusContent}

-- Memory runs out only for a record that has a spelling.
abbrev pub RecordRefusalIs : DirentContent → WireFault → Type 0
RecordRefusalIs d faults.Name = IsRecordName d.name → ⊥
RecordRefusalIs d faults.Memory = IsRecordName d.name
RecordRefusalIs d _ = ⊥

-- A fault of the entry comes before one of the name.
abbrev pub PlusRefusalIs : DirentPlusContent → WireFault → Type 0
PlusRefusalIs p faults.Body = IsEntry p.entry_out → ⊥
PlusRefusalIs p faults.Name = IsEntry p.entry_out × (IsRecordName p.dirent.name → ⊥)
PlusRefusalIs p faults.Memory = IsEntry p.entry_out × IsRecordName p.dirent.name
PlusRefusalIs p _ = ⊥
