-- Facts of which there is one proof at most.
use Rattle.std.proofs.Common.{ℕ, List, [], ◌∷◌}
use Rattle.std.proofs.Props.{props}
use Rattle.fk_wire.specs.Dirents.{DirentContent, dirents, HaveRecordNames}
use Rattle.fk_wire.specs.Fields.{Field, InRange, IsRecordName, holds, free, bits, named, raw}
use Rattle.fs_files.specs.Listed.{AreRecordBytes, dirents_in}

IsRecordName-prop : (name : List ℕ) → IsProp (IsRecordName name)
IsRecordName-prop name = hlevel props

HaveRecordNames-prop : (ds : List DirentContent) → IsProp (HaveRecordNames ds)
HaveRecordNames-prop [] = hlevel props
HaveRecordNames-prop (d ∷ ds) = hlevel (props, IsRecordName-prop, HaveRecordNames-prop ds)

InRange-prop : (fields : List Field) → IsProp (InRange fields)
InRange-prop [] = hlevel props
InRange-prop (holds width value ∷ fields) = hlevel (props, InRange-prop fields)
InRange-prop (free width value ∷ fields) = InRange-prop fields
InRange-prop (bits mask value ∷ fields) = hlevel (props, InRange-prop fields)
InRange-prop (named name ∷ fields) = InRange-prop fields
InRange-prop (raw data' ∷ fields) = InRange-prop fields

pub AreRecordBytes-prop : (bytes : List ℕ) → IsProp (AreRecordBytes bytes)
AreRecordBytes-prop bytes = hlevel (
  props,
  HaveRecordNames-prop (dirents_in bytes),
  InRange-prop (dirents (dirents_in bytes)),
)
