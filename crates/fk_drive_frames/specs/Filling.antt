-- Which fields of a frame are filled, and frames that differ in one field.
use Rattle.std.specs.Prelude.{◌≡◌, ◌+◌, ◌-◌, ◌^◌, ℕ, List, drop, length, take, bit_and, bit_or}
use Rattle.fk_wire.specs.Fields.{number_at}
use Rattle.fk_wire.specs.Requests.{RequestContent, create, init, known_flags, opening, readdir, readdirplus}
use Rattle.fk_drive_frames.specs.declared.filling.FreeFields.{FreeFields}
use Rattle.fk_drive_frames.specs.declared.filling.Filled.{Filled}
use Rattle.fk_drive_frames.specs.declared.filling.Filled.TheVariants.{Open, Create, Init}

-- A request is of this kind.
abbrev pub IsFilled : Filled → RequestContent → Type 0
IsFilled Open opening = Unit {0}
IsFilled Create (create name) = Unit {0}
IsFilled Init (init major minor flags) = Unit {0}
IsFilled other content = ⊥

-- A request lists a directory.
abbrev pub IsListing : RequestContent → Type 0
IsListing (readdir offset size) = Unit {0}
IsListing (readdirplus offset size) = Unit {0}
IsListing content = ⊥

-- This many bytes at a place are others, and the rest is the same.
pub record ChangesOnly (place width : ℕ) (old new : List ℕ) : Type 0 where
  pub long : length new ≡ length old
  pub before : take place new ≡ take place old
  pub after : drop (place + width) new ≡ drop (place + width) old

-- O_CREAT | O_LARGEFILE | O_RDWR, as a kernel sends them in CREATE. (open(2), fcntl.h of x86-64)
abbrev pub create_flags : ℕ
create_flags = 0x8042

-- Flags of INIT, with those that are offered beside them, except the flags that are read. (struct fuse_init_in)
abbrev pub with_offered : (flags offer : ℕ) → ℕ
with_offered flags offer = bit_or flags (bit_and offer (2 ^ 32 - 1 - known_flags))

-- The frame of a request that asks this is filled: OPEN and CREATE have their flags, INIT offers flags beside the
-- kernel's own, and any other stays as it is.
abbrev pub FillsFor : RequestContent → FreeFields → (old new : List ℕ) → Type 0
FillsFor opening free_fields old new = ChangesOnly 40 4 old new × (number_at 40 4 new ≡ free_fields.open_flags)
FillsFor (create name) free_fields old new = ChangesOnly 40 4 old new × (number_at 40 4 new ≡ create_flags)
FillsFor (init major minor flags) free_fields old new = ChangesOnly 52 4 old new
    × (number_at 52 4 new ≡ with_offered (number_at 52 4 old) free_fields.offer)
FillsFor other free_fields old new = new ≡ old
