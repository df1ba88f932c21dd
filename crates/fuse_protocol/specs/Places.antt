-- Where further numbers stand in the requests' structs, as linux/fuse.h has them.
use Rattle.std.specs.Prelude.{◌≤◌, ℕ, ◌+◌, nat_le, if◌then◌else◌, List, length, Option, Some, None}
use Rattle.fk_fields.specs.Fields.{number_at}
use Rattle.fuse_protocol.specs.declared.opcode.Opcode.{Opcode}
use Rattle.fuse_protocol.specs.declared.opcode.Opcode.TheVariants as op
use Rattle.fuse_protocol.specs.declared.place.Width.{Width}
use Rattle.fuse_protocol.specs.declared.place.Width.TheVariants as width
use Rattle.fuse_protocol.specs.declared.place.Place.{Place}
use Rattle.fuse_protocol.specs.declared.places.Places.{Places}

-- how many bytes a number has
abbrev pub bytes_in : Width → ℕ
bytes_in width.Four = 4
bytes_in width.Eight = 8

-- where a place ends
abbrev pub place_end : Option Place → ℕ
place_end None = 0
place_end (Some place) = place.at + bytes_in place.width

-- the number at a place, if the place lies in the bytes
abbrev pub number_in : Option Place → List ℕ → Option ℕ
number_in None bytes = None
number_in (Some place) bytes = if nat_le (place.at + bytes_in place.width) (length bytes)
    then Some (number_at place.at (bytes_in place.width) bytes) else None

-- words of the table: a place with its width
abbrev four : ℕ → Option Place
four at = Some (record { at = at; width = width.Four })

abbrev eight : ℕ → Option Place
eight at = Some (record { at = at; width = width.Eight })

-- no number further
abbrev nowhere : Places
nowhere = record { forgotten = None; interrupted = None; offset = None; size = None; mode = None; flags = None }

-- The table, a line an opcode; the others have no further number.
abbrev pub places_at : Opcode → Places
places_at op.Forget = record nowhere { forgotten = eight 0 }
places_at op.Getattr = record nowhere { flags = four 0 }
places_at op.Setattr = record nowhere { flags = four 0; size = eight 16; mode = four 68 }
places_at op.Mknod = record nowhere { mode = four 0 }
places_at op.Mkdir = record nowhere { mode = four 0 }
places_at op.Open = record nowhere { flags = four 0 }
places_at op.Read = record nowhere { offset = eight 8; size = four 16; flags = four 32 }
places_at op.Write = record nowhere { offset = eight 8; size = four 16; flags = four 32 }
places_at op.Release = record nowhere { flags = four 8 }
places_at op.Fsync = record nowhere { flags = four 8 }
places_at op.Setxattr = record nowhere { size = four 0; flags = four 4 }
places_at op.Getxattr = record nowhere { size = four 0 }
places_at op.Listxattr = record nowhere { size = four 0 }
places_at op.Init = record nowhere { flags = four 12 }
places_at op.Opendir = record nowhere { flags = four 0 }
places_at op.Readdir = record nowhere { offset = eight 8; size = four 16; flags = four 32 }
places_at op.Releasedir = record nowhere { flags = four 8 }
places_at op.Fsyncdir = record nowhere { flags = four 8 }
places_at op.Getlk = record nowhere { offset = eight 16; flags = four 40 }
places_at op.Setlk = record nowhere { offset = eight 16; flags = four 40 }
places_at op.Setlkw = record nowhere { offset = eight 16; flags = four 40 }
places_at op.Access = record nowhere { mode = four 0 }
places_at op.Create = record nowhere { flags = four 0; mode = four 4 }
places_at op.Interrupt = record nowhere { interrupted = eight 0 }
places_at op.Ioctl = record nowhere { flags = four 8; size = four 24 }
places_at op.Poll = record nowhere { flags = four 16 }
places_at op.NotifyReply = record nowhere { offset = eight 8; size = four 16 }
places_at op.Fallocate = record nowhere { offset = eight 8; size = eight 16; mode = four 24 }
places_at op.Readdirplus = record nowhere { offset = eight 8; size = four 16; flags = four 32 }
places_at op.Rename2 = record nowhere { flags = four 8 }
places_at op.Lseek = record nowhere { offset = eight 8 }
places_at op.CopyFileRange = record nowhere { offset = eight 8; size = eight 40; flags = eight 48 }
places_at op.Setupmapping = record nowhere { offset = eight 8; size = eight 16; flags = eight 24 }
places_at op.Tmpfile = record nowhere { flags = four 0; mode = four 4 }
places_at op.Statx = record nowhere { flags = four 0 }
places_at op.CopyFileRange64 = record nowhere { offset = eight 8; size = eight 40; flags = eight 48 }
places_at _ = nowhere

-- Each place ends within so many bytes.
abbrev pub LieWithin : ℕ → Places → Type 0
LieWithin size places = (place_end places.forgotten ≤ size) × (place_end places.interrupted ≤ size)
    × (place_end places.offset ≤ size) × (place_end places.size ≤ size) × (place_end places.mode ≤ size)
    × (place_end places.flags ≤ size)
