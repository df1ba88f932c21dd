-- What a server does that is odd, and breaks no rule of the protocol: warnings, which are nobody's fault.
use Rattle.std.specs.Prelude.{◌≡◌, ◌≢◌, ◌<◌, ◌⊎◌, ℕ, Bool, true, false, ◌&&◌, ◌||◌, IsTrue, IsFalse, Option, Some, None, List, [], ◌∷◌, ◌++◌, nat_eq, if◌then◌else◌}
use Rattle.fuse_protocol.specs.declared.opcode.Opcode.{Opcode}
use Rattle.fuse_protocol.specs.declared.opcode.Opcode.TheVariants as op
use Rattle.fuse_sessions.specs.declared.act.Act.{Act}
use Rattle.fuse_sessions.specs.declared.act.Act.TheVariants.{Faulty, Missing}
use Rattle.fuse_sessions.specs.declared.act.File.{File}
use Rattle.fuse_sessions.specs.declared.act.OpenFile.{OpenFile}
use Rattle.fuse_sessions.specs.declared.act.Taken.{Taken}
use Rattle.fuse_sessions.specs.declared.fault.Fault.TheVariants as fault
use Rattle.fuse_sessions.specs.Sessions.{Session}
use Rattle.fuse_sessions.specs.Waiting.{reaches, waits}
use Rattle.fuse_sessions.specs.Numbers.{was_read, has_several_threads, interrupts, agains}
use Rattle.fuse_sessions.specs.Counts.{most_count, known}
use Rattle.fuse_sessions.specs.OpenFiles.{opened}

-- ---- beside the session

abbrev pub IsAnotherFile : File → File → Type 0
IsAnotherFile old new = (old.generation ≡ new.generation) × ((old.kind ≢ new.kind) ⊎ (old.ino ≢ new.ino))

-- A node that is counted no more is given again for another file, under its generation. (linux/fuse.h: nodeid and
-- generation together are unique over the file system's life)
abbrev pub IsGivenAgain : Session → ℕ → File → Type 0
IsGivenAgain s node file = (most_count s node ≡ 0) × (old : File) × (known s node ≡ Some old) × IsAnotherFile old file

-- A file handle that is open is given once more. A server that keeps none gives 0.
abbrev pub IsOpenedAgain : Session → OpenFile → Type 0
IsOpenedAgain s file = (file.fh ≢ 0) × (0 < opened s file)

-- The node of which the server says that it is not there is the root, or counted.
abbrev pub IsThere : Session → ℕ → Type 0
IsThere s node = (node ≡ 1) ⊎ (0 < most_count s node)

-- A reply's error is EINTR, and no INTERRUPT of its request was read. With several threads it may come later.
abbrev pub IsInterruptedByNobody : Session → ℕ → Type 0
IsInterruptedByNobody s unique =
    IsFalse (has_several_threads s) × (waits s unique ≢ None) × (interrupts s unique ≡ 0)

-- so many INTERRUPTs of a request may be answered EAGAIN (this project's rule)
abbrev pub most_agains : ℕ
most_agains = 1000

-- One more is. The kernel interrupts anew each time: one lost reply may keep both busy for ever. (fuse.rst)
abbrev pub IsAgainTooOften : Session → ℕ → Bool → Taken → Type 0
IsAgainTooOften s original is_again t = IsTrue (is_again && reaches t) × IsTrue (was_read s original)
    × (waits s original ≢ None) × (0 < interrupts s original) × (agains s original ≡ most_agains)

-- ---- in a frame

-- ENOENT and ESTALE
abbrev pub is_missing : ℕ → Bool
is_missing errno = nat_eq errno 2 || nat_eq errno 116

-- A request that is about a node itself, or what is open of it, and has no name.
abbrev pub is_of_node : Opcode → Bool
is_of_node op.Getattr = true
is_of_node op.Setattr = true
is_of_node op.Readlink = true
is_of_node op.Open = true
is_of_node op.Read = true
is_of_node op.Write = true
is_of_node op.Fsync = true
is_of_node op.Flush = true
is_of_node op.Opendir = true
is_of_node op.Readdir = true
is_of_node op.Readdirplus = true
is_of_node op.Fsyncdir = true
is_of_node op.Access = true
is_of_node op.Fallocate = true
is_of_node op.Lseek = true
is_of_node op.Statx = true
is_of_node o = false

abbrev pub missing_acts : Opcode → (node errno : ℕ) → List Act
missing_acts o node errno = if is_of_node o && is_missing errno then Missing node errno ∷ [] else []

abbrev pub is_offset : ℕ → Option ℕ → Bool
is_offset offset None = false
is_offset offset (Some other) = nat_eq other offset

-- Two records in a row have one offset: where a listing goes on from it is not certain.
abbrev pub repeats_behind : Option ℕ → List ℕ → Bool
repeats_behind before [] = false
repeats_behind before (offset ∷ later) = is_offset offset before || repeats_behind (Some offset) later

-- the last offset, or the one before all
abbrev pub last_behind : Option ℕ → List ℕ → Option ℕ
last_behind before [] = before
last_behind before (offset ∷ later) = last_behind (Some offset) later

-- A listing gives an offset twice in a row, or its last offset is the one from which it was asked for: so the next reply
-- begins where this one began.
abbrev pub listing_acts : (asked : ℕ) → List ℕ → List Act
listing_acts asked offsets = (if repeats_behind None offsets then Faulty fault.OffsetGivenTwice ∷ [] else [])
    ++ (if is_offset asked (last_behind None offsets) then Faulty fault.ListingWithoutEnd ∷ [] else [])
