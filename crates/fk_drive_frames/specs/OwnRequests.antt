-- Requests that are not the kernel's: OPENDIR and RELEASEDIR, without which many servers cannot list a directory.
use Rattle.std.specs.Prelude.{◌≡◌, ◌≢◌, ◌<◌, ◌⊎◌, ℕ, ℤ, pos, negsuc, ◌^◌, List, [], ◌∷◌, ◌++◌}
use Rattle.fk_wire.specs.declared.opcode.Opcode.TheVariants as op
use Rattle.fk_wire.specs.Fields.{Field, u32, u64, spellings}
use Rattle.fk_wire.specs.Replies.{IsErrorNumber, SpellsReply, ReplyMessage, empty_reply, open_reply}
use Rattle.fk_wire.specs.Requests.{header}
use Rattle.fuse_frames.specs.DecodedReplies.{HasReplyHead, head_unique}
use Rattle.fuse_spec.specs.declared.Opened.{Opened}
use Rattle.fuse_spec.specs.Files.Operations as operation
use Rattle.fuse_spec.specs.Kernel.Messages.{RequestBody, asks}
use Rattle.fk_drive_frames.specs.declared.opendir_reply.OpendirSaid.{OpendirSaid}
use Rattle.fk_drive_frames.specs.declared.opendir_reply.OpendirSaid.TheVariants as said

-- The first number of such a request. The kernel's own end below it. (this project's rule)
abbrev pub first_opendir_unique : ℕ
first_opendir_unique = 2 ^ 62

-- A request lists this node: READDIR and READDIRPLUS.
pub data ListsNode : RequestBody → ℕ → Type 0 where
  readdir : (node after size : ℕ) → ListsNode (asks (operation.readdir node after size)) node
  readdirplus : (node after size : ℕ) → ListsNode (asks (operation.readdirplus node after size)) node

-- OPENDIR (opcode 27), a struct fuse_open_in: flags, O_DIRECTORY; unused.
abbrev pub opendir_fields : (unique node : ℕ) → List Field
opendir_fields unique node = header 48 27 unique (u64 node) ++ u32 0x10000 ∷ u32 0 ∷ []

-- RELEASEDIR (opcode 29), a struct fuse_release_in: fh; flags, O_DIRECTORY; release_flags; lock_owner.
abbrev pub releasedir_fields : (unique : ℕ) → Opened → List Field
releasedir_fields unique opened = header 64 29 unique (u64 opened.nodeid)
    ++ u64 opened.fh ∷ u32 0x10000 ∷ u32 0 ∷ u64 0 ∷ []

-- The bytes are the one frame of it, whose node fits its field.
abbrev pub IsOpendir : List ℕ → (unique node : ℕ) → Type 0
IsOpendir bytes unique node = (node < 2 ^ 64) × (bytes ≡ spellings (opendir_fields unique node))

abbrev pub IsReleasedir : List ℕ → (unique : ℕ) → Opened → Type 0
IsReleasedir bytes unique opened = (opened.nodeid < 2 ^ 64) × (opened.fh < 2 ^ 64)
    × (bytes ≡ spellings (releasedir_fields unique opened))

-- A reply to OPENDIR gives this fh: its body is that of a reply to OPEN, struct fuse_open_out.
abbrev pub GivesHandle : List ℕ → (unique fh : ℕ) → Type 0
GivesHandle bytes unique fh = SpellsReply op.Open bytes
    (record { unique = unique; error = pos 0; content = open_reply fh })

-- It is this error.
abbrev pub GivesError : List ℕ → (unique : ℕ) → ℤ → Type 0
GivesError bytes unique error = SpellsReply op.Open bytes
    (record { unique = unique; error = error; content = empty_reply })

-- It is no reply to OPENDIR.
abbrev pub GivesNothing : List ℕ → Type 0
GivesNothing bytes = (reply : ReplyMessage) → SpellsReply op.Open bytes reply → ⊥

-- ENOSYS and EIO, as error replies have them
abbrev pub not_known : ℤ
not_known = negsuc 37

abbrev pub eio_error : ℤ
eio_error = negsuc 4

-- What it says is no error, or one as error replies have it.
abbrev pub IsErrorSaid : OpendirSaid → Type 0
IsErrorSaid (said.Handle fh) = Unit {0}
IsErrorSaid said.NotKnown = Unit {0}
IsErrorSaid (said.Failed error) = IsErrorNumber error

-- A frame is the reply to the OPENDIR under this number, and says this. What is no reply to OPENDIR counts as EIO (this
-- project's rule).
abbrev pub SaysOfOpendir : List ℕ → ℕ → OpendirSaid → Type 0
SaysOfOpendir bytes unique (said.Handle fh) = GivesHandle bytes unique fh
SaysOfOpendir bytes unique said.NotKnown = GivesError bytes unique not_known
SaysOfOpendir bytes unique (said.Failed error) = ((error ≢ not_known) × GivesError bytes unique error)
    ⊎ (HasReplyHead bytes × (head_unique bytes ≡ unique) × GivesNothing bytes × (error ≡ eio_error))
