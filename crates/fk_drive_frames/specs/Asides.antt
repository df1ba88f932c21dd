-- Frames of a server that are not for the kernel.
use Rattle.std.specs.Prelude.{◌≡◌, ◌≤◌, ◌<◌, ◌^◌, ◌⊎◌, ℕ, List, length}
use Rattle.std.specs.Int.{cast_unsigned, w32}
use Rattle.fk_wire.specs.Fields.{number_at}
use Rattle.fk_wire.specs.ReplyFaults.{HasReplyLength}
use Rattle.fuse_frames.specs.DecodedReplies.{HasReplyHead, head_unique}
use Rattle.fk_drive_frames.specs.OwnRequests.{first_opendir_unique}
use Rattle.fk_drive_frames.specs.declared.aside.OtherFrame.{OtherFrame}
use Rattle.fk_drive_frames.specs.declared.aside.OtherFrame.TheVariants as other

-- A notification: it has number 0, and a positive code where a reply has its error. (linux/fuse.h, fuse_notify_code)
pub record IsNotification (bytes : List ℕ) : Type 0 where
  pub whole : HasReplyLength bytes
  pub unasked : number_at 8 8 bytes ≡ 0
  pub code : 0 < number_at 4 4 bytes
  pub positive : number_at 4 4 bytes < 2 ^ 31

-- A reply to a request that is not the kernel's: it has a number of those before the coming one.
pub record IsOpendirReply (next : ℕ) (bytes : List ℕ) : Type 0 where
  pub head : HasReplyHead bytes
  pub own : first_opendir_unique ≤ head_unique bytes
  pub allocated : head_unique bytes < next

-- Either is not for the kernel.
abbrev pub IsOtherFrame : (next : ℕ) → List ℕ → Type 0
IsOtherFrame next bytes = IsNotification bytes ⊎ IsOpendirReply next bytes

-- What is said of such a frame is what it has.
abbrev pub SaysOtherFrame : (next : ℕ) → List ℕ → OtherFrame → Type 0
SaysOtherFrame next bytes (other.Notification code len) =
    IsNotification bytes × (code ≡ number_at 4 4 bytes) × (len ≡ length bytes)
SaysOtherFrame next bytes (other.OpendirReply unique error len) =
    IsOpendirReply next bytes × (unique ≡ head_unique bytes) × (cast_unsigned w32 error ≡ number_at 4 4 bytes)
    × (len ≡ length bytes)
