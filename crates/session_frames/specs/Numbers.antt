-- The numbers of transfers.
use Rattle.std.specs.Prelude.{◌≡◌, ◌≤◌, ℕ, length}
use Rattle.fuse_sessions.specs.declared.transfer.Transfer.{Transfer}
use Rattle.fuse_sessions.specs.declared.transfer.Transfer.TheVariants as transfer
use Rattle.fuse_sessions.specs.Frames.{number_in}

-- A frame that is written, and has a whole header, replies under this number.
abbrev pub IsReplyNumber : Transfer → ℕ → Type 0
IsReplyNumber (transfer.Written bytes t) n = 16 ≤ length bytes.now → n ≡ number_in bytes.now
IsReplyNumber t n = Unit {0}
