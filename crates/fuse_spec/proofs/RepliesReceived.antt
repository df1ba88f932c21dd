-- The kernel receives each reply but a list with files as one whose entries are judged together.
use Rattle.std.specs.Prelude.{◌≡◌, ℕ, List}
use Rattle.std.proofs.Common.{refl}
use Rattle.fuse_spec.specs.declared.Opened.{Opened}
use Rattle.fuse_spec.specs.Kernel.Kernel.{Kernel}
use Rattle.fuse_spec.specs.Kernel.Messages.{WireReply}
use Rattle.fuse_spec.specs.Files.Operations.{DirentPlus, found, missing, created, opened, attributes, listed, listed_plus, content, written, agreed, done, failed, files_in_reply}
use Rattle.fuse_spec.specs.declared.Entry.{Entry}
use Rattle.fuse_spec.specs.Kernel.Replies.{reply_received, judged, use_of_all}
use Rattle.fuse_spec.specs.Calls.Vfs.{CallState}

-- The reply isn't a list with files.
abbrev pub IsNoListPlus : WireReply → Type 0
IsNoListPlus wire = (pairs : List (DirentPlus Entry)) → wire ≡ listed_plus pairs → ⊥

pub received_together : (k : Kernel) (call : ℕ) (state : CallState Opened) (wire : WireReply) → IsNoListPlus wire
    → reply_received k call state wire ≡ judged k call state wire (use_of_all k.nodes (files_in_reply wire))
received_together k call state (listed_plus pairs) other = absurd (other pairs refl)
received_together k call state (found g valid) other = refl
received_together k call state (missing valid) other = refl
received_together k call state (created g valid o) other = refl
received_together k call state (opened o) other = refl
received_together k call state (attributes a) other = refl
received_together k call state (listed records) other = refl
received_together k call state (content bytes) other = refl
received_together k call state (written size) other = refl
received_together k call state (agreed major minor flags) other = refl
received_together k call state done other = refl
received_together k call state (failed errno) other = refl
