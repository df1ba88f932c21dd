-- What a reply says to an unanswered call.
use Rattle.std.specs.Prelude.{◌≡◌, ℕ, List, false}
use Rattle.fuse_spec.specs.Kernel.Kernel.{Kernel}
use Rattle.fuse_spec.specs.Kernel.Messages.{WireReply, asks}
use Rattle.fuse_spec.specs.Kernel.Replies.{goes_with, reply_written}
use Rattle.fuse_spec.specs.Files.Operations.{Operation}
use Rattle.fuse_spec.specs.Values.Maps.{get}
use Rattle.fuse_spec.specs.declared.Opened.{Opened}
use Rattle.fuse_frames.specs.RequestTies.{asked_opcode}
use Rattle.fuse_spec.specs.Kernel.Refusals.{is_counted_out, is_kernel_past_end}
use Rattle.fuse_frames.specs.ReplyDecoding.{LentReply, decoded_wire_of, LastsADay}
use Rattle.fk_kernel.specs.Entries.{Awaits, nodes_after_reply}
use Rattle.fk_kernel.specs.AwaitedReplies.{Says}

-- The bytes say this to the call, it goes with what the call asked, and it exhausts no counter.
pub record IsCallReply (k : Kernel) (unique call : ℕ) (operation : Operation ℕ Opened) (bytes : List ℕ)
    (said : LentReply) : Type 0 where
  pub says : Says (asked_opcode (asks operation)) bytes (decoded_wire_of said)
  pub awaits : Awaits (get k.vfs.calls call) (decoded_wire_of said)
  pub day : LastsADay said
  pub within : is_kernel_past_end (reply_written k unique (decoded_wire_of said)).1 ≡ false
  pub counts : is_counted_out (nodes_after_reply k.nodes (decoded_wire_of said)) ≡ false

-- The bytes say nothing that goes with what a call asked.
abbrev pub SaysNone : Operation ℕ Opened → List ℕ → Type 0
SaysNone operation bytes = (wire : WireReply) → Says (asked_opcode (asks operation)) bytes wire
    → goes_with operation wire ≡ false
