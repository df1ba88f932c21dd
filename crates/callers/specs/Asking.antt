-- What a kernel that hands calls to a server does.
use Rattle.std.specs.Prelude.{◌≡◌, ◌⊎◌, ℕ, List, Option, Some, None, slice_get}
use Rattle.fuse_spec.specs.Calls.Answers.{Answer}
use Rattle.fuse_spec.specs.Kernel.Kernel.{Kernel}
use Rattle.fuse_spec.specs.Kernel.QueueCalls.{after_read_pending}
use Rattle.fuse_spec.specs.Kernel.Refusals.{or_no_memory}
use Rattle.fuse_spec.specs.Values.Maps.{remove}
use Rattle.fuse_spec.specs.declared.Refusal.{Refusal}
use Rattle.fuse_spec.specs.declared.WriteResult.{WriteResult}
use Rattle.fuse_spec.specs.declared.WriteResult.TheVariants.{NoEntry, Invalid}
use Rattle.fk_kernel.specs.AwaitedReplies.{HasReplyHead, IsReplyWritten, awaited, head_unique, nothing}
use Rattle.fk_kernel.specs.Refused.{read_refusal}

-- the kernel once the request that has waited longest is read
abbrev pub first_read : Kernel → Kernel
first_read k = record k { queues = after_read_pending k.queues 0 }

-- A step of the kernel and then a read are refused: either the step is, which changes nothing, or the read after it.
abbrev pub IsAskRefused : Kernel → Kernel → Option Refusal → Refusal → Kernel → Type 0
IsAskRefused old stepped judged refusal new =
    ((new ≡ old) × (refusal ≡ or_no_memory judged))
    ⊎ ((new ≡ stepped) × (refusal ≡ or_no_memory (read_refusal stepped 0)))

-- Bytes are written as a reply. What has no head, and what nothing awaits, changes nothing.
pub record WritesReply (old : Kernel) (bytes : List ℕ) (result : WriteResult) (new : Kernel) : Type 0 where
  pub headless : (HasReplyHead bytes → ⊥) → (result ≡ Invalid) × (new ≡ old)
  pub unawaited : HasReplyHead bytes → awaited old (head_unique bytes) ≡ nothing
      → (result ≡ NoEntry) × (new ≡ old)
  pub taken : HasReplyHead bytes
      → IsReplyWritten old (head_unique bytes) bytes (awaited old (head_unique bytes)) result new

-- the kernel once this answer is collected, if any is
abbrev pub once_collected : Kernel → Option (ℕ × Answer) → Kernel
once_collected k None = k
once_collected k (Some answer) = record k { vfs = record k.vfs { answers = remove k.vfs.answers answer.0 } }

-- Bytes are written as a reply, and the first of the answers that then wait is collected.
pub record IsReplied (old : Kernel) (bytes : List ℕ) (answer : Option (ℕ × Answer)) (new : Kernel) : Type 0 where
  pub result : WriteResult
  pub replied : Kernel
  pub written : WritesReply old bytes result replied
  pub first : answer ≡ slice_get replied.vfs.answers 0
  pub after : new ≡ once_collected replied answer
