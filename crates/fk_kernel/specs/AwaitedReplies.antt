-- Which request awaits a reply, and what becomes of the bytes that are written to it.
use Rattle.std.specs.Prelude.{◌≡◌, ℕ, ◌-◌, ◌%◌, cond, List, Option, Some, None, nat_eq}
use Rattle.fk_wire.specs.declared.opcode.Opcode.{Opcode}
use Rattle.fk_wire.specs.declared.opcode.Opcode.TheVariants as op
use Rattle.fuse_spec.specs.declared.Opened.{Opened}
use Rattle.fuse_spec.specs.declared.Purpose.{Purpose}
use Rattle.fuse_spec.specs.declared.Purpose.TheVariants.{Init, Release, Call}
use Rattle.fuse_spec.specs.Files.Operations as reply
use Rattle.fuse_spec.specs.Kernel.Messages.{WireReply, asks}
use Rattle.fuse_spec.specs.Values.Maps.{get}
use Rattle.fuse_spec.specs.Calls.Vfs.{CallState, asked}
use Rattle.fuse_spec.specs.Kernel.QueueCalls.{waiting}
use Rattle.fuse_spec.specs.Kernel.Replies.{reply_written}
use Rattle.fuse_spec.specs.declared.WriteResult.{WriteResult}
use Rattle.fuse_spec.specs.Kernel.Kernel.{Kernel}
use Rattle.fuse_frames.specs.RequestTies.{asked_opcode}
pub use Rattle.fuse_frames.specs.DecodedReplies.{Says, IsNoReply, HasReplyHead, head_unique}

-- What awaits a reply under a unique: no request, or a request of an opcode.
pub data Awaited : Type 0 where
  nothing : Awaited
  reply_to : (opcode : Opcode) → Awaited

-- A request of a call is always that of an unanswered call (`ServesCalls`): the first case never comes.
abbrev pub awaited_by_call : Option (CallState Opened) → Awaited
awaited_by_call None = nothing
awaited_by_call (Some state) = reply_to (asked_opcode (asks (asked state)))

abbrev pub awaited_by : Kernel → Option Purpose → Awaited
awaited_by k None = nothing
awaited_by k (Some Init) = reply_to op.Init
awaited_by k (Some (Release opened)) = reply_to op.Release
awaited_by k (Some (Call call)) = awaited_by_call (get k.vfs.calls call)

abbrev pub awaited_by_interrupt : Option Purpose → Awaited
awaited_by_interrupt None = nothing
awaited_by_interrupt (Some purpose) = reply_to op.Interrupt

-- An odd unique is that of the INTERRUPT of the request before it.
abbrev pub awaited : Kernel → ℕ → Awaited
awaited k unique = cond (nat_eq (unique % 2) 1) (awaited_by_interrupt (waiting k.queues (unique - 1)))
    (awaited_by k (waiting k.queues unique))

-- a body that goes with no operation of a call
abbrev pub wrong_body : WireReply
wrong_body = reply.agreed 0 0 0

-- A body that is no reply to a request of this opcode.
abbrev pub wrong_body_to : Opcode → WireReply
wrong_body_to op.Init = reply.done
wrong_body_to o = wrong_body

-- The bytes say this, or they say nothing, which is taken as a body that is no reply to the request.
pub data ReadsReply (o : Opcode) (bytes : List ℕ) : WireReply → Type 0 where
  said : (wire : WireReply) → Says o bytes wire → ReadsReply o bytes wire
  unsaid : IsNoReply o bytes → ReadsReply o bytes (wrong_body_to o)

-- The kinds of request whose replies are judged: all that the kernel sends and that await a reply.
abbrev pub IsJudged : Opcode → Type 0
IsJudged op.Forget = ⊥
IsJudged op.BatchForget = ⊥
IsJudged o = Unit {0}

-- The kinds that await a reply.
abbrev pub IsAwaited : Awaited → Type 0
IsAwaited nothing = Unit {0}
IsAwaited (reply_to o) = IsJudged o

-- A request of no call: INIT, a RELEASE or an INTERRUPT.
abbrev pub IsOfNoCall : Awaited → Type 0
IsOfNoCall (reply_to op.Init) = Unit {0}
IsOfNoCall (reply_to op.Release) = Unit {0}
IsOfNoCall (reply_to op.Interrupt) = Unit {0}
IsOfNoCall other = ⊥

-- What becomes of a reply with a head, by what awaits it.
pub record IsReplyWritten (k : Kernel) (unique : ℕ) (bytes : List ℕ) (awaits : Awaited) (result : WriteResult)
    (after : Kernel) : Type 0 where
  pub kinds : IsAwaited awaits
  pub said : (o : Opcode) → IsJudged o → awaits ≡ reply_to o → (wire : WireReply) → Says o bytes wire
      → reply_written k unique wire ≡ (result, after)
  pub unsaid : (o : Opcode) → IsJudged o → awaits ≡ reply_to o → IsNoReply o bytes
      → reply_written k unique (wrong_body_to o) ≡ (result, after)
