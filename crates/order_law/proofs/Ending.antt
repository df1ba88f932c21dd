-- The end of a request does to the kernel what it does whatever else is queued.
use Rattle.std.proofs.Common.{◌≡◌, ◌≢◌, ℕ, ◌+◌, Bool, true, false, cond, List, [], ◌∷◌, ◌++◌, Option, Some, None, refl, ap, ◌∙◌, append_assoc}
use Rattle.fuse_spec.specs.declared.Mark.TheVariants.{Unread}
use Rattle.fuse_spec.specs.declared.Opened.{Opened}
use Rattle.fuse_spec.specs.declared.Phase.{Phase}
use Rattle.fuse_spec.specs.declared.Purpose.{Purpose}
use Rattle.fuse_spec.specs.declared.Purpose.TheVariants as purpose
use Rattle.fuse_spec.specs.declared.QueuedRequest.{QueuedRequest}
use Rattle.fuse_spec.specs.declared.WriteResult.{WriteResult}
use Rattle.fuse_spec.specs.declared.WriteResult.TheVariants.{Accepted, Invalid}
use Rattle.fuse_spec.specs.Values.Maps.{get, remove}
use Rattle.fuse_spec.specs.Values.Numbers.{eio}
use Rattle.fuse_spec.specs.Files.Operations.{Operation, files_in_reply}
use Rattle.fuse_spec.specs.Calls.Answers as answer
use Rattle.fuse_spec.specs.Calls.CallReplies.{call_replied}
use Rattle.fuse_spec.specs.Calls.Vfs.{CallState, walking, doing, using, Advance, Vfs, answered, asked}
use Rattle.fuse_spec.specs.Kernel.Kernel.{Kernel, advanced, after_use, asking_for, is_used, released}
use Rattle.fuse_spec.specs.Kernel.Messages.{WireReply}
use Rattle.fuse_spec.specs.Kernel.QueueCalls.{after_enqueue}
use Rattle.fuse_spec.specs.Kernel.Replies.{Use, usable, unusable, stale, ended_by, goes_with, judged, kernel_reply, looked_up, replied, replied_to_call, reply_judged, reply_received, use_of_reply, without_stale}
use Rattle.fuse_theorem.proofs.Calls.Advancing.{answered_alone, call_replied_alone}

-- requests by number
abbrev pub Requests : Type 0
Requests = List (ℕ × QueuedRequest Purpose)

module _ (es : Requests) (is : List ℕ) (off : Bool) (phase : Phase) where
  -- the kernel with these requests before its own, and these INTERRUPTs, this word on them and this phase in place of its
  -- own
  abbrev pub behind : Kernel → Kernel
  behind k =
      record k {
        phase = phase;
        queues =
            record k.queues { requests = es ++ k.queues.requests; interrupts = is; interrupts_off = off };
      }

  abbrev pub both_behind : WriteResult × Kernel → WriteResult × Kernel
  both_behind taken = (taken.0, behind taken.1)

  enqueue_behind : (k : Kernel) (kept : Purpose) → record (behind k) { queues = after_enqueue (behind k).queues kept }
      ≡ behind (record k { queues = after_enqueue k.queues kept })
  enqueue_behind k kept = ap
      (λ (rows : Requests). record k {
        phase = phase;
        queues = record k.queues { requests = rows; interrupts = is; interrupts_off = off; next = k.queues.next + 2 };
      })
      (append_assoc es k.queues.requests ((k.queues.next, record { mark = Unread; kept = kept }) ∷ []))

  asking_behind : (k : Kernel) (call : ℕ) (o : Option (Operation ℕ Opened))
      → asking_for (behind k) call o ≡ behind (asking_for k call o)
  asking_behind k call None = refl
  asking_behind k call (Some operation) = enqueue_behind k (purpose.Call call)

  advanced_behind : (k : Kernel) (call : ℕ) (next : Advance Opened)
      → advanced (behind k) call next ≡ behind (advanced k call next)
  advanced_behind k call next = asking_behind (record k { vfs = next.vfs }) call next.operation

  released_behind : (k : Kernel) (open_call : ℕ) (o : Option Opened)
      → released (behind k) open_call o ≡ behind (released k open_call o)
  released_behind k open_call None = refl
  released_behind k open_call (Some opened) = by (is_used k open_call)
    where
      by : (b : Bool) → record (behind k) {
        closing = cond b k.closing (remove k.closing open_call);
        queues = cond b (behind k).queues (after_enqueue (behind k).queues (purpose.Release opened));
      } ≡ behind (record k {
        closing = cond b k.closing (remove k.closing open_call);
        queues = cond b k.queues (after_enqueue k.queues (purpose.Release opened));
      })
      by true = refl
      by false = enqueue_behind (record k { closing = remove k.closing open_call }) (purpose.Release opened)

  use_behind : (k : Kernel) (state : CallState Opened) → after_use (behind k) state ≡ behind (after_use k state)
  use_behind k (walking directory word words plan) = refl
  use_behind k (doing operation) = refl
  use_behind k (using open_call operation) = released_behind k open_call (get k.closing open_call)

  judged_behind : (k : Kernel) (call : ℕ) (state : CallState Opened) (wire : WireReply) (use_is : Use)
      → judged (behind k) call state wire use_is ≡ behind (judged k call state wire use_is)
  judged_behind k call state wire usable = advanced_behind
      (record k { nodes = looked_up k.nodes (files_in_reply wire) }) call
      (call_replied k.vfs call state (kernel_reply (asked state) wire))
  judged_behind k call state wire unusable = refl
  judged_behind k call state wire (stale node) = refl

  replied_behind : (k : Kernel) (call : ℕ) (state : CallState Opened) (b : Bool) (wire : WireReply)
      → replied (behind k) call state b wire ≡ both_behind (replied k call state b wire)
  replied_behind k call state true wire =
      let l = without_stale k wire in
      let received = judged_behind l call state (reply_judged k.nodes wire) (use_of_reply k.nodes wire) in
      ap (λ (q : Kernel). (Accepted, q)) (ap (λ (q : Kernel). after_use q state) received
      ∙ use_behind (reply_received k call state wire) state)
  replied_behind k call state false wire = ap (λ (q : Kernel). (Invalid, q))
      (use_behind (record k { vfs = answered k.vfs call (answer.failed eio) }) state)

  to_call_behind : (k : Kernel) (call : ℕ) (wire : WireReply) (o : Option (CallState Opened))
      → replied_to_call (behind k) call wire o ≡ both_behind (replied_to_call k call wire o)
  to_call_behind k call wire None = refl
  to_call_behind k call wire (Some state) = replied_behind k call state (goes_with (asked state) wire) wire

  -- a request of a call ends, or a RELEASE
  pub ended_call_behind : (k : Kernel) (call : ℕ) (wire : WireReply)
      → ended_by (behind k) (purpose.Call call) wire ≡ both_behind (ended_by k (purpose.Call call) wire)
  ended_call_behind k call wire = to_call_behind k call wire (get k.vfs.calls call)

-- ---- what other calls ask stays

asking_vfs : (k : Kernel) (call : ℕ) (o : Option (Operation ℕ Opened)) → (asking_for k call o).vfs ≡ k.vfs
asking_vfs k call None = refl
asking_vfs k call (Some operation) = refl

released_vfs : (k : Kernel) (open_call : ℕ) (o : Option Opened) → (released k open_call o).vfs ≡ k.vfs
released_vfs k open_call None = refl
released_vfs k open_call (Some opened) = refl

use_vfs : (k : Kernel) (state : CallState Opened) → (after_use k state).vfs ≡ k.vfs
use_vfs k (walking directory word words plan) = refl
use_vfs k (doing operation) = refl
use_vfs k (using open_call operation) = released_vfs k open_call (get k.closing open_call)

module _ (call other : ℕ) (apart : other ≢ call) where
  -- the other call waits for what it waited for
  abbrev Stays : Kernel → Kernel → Type 0
  Stays k l = get l.vfs.calls other ≡ get k.vfs.calls other

  used_stays : (k l : Kernel) (state : CallState Opened) → Stays k l → Stays k (after_use l state)
  used_stays k l state stays = ap (λ (c : Vfs Opened). get c.calls other) (use_vfs l state) ∙ stays

  judged_stays : (k : Kernel) (state : CallState Opened) (wire : WireReply) (use_is : Use)
      → Stays k (judged k call state wire use_is)
  judged_stays k state wire usable =
      let next = call_replied k.vfs call state (kernel_reply (asked state) wire) in
      let l = record k { nodes = looked_up k.nodes (files_in_reply wire) } in
      ap (λ (c : Vfs Opened). get c.calls other) (asking_vfs (record l { vfs = next.vfs }) call next.operation)
      ∙ (call_replied_alone k.vfs call state (kernel_reply (asked state) wire)).others other apart
  judged_stays k state wire unusable = (answered_alone k.vfs call (answer.failed eio)).others other apart
  judged_stays k state wire (stale node) = (answered_alone k.vfs call (answer.failed eio)).others other apart

  replied_stays : (k : Kernel) (state : CallState Opened) (b : Bool) (wire : WireReply)
      → Stays k (replied k call state b wire).1
  replied_stays k state true wire = used_stays k (reply_received k call state wire) state
      (judged_stays (without_stale k wire) state (reply_judged k.nodes wire) (use_of_reply k.nodes wire))
  replied_stays k state false wire = used_stays k (record k { vfs = answered k.vfs call (answer.failed eio) }) state
      ((answered_alone k.vfs call (answer.failed eio)).others other apart)

  to_call_stays : (k : Kernel) (wire : WireReply) (o : Option (CallState Opened))
      → Stays k (replied_to_call k call wire o).1
  to_call_stays k wire None = refl
  to_call_stays k wire (Some state) = replied_stays k state (goes_with (asked state) wire) wire

  -- a request of a call ends
  pub ended_stays : (k : Kernel) (wire : WireReply)
      → get (ended_by k (purpose.Call call) wire).1.vfs.calls other ≡ get k.vfs.calls other
  ended_stays k wire = to_call_stays k wire (get k.vfs.calls call)
