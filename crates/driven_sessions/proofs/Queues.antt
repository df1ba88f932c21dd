-- What holds of the kernel's queues in any run, where each change of the queues alone keeps it.
use Rattle.std.proofs.Common.{◌≡◌, ℕ, ◌-◌, ◌%◌, Bool, true, false, cond, List, [], ◌∷◌, ◌++◌, Option, Some, None, nat_eq, refl, sym, subst}
use Rattle.fuse_spec.specs.declared.IntrEffect.{IntrEffect}
use Rattle.fuse_spec.specs.declared.IntrEffect.TheVariants.{Dequeued, Flagged, Queued, None as NoEffect}
use Rattle.fuse_spec.specs.declared.InterruptReply.{InterruptReply}
use Rattle.fuse_spec.specs.declared.Opened.{Opened}
use Rattle.fuse_spec.specs.declared.Purpose.{Purpose}
use Rattle.fuse_spec.specs.declared.Purpose.TheVariants as purpose
use Rattle.fuse_spec.specs.declared.WriteResult.{WriteResult}
use Rattle.fuse_spec.specs.Calls.Answers as answer
use Rattle.fuse_spec.specs.Calls.Calls.{Call, for_minor}
use Rattle.fuse_spec.specs.Calls.CallReplies.{call_replied}
use Rattle.fuse_spec.specs.Calls.Vfs.{asked, CallState, walking, doing, using, Advance, answered, begun}
use Rattle.fuse_spec.specs.Files.Operations.{Operation, done, failed, files_in_reply}
use Rattle.fuse_spec.specs.Values.Maps.{get, put}
use Rattle.fuse_spec.specs.Kernel.Kernel.{Kernel, kernel_aborted, is_aborted, is_used, advanced, asking_for, released, released_if_idle, after_use, closed_by, closing_of, call_begun, after_signal, signalled_at, call_signalled, request_of}
use Rattle.fuse_spec.specs.Kernel.Messages.{Forget, WireReply}
use Rattle.fuse_spec.specs.Kernel.Queues.{QueueState, empty_queues}
use Rattle.fuse_spec.specs.Kernel.QueueCalls.{after_enqueue, after_interrupt, after_interrupt_reply, interrupt_effect, waiting, without}
use Rattle.fuse_spec.specs.Kernel.Replies.{kernel_reply, looked_up, Use, usable, unusable, stale, goes_with, is_agreement, judged, replied, replied_to_call, ended_by, request_reply_written, interrupt_reply_written, interrupt_replied, interrupt_reply_of, reply_written, reply_received, without_stale, reply_judged, use_of_reply, made_ready}
use Rattle.fuse_device.specs.Transfers.{Transfer}
use Rattle.fk_kernel.specs.AwaitedReplies.{head_unique}
use Rattle.fk_kernel.specs.Picks.{after_pick}
use Rattle.fk_kernel.specs.declared.read.Pick.{Pick}
use Rattle.fk_drive.specs.Driving.{Driven, DriveStep, Drives, first_driven, alone, reads, answers, writes, nothing, next as behind}
use Rattle.fk_drive.specs.KernelSteps.{ActsAlone, IsReplyTaken, mounts, begins, is_signalled, ticks, drops_name, evicts, aborts, gives_answer}
use Rattle.fk_drive_theorem.proofs.Stable.{Stable}
use Rattle.fk_drive_theorem.proofs.Taken.{TakenAs, refused_whole, is_read, holds_as_taken}

abbrev pub is_init : Purpose → Bool
is_init purpose.Init = true
is_init p = false

-- Each change of the queues keeps it: a mount queues INIT, and nothing else does.
pub record Closed (P : QueueState Purpose → Type 0) : Type 0 where
  pub stable : (q : QueueState Purpose) → Stable (P q)
  pub empty : P empty_queues
  pub mounted : P (after_enqueue empty_queues purpose.Init)
  pub queues : (q : QueueState Purpose) (kept : Purpose) → is_init kept ≡ false → P q → P (after_enqueue q kept)
  pub ends : (q : QueueState Purpose) (unique : ℕ) → P q → P (without q unique)
  pub signals : (q : QueueState Purpose) (unique : ℕ) (fatal : Bool) → P q → P (after_interrupt q unique fatal)
  pub replies : (q : QueueState Purpose) (unique : ℕ) (reply : InterruptReply) → P q → P (after_interrupt_reply q unique reply)
  pub reads : (q : QueueState Purpose) (pick : Pick) → P q → P (after_pick q pick)
  pub forgets : (q : QueueState Purpose) (fs : List Forget) → P q → P (record q { forgets = fs })

module _ (P : QueueState Purpose → Type 0) (closed : Closed P) where
  advanced_holds : (k : Kernel) (call : ℕ) (next : Advance Opened) → P k.queues → P (advanced k call next).queues
  advanced_holds k call next e = by next.operation
    where
      by : (o : Option (Operation ℕ Opened)) → P (asking_for (record k { vfs = next.vfs }) call o).queues
      by None = e
      by (Some operation) = closed.queues k.queues (purpose.Call call) refl e

  idle_holds : (k : Kernel) (open_call : ℕ) → P k.queues → P (released_if_idle k open_call).queues
  idle_holds k open_call e = by (get k.closing open_call)
    where
      unless_used : (b : Bool) (x : Opened) → P (cond b k.queues (after_enqueue k.queues (purpose.Release x)))
      unless_used true x = e
      unless_used false x = closed.queues k.queues (purpose.Release x) refl e

      by : (o : Option Opened) → P (released k open_call o).queues
      by None = e
      by (Some x) = unless_used (is_used k open_call) x

  used_holds : (k : Kernel) (state : CallState Opened) → P k.queues → P (after_use k state).queues
  used_holds k (walking d word words plan) e = e
  used_holds k (doing operation) e = e
  used_holds k (using open_call operation) e = idle_holds k open_call e

  begun_holds : (k : Kernel) (call : Call) → P k.queues → P (call_begun k call).queues
  begun_holds k call e =
      let next = begun (is_aborted k.phase) k.vfs call in
      closes_one (advanced k k.vfs.next_call next) (cond (is_aborted k.phase) None (closed_by k.vfs.opens call))
      (advanced_holds k k.vfs.next_call next e)
    where
      closes_one : (q : Kernel) (file : Option (ℕ × Opened)) → P q.queues → P (closing_of q file).queues
      closes_one q None e = e
      closes_one q (Some file) e = idle_holds (record q { closing = put q.closing file.0 file.1 }) file.0 e

  signalled_holds : (k : Kernel) (call : ℕ) (state : CallState Opened) (fatal : Bool) → P k.queues
      → P (call_signalled k call state fatal).1.queues
  signalled_holds k call state fatal e = by (request_of k call)
    where
      effect : (q : Kernel) (x : IntrEffect) → P q.queues → P (after_signal q call state x).queues
      effect q Dequeued e = used_holds (record q { vfs = answered q.vfs call (answer.failed 4) }) state e
      effect q Flagged e = e
      effect q Queued e = e
      effect q NoEffect e = e

      by : (o : Option ℕ) → P (signalled_at k call state fatal o).1.queues
      by None = e
      by (Some unique) = effect (record k { queues = after_interrupt k.queues unique fatal })
          (interrupt_effect k.queues unique fatal) (closed.signals k.queues unique fatal e)

  replied_holds : (k : Kernel) (call : ℕ) (wire : WireReply) (o : Option (CallState Opened)) → P k.queues
      → P (replied_to_call k call wire o).1.queues
  replied_holds k call wire None e = e
  replied_holds k call wire (Some state) e = by (goes_with (asked state) wire)
    where
      stale_holds : P (without_stale k wire).queues
      stale_holds = closed.forgets k.queues (without_stale k wire).queues.forgets e

      judged_holds : (x : WireReply) (u : Use) → P (judged (without_stale k wire) call state x u).queues
      judged_holds x usable = advanced_holds
          (record (without_stale k wire) { nodes = looked_up k.nodes (files_in_reply x) }) call
          (call_replied k.vfs call state (kernel_reply (asked state) x)) stale_holds
      judged_holds x unusable = stale_holds
      judged_holds x (stale node) =
          closed.forgets k.queues ((without_stale k wire).queues.forgets ++ (node, 1) ∷ []) e

      by : (b : Bool) → P (replied k call state b wire).1.queues
      by true = used_holds (reply_received k call state wire) state
          (judged_holds (reply_judged k.nodes wire) (use_of_reply k.nodes wire))
      by false = used_holds (record k { vfs = answered k.vfs call (answer.failed 5) }) state e

  written_holds : (k : Kernel) (unique : ℕ) (wire : WireReply) → P k.queues → P (reply_written k unique wire).1.queues
  written_holds k unique wire e = by (nat_eq (unique % 2) 1)
    where
      ended : (q : Kernel) (kept : Purpose) → P q.queues → P (ended_by q kept wire).1.queues
      ended q purpose.Init e = agreed_or (is_agreement wire)
        where
          agreed_or : (b : Bool) → P (cond b (made_ready q wire) (kernel_aborted q)).queues
          agreed_or true = e
          agreed_or false = closed.empty
      ended q (purpose.Release o) e = e
      ended q (purpose.Call call) e = replied_holds q call wire (get q.vfs.calls call) e

      even : (o : Option Purpose) → P (request_reply_written k unique wire o).1.queues
      even None = e
      even (Some kept) = ended (record k { queues = without k.queues unique }) kept (closed.ends k.queues unique e)

      interrupts : (x : WireReply) → P (interrupt_replied k (unique - 1) x).1.queues
      interrupts (failed errno) = closed.replies k.queues (unique - 1) (interrupt_reply_of errno) e
      interrupts done = e
      interrupts x = e

      odd : (o : Option Purpose) → P (interrupt_reply_written k unique wire o).1.queues
      odd None = e
      odd (Some kept) = interrupts wire

      by : (b : Bool) → P (cond b (interrupt_reply_written k unique wire (waiting k.queues (unique - 1)))
          (request_reply_written k unique wire (waiting k.queues unique))).1.queues
      by true = odd (waiting k.queues (unique - 1))
      by false = even (waiting k.queues unique)

  -- a run

  taken_holds : (old : Kernel) (bytes : List ℕ) (result : WriteResult) (new : Kernel) → IsReplyTaken old bytes result new
      → P old.queues → P new.queues
  taken_holds old bytes result new taken e =
      holds_as_taken old bytes result new taken (P new.queues) (closed.stable new.queues) by
    where
      by : TakenAs old bytes result new → P new.queues
      by (refused_whole refused no_entry same) = subst (λ (k : Kernel). P k.queues) (sym same) e
      by (is_read o wire awaits means same) =
          subst (λ (r : WriteResult × Kernel). P r.1.queues) same (written_holds old (head_unique bytes) wire e)

  alone_holds : (old new : Kernel) → ActsAlone old new → P old.queues → P new.queues
  alone_holds old new (mounts may) e = closed.mounted
  alone_holds old new (begins call may) e = begun_holds old (for_minor old.lists_files call) e
  alone_holds old new (is_signalled call fatal effect q may is) e =
      subst (λ (r : IntrEffect × Kernel). P r.1.queues) is.signalled (signalled_holds old call is.state fatal e)
  alone_holds old new (ticks ms may) e = e
  alone_holds old new (drops_name directory name may) e = e
  alone_holds old new (evicts node counted may there) e =
      closed.forgets old.queues (old.queues.forgets ++ (node, counted.count) ∷ []) e
  alone_holds old new (aborts may) e = closed.empty
  alone_holds old new (gives_answer call) e = e

  step_holds : (old : Driven) (log : List Transfer) (new : Driven) → DriveStep old log new → P old.kernel.queues
      → P new.kernel.queues
  step_holds old log new (alone k acts) e = alone_holds old.kernel k acts e
  step_holds old log new (reads idle pick may request is) e = closed.reads old.kernel.queues pick e
  step_holds old log new (answers request error turn bytes written result k taken) e =
      taken_holds old.kernel bytes result k taken e
  step_holds old log new (writes idles frame rest there handed on result k taken went next_own left turn release) e =
      taken_holds old.kernel handed result k taken e
  step_holds old log new step e = e

  pub run_holds : (asks : Bool) (log : List Transfer) (new : Driven) → Drives (first_driven asks) log new
      → P new.kernel.queues
  run_holds asks log new nothing = closed.empty
  run_holds asks log new (behind before mid run last end step) = step_holds mid last end step (run_holds asks before mid run)
