-- The kernel knows the nodes of its RELEASEs, as it closes files and as requests come and go.
use Rattle.std.proofs.Common.{◌≡◌, ℕ, ◌-◌, Bool, true, false, cond, List, [], Option, Some, None, nat_eq, option_map, refl, sym, subst, All}
use Rattle.std.specs.Prelude.{◌%◌}
use Rattle.std.specs.List.{list_any}
use Rattle.std.specs.Option.{option_map_or}
use Rattle.std.proofs.lemmas.List.Elements.{All-nil, All-push}
use Rattle.fuse_spec.specs.declared.Counted.{Counted}
use Rattle.fuse_spec.specs.declared.IntrEffect.{IntrEffect}
use Rattle.fuse_spec.specs.declared.IntrEffect.TheVariants.{Dequeued, Flagged, Queued, None as NoEffect}
use Rattle.fuse_spec.specs.declared.InterruptReply.{InterruptReply}
use Rattle.fuse_spec.specs.declared.InterruptReplyEffect.{InterruptReplyEffect}
use Rattle.fuse_spec.specs.declared.InterruptReplyEffect.TheVariants.{QueuedAgain, TurnedOff, None as NoReplyEffect}
use Rattle.fuse_spec.specs.declared.Mark.{Mark}
use Rattle.fuse_spec.specs.declared.Mark.TheVariants as mark
use Rattle.fuse_spec.specs.declared.Opened.{Opened}
use Rattle.fuse_spec.specs.declared.Purpose.{Purpose}
use Rattle.fuse_spec.specs.declared.Purpose.TheVariants as purpose
use Rattle.fuse_spec.specs.declared.QueuedRequest.{QueuedRequest}
use Rattle.fuse_spec.specs.Calls.Answers as answer
use Rattle.fuse_spec.specs.Calls.Calls.{Call}
use Rattle.fuse_spec.specs.Calls.Calls as call
use Rattle.fuse_spec.specs.Calls.CallReplies.{call_replied}
use Rattle.fuse_spec.specs.Kernel.Kernel.{Kernel, is_aborted, is_used, request_of, kernel_aborted, asking_for, advanced, released, released_if_idle, after_use, closed_by, closing_of, call_begun, after_signal, signalled_at, call_signalled}
use Rattle.fuse_spec.specs.Values.Maps.{Map, get, put, remove, values}
use Rattle.fuse_spec.specs.Kernel.Messages.{WireReply}
use Rattle.fuse_spec.specs.Files.Operations.{Operation, done, failed, files_in_reply}
use Rattle.fuse_spec.specs.Kernel.QueueCalls.{after_enqueue, set_mark, after_reading, after_effect, interrupt_effect, after_reply_effect, waiting, without}
use Rattle.fuse_spec.specs.Kernel.Queues.{QueueState, mark_under}
use Rattle.fuse_spec.specs.Kernel.Replies.{kernel_reply, looked_up, Use, usable, unusable, stale, goes_with, is_agreement, judged, replied, replied_to_call, request_reply_written, interrupt_reply_written, interrupt_replied, interrupt_reply_of, reply_written, reply_received, without_stale, reply_judged, use_of_reply, made_ready}
use Rattle.fuse_spec.specs.Kernel.Signals.{reply_effect}
use Rattle.fuse_spec.specs.Calls.Vfs.{CallState, walking, doing, using, asked, Advance, answered, begun}
use Rattle.fuse_theorem.specs.KnownNodes.{IsKnown, NodesKnown}
use Rattle.fuse_theorem.specs.ReleasesKnown.{ReleaseKnown}
use Rattle.fuse_theorem.proofs.Lookups.CountsStay.{advanced_same}
use Rattle.fuse_theorem.proofs.Calls.Finding.{All-removed}
use Rattle.fuse_theorem.proofs.Lists.SetMarks.{All-marked}
use Rattle.fuse_theorem.proofs.Calls.KnownWalks.{OpenKnown}
use Rattle.fuse_theorem.proofs.Nodes.NodesKnown.{All-more, looked_up_more}
use Rattle.fuse_theorem.proofs.Lists.Values.{All-put, All-gone, All-get}

-- The kernel knows the nodes of its closed files and of its RELEASEs.
pub record KeptReleases (k : Kernel) : Type 0 where
  pub closing : All (OpenKnown k.nodes) (values k.closing)
  pub requests : All (λ (e : ℕ × QueuedRequest Purpose). ReleaseKnown k.nodes e.1.kept) k.queues.requests

module _ (nodes : Map Counted) where
  abbrev Fine : ℕ × QueuedRequest Purpose → Type 0
  Fine e = ReleaseKnown nodes e.1.kept

  -- a purpose says it, whatever the mark
  marked_fine : (u : ℕ) (m : Mark) (es : List (ℕ × QueuedRequest Purpose))
      → All (λ (e : ℕ × QueuedRequest Purpose). ReleaseKnown nodes e.1.kept) es
      → All (λ (e : ℕ × QueuedRequest Purpose). ReleaseKnown nodes e.1.kept) (set_mark u es m)
  marked_fine u m es h = All-marked (λ (e : ℕ × QueuedRequest Purpose). ReleaseKnown nodes e.1.kept) u m es h (λ x p. p)

-- More nodes are known.
more_released : (nodes nodes' : Map Counted) → ((id : ℕ) → IsKnown nodes id → IsKnown nodes' id) → (kept : Purpose)
    → ReleaseKnown nodes kept → ReleaseKnown nodes' kept
more_released nodes nodes' more purpose.Init h = tt
more_released nodes nodes' more (purpose.Release o) h = more o.nodeid h
more_released nodes nodes' more (purpose.Call call) h = tt

-- ---- the kernel closes files

advanced_kept : (k : Kernel) (call : ℕ) (next : Advance Opened) → KeptReleases k → KeptReleases (advanced k call next)
advanced_kept k call next old = by next.operation
  where
    by : (o : Option (Operation ℕ Opened)) → KeptReleases (asking_for (record k { vfs = next.vfs }) call o)
    by None = record { closing = old.closing; requests = old.requests }
    by (Some operation) = record {
      closing = old.closing;
      requests = All-push (Fine k.nodes) k.queues.requests
          (k.queues.next, record { mark = mark.Unread; kept = purpose.Call call }) old.requests tt;
    }

idle_kept : (k : Kernel) (open_call : ℕ) → KeptReleases k → KeptReleases (released_if_idle k open_call)
idle_kept k open_call old = by (get k.closing open_call) refl
  where
    unless_used : (o : Opened) → IsKnown k.nodes o.nodeid → (b : Bool)
        → KeptReleases (record k {
          closing = cond b k.closing (remove k.closing open_call);
          queues = cond b k.queues (after_enqueue k.queues (purpose.Release o));
        })
    unless_used o known true = record { closing = old.closing; requests = old.requests }
    unless_used o known false = record {
      closing = All-gone (OpenKnown k.nodes) k.closing open_call old.closing;
      requests = All-push (Fine k.nodes) k.queues.requests
          (k.queues.next, record { mark = mark.Unread; kept = purpose.Release o }) old.requests known;
    }

    by : (o : Option Opened) → get k.closing open_call ≡ o → KeptReleases (released k open_call o)
    by None at = old
    by (Some o) at = unless_used o (All-get (OpenKnown k.nodes) k.closing open_call o old.closing at) (is_used k open_call)

used_kept : (k : Kernel) (state : CallState Opened) → KeptReleases k → KeptReleases (after_use k state)
used_kept k (walking d word words plan) old = old
used_kept k (doing operation) old = old
used_kept k (using open_call operation) old = idle_kept k open_call old

-- A call begins, and the file that it closes is of a known node.
pub begun_kept : (k : Kernel) → NodesKnown k → KeptReleases k → (x : Call) → KeptReleases (call_begun k x)
begun_kept k known old x = by (is_aborted k.phase)
  where
    closes_one : (b : Bool) (file : Option (ℕ × Opened))
        → ((f : ℕ × Opened) → file ≡ Some f → IsKnown k.nodes f.1.nodeid)
        → KeptReleases (closing_of (advanced k k.vfs.next_call (begun b k.vfs x)) file)
    closes_one b None each = advanced_kept k k.vfs.next_call (begun b k.vfs x) old
    closes_one b (Some file) each =
        let l = advanced k k.vfs.next_call (begun b k.vfs x) in
        let now = advanced_kept k k.vfs.next_call (begun b k.vfs x) old in
        idle_kept (record l { closing = put l.closing file.0 file.1 }) file.0
        (record {
          closing = All-put (OpenKnown l.nodes) l.closing file.0 file.1 now.closing
              (subst (λ (n : Map Counted). IsKnown n file.1.nodeid)
              (sym (advanced_same k k.vfs.next_call (begun b k.vfs x)).nodes) (each file refl));
          requests = now.requests;
        })

    of_opens : (open_call : ℕ) (o : Option Opened) → get k.vfs.opens open_call ≡ o → (f : ℕ × Opened)
        → option_map (λ (opened : Opened). (open_call, opened)) o ≡ Some f → IsKnown k.nodes f.1.nodeid
    of_opens open_call None at f e = absurd (cc (e))
    of_opens open_call (Some o) at f e =
        let same : (open_call, o) ≡ f = cc (e) in
        subst (λ (p : ℕ × Opened). IsKnown k.nodes p.1.nodeid) same
        (All-get (OpenKnown k.nodes) k.vfs.opens open_call o known.opens at)

    closes_known : (y : Call) (f : ℕ × Opened) → closed_by k.vfs.opens y ≡ Some f → IsKnown k.nodes f.1.nodeid
    closes_known (call.close open_call) f e = of_opens open_call (get k.vfs.opens open_call) refl f e
    closes_known other f e = absurd (cc (e))

    by : (b : Bool) → KeptReleases (closing_of (advanced k k.vfs.next_call (begun b k.vfs x))
        (cond b None (closed_by k.vfs.opens x)))
    by true = closes_one true None (λ f e. absurd (cc (e)))
    by false = closes_one false (closed_by k.vfs.opens x) (closes_known x)

-- A signal reaches a call.
pub signalled_kept : (k : Kernel) → KeptReleases k → (call : ℕ) (state : CallState Opened) (fatal : Bool)
    → KeptReleases (call_signalled k call state fatal).1
signalled_kept k old call state fatal = by (request_of k call)
  where
    effect : (unique : ℕ) (x : IntrEffect) → KeptReleases
        (after_signal (record k { queues = after_effect k.queues unique x }) call state x)
    effect unique Dequeued =
        used_kept (record k {
          queues = after_effect k.queues unique Dequeued;
          vfs = answered k.vfs call (answer.failed 4);
        }) state
        (record { closing = old.closing; requests = All-removed (Fine k.nodes) unique k.queues.requests old.requests })
    effect unique Flagged = record {
      closing = old.closing;
      requests = marked_fine k.nodes unique mark.Flagged k.queues.requests old.requests;
    }
    effect unique Queued = record {
      closing = old.closing;
      requests = marked_fine k.nodes unique mark.Interrupted k.queues.requests old.requests;
    }
    effect unique NoEffect = record { closing = old.closing; requests = old.requests }

    by : (o : Option ℕ) → KeptReleases (signalled_at k call state fatal o).1
    by None = old
    by (Some unique) = effect unique (interrupt_effect k.queues unique fatal)

-- A pending request is read.
pub read_kept : (nodes : Map Counted) (q : QueueState Purpose)
    → All (λ (e : ℕ × QueuedRequest Purpose). ReleaseKnown nodes e.1.kept) q.requests
    → (o : Option (ℕ × QueuedRequest Purpose))
    → All (λ (e : ℕ × QueuedRequest Purpose). ReleaseKnown nodes e.1.kept)
    (option_map_or (λ e. after_reading q e.0 e.1.mark) o q).requests
read_kept nodes q old None = old
read_kept nodes q old (Some e) = by e.0 e.1.mark
  where
    by : (unique : ℕ) (m : Mark) → All (λ (x : ℕ × QueuedRequest Purpose). ReleaseKnown nodes x.1.kept)
        (after_reading q unique m).requests
    by unique mark.Unread = marked_fine nodes unique mark.Read q.requests old
    by unique mark.Flagged = marked_fine nodes unique mark.Interrupted q.requests old
    by unique mark.Read = old
    by unique mark.Interrupted = old

-- ---- replies

received_kept : (k : Kernel) → KeptReleases k → (call : ℕ) (wire : WireReply) (o : Option (CallState Opened))
    → KeptReleases (replied_to_call k call wire o).1
received_kept k old call wire None = old
received_kept k old call wire (Some state) = by (goes_with (asked state) wire)
  where
    judged_kept : (x : WireReply) (u : Use) → KeptReleases (judged (without_stale k wire) call state x u)
    judged_kept x usable =
        let gs = files_in_reply x in
        let k1 = record (without_stale k wire) { nodes = looked_up k.nodes gs } in
        let more = looked_up_more gs k.nodes in
        advanced_kept k1 call (call_replied k.vfs call state (kernel_reply (asked state) x))
        (record {
          closing = All-more (values k.closing) (λ o h. more o.nodeid h) old.closing;
          requests = All-more k.queues.requests (λ e h. more_released k.nodes
              (looked_up k.nodes gs) more e.1.kept h) old.requests;
        })
    judged_kept x unusable = record { closing = old.closing; requests = old.requests }
    judged_kept x (stale node) = record { closing = old.closing; requests = old.requests }

    by : (b : Bool) → KeptReleases (replied k call state b wire).1
    by true = used_kept (reply_received k call state wire) state
        (judged_kept (reply_judged k.nodes wire) (use_of_reply k.nodes wire))
    by false = used_kept (record k { vfs = answered k.vfs call (answer.failed 5) }) state
        (record { closing = old.closing; requests = old.requests })

-- Everything is abandoned.
pub none_kept : (k : Kernel) → k.closing ≡ [] → k.queues.requests ≡ [] → KeptReleases k
none_kept k closing requests = record {
  closing = subst (λ (m : Map Opened). All (OpenKnown k.nodes) (values m)) (sym closing) (All-nil (OpenKnown k.nodes));
  requests = subst (λ (es : List (ℕ × QueuedRequest Purpose)). All
      (λ (e : ℕ × QueuedRequest Purpose). ReleaseKnown k.nodes e.1.kept) es) (sym requests) (All-nil (Fine k.nodes));
}

pub written_kept : (k : Kernel) → KeptReleases k → (unique : ℕ) (wire : WireReply)
    → KeptReleases (reply_written k unique wire).1
written_kept k old unique wire = by (nat_eq (unique % 2) 1)
  where
    effect : (original : ℕ) (x : InterruptReplyEffect)
        → KeptReleases (record k { queues = after_reply_effect k.queues original x })
    effect original QueuedAgain = record { closing = old.closing; requests = old.requests }
    effect original TurnedOff = record { closing = old.closing; requests = old.requests }
    effect original NoReplyEffect = record { closing = old.closing; requests = old.requests }

    marks : (original : ℕ) (reply : InterruptReply) (o : Option Mark)
        → KeptReleases (record k {
          queues = option_map_or
              (λ m. after_reply_effect k.queues original (reply_effect reply m
              (list_any (nat_eq original) k.queues.interrupts) k.queues.interrupts_off)) o k.queues;
        })
    marks original reply None = record { closing = old.closing; requests = old.requests }
    marks original reply (Some m) = effect original (reply_effect reply m
        (list_any (nat_eq original) k.queues.interrupts) k.queues.interrupts_off)

    interrupts : (x : WireReply) → KeptReleases (interrupt_replied k (unique - 1) x).1
    interrupts (failed errno) = marks (unique - 1) (interrupt_reply_of errno) (mark_under k.queues (unique - 1))
    interrupts done = old
    interrupts x = old

    odd : (o : Option Purpose) → KeptReleases (interrupt_reply_written k unique wire o).1
    odd None = old
    odd (Some kept) = interrupts wire

    ended : KeptReleases (record k { queues = without k.queues unique })
    ended = record {
      closing = old.closing;
      requests =
          All-removed (Fine k.nodes) unique k.queues.requests old.requests;
    }

    agrees : (b : Bool) → KeptReleases (cond b (made_ready (record k { queues = without k.queues unique }) wire)
        (kernel_aborted (record k { queues = without k.queues unique })))
    agrees true = record { closing = ended.closing; requests = ended.requests }
    agrees false = none_kept (kernel_aborted (record k { queues = without k.queues unique })) refl refl

    even : (o : Option Purpose) → KeptReleases (request_reply_written k unique wire o).1
    even None = old
    even (Some purpose.Init) = agrees (is_agreement wire)
    even (Some (purpose.Release o)) = ended
    even (Some (purpose.Call call)) = received_kept (record k { queues = without k.queues unique }) ended call wire
        (get k.vfs.calls call)

    by : (b : Bool) → KeptReleases (cond b (interrupt_reply_written k unique wire (waiting k.queues (unique - 1)))
        (request_reply_written k unique wire (waiting k.queues unique))).1
    by true = odd (waiting k.queues (unique - 1))
    by false = even (waiting k.queues unique)
