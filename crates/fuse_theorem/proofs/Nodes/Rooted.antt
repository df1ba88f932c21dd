-- The kernel's root stays node 1, and the answers that are not collected stay in rising number, whatever happens.
use Rattle.std.proofs.Common.{◌≡◌, ℕ, ◌-◌, Bool, true, false, cond, Option, Some, None, Ok, nat_eq}
use Rattle.std.specs.Prelude.{◌%◌}
use Rattle.std.specs.Ordering.{nat_cmp}
use Rattle.std.specs.FinMap.Entries.{is_sorted-put}
use Rattle.fuse_spec.specs.declared.IntrEffect.{IntrEffect}
use Rattle.fuse_spec.specs.declared.IntrEffect.TheVariants.{Dequeued, Flagged, Queued, None as NoEffect}
use Rattle.fuse_spec.specs.declared.Opened.{Opened}
use Rattle.fuse_spec.specs.declared.Purpose.{Purpose}
use Rattle.fuse_spec.specs.declared.Purpose.TheVariants as purpose
use Rattle.fuse_spec.specs.Values.Maps.{get, put, remove}
use Rattle.fuse_spec.specs.Calls.Answers.{Answer}
use Rattle.fuse_spec.specs.Calls.Answers as answer
use Rattle.fuse_spec.specs.Calls.Begins.{Beginning, faulty, sets_out, uses, closes, beginning}
use Rattle.fuse_spec.specs.Calls.Calls.{Call, for_minor}
use Rattle.fuse_spec.specs.Calls.CallReplies.{all_bound, operation_replied, call_replied}
use Rattle.fuse_spec.specs.Kernel.Kernel.{Kernel, kernel_aborted, is_aborted, advanced, asking_for, released, released_if_idle, after_use, closed_by, closing_of, call_begun, after_signal, signalled_at, call_signalled, request_of}
use Rattle.fuse_spec.specs.Kernel.Messages.{WireReply}
use Rattle.fuse_spec.specs.Files.Operations.{Operation, getattr, mkdir, create, unlink, rmdir, rename, link, opening, readdir, readdirplus, read, write, Reply, found, missing, created, opened, attributes, listed, listed_plus, content, written, done, failed, files_in_reply}
use Rattle.fuse_spec.specs.Kernel.QueueCalls.{waiting, without, after_interrupt, interrupt_effect}
use Rattle.fuse_spec.specs.Kernel.Replies.{kernel_reply, looked_up, Use, usable, unusable, stale, goes_with, is_agreement, judged, replied, replied_to_call, ended_by, request_reply_written, interrupt_reply_written, interrupt_replied, reply_written, reply_received, without_stale, reply_judged, use_of_reply, made_ready}
use Rattle.fuse_spec.specs.Calls.Vfs.{look, no_more, asked, CallState, walking, doing, using, Vfs, Advance, answered, bound, unbound, opened_by, after_walk, after_beginning, numbered, begun, abandoned}
use Rattle.fuse_spec.specs.Calls.Walks.{Walked, looks_up, finds_none, walk}
use Rattle.fuse_spec.specs.Calls.Walks as walked
use Rattle.std.specs.List.{remove as without_at}
use Rattle.fuse_spec.specs.Server.Taking.{taking}
use Rattle.fuse_spec.specs.Server.Performs.{served}
use Rattle.fuse_spec.specs.World.Worlds.{World, Sent, after_mount, after_call, world_after_read_interrupt, world_after_read_forgets, world_after_read_pending, after_take, after_perform, after_again, after_write, after_settle, after_tick, after_drop, after_evict, after_abort}
use Rattle.fuse_spec.specs.World.Worlds as worlds
use Rattle.fuse_spec.specs.World.Events.{Event, Outcome}
use Rattle.fuse_spec.specs.World.Steps.{step}
use Rattle.fuse_theorem.specs.EachEvent.{IsRooted}
use Rattle.std.specs.Cmp.{nat_cmp_total}
use Rattle.fuse_theorem.proofs.RefusalCases.Happened.{Happened, by_mount, by_call, by_read_interrupt, by_read_forgets, by_read_pending, by_take, by_perform, by_again, by_write, by_settle, by_signal, by_tick, by_drop, by_evict, by_abort, happened}
use Rattle.fuse_theorem.proofs.Refining.GivingUp.{answers_sorted}

-- ---- what a call does

answered_rooted : (c : Vfs Opened) (call : ℕ) (a : Answer) → IsRooted c → IsRooted (answered c call a)
answered_rooted c call a r = record {
  root = r.root;
  answers = is_sorted-put nat_cmp nat_cmp_total call a c.answers r.answers;
}

after_walk_rooted : (c : Vfs Opened) (call : ℕ) (x : Walked ℕ Opened) → IsRooted c → IsRooted (after_walk c call x).vfs
after_walk_rooted c call (looks_up d word words plan) r = record { root = r.root; answers = r.answers }
after_walk_rooted c call finds_none r = answered_rooted c call (answer.failed 2) r
after_walk_rooted c call (walked.asks operation) r = record { root = r.root; answers = r.answers }

begun_rooted : (aborted : Bool) (c : Vfs Opened) (call : Call) → IsRooted c → IsRooted (begun aborted c call).vfs
begun_rooted aborted c call r = by aborted
  where
    next : IsRooted (numbered c)
    next = record { root = r.root; answers = r.answers }

    begins : (b : Beginning ℕ Opened) → IsRooted (after_beginning (numbered c) c.next_call b).vfs
    begins (faulty errno) = answered_rooted (numbered c) c.next_call (answer.failed errno) next
    begins (sets_out words plan) = after_walk_rooted (numbered c) c.next_call
        (walk (look (numbered c)) c.root c.root words plan) next
    begins (uses open_call operation) = record { root = r.root; answers = r.answers }
    begins (closes open_call o) = answered_rooted (record
        (numbered c) { opens = remove c.opens open_call }) c.next_call answer.done
        (record { root = r.root; answers = r.answers })

    by : (b : Bool) → IsRooted (cond b (no_more (answered (numbered c) c.next_call (answer.failed 107)))
        (after_beginning (numbered c) c.next_call (beginning c.opens call))).vfs
    by true = answered_rooted (numbered c) c.next_call (answer.failed 107) next
    by false = begins (beginning c.opens call)

operation_rooted : (c : Vfs Opened) (call : ℕ) (operation : Operation ℕ Opened) (reply : Reply ℕ Opened) → IsRooted c
    → IsRooted (operation_replied c call operation reply)
operation_rooted c call operation (failed errno) r = answered_rooted c call (answer.failed errno) r
operation_rooted c call (getattr file) (attributes a) r = answered_rooted c call (answer.attributes a) r
operation_rooted c call (mkdir d name) (found file valid) r =
    answered_rooted (bound c d name (Some file) valid) call answer.done (record { root = r.root; answers = r.answers })
operation_rooted c call (create d name) (created file valid o) r =
    answered_rooted (opened_by (bound c d name (Some file) valid) call o) call answer.done
    (record { root = r.root; answers = r.answers })
operation_rooted c call (link linked d name) (found file valid) r =
    answered_rooted (bound c d name (Some file) valid) call answer.done (record { root = r.root; answers = r.answers })
operation_rooted c call (unlink d name) done r =
    answered_rooted (unbound c d name) call answer.done (record { root = r.root; answers = r.answers })
operation_rooted c call (rmdir d name) done r = answered_rooted (unbound c d name) call answer.done
    (record { root = r.root; answers = r.answers })
operation_rooted c call (rename d old e new) done r =
    answered_rooted (unbound (unbound c d old) e new) call answer.done (record { root = r.root; answers = r.answers })
operation_rooted c call (opening file) (opened o) r =
    answered_rooted (opened_by c call o) call answer.done (record { root = r.root; answers = r.answers })
operation_rooted c call (readdir d after size) (listed records) r = answered_rooted c call (answer.listing records) r
operation_rooted c call (readdirplus d after size) (listed_plus pairs) r =
    answered_rooted (all_bound c d pairs) call _ (record { root = r.root; answers = r.answers })
operation_rooted c call (read o offset size) (content bytes) r = answered_rooted c call (answer.content bytes) r
operation_rooted c call (write o offset bytes) (written size) r = answered_rooted c call (answer.written size) r
operation_rooted c call operation reply r = answered_rooted c call (answer.failed 5) r

replied_rooted : (c : Vfs Opened) (call : ℕ) (state : CallState Opened) (reply : Reply ℕ Opened) → IsRooted c
    → IsRooted (call_replied c call state reply).vfs
replied_rooted c call (walking d word words plan) (found file valid) r =
    let c1 = bound c d word (Some file) valid in
    after_walk_rooted c1 call (walk (look c1) c1.root file words plan) (record { root = r.root; answers = r.answers })
replied_rooted c call (walking d word words plan) (missing valid) r =
    answered_rooted (bound c d word None valid) call (answer.failed 2) (record { root = r.root; answers = r.answers })
replied_rooted c call (walking d word words plan) (failed errno) r = answered_rooted c call (answer.failed errno) r
replied_rooted c call (walking d word words plan) reply r = answered_rooted c call (answer.failed 5) r
replied_rooted c call (doing operation) reply r = operation_rooted c call operation reply r
replied_rooted c call (using open_call operation) reply r = operation_rooted c call operation reply r

-- ---- what the kernel does beside it

advanced_rooted : (k : Kernel) (call : ℕ) (next : Advance Opened) → IsRooted next.vfs
    → IsRooted (advanced k call next).vfs
advanced_rooted k call next r = by next.operation
  where
    by : (o : Option (Operation ℕ Opened)) → IsRooted (asking_for (record k { vfs = next.vfs }) call o).vfs
    by None = r
    by (Some operation) = r

idle_rooted : (k : Kernel) (open_call : ℕ) → IsRooted k.vfs → IsRooted (released_if_idle k open_call).vfs
idle_rooted k open_call r = by (get k.closing open_call)
  where
    by : (o : Option Opened) → IsRooted (released k open_call o).vfs
    by None = r
    by (Some x) = r

used_rooted : (k : Kernel) (state : CallState Opened) → IsRooted k.vfs → IsRooted (after_use k state).vfs
used_rooted k (walking d word words plan) r = r
used_rooted k (doing operation) r = r
used_rooted k (using open_call operation) r = idle_rooted k open_call r

closing_rooted : (k : Kernel) (file : Option (ℕ × Opened)) → IsRooted k.vfs → IsRooted (closing_of k file).vfs
closing_rooted k None r = r
closing_rooted k (Some file) r = idle_rooted (record k { closing = put k.closing file.0 file.1 }) file.0 r

pub begins_rooted : (k : Kernel) (call : Call) → IsRooted k.vfs → IsRooted (call_begun k call).vfs
begins_rooted k call r =
    closing_rooted (advanced k k.vfs.next_call (begun (is_aborted k.phase) k.vfs call))
    (cond (is_aborted k.phase) None (closed_by k.vfs.opens call))
    (advanced_rooted k k.vfs.next_call (begun (is_aborted k.phase) k.vfs call)
    (begun_rooted (is_aborted k.phase) k.vfs call r))

pub abandoned_rooted : (c : Vfs Opened) → IsRooted c → IsRooted (abandoned c)
abandoned_rooted c r = record { root = r.root; answers = answers_sorted (answer.failed 103) c.calls c.answers r.answers }

-- ---- signals

pub signalled_rooted : (k : Kernel) (call : ℕ) (state : CallState Opened) (fatal : Bool) → IsRooted k.vfs
    → IsRooted (call_signalled k call state fatal).1.vfs
signalled_rooted k call state fatal r = by (request_of k call)
  where
    effect : (q : Kernel) (x : IntrEffect) → IsRooted q.vfs → IsRooted (after_signal q call state x).vfs
    effect q Dequeued s = used_rooted (record q { vfs = answered q.vfs call (answer.failed 4) }) state
        (answered_rooted q.vfs call (answer.failed 4) s)
    effect q Flagged s = s
    effect q Queued s = s
    effect q NoEffect s = s

    by : (o : Option ℕ) → IsRooted (signalled_at k call state fatal o).1.vfs
    by None = r
    by (Some unique) = effect (record k { queues = after_interrupt k.queues unique fatal })
        (interrupt_effect k.queues unique fatal) r

-- ---- replies

judged_rooted : (k : Kernel) (call : ℕ) (state : CallState Opened) (wire : WireReply) (u : Use) → IsRooted k.vfs
    → IsRooted (judged k call state wire u).vfs
judged_rooted k call state wire usable r =
    let next = call_replied k.vfs call state (kernel_reply (asked state) wire) in
    advanced_rooted (record k { nodes = looked_up k.nodes (files_in_reply wire) }) call next
    (replied_rooted k.vfs call state (kernel_reply (asked state) wire) r)
judged_rooted k call state wire unusable r = answered_rooted k.vfs call (answer.failed 5) r
judged_rooted k call state wire (stale node) r = answered_rooted k.vfs call (answer.failed 5) r

to_call_rooted : (k : Kernel) (call : ℕ) (wire : WireReply) (o : Option (CallState Opened)) → IsRooted k.vfs
    → IsRooted (replied_to_call k call wire o).1.vfs
to_call_rooted k call wire None r = r
to_call_rooted k call wire (Some state) r = by (goes_with (asked state) wire)
  where
    by : (b : Bool) → IsRooted (replied k call state b wire).1.vfs
    by true = used_rooted (reply_received k call state wire) state
        (judged_rooted (without_stale k wire) call state (reply_judged k.nodes wire) (use_of_reply k.nodes wire) r)
    by false = used_rooted (record k { vfs = answered k.vfs call (answer.failed 5) }) state
        (answered_rooted k.vfs call (answer.failed 5) r)

pub written_rooted : (k : Kernel) (unique : ℕ) (wire : WireReply) → IsRooted k.vfs
    → IsRooted (reply_written k unique wire).1.vfs
written_rooted k unique wire r = by (nat_eq (unique % 2) 1)
  where
    ended : (q : Kernel) (kept : Purpose) → IsRooted q.vfs → IsRooted (ended_by q kept wire).1.vfs
    ended q purpose.Init s = agreed_or (is_agreement wire)
      where
        agreed_or : (b : Bool) → IsRooted (cond b (made_ready q wire) (kernel_aborted q)).vfs
        agreed_or true = s
        agreed_or false = abandoned_rooted q.vfs s
    ended q (purpose.Release o) s = s
    ended q (purpose.Call call) s = to_call_rooted q call wire (get q.vfs.calls call) s

    even : (o : Option Purpose) → IsRooted (request_reply_written k unique wire o).1.vfs
    even None = r
    even (Some kept) = ended (record k { queues = without k.queues unique }) kept r

    interrupts : (x : WireReply) → IsRooted (interrupt_replied k (unique - 1) x).1.vfs
    interrupts (failed errno) = r
    interrupts done = r
    interrupts x = r

    odd : (o : Option Purpose) → IsRooted (interrupt_reply_written k unique wire o).1.vfs
    odd None = r
    odd (Some kept) = interrupts wire

    by : (b : Bool) → IsRooted (cond b (interrupt_reply_written k unique wire (waiting k.queues (unique - 1)))
        (request_reply_written k unique wire (waiting k.queues unique))).1.vfs
    by true = odd (waiting k.queues (unique - 1))
    by false = even (waiting k.queues unique)

-- ---- events

-- a reply that goes out leaves the kernel as it is
sent_off : (w : World) (number unique : ℕ) (wire : Option WireReply) → IsRooted w.kernel.vfs
    → IsRooted (worlds.copy_put w number unique wire).kernel.vfs
sent_off w number unique None rooted = rooted
sent_off w number unique (Some wire) rooted = rooted

by_event : (choice : ℕ → ℕ) (w : World) → IsRooted w.kernel.vfs → (e : Event) (o : Outcome) (after : World)
    → Happened choice w e o after → IsRooted after.kernel.vfs
by_event choice w r e o after (by_mount f m v idle) = abandoned_rooted w.kernel.vfs r
by_event choice w r e o after (by_call call ready room within) =
    begins_rooted w.kernel (for_minor w.kernel.lists_files call) r
by_event choice w r e o after (by_read_interrupt original rest live there within) = r
by_event choice w r e o after (by_read_forgets n live free can within few) = r
by_event choice w r e o after (by_read_pending k unique kept body live free there says within) = r
by_event choice w r e o after (by_take k q there within) =
    let took = taking w.server q.unique q.body in sent_off
    (record w { requests = without_at w.requests k; server = took.server }) w.server.next_copy q.unique took.reply r
by_event choice w r e o after (by_perform unique t there within) =
    let did = served choice w.server unique t in sent_off (record w { server = did.server }) w.server.next_copy unique
    (cond w.server.aborted None (Some did.wire)) r
by_event choice w r e o after (by_again unique kept there current within) = r
by_event choice w r e o after (by_write k sent there within) = written_rooted w.kernel sent.unique sent.wire r
by_event choice w r e o after (by_settle k result there) = r
by_event choice w r e o after (by_signal call fatal state live there within) =
    signalled_rooted w.kernel call state fatal r
by_event choice w r e o after (by_tick ms timely) = record { root = r.root; answers = r.answers }
by_event choice w r e o after (by_drop directory name bound live there) = record { root = r.root; answers = r.answers }
by_event choice w r e o after (by_evict node counted live there unused) = r
by_event choice w r e o after (by_abort live) = abandoned_rooted w.kernel.vfs r

-- The root and the order of the answers stay, whatever the event.
pub stays_rooted : (choice : ℕ → ℕ) (w : World) → IsRooted w.kernel.vfs → (o : Outcome) (last : World) (e : Event)
    → step choice w e ≡ Ok (o, last) → IsRooted last.kernel.vfs
stays_rooted choice w r o last e stepped = by_event choice w r e o last (happened choice w o last e stepped)
