-- An event leaves at most one call more that is unanswered or whose answer waits.
use Rattle.std.proofs.Common.{ℕ, ◌+◌, ◌-◌, ◌≤◌, Bool, true, false, not, cond, [], ◌∷◌, Option, Some, None, nat_eq, length, sym, subst, ◌∙◌, arith}
use Rattle.std.specs.Prelude.{◌%◌}
use Rattle.std.specs.declared.cmp.Ordering.TheVariants.{Less, Equal, Greater}
use Rattle.std.specs.Ordering.{nat_cmp}
use Rattle.std.specs.FinMap.Entries.{by_order}
use Rattle.std.specs.List.{remove as without_at}
use Rattle.fuse_spec.specs.declared.IntrEffect.{IntrEffect}
use Rattle.fuse_spec.specs.declared.IntrEffect.TheVariants.{Dequeued, Flagged, Queued, None as NoEffect}
use Rattle.fuse_spec.specs.declared.Opened.{Opened}
use Rattle.fuse_spec.specs.declared.Purpose.{Purpose}
use Rattle.fuse_spec.specs.declared.Purpose.TheVariants as purpose
use Rattle.fuse_spec.specs.Values.Maps.{Map, get, put, remove}
use Rattle.fuse_spec.specs.Calls.Answers.{Answer}
use Rattle.fuse_spec.specs.Calls.Answers as answer
use Rattle.fuse_spec.specs.Calls.Begins.{Beginning, faulty, sets_out, uses, closes, beginning}
use Rattle.fuse_spec.specs.Calls.Calls.{Call, for_minor}
use Rattle.fuse_spec.specs.Calls.CallReplies.{call_replied, operation_replied}
use Rattle.fuse_spec.specs.Kernel.Kernel.{Kernel, kernel_aborted, is_aborted, advanced, after_use, closed_by, call_begun, after_signal, signalled_at, call_signalled, request_of}
use Rattle.fuse_spec.specs.Kernel.Messages.{WireReply}
use Rattle.fuse_spec.specs.Files.Operations.{Operation, getattr, mkdir, create, unlink, rmdir, rename, link, opening, readdir, readdirplus, read, write, Reply, found, missing, created, opened, attributes, listed, listed_plus, content, written, done, failed, files_in_reply}
use Rattle.fuse_spec.specs.Kernel.QueueCalls.{waiting, without, after_interrupt, interrupt_effect}
use Rattle.fuse_spec.specs.Kernel.Queues.{QueueState}
use Rattle.fuse_spec.specs.Kernel.Replies.{kernel_reply, Use, usable, unusable, stale, goes_with, is_agreement, judged, replied, replied_to_call, ended_by, request_reply_written, interrupt_reply_written, interrupt_replied, reply_written, looked_up, reply_received, without_stale, reply_judged, use_of_reply, made_ready}
use Rattle.fuse_spec.specs.Calls.Vfs.{asked, CallState, walking, doing, using, Vfs, answered, asking, look, numbered, bound, begun, after_beginning, after_walk, all_answered, abandoned}
use Rattle.fuse_spec.specs.Calls.Walks.{Walked, looks_up, finds_none, asks, walk}
use Rattle.fuse_spec.specs.Server.Taking.{taking}
use Rattle.fuse_spec.specs.Server.Performs.{served}
use Rattle.fuse_spec.specs.World.Worlds.{World}
use Rattle.fuse_spec.specs.World.Worlds as worlds
use Rattle.fuse_spec.specs.World.Events.{Event, Outcome}
use Rattle.fuse_spec.specs.World.Steps.{Happens}
use Rattle.fuse_theorem.proofs.Answers.AnswersStay.{advanced_vfs, used_vfs, closing_vfs}
use Rattle.fuse_theorem.proofs.RefusalCases.Happened.{Happened, by_mount, by_call, by_read_interrupt, by_read_forgets, by_read_pending, by_take, by_perform, by_again, by_write, by_settle, by_signal, by_tick, by_drop, by_evict, by_abort, happened}

-- ---- lengths of maps

length_put : {X : Type 0} (m : Map X) (k : ℕ) (x : X) → length (put m k x) ≤ length m + 1
length_put [] k x = omega arith
length_put (e ∷ m) k x =
    let rest = length_put m k x in
    elim (nat_cmp k e.0) as (λ r. length (by_order r ((k, x) ∷ e ∷ m) ((e.0, x) ∷ m) (e ∷ put m k x)) ≤ length
    (e ∷ m) + 1) [ Less ↦ omega arith | Equal ↦ omega arith | Greater ↦ omega arith ]

length_remove : {X : Type 0} (m : Map X) (k : ℕ) → length (remove m k) ≤ length m
length_remove [] k = omega arith
length_remove (e ∷ m) k = by (not (nat_eq e.0 k)) (length_remove m k)
  where
    by : (b : Bool) → length (remove m k) ≤ length m → length (cond b (e ∷ remove m k) (remove m k)) ≤ length (e ∷ m)
    by true rest = omega (arith, rest)
    by false rest = omega (arith, rest)

pub length_all : {X : Type 0} (a : Answer) (calls : Map X) (answers : Map Answer)
    → length (all_answered a calls answers) ≤ length calls + length answers
length_all a [] answers = omega arith
length_all a (call ∷ calls) answers = omega (
  arith,
  length_put (all_answered a calls answers) call.0 a,
  length_all a calls answers,
)

-- ---- the calls alone

-- How many calls are unanswered or have an answer that waits.
abbrev waits : Vfs Opened → ℕ
waits c = length c.answers + length c.calls

abbrev OneMore : Vfs Opened → Vfs Opened → Type 0
OneMore c d = waits d ≤ waits c + 1

as_many : (c : Vfs Opened) → OneMore c c
as_many c = omega arith

answered_more : (c : Vfs Opened) (call : ℕ) (a : Answer) → OneMore c (answered c call a)
answered_more c call a = omega (arith, length_put c.answers call a, length_remove c.calls call)

asking_more : (c : Vfs Opened) (call : ℕ) (state : CallState Opened) → OneMore c (asking c call state).vfs
asking_more c call state = omega (arith, length_put c.calls call state)

abandoned_more : (c : Vfs Opened) → OneMore c (abandoned c)
abandoned_more c = omega (arith, length_all (answer.failed 103) c.calls c.answers)

walked_more : (c : Vfs Opened) (call : ℕ) (x : Walked ℕ Opened) → OneMore c (after_walk c call x).vfs
walked_more c call (looks_up d word words plan) = asking_more c call (walking d word words plan)
walked_more c call finds_none = answered_more c call _
walked_more c call (asks operation) = asking_more c call (doing operation)

beginning_more : (c : Vfs Opened) (call : ℕ) (b : Beginning ℕ Opened) → OneMore c (after_beginning c call b).vfs
beginning_more c call (faulty errno) = answered_more c call _
beginning_more c call (sets_out words plan) = walked_more c call (walk (look c) c.root c.root words plan)
beginning_more c call (uses open_call operation) = asking_more c call (using open_call operation)
beginning_more c call (closes open_call o) = answered_more c call _

begun_more : (aborted : Bool) (c : Vfs Opened) (call : Call) → OneMore c (begun aborted c call).vfs
begun_more true c call = answered_more c c.next_call _
begun_more false c call = beginning_more (numbered c) c.next_call (beginning c.opens call)

operation_more : (c : Vfs Opened) (call : ℕ) (operation : Operation ℕ Opened) (reply : Reply ℕ Opened)
    → OneMore c (operation_replied c call operation reply)
operation_more c call operation (failed errno) = answered_more c call _
operation_more c call (getattr file) (attributes a) = answered_more c call _
operation_more c call (mkdir d name) (found file valid) = answered_more c call _
operation_more c call (create d name) (created file valid o) = answered_more c call _
operation_more c call (link linked d name) (found file valid) = answered_more c call _
operation_more c call (unlink d name) done = answered_more c call _
operation_more c call (rmdir d name) done = answered_more c call _
operation_more c call (rename d old e new) done = answered_more c call _
operation_more c call (opening file) (opened o) = answered_more c call _
operation_more c call (readdir d after size) (listed records) = answered_more c call _
operation_more c call (readdirplus d after size) (listed_plus pairs) = answered_more c call _
operation_more c call (read o offset size) (content bytes) = answered_more c call _
operation_more c call (write o offset bytes) (written size) = answered_more c call _
operation_more c call operation reply = answered_more c call _

replied_more : (c : Vfs Opened) (call : ℕ) (state : CallState Opened) (reply : Reply ℕ Opened)
    → OneMore c (call_replied c call state reply).vfs
replied_more c call (walking d word words plan) (found file valid) =
    let c1 = bound c d word (Some file) valid in walked_more c1 call (walk (look c1) c1.root file words plan)
replied_more c call (walking d word words plan) (missing valid) = answered_more c call _
replied_more c call (walking d word words plan) (failed errno) = answered_more c call _
replied_more c call (walking d word words plan) reply = answered_more c call _
replied_more c call (doing operation) reply = operation_more c call operation reply
replied_more c call (using open_call operation) reply = operation_more c call operation reply

-- ---- the kernel beside its calls

module _ (k : Kernel) where
  begins_more : (call : Call) → OneMore k.vfs (call_begun k call).vfs
  begins_more call =
      let next = begun (is_aborted k.phase) k.vfs call in
      let asking = advanced k k.vfs.next_call next in
      subst (OneMore k.vfs) (sym (closing_vfs asking (cond (is_aborted k.phase) None
      (closed_by k.vfs.opens call)) ∙ advanced_vfs k k.vfs.next_call next)) (begun_more (is_aborted k.phase) k.vfs call)

  used_more : (state : CallState Opened) (q : Kernel) → OneMore k.vfs q.vfs → OneMore k.vfs (after_use q state).vfs
  used_more state q more = subst (OneMore k.vfs) (sym (used_vfs q state)) more

  signal_more : (call : ℕ) (state : CallState Opened) (fatal : Bool)
      → OneMore k.vfs (call_signalled k call state fatal).1.vfs
  signal_more call state fatal = by (request_of k call)
    where
      effect : (unique : ℕ) (x : IntrEffect) → OneMore k.vfs
          (after_signal (record k { queues = after_interrupt k.queues unique fatal }) call state x).vfs
      effect unique Dequeued = used_more state (record k {
        queues = after_interrupt k.queues unique fatal;
        vfs = answered k.vfs call (answer.failed 4);
      }) (answered_more k.vfs call (answer.failed 4))
      effect unique Flagged = as_many k.vfs
      effect unique Queued = as_many k.vfs
      effect unique NoEffect = as_many k.vfs

      by : (o : Option ℕ) → OneMore k.vfs (signalled_at k call state fatal o).1.vfs
      by None = as_many k.vfs
      by (Some unique) = effect unique (interrupt_effect k.queues unique fatal)

  judged_more : (q : QueueState Purpose) (call : ℕ) (state : CallState Opened) (wire : WireReply) (u : Use)
      → OneMore k.vfs (judged (record k { queues = q }) call state wire u).vfs
  judged_more q call state wire usable =
      let next = call_replied k.vfs call state (kernel_reply (asked state) wire) in
      subst (OneMore k.vfs) (sym (advanced_vfs (record k {
        queues = q;
        nodes = looked_up k.nodes (files_in_reply wire);
      }) call next))
      (replied_more k.vfs call state (kernel_reply (asked state) wire))
  judged_more q call state wire unusable = answered_more k.vfs call (answer.failed 5)
  judged_more q call state wire (stale node) = answered_more k.vfs call (answer.failed 5)

  receives_more : (call : ℕ) (wire : WireReply) (o : Option (CallState Opened))
      → OneMore k.vfs (replied_to_call k call wire o).1.vfs
  receives_more call wire None = as_many k.vfs
  receives_more call wire (Some state) = by (goes_with (asked state) wire)
    where
      by : (b : Bool) → OneMore k.vfs (replied k call state b wire).1.vfs
      by true = used_more state (reply_received k call state wire)
          (judged_more (without_stale k wire).queues call state (reply_judged k.nodes wire) (use_of_reply k.nodes wire))
      by false = used_more state (record k { vfs = answered k.vfs call (answer.failed 5) })
          (answered_more k.vfs call (answer.failed 5))

written_more : (k : Kernel) (unique : ℕ) (wire : WireReply) → OneMore k.vfs (reply_written k unique wire).1.vfs
written_more k unique wire = by (nat_eq (unique % 2) 1)
  where
    ended : (q : Kernel) (kept : Purpose) → OneMore q.vfs (ended_by q kept wire).1.vfs
    ended q purpose.Init = agreed_or (is_agreement wire)
      where
        agreed_or : (b : Bool) → OneMore q.vfs (cond b (made_ready q wire) (kernel_aborted q)).vfs
        agreed_or true = as_many q.vfs
        agreed_or false = abandoned_more q.vfs
    ended q (purpose.Release o) = as_many q.vfs
    ended q (purpose.Call call) = receives_more q call wire (get q.vfs.calls call)

    even : (o : Option Purpose) → OneMore k.vfs (request_reply_written k unique wire o).1.vfs
    even None = as_many k.vfs
    even (Some kept) = ended (record k { queues = without k.queues unique }) kept

    interrupts : (x : WireReply) → OneMore k.vfs (interrupt_replied k (unique - 1) x).1.vfs
    interrupts (failed errno) = as_many k.vfs
    interrupts done = as_many k.vfs
    interrupts x = as_many k.vfs

    odd : (o : Option Purpose) → OneMore k.vfs (interrupt_reply_written k unique wire o).1.vfs
    odd None = as_many k.vfs
    odd (Some kept) = interrupts wire

    by : (b : Bool) → OneMore k.vfs (cond b (interrupt_reply_written k unique wire (waiting k.queues (unique - 1)))
        (request_reply_written k unique wire (waiting k.queues unique))).1.vfs
    by true = odd (waiting k.queues (unique - 1))
    by false = even (waiting k.queues unique)

-- ---- events

sent_more : (w : World) (number unique : ℕ) (wire : Option WireReply)
    → OneMore w.kernel.vfs (worlds.copy_put w number unique wire).kernel.vfs
sent_more w number unique None = as_many w.kernel.vfs
sent_more w number unique (Some wire) = as_many w.kernel.vfs

by_event : (choice : ℕ → ℕ) (w : World) (e : Event) (o : Outcome) (after : World) → Happened choice w e o after
    → OneMore w.kernel.vfs after.kernel.vfs
by_event choice w e o after (by_mount f m v idle) = abandoned_more w.kernel.vfs
by_event choice w e o after (by_call call ready room within) = begins_more w.kernel (for_minor w.kernel.lists_files call)
by_event choice w e o after (by_read_interrupt original rest live there within) = as_many w.kernel.vfs
by_event choice w e o after (by_read_forgets n live free can within few) = as_many w.kernel.vfs
by_event choice w e o after (by_read_pending k unique kept body live free there says within) = as_many w.kernel.vfs
by_event choice w e o after (by_take k q there within) =
    let took = taking w.server q.unique q.body in
    sent_more (record w {
      requests = without_at w.requests k;
      server = took.server;
    }) w.server.next_copy q.unique took.reply
by_event choice w e o after (by_perform unique t there within) =
    let did = served choice w.server unique t in
    sent_more (record w { server = did.server }) w.server.next_copy unique (cond w.server.aborted None (Some did.wire))
by_event choice w e o after (by_again unique kept there current within) = as_many w.kernel.vfs
by_event choice w e o after (by_write k s there within) = written_more w.kernel s.unique s.wire
by_event choice w e o after (by_settle k result there) = as_many w.kernel.vfs
by_event choice w e o after (by_signal call fatal state live there within) = signal_more w.kernel call state fatal
by_event choice w e o after (by_tick ms timely) = as_many w.kernel.vfs
by_event choice w e o after (by_drop directory name bound live there) = as_many w.kernel.vfs
by_event choice w e o after (by_evict node counted live there unused) = as_many w.kernel.vfs
by_event choice w e o after (by_abort live) = abandoned_more w.kernel.vfs

-- After any event at most one call more is unanswered or has an answer that waits.
pub one_more_waits : (w : World) (e : Event) (o : Outcome) (after : World) → Happens w e o after
    → length after.kernel.vfs.answers + length after.kernel.vfs.calls ≤ length w.kernel.vfs.answers + length w.kernel.vfs.calls + 1
one_more_waits w e o after happens = by_event happens.0 w e o after (happened happens.0 w o after e happens.2)
