-- Where kernel and server accept an event, and nothing is past its end, it happens so in the machine.
use Rattle.std.proofs.Common.{◌≡◌, ℕ, ◌+◌, ◌||◌, List, Bool, true, false, not, cond, Option, Some, None, Ok, Err, nat_eq, nat_lt, nat_le, max, length, slice_get, refl, ap, sym, ◌∙◌}
use Rattle.std.specs.Prelude.{Result}
use Rattle.fuse_spec.specs.declared.Minor.{Minor}
use Rattle.fuse_spec.specs.declared.Dentry.{Dentry}
use Rattle.fuse_spec.specs.declared.Counted.{Counted}
use Rattle.fuse_spec.specs.declared.Refusal.{Refusal}
use Rattle.fuse_spec.specs.declared.Refusal.TheVariants as refusal
use Rattle.fuse_spec.specs.declared.ReplyResult.{ReplyResult}
use Rattle.fuse_spec.specs.declared.WriteResult.{WriteResult}
use Rattle.fuse_spec.specs.Values.Maps.{get, get_name}
use Rattle.fuse_spec.specs.Values.Numbers.{max_validity, max_calls, clock_end}
use Rattle.fuse_spec.specs.Files.Operations.{errno_of}
use Rattle.fuse_spec.specs.Calls.Calls.{Call}
use Rattle.fuse_spec.specs.Kernel.Messages.{Forget, Request, RequestBody}
use Rattle.fuse_spec.specs.Kernel.Kernel.{Kernel, is_live, is_pinned, is_bound, call_put, forgets_read}
use Rattle.fuse_spec.specs.Kernel.QueueCalls.{pending_at, after_read_forgets}
use Rattle.fuse_spec.specs.Kernel.Replies.{reply_written}
use Rattle.fuse_spec.specs.Server.Server.{HeldRequest, Kept, Copy}
use Rattle.fuse_spec.specs.Server.Copies.{is_current, files_named}
use Rattle.fuse_spec.specs.Server.Nodes.{count_overflows}
use Rattle.fuse_spec.specs.Server.Taking.{taking}
use Rattle.fuse_spec.specs.Server.Performs.{PerformResult, served, files_given}
use Rattle.fuse_spec.specs.World.Worlds.{World, Sent, after_mount, after_call, world_after_read_pending, world_after_read_forgets as after_forgets, after_take, after_perform, after_again, after_write, after_settle, after_tick, after_drop, after_evict}
use Rattle.fuse_spec.specs.World.Events.{Event, Outcome}
use Rattle.fuse_spec.specs.World.Events as event
use Rattle.fuse_spec.specs.Kernel.Refusals.{found, pending_found, unused_found, unless, refusal_in, accepted, when_live, when_not_interrupted, is_ready, is_busy}
use Rattle.fw_world.proofs.Judged.{passed, unless_ok, finds}
use Rattle.fuse_spec.specs.Server.Refusals.{held_found, kept_found}
use Rattle.fuse_spec.specs.World.Steps.{going, is_past, reading_pending, reading_forgets, taking_request, performed_as, performing_held, sending_again, writing_copy, settling, dropping, evicting, MayStep, Happens}
use Rattle.fk_kernel.specs.Refused.{within_counters, begin_refusal, mount_refusal, read_refusal, IsPendingRequest}
use Rattle.fk_kernel.specs.Refused.{read_forgets_refusal, tick_refusal, drop_refusal, evict_refusal}

-- any ids will do, where none is given
abbrev any_id : ℕ → ℕ
any_id file = file

pub goes : (o : Outcome) (after : World) → is_past after ≡ false → going o after ≡ Ok (o, after)
goes o after within = ap (λ (b : Bool). cond b (Err refusal.Exhausted) (Ok (o, after))) within

pub mounts : (w : World) (found_ms missing_ms : ℕ) (minor : Minor)
    → nat_lt max_validity (max found_ms missing_ms) ≡ false → mount_refusal w.kernel ≡ None
    → Happens w (event.mount found_ms missing_ms minor) event.mounted (after_mount w found_ms missing_ms minor)
mounts w found_ms missing_ms minor day judged =
    let mounted : Outcome × World = (event.mounted, after_mount w found_ms missing_ms minor) in
    (any_id, tt, rw day (unless_ok (is_busy w.kernel) refusal.Busy accepted (Ok mounted) mounted judged refl))

pub calls : (w : World) (call : Call) → begin_refusal w.kernel call ≡ None → is_past (after_call w call) ≡ false
    → Happens w (event.call call) (event.begun w.kernel.vfs.next_call) (after_call w call)
calls w call judged within =
    let begins : Outcome × World = (event.begun w.kernel.vfs.next_call, after_call w call) in
    let full = nat_le max_calls (length w.kernel.vfs.calls) in
    let gone = going begins.0 begins.1 in
    let counted = within_counters (call_put w.kernel call) in
    let room =
    (passed (not (is_ready w.kernel.phase)) refusal.NotReady (unless full refusal.Full counted) judged).1 in (
      any_id,
      tt,
      unless_ok (not (is_ready w.kernel.phase)) refusal.NotReady (unless full refusal.Full counted)
          (unless full refusal.Full gone) begins judged
          (unless_ok full refusal.Full counted gone begins room (goes begins.0 begins.1 within)),
    )

-- a read where no INTERRUPT has to go first
pub read_ok : {A B : Type 0} (k : Kernel) (x : Result A Refusal) (y : Result B Refusal) (z : B)
    → refusal_in (when_live k (when_not_interrupted k x)) ≡ None → y ≡ Ok z
    → when_live k (when_not_interrupted k y) ≡ Ok z
read_ok k x y z e is =
    let first = (passed (not (is_live k.phase)) refusal.NotReady (when_not_interrupted k x) e).1 in
    unless_ok (not (is_live k.phase)) refusal.NotReady (when_not_interrupted k x) (when_not_interrupted k y) z e
    (unless_ok (not (nat_eq (length k.queues.interrupts) 0)) refusal.InterruptFirst x y z first is)

pub reads : (w : World) (place : ℕ) (request : Request) → read_refusal w.kernel place ≡ None
    → IsPendingRequest w.kernel place request → is_past (world_after_read_pending w place request.unique request.body) ≡ false
    → Happens w (event.read_pending place) (event.is_read request.unique)
    (world_after_read_pending w place request.unique request.body)
reads w place request judged is within =
    let at = pending_at w.kernel.queues place in
    let after = world_after_read_pending w place request.unique request.body in (
      any_id,
      tt,
      read_ok w.kernel (pending_found w.kernel at (λ (unique : ℕ) (body : RequestBody). accepted))
          (pending_found w.kernel at (reading_pending w place)) (event.is_read request.unique, after) judged
          (rw (is.pending, is.body) (goes (event.is_read request.unique) after within)),
    )

pub takes : (w : World) (place : ℕ) (request : Request) → slice_get w.requests place ≡ Some request
    → is_past (after_take w place request.unique (taking w.server request.unique request.body)) ≡ false
    → Happens w (event.take place) (event.taken request.unique (taking w.server request.unique request.body).word)
    (after_take w place request.unique (taking w.server request.unique request.body))
takes w place request there within =
    let took = taking w.server request.unique request.body in (
      any_id,
      tt,
      ap (λ o. found o (taking_request w place)) there ∙ goes (event.taken request.unique took.word)
          (after_take w place request.unique took) within,
    )

pub performs : (choice : ℕ → ℕ) (w : World) (unique : ℕ) (held : HeldRequest) → get w.server.held unique ≡ Some held
    → count_overflows w.server.nodes (files_given w.server held) ≡ false → MayStep choice w (event.perform unique)
    → (did : PerformResult) → served choice w.server unique held ≡ did
    → is_past (after_perform w unique did) ≡ false → Happens w (event.perform unique)
    (event.performed unique (errno_of did.wire) w.server.aborted) (after_perform w unique did)
performs choice w unique held there counts may did is within =
    let outcome = event.performed unique (errno_of did.wire) w.server.aborted in (
      choice,
      may,
      ap (λ o. held_found w.server o (performing_held choice w unique)) there ∙ ap
          (λ (b : Bool). unless b refusal.Exhausted (performed_as w unique
          (served choice w.server unique held))) counts ∙ ap
          (λ (d : PerformResult). going (event.performed unique (errno_of d.wire) w.server.aborted)
          (after_perform w unique d)) is ∙ goes outcome (after_perform w unique did) within,
    )

pub sends_again : (w : World) (unique : ℕ) (kept : Kept) → get w.server.kept unique ≡ Some kept
    → is_current w.server kept.wire ≡ true → count_overflows w.server.nodes (files_named w.server kept.wire) ≡ false
    → is_past (after_again w unique kept) ≡ false
    → Happens w (event.again unique) (event.sent_again unique) (after_again w unique kept)
sends_again w unique kept there current counts within =
    let outcome = event.sent_again unique in
    let after = after_again w unique kept in (
      any_id,
      tt,
      ap (λ o. kept_found w.server o (sending_again w unique)) there ∙ ap (λ (b : Bool). unless (not b) refusal.NoCopy
          (unless (count_overflows w.server.nodes (files_named w.server kept.wire)) refusal.Exhausted
          (going outcome after))) current
          ∙ ap (λ (b : Bool). unless b refusal.Exhausted (going outcome after)) counts ∙ goes outcome after within,
    )

pub writes : (w : World) (place : ℕ) (sent : Sent) (took : WriteResult × Kernel)
    → slice_get w.replies place ≡ Some sent → reply_written w.kernel sent.unique sent.wire ≡ took
    → is_past (after_write w place sent took) ≡ false
    → Happens w (event.write place) (event.written sent.unique took.0) (after_write w place sent took)
writes w place sent took there is within =
    let outcome = event.written sent.unique took.0 in (
      any_id,
      tt,
      ap (λ o. found o (writing_copy w place)) there ∙ ap
          (λ (t : WriteResult × Kernel). going (event.written sent.unique t.0)
          (after_write w place sent t)) is ∙ goes outcome (after_write w place sent took) within,
    )

pub settles : (w : World) (place : ℕ) (result : ReplyResult) (copy : Copy) → slice_get w.results place ≡ Some result
    → get w.server.copies result.number ≡ Some copy
    → Happens w (event.settle place) (event.settled result.unique result.result)
    (after_settle w place result (Some copy))
settles w place result copy there known = (
  any_id,
  tt,
  ap (λ o. found o (settling w place)) there ∙ ap (λ (o : Option Copy). Ok
      (event.settled result.unique result.result, after_settle w place result o)) known,
)

pub reads_forgets : (w : World) (n : ℕ) (forgets : List Forget) → read_forgets_refusal w.kernel n ≡ None
    → forgets_read w.kernel n ≡ Some (w.kernel.queues.next, forgets) → is_past (after_forgets w n forgets) ≡ false
    → Happens w (event.read_forgets n) (event.is_read w.kernel.queues.next) (after_forgets w n forgets)
reads_forgets w n forgets judged first within =
    let after = after_forgets w n forgets in
    let read = forgets_read w.kernel n in (
      any_id,
      tt,
      read_ok w.kernel
          (found read (λ (r : ℕ × List Forget).
          within_counters (record w.kernel { queues = after_read_forgets w.kernel.queues n })))
          (found read (reading_forgets w n)) (event.is_read w.kernel.queues.next, after) judged
          (ap (λ (o : Option (ℕ × List Forget)). found o (reading_forgets w n)) first
          ∙ goes (event.is_read w.kernel.queues.next) after within),
    )

pub ticks : (w : World) (ms : ℕ) → tick_refusal w.kernel ms ≡ None
    → Happens w (event.tick ms) (event.now (w.kernel.vfs.clock + ms)) (after_tick w ms)
ticks w ms judged =
    let now : Outcome × World = (event.now (w.kernel.vfs.clock + ms), after_tick w ms) in (
      any_id,
      tt,
      unless_ok (nat_le clock_end (w.kernel.vfs.clock + ms))
          refusal.BadTime accepted (Ok now) now judged refl,
    )

pub drops : (w : World) (directory : ℕ) (name : List ℕ) → drop_refusal w.kernel directory name ≡ None
    → Happens w (event.drop_name directory name) event.dropped (after_drop w directory name)
drops w directory name judged =
    let bound = get_name w.kernel.vfs.names (directory, name) in
    let dropped : Outcome × World = (event.dropped, after_drop w directory name) in
    let not_live = not (is_live w.kernel.phase) in
    let finds_it = finds bound (λ (b : Dentry). accepted)
    (passed not_live refusal.NotReady (found bound (λ (b : Dentry). accepted)) judged).1 in (
      any_id,
      tt,
      unless_ok not_live refusal.NotReady (found bound (λ (b : Dentry). accepted))
          (found bound (dropping (after_drop w directory name))) dropped judged
          (ap (λ (o : Option Dentry). found o (dropping (after_drop w directory name))) finds_it.there),
    )

pub evicts : (w : World) (node : ℕ) (counted : Counted) → evict_refusal w.kernel node ≡ None
    → get w.kernel.nodes node ≡ Some counted → Happens w (event.evict node) (event.evicted node counted.count)
    (after_evict w node counted)
evicts w node counted judged there =
    let not_live = not (is_live w.kernel.phase) in
    let busy = is_pinned w.kernel node || is_bound w.kernel node in
    let evicted : Outcome × World = (event.evicted node counted.count, after_evict w node counted) in
    let here = ap (λ (o : Option Counted). unless not_live refusal.NotReady
    (unused_found w.kernel node o (evicting w node))) there in
    let judged_so : refusal_in (unless not_live refusal.NotReady (unless busy refusal.Busy accepted)) ≡ None =
    ap (λ (o : Option Counted). refusal_in (unless not_live refusal.NotReady
    (unused_found w.kernel node o (λ (c : Counted). accepted)))) (sym there) ∙ judged in
    let unused = (passed not_live refusal.NotReady (unless busy refusal.Busy accepted) judged_so).1 in (
      any_id,
      tt,
      here ∙ unless_ok not_live refusal.NotReady (unless busy refusal.Busy accepted)
          (unless busy refusal.Busy (Ok evicted)) evicted judged_so
          (unless_ok busy refusal.Busy accepted (Ok evicted) evicted unused refl),
    )
