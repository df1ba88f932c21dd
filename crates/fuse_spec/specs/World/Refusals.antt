-- Which refusal an event has, and what it leads to where it has none: the steps of the machine by cases.
use Rattle.std.specs.Prelude.{◌≡◌, ◌≢◌, ◌⊎◌, ◌≤◌, ◌<◌, ℕ, ◌+◌, Bool, true, false, ◌||◌, List, [], ◌∷◌, Some, None, length, slice_get, max}
use Rattle.fuse_spec.specs.Values.Maps.{get, get_name}
use Rattle.fuse_spec.specs.Values.Numbers.{max_calls, max_validity, clock_end}
use Rattle.fuse_spec.specs.Files.Operations.{errno_of}
use Rattle.fuse_spec.specs.Calls.Paths.{Name}
use Rattle.fuse_spec.specs.Calls.Calls.{Call}
use Rattle.fuse_spec.specs.Calls.Vfs.{CallState}
use Rattle.fuse_spec.specs.declared.Counted.{Counted}
use Rattle.fuse_spec.specs.declared.Minor.{Minor}
use Rattle.fuse_spec.specs.declared.Dentry.{Dentry}
use Rattle.fuse_spec.specs.declared.Opened.{Opened}
use Rattle.fuse_spec.specs.declared.Purpose.{Purpose}
use Rattle.fuse_spec.specs.declared.ReplyResult.{ReplyResult}
use Rattle.fuse_spec.specs.declared.Refusal.{Refusal}
use Rattle.fuse_spec.specs.declared.Refusal.TheVariants.{BadTime, Busy, NotReady, Full, NoSuch, NoCopy, InterruptFirst, Exhausted}
use Rattle.fuse_spec.specs.Kernel.QueueCalls.{pending_at}
use Rattle.fuse_spec.specs.Kernel.Uniques.{interrupt_number}
use Rattle.fuse_spec.specs.Kernel.Messages.{Forget, Request, RequestBody}
use Rattle.fuse_spec.specs.Kernel.Kernel.{Kernel, forgets_read, is_live, body_of, call_signalled, is_pinned, is_bound}
use Rattle.fuse_spec.specs.Kernel.Replies.{reply_written}
use Rattle.fuse_spec.specs.Server.Server.{HeldRequest, Kept}
use Rattle.fuse_spec.specs.Server.Taking.{taking}
use Rattle.fuse_spec.specs.Server.Performs.{served, files_given}
use Rattle.fuse_spec.specs.Server.Copies.{is_current, files_named}
use Rattle.fuse_spec.specs.Server.Nodes.{count_overflows}
use Rattle.fuse_spec.specs.World.Worlds.{World, Sent, after_mount, after_call, world_after_read_interrupt, world_after_read_forgets, world_after_read_pending, after_take, after_perform, after_again, after_write, after_settle, after_tick, after_drop, after_evict, after_abort}
use Rattle.fuse_spec.specs.Kernel.Refusals.{is_ready}
use Rattle.fuse_spec.specs.World.Steps.{is_past}
use Rattle.fuse_spec.specs.World.Events.{Event, Outcome}
use Rattle.fuse_spec.specs.World.Events as event

-- A live mount with an unanswered call or an open file.
pub record IsInUse (k : Kernel) : Type 0 where
  pub live : is_live k.phase ≡ true
  pub used : length k.vfs.calls + length k.vfs.opens ≢ 0

-- No mount is live, or nothing of it is in use.
abbrev pub IsFree : Kernel → Type 0
IsFree k = (is_live k.phase ≡ false) ⊎ (length k.vfs.calls + length k.vfs.opens ≡ 0)

-- The kernel hands requests out while its mount is live, and no INTERRUPT has to go first. (fuse.rst)
pub record MayRead (w : World) : Type 0 where
  pub live : is_live w.kernel.phase ≡ true
  pub none_first : w.kernel.queues.interrupts ≡ []

-- Where an event is not refused, its outcome and where it leads, counters aside. The server chooses the ids that it
-- gives.
pub data Leads (choice : ℕ → ℕ) (w : World) : Event → Outcome → World → Type 0 where
  mounts : (found_ms missing_ms : ℕ) (minor : Minor) → max found_ms missing_ms ≤ max_validity → IsFree w.kernel
      → Leads choice w (event.mount found_ms missing_ms minor) event.mounted (after_mount w found_ms missing_ms minor)
  calls : (call : Call) → is_ready w.kernel.phase ≡ true → length w.kernel.vfs.calls < max_calls
      → Leads choice w (event.call call) (event.begun w.kernel.vfs.next_call) (after_call w call)
  reads_interrupt : (original : ℕ) (rest : List ℕ) → is_live w.kernel.phase ≡ true
      → w.kernel.queues.interrupts ≡ original ∷ rest
      → Leads choice w event.read_interrupt (event.is_read (interrupt_number original))
      (world_after_read_interrupt w original)
  reads_forgets : (n unique : ℕ) (forgets : List Forget) → MayRead w → forgets_read w.kernel n ≡ Some (unique, forgets)
      → Leads choice w (event.read_forgets n) (event.is_read unique) (world_after_read_forgets w n forgets)
  reads_pending : (k unique : ℕ) (purpose : Purpose) (body : RequestBody) → MayRead w
      → pending_at w.kernel.queues k ≡ Some (unique, purpose) → body_of w.kernel purpose ≡ Some body
      → Leads choice w (event.read_pending k) (event.is_read unique) (world_after_read_pending w k unique body)
  takes : (k : ℕ) (request : Request) → slice_get w.requests k ≡ Some request
      → Leads choice w (event.take k) (event.taken request.unique (taking w.server request.unique request.body).word)
      (after_take w k request.unique (taking w.server request.unique request.body))
  performs : (unique : ℕ) (held : HeldRequest) → get w.server.held unique ≡ Some held
      → count_overflows w.server.nodes (files_given w.server held) ≡ false
      → Leads choice w (event.perform unique) (event.performed unique
      (errno_of (served choice w.server unique held).wire) w.server.aborted)
      (after_perform w unique (served choice w.server unique held))
  sends_again : (unique : ℕ) (kept : Kept) → get w.server.kept unique ≡ Some kept
      → is_current w.server kept.wire ≡ true → count_overflows w.server.nodes (files_named w.server kept.wire) ≡ false
      → Leads choice w (event.again unique) (event.sent_again unique) (after_again w unique kept)
  writes : (k : ℕ) (sent : Sent) → slice_get w.replies k ≡ Some sent
      → Leads choice w (event.write k) (event.written sent.unique (reply_written w.kernel sent.unique sent.wire).0)
      (after_write w k sent (reply_written w.kernel sent.unique sent.wire))
  settles : (k : ℕ) (result : ReplyResult) → slice_get w.results k ≡ Some result
      → Leads choice w (event.settle k) (event.settled result.unique result.result)
      (after_settle w k result (get w.server.copies result.number))
  signals : (call : ℕ) (fatal : Bool) (state : CallState Opened) → is_live w.kernel.phase ≡ true
      → get w.kernel.vfs.calls call ≡ Some state
      → Leads choice w (event.intr call fatal) (event.interrupted call (call_signalled w.kernel call state fatal).0)
      (record w { kernel = (call_signalled w.kernel call state fatal).1 })
  passes : (ms : ℕ) → w.kernel.vfs.clock + ms < clock_end
      → Leads choice w (event.tick ms) (event.now (w.kernel.vfs.clock + ms)) (after_tick w ms)
  drops : (directory : ℕ) (name : Name) (bound : Dentry) → is_live w.kernel.phase ≡ true
      → get_name w.kernel.vfs.names (directory, name) ≡ Some bound
      → Leads choice w (event.drop_name directory name) event.dropped (after_drop w directory name)
  evicts : (node : ℕ) (counted : Counted) → is_live w.kernel.phase ≡ true → get w.kernel.nodes node ≡ Some counted
      → is_pinned w.kernel node ≡ false → is_bound w.kernel node ≡ false
      → Leads choice w (event.evict node) (event.evicted node counted.count) (after_evict w node counted)
  aborts : is_live w.kernel.phase ≡ true → Leads choice w event.abort event.aborted (after_abort w)

-- The events that are refused where a counter would go past its end.
abbrev pub allocates : Event → Bool
allocates (event.mount found_ms missing_ms minor) = false
allocates (event.settle k) = false
allocates (event.tick ms) = false
allocates (event.drop_name directory name) = false
allocates (event.evict node) = false
allocates event.abort = false
allocates other = true

-- The events that need a live mount.
abbrev pub needs_live : Event → Bool
needs_live event.read_interrupt = true
needs_live (event.read_forgets n) = true
needs_live (event.read_pending k) = true
needs_live (event.intr call fatal) = true
needs_live (event.drop_name directory name) = true
needs_live (event.evict node) = true
needs_live event.abort = true
needs_live other = false

-- The events that read a request which an INTERRUPT has to go before. (fuse.rst)
abbrev pub reads_other : Event → Bool
reads_other (event.read_forgets n) = true
reads_other (event.read_pending k) = true
reads_other other = false

-- What the event names is not there: no such pending request, forget, INTERRUPT, request, copy or result on its link,
-- no such request held, call unanswered, cached name, or node counted.
pub data NamesNothing (w : World) : Event → Type 0 where
  no_interrupt : w.kernel.queues.interrupts ≡ [] → NamesNothing w event.read_interrupt
  no_forgets : (n : ℕ) → forgets_read w.kernel n ≡ None → NamesNothing w (event.read_forgets n)
  no_pending : (k : ℕ) → pending_at w.kernel.queues k ≡ None → NamesNothing w (event.read_pending k)
  no_body : (k unique : ℕ) (purpose : Purpose) → pending_at w.kernel.queues k ≡ Some (unique, purpose)
      → body_of w.kernel purpose ≡ None → NamesNothing w (event.read_pending k)
  no_request : (k : ℕ) → slice_get w.requests k ≡ None → NamesNothing w (event.take k)
  none_held : (unique : ℕ) → get w.server.held unique ≡ None → NamesNothing w (event.perform unique)
  no_copy : (k : ℕ) → slice_get w.replies k ≡ None → NamesNothing w (event.write k)
  no_result : (k : ℕ) → slice_get w.results k ≡ None → NamesNothing w (event.settle k)
  no_call : (call : ℕ) (fatal : Bool) → get w.kernel.vfs.calls call ≡ None → NamesNothing w (event.intr call fatal)
  no_name : (directory : ℕ) (name : Name) → get_name w.kernel.vfs.names (directory, name) ≡ None
      → NamesNothing w (event.drop_name directory name)
  no_node : (node : ℕ) → get w.kernel.nodes node ≡ None → NamesNothing w (event.evict node)

-- Which refusal the event has. The cases are judged in this order: each says that those before it do not apply. Out of
-- memory, which comes last, is no matter of the state. (this project's rule)
pub data Refuses (choice : ℕ → ℕ) (w : World) : Event → Refusal → Type 0 where
  too_long : (found_ms missing_ms : ℕ) (minor : Minor) → max_validity < max found_ms missing_ms
      → Refuses choice w (event.mount found_ms missing_ms minor) BadTime
  in_use : (found_ms missing_ms : ℕ) (minor : Minor) → max found_ms missing_ms ≤ max_validity → IsInUse w.kernel
      → Refuses choice w (event.mount found_ms missing_ms minor) Busy
  clock_ends : (ms : ℕ) → clock_end ≤ w.kernel.vfs.clock + ms → Refuses choice w (event.tick ms) BadTime
  not_ready : (call : Call) → is_ready w.kernel.phase ≡ false → Refuses choice w (event.call call) NotReady
  too_many : (call : Call) → is_ready w.kernel.phase ≡ true → max_calls ≤ length w.kernel.vfs.calls
      → Refuses choice w (event.call call) Full
  not_live : (e : Event) → needs_live e ≡ true → is_live w.kernel.phase ≡ false → Refuses choice w e NotReady
  interrupt_first : (e : Event) → reads_other e ≡ true → is_live w.kernel.phase ≡ true
      → w.kernel.queues.interrupts ≢ [] → Refuses choice w e InterruptFirst
  names_nothing : (e : Event) → (needs_live e ≡ true → is_live w.kernel.phase ≡ true)
      → (reads_other e ≡ true → w.kernel.queues.interrupts ≡ []) → NamesNothing w e → Refuses choice w e NoSuch
  none_kept : (unique : ℕ) → get w.server.kept unique ≡ None → Refuses choice w (event.again unique) NoCopy
  not_current : (unique : ℕ) (kept : Kept) → get w.server.kept unique ≡ Some kept
      → is_current w.server kept.wire ≡ false → Refuses choice w (event.again unique) NoCopy
  pinned_or_bound : (node : ℕ) (counted : Counted) → is_live w.kernel.phase ≡ true
      → get w.kernel.nodes node ≡ Some counted → is_pinned w.kernel node || is_bound w.kernel node ≡ true
      → Refuses choice w (event.evict node) Busy
  counted_too_often : (unique : ℕ) (held : HeldRequest) → get w.server.held unique ≡ Some held
      → count_overflows w.server.nodes (files_given w.server held) ≡ true → Refuses choice w (event.perform unique) Exhausted
  copied_too_often : (unique : ℕ) (kept : Kept) → get w.server.kept unique ≡ Some kept
      → is_current w.server kept.wire ≡ true → count_overflows w.server.nodes (files_named w.server kept.wire) ≡ true
      → Refuses choice w (event.again unique) Exhausted
  past_its_end : (e : Event) (o : Outcome) (after : World) → allocates e ≡ true → Leads choice w e o after
      → is_past after ≡ true → Refuses choice w e Exhausted
