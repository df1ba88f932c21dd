-- One event: exactly which refusal it gets, or what it does. The server may choose the ids that it gives; all else is
-- determined.
use Rattle.std.specs.Prelude.{◌≡◌, ◌⊎◌, ℕ, ◌+◌, Bool, true, false, ◌||◌, List, Option, Some, None, Result, Ok, Err, nat_lt, slice_get, max}
use Rattle.std.specs.Option.{option_map_or}
use Rattle.fuse_spec.specs.Values.Maps.{get}
use Rattle.fuse_spec.specs.Values.Numbers.{max_validity}
use Rattle.fuse_spec.specs.Files.Operations.{errno_of}
use Rattle.fuse_spec.specs.Calls.Vfs.{CallState}
use Rattle.fuse_spec.specs.declared.Counted.{Counted}
use Rattle.fuse_spec.specs.declared.Dentry.{Dentry}
use Rattle.fuse_spec.specs.declared.Opened.{Opened}
use Rattle.fuse_spec.specs.declared.IntrEffect.{IntrEffect}
use Rattle.fuse_spec.specs.declared.WriteResult.{WriteResult}
use Rattle.fuse_spec.specs.declared.ReplyResult.{ReplyResult}
use Rattle.fuse_spec.specs.declared.Refusal.{Refusal}
use Rattle.fuse_spec.specs.declared.Refusal.TheVariants as refusal
use Rattle.fuse_spec.specs.declared.Refusal.TheVariants.{NoMemory}
use Rattle.fuse_spec.specs.Kernel.Uniques.{interrupt_number}
use Rattle.fuse_spec.specs.Kernel.Messages.{Forget, Request, RequestBody}
use Rattle.fuse_spec.specs.Kernel.Kernel.{Kernel, call_signalled}
use Rattle.fuse_spec.specs.Kernel.Replies.{reply_written}
use Rattle.fuse_spec.specs.Kernel.Refusals as kernel
use Rattle.fuse_spec.specs.Kernel.Refusals.{unless, found, when_live, to_mount, to_call, to_pass, to_read_interrupt, to_read_forgets, to_read_pending, to_signal, to_drop, to_evict}
use Rattle.fuse_spec.specs.Server.Nodes.{MayChoose}
use Rattle.fuse_spec.specs.Server.Memory.{word_takes_memory, performing_takes_memory}
use Rattle.fuse_spec.specs.Server.Server.{HeldRequest, Kept}
use Rattle.fuse_spec.specs.Server.Taking.{TakeResult, taking}
use Rattle.fuse_spec.specs.Server.Performs.{PerformResult, served, files_given}
use Rattle.fuse_spec.specs.Server.Refusals as server
use Rattle.fuse_spec.specs.Server.Refusals.{to_perform, to_send_again}
use Rattle.fuse_spec.specs.World.Worlds.{World, Sent, after_mount, after_call, world_after_read_interrupt, world_after_read_forgets, world_after_read_pending, after_take, after_perform, after_again, after_write, after_settle, after_tick, after_drop, after_evict, after_abort}
use Rattle.fuse_spec.specs.World.Events.{Event, Outcome}
use Rattle.fuse_spec.specs.World.Events as event

-- What an event results in: an outcome and the world after it, or a refusal.
abbrev pub Stepped : Type 0
Stepped = Result (Outcome × World) Refusal

-- Whether a counter would have given a number past its end, or a node's count come to it.
abbrev pub is_past : World → Bool
is_past w = kernel.is_kernel_past w.kernel || server.is_server_past_end w.server

-- The outcome, unless a counter would have to go past its end or a node's count to come to it.
abbrev pub going : Outcome → World → Stepped
going outcome w = unless (is_past w) refusal.Exhausted (Ok (outcome, w))

-- The oldest INTERRUPT is read.
abbrev pub reading_interrupt : World → ℕ → Stepped
reading_interrupt w original = going (event.is_read (interrupt_number original)) (world_after_read_interrupt w original)

-- This many forgets are read as one request.
abbrev pub reading_forgets : World → ℕ → ℕ × List Forget → Stepped
reading_forgets w n read = going (event.is_read read.0) (world_after_read_forgets w n read.1)

-- The pending request at this place is read.
abbrev pub reading_pending : World → (place unique : ℕ) → RequestBody → Stepped
reading_pending w place unique body = going (event.is_read unique) (world_after_read_pending w place unique body)

-- A request is taken, with the server's word for it.
abbrev pub taken_as : World → ℕ → ℕ → TakeResult → Stepped
taken_as w k unique took = going (event.taken unique took.word) (after_take w k unique took)

-- The request at this place of its link is taken.
abbrev pub taking_request : World → ℕ → Request → Stepped
taking_request w k request = taken_as w k request.unique (taking w.server request.unique request.body)

-- A held request is performed, with the error of its reply.
abbrev pub performed_as : World → ℕ → PerformResult → Stepped
performed_as w unique did = going (event.performed unique (errno_of did.wire) w.server.aborted)
    (after_perform w unique did)

-- The held request under this unique is performed.
abbrev pub performing_held : (ℕ → ℕ) → World → ℕ → HeldRequest → Stepped
performing_held choice w unique held = performed_as w unique (served choice w.server unique held)

-- One more copy of a kept reply goes out.
abbrev pub sending_again : World → ℕ → Kept → Stepped
sending_again w unique kept = going (event.sent_again unique) (after_again w unique kept)

-- A copy is taken by the kernel, with the result for its writer.
abbrev pub written_as : World → ℕ → Sent → WriteResult × Kernel → Stepped
written_as w k sent took = going (event.written sent.unique took.0) (after_write w k sent took)

-- The copy at this place of its link is taken by the kernel.
abbrev pub writing_copy : World → ℕ → Sent → Stepped
writing_copy w k sent = written_as w k sent (reply_written w.kernel sent.unique sent.wire)

-- The result at this place of its link is taken by the server.
abbrev pub settling : World → ℕ → ReplyResult → Stepped
settling w k result = Ok (
  event.settled result.unique result.result,
  after_settle w k result (get w.server.copies result.number),
)

-- A call is signalled, with the effect of the signal.
abbrev pub signalled_as : World → ℕ → IntrEffect × Kernel → Stepped
signalled_as w call moved = going (event.interrupted call moved.0) (record w { kernel = moved.1 })

-- The unanswered call of this number is signalled.
abbrev pub signalling : World → ℕ → Bool → CallState Opened → Stepped
signalling w call fatal state = signalled_as w call (call_signalled w.kernel call state fatal)

-- A cached name is dropped.
abbrev pub dropping : World → Dentry → Stepped
dropping after bound = Ok (event.dropped, after)

-- A counted node is evicted.
abbrev pub evicting : World → ℕ → Counted → Stepped
evicting w node counted = Ok (event.evicted node counted.count, after_evict w node counted)

-- The event in this world, with these ids for the files that get a node: why kernel or server refuse it, or what comes
-- of what they found. Out of memory, which comes last, isn't a matter of the state. (this project's rule)
abbrev pub step : (ℕ → ℕ) → World → Event → Stepped
step choice w (event.mount found_ms missing_ms minor) =
    unless (nat_lt max_validity (max found_ms missing_ms)) refusal.BadTime
    (to_mount w.kernel (Ok (event.mounted, after_mount w found_ms missing_ms minor)))
step choice w (event.call call) = to_call w.kernel (going (event.begun w.kernel.vfs.next_call) (after_call w call))
step choice w event.read_interrupt = to_read_interrupt w.kernel (reading_interrupt w)
step choice w (event.read_forgets n) = to_read_forgets w.kernel n (reading_forgets w n)
step choice w (event.read_pending k) = to_read_pending w.kernel k (reading_pending w k)
step choice w (event.take k) = found (slice_get w.requests k) (taking_request w k)
step choice w (event.perform unique) = to_perform w.server unique (performing_held choice w unique)
step choice w (event.again unique) = to_send_again w.server unique (sending_again w unique)
step choice w (event.write k) = found (slice_get w.replies k) (writing_copy w k)
step choice w (event.settle k) = found (slice_get w.results k) (settling w k)
step choice w (event.intr call fatal) = to_signal w.kernel call (signalling w call fatal)
step choice w (event.tick ms) =
    to_pass w.kernel ms (Ok (event.now (w.kernel.vfs.clock + ms), after_tick w ms))
step choice w (event.drop_name directory name) =
    to_drop w.kernel directory name (dropping (after_drop w directory name))
step choice w (event.evict node) = to_evict w.kernel node (evicting w node)
step choice w event.abort = when_live w.kernel (Ok (event.aborted, after_abort w))

-- Which ids the server may choose for the files that get a node in this event: the id that a file has, or else any free
-- one. (this project's rule)
abbrev pub MayChooseFor : (ℕ → ℕ) → World → Option HeldRequest → Type 0
MayChooseFor choice w None = Unit {0}
MayChooseFor choice w (Some taken) = MayChoose choice w.server.nodes (files_given w.server taken)

-- Which ids the server may choose in an event: only performing a request gives nodes.
abbrev pub MayStep : (ℕ → ℕ) → World → Event → Type 0
MayStep choice w (event.perform unique) = MayChooseFor choice w (get w.server.held unique)
MayStep choice w event = Unit {0}

-- From this world the event may have this outcome and lead to that world.
abbrev pub Happens : World → Event → Outcome → World → Type 0
Happens w event outcome after = (choice : ℕ → ℕ) × MayStep choice w event × (step choice w event ≡ Ok (outcome, after))

-- From this world the event is refused so, memory aside.
abbrev pub IsRefused : World → Event → Refusal → Type 0
IsRefused w event refusal = (choice : ℕ → ℕ) → MayStep choice w event → step choice w event ≡ Err refusal

-- Whether an event may take memory in this world. Six never do, as their room was made before, nor does a request that
-- is neither held nor answered, or that an abort left without a reply and that makes nothing. (this project's rule)
abbrev pub takes_memory : World → Event → Bool
takes_memory w (event.take k) =
    option_map_or (λ request. word_takes_memory (taking w.server request.unique request.body).word)
    (slice_get w.requests k) false
takes_memory w (event.perform unique) = performing_takes_memory w.server (get w.server.held unique)
takes_memory w (event.settle k) = false
takes_memory w (event.intr call fatal) = false
takes_memory w (event.tick ms) = false
takes_memory w (event.drop_name directory name) = false
takes_memory w (event.evict node) = false
takes_memory w event.abort = false
takes_memory w other = true

-- Out of memory: this is the last refusal, of an event that takes memory and that nothing else refuses.
pub record OutOfMemory (w : World) (event : Event) (refusal : Refusal) : Type 0 where
  pub out_of_memory : refusal ≡ NoMemory
  pub takes : takes_memory w event ≡ true
  pub last : (other : Refusal) → IsRefused w event other → ⊥

-- The event is refused so, or memory ran out.
abbrev pub RefusedWith : World → Event → Refusal → Type 0
RefusedWith w event refusal = IsRefused w event refusal ⊎ OutOfMemory w event refusal
