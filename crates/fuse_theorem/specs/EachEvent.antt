-- What each event needs of the world, beside that it is alike to the plain one, and what comes of it.
use Rattle.std.specs.Prelude.{T, ◌≡◌, ℕ, ◌-◌, ◌%◌, true, false, [], ◌∷◌, Some, None, nat_eq, slice_get}
use Rattle.std.specs.Ordering.{nat_cmp}
use Rattle.std.specs.FinMap.{is_sorted}
use Rattle.fuse_spec.specs.declared.Opened.{Opened}
use Rattle.fuse_spec.specs.declared.Purpose.{Purpose}
use Rattle.fuse_spec.specs.declared.Purpose.TheVariants.{Init, Release, Call}
use Rattle.fuse_spec.specs.declared.ReplyResult.{ReplyResult}
use Rattle.fuse_spec.specs.Values.Maps.{get, remove}
use Rattle.fuse_spec.specs.Files.Operations.{Operation, Reply, files_in_reply}
use Rattle.fuse_spec.specs.Files.FileOperations.{reply_by}
use Rattle.fuse_spec.specs.Calls.Vfs.{CallState, Vfs}
use Rattle.fuse_spec.specs.Kernel.Queues.{IsSound}
use Rattle.fuse_spec.specs.Kernel.QueueCalls.{waiting}
use Rattle.fuse_spec.specs.Values.Numbers.{init_flags}
use Rattle.fuse_spec.specs.Kernel.Messages.{Request, RequestBody, init, asks, release, forget, batch_forget, interrupt}
use Rattle.fuse_spec.specs.Kernel.Kernel.{is_live}
use Rattle.fuse_spec.specs.Server.Nodes.{MayChoose, handle_back}
use Rattle.fuse_spec.specs.Server.Server.{HeldRequest, Copy, all_taken_back}
use Rattle.fuse_spec.specs.Server.Performs.{is_still_held, init_reply}
use Rattle.fuse_spec.specs.World.Worlds.{World, Sent, after_settle}
use Rattle.fuse_spec.specs.World.Events.{Event, Outcome}
use Rattle.fuse_spec.specs.World.Events as event
use Rattle.fuse_spec.specs.Reference.Plain.{Plain, Ask}
use Rattle.fuse_spec.specs.Reference.PlainSteps.{Takes}
use Rattle.fuse_spec.specs.Claim.Denotes.{NodeDenotesIn}
use Rattle.fuse_spec.specs.Claim.Alike.{Alike}
use Rattle.fuse_theorem.specs.Numbering.{IsNumbered, IsNumberedWhileLive, IsOneToOne}
use Rattle.fuse_theorem.specs.Conditions.{OneId, KnownAreHeld, TablesSound, CanPerformCall, CanDecline, CanRelease, IsReplyToCall, IsDeclined, UnreadAreUnsent, HoldsAll, HoldsOpens, IsInterrupt, IsUnsent, awaiting}

-- The plain world takes the step of the outcome, and is alike to the world after it.
abbrev pub PlainMoves : Plain → Event → Outcome → World → Type 0
PlainMoves p e o after = (q : Plain) × Takes p e o q × Alike after q

-- The kernel's root is node 1, and the answers that are not collected stand in rising number.
pub record IsRooted (c : Vfs Opened) : Type 0 where
  pub root : c.root ≡ 1
  pub answers : T (is_sorted nat_cmp c.answers)

-- A request that the server can hold, or an INTERRUPT or forgets that it can take.
abbrev pub CanTakeRequest : World → Plain → ℕ → Request → RequestBody → Type 0
CanTakeRequest w p k r (init flags) = Unit {0}
CanTakeRequest w p k r (asks operation) = Unit {0}
CanTakeRequest w p k r (release o) = Unit {0}
CanTakeRequest w p k r (forget f) = OneId w.server.nodes × HoldsAll w (all_taken_back w.server.nodes (f ∷ []))
CanTakeRequest w p k r (batch_forget fs) = OneId w.server.nodes × HoldsAll w (all_taken_back w.server.nodes fs)
CanTakeRequest w p k r (interrupt original) = IsInterrupt w p k r original

-- A held request that the server can serve: an operation in a live mount or after an abort, one that is marked, INIT,
-- or a RELEASE.
pub data CanServe (choice : ℕ → ℕ) (w : World) (p : Plain) (unique : ℕ) (t : HeldRequest) : Type 0 where
  performs : (operation : Operation ℕ Opened) → CanPerformCall w unique t operation → w.server.aborted ≡ false
      → TablesSound w.server → OneId w.server.nodes → KnownAreHeld w
      → ((ask : Ask) → get p.asks unique ≡ Some ask → MayChoose choice w.server.nodes
      (files_in_reply (reply_by p.validity p.tree ask.operation))) → CanServe choice w p unique t
  performs_unreceived : (operation : Operation ℕ Opened) → CanPerformCall w unique t operation → w.server.aborted ≡ true
      → IsOneToOne (NodeDenotesIn w) → CanServe choice w p unique t
  declines : (operation : Operation ℕ Opened) → CanDecline w unique t operation → CanServe choice w p unique t
  initiates : (flags : ℕ) → t.body ≡ init flags → t.marked ≡ false → is_still_held w.server.nodes t.generations ≡ true
      → CanServe choice w p unique t
  releases : (o : Opened) → CanRelease w unique t o → OneId w.server.nodes
      → HoldsAll (record w { server = record w.server { held = remove w.server.held unique } }) w.server.nodes
      → HoldsOpens (record w { server = record w.server { held = remove w.server.held unique } })
      (handle_back w.server.handles o.fh) → CanServe choice w p unique t

-- A copy that the kernel can take: what awaits it, if anything, and that it says what that came to.
pub data CanReceive (w : World) (p : Plain) (sent : Sent) : Type 0 where
  nothing : awaiting w.kernel sent.unique ≡ None → CanReceive w p sent
  of_interrupt : (kept : Purpose) → IsNumbered w → is_live w.kernel.phase ≡ true → nat_eq (sent.unique % 2) 1 ≡ true
      → waiting w.kernel.queues (sent.unique - 1) ≡ Some kept → CanReceive w p sent
  of_release : (o : Opened) → IsNumbered w → is_live w.kernel.phase ≡ true → nat_eq (sent.unique % 2) 1 ≡ false
      → waiting w.kernel.queues sent.unique ≡ Some (Release o) → CanReceive w p sent
  of_init : IsNumbered w → is_live w.kernel.phase ≡ true → nat_eq (sent.unique % 2) 1 ≡ false
      → waiting w.kernel.queues sent.unique ≡ Some Init → sent.wire ≡ init_reply w.server.minor init_flags
      → CanReceive w p sent
  of_call : (call : ℕ) (state : CallState Opened) (reply : Reply ℕ ℕ) → IsNumbered w → OneId w.server.nodes
      → is_live w.kernel.phase ≡ true → nat_eq (sent.unique % 2) 1 ≡ false
      → waiting w.kernel.queues sent.unique ≡ Some (Call call)
      → IsReplyToCall w p sent call state reply → CanReceive w p sent
  of_declined : (call : ℕ) (state : CallState Opened) → IsNumbered w → OneId w.server.nodes
      → is_live w.kernel.phase ≡ true → nat_eq (sent.unique % 2) 1 ≡ false
      → waiting w.kernel.queues sent.unique ≡ Some (Call call) → IsDeclined w p sent call state
      → CanReceive w p sent

-- With what is given back as a copy is settled, the server still holds what is known, held and on its way.
abbrev pub CanSettle : World → ℕ → ReplyResult → Copy → Type 0
CanSettle w k result copy = HoldsAll (after_settle w k result (Some copy))
    (after_settle w k result (Some copy)).server.nodes
    × HoldsOpens (after_settle w k result (Some copy)) (after_settle w k result (Some copy)).server.handles

abbrev pub Needs : (ℕ → ℕ) → World → Plain → Event → Type 0
Needs choice w p (event.mount found_ms missing_ms minor) = IsRooted w.kernel.vfs
Needs choice w p (event.call call) = IsNumberedWhileLive w × IsOneToOne (NodeDenotesIn w)
Needs choice w p event.read_interrupt = IsSound w.kernel.queues
Needs choice w p (event.read_forgets n) = IsSound w.kernel.queues
Needs choice w p (event.read_pending k) = IsSound w.kernel.queues
Needs choice w p (event.take k) = (r : Request) → slice_get w.requests k ≡ Some r → CanTakeRequest w p k r r.body
Needs choice w p (event.perform unique) = (t : HeldRequest) → get w.server.held unique ≡ Some t
    → CanServe choice w p unique t
Needs choice w p (event.again unique) = OneId w.server.nodes × KnownAreHeld w
Needs choice w p (event.write k) = (sent : Sent) → slice_get w.replies k ≡ Some sent → CanReceive w p sent
Needs choice w p (event.settle k) = OneId w.server.nodes
    × ((result : ReplyResult) (copy : Copy) → slice_get w.results k ≡ Some result
    → get w.server.copies result.number ≡ Some copy → CanSettle w k result copy)
Needs choice w p (event.intr call fatal) = IsNumberedWhileLive w × (OneId w.server.nodes × UnreadAreUnsent w)
Needs choice w p (event.tick ms) = Unit {0}
Needs choice w p (event.drop_name directory name) = IsOneToOne (NodeDenotesIn w)
Needs choice w p (event.evict node) = IsRooted w.kernel.vfs × IsUnsent w node
Needs choice w p event.abort = IsRooted w.kernel.vfs
