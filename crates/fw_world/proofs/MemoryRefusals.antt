-- Where memory ran out, nothing else refuses the event.
use Rattle.std.proofs.Common.{◌≡◌, ℕ, ◌||◌, Bool, true, false, cond, not, List, [], ◌∷◌, Option, Some, None, inl, inr, nat_eq, nat_lt, nat_le, max, length, slice_get, take, refl, ap, sym, subst, ◌∙◌}
use Rattle.std.specs.Prelude.{◌⊎◌, ◌&&◌, IfSome, IfNone, Result}
use Rattle.std.specs.Option.{option_map_or}
use Rattle.fuse_spec.specs.declared.Minor.{Minor}
use Rattle.fuse_spec.specs.declared.Purpose.{Purpose}
use Rattle.fuse_spec.specs.declared.Refusal.{Refusal}
use Rattle.fuse_spec.specs.declared.Refusal.TheVariants as refusal
use Rattle.fuse_spec.specs.Calls.Calls.{Call, for_minor}
use Rattle.fuse_spec.specs.World.Events.{Event, Outcome}
use Rattle.fuse_spec.specs.World.Events as event
use Rattle.fuse_spec.specs.Kernel.Kernel.{Kernel, is_live, is_aborted, body_of, call_begun, call_put, forgets_read, forgets_singly, advanced, asking_for, released, closed_by, closing_of}
use Rattle.fuse_spec.specs.Values.Maps.{get, put}
use Rattle.fuse_spec.specs.Calls.Vfs.{Advance, begun}
use Rattle.fuse_spec.specs.Files.Operations.{Operation}
use Rattle.fuse_spec.specs.declared.Opened.{Opened}
use Rattle.fuse_spec.specs.Kernel.Messages.{Forget, Request, RequestBody, WireReply, init, asks, release, forget, batch_forget, interrupt}
use Rattle.fuse_spec.specs.Values.Numbers.{counter_end, max_calls, max_validity}
use Rattle.fuse_spec.specs.Files.Operations.{errno_of}
use Rattle.fuse_spec.specs.Server.Performs.{served}
use Rattle.fuse_spec.specs.declared.Mark.{Mark}
use Rattle.fuse_spec.specs.declared.Mark.TheVariants as mark
use Rattle.fuse_spec.specs.declared.QueuedRequest.{QueuedRequest}
use Rattle.fuse_spec.specs.Kernel.Queues.{pending}
use Rattle.fuse_spec.specs.Kernel.QueueCalls.{after_reading, pending_at, can_read_forgets, after_read_forgets}
use Rattle.fuse_spec.specs.Server.Memory.{held_takes_memory, performing_takes_memory, word_takes_memory}
use Rattle.fuse_spec.specs.Server.Server.{HeldRequest, Kept, Server}
use Rattle.fuse_spec.specs.Kernel.Refusals.{unless, found, first_found, pending_found, refusal_in, accepted, when_live, when_not_interrupted, is_ready, is_kernel_past_end, is_counted_out}
use Rattle.fw_world.proofs.Judged.{passed, finds}
use Rattle.fuse_spec.specs.World.Steps.{is_past, takes_memory, IsRefused, MayChooseFor, RefusedWith, Happens}
use Rattle.fuse_spec.specs.World.Worlds as worlds
use Rattle.fuse_spec.specs.Server.Taking.{interrupting, taking}
use Rattle.std.specs.List.{remove as without}
use Rattle.fuse_frames.specs.RequestTies.{IsRequestFrame}
use Rattle.fuse_frames.proofs.RequestLemmas.{one_request, frame_says}
use Rattle.fuse_spec.specs.World.Worlds.{World, after_call, after_take, after_perform, after_again}
use Rattle.fuse_theorem.proofs.Refining.Choosing.{some_choice, not_both}
use Rattle.fk_kernel.specs.Refused.{within_counters, begin_refusal, mount_refusal, read_refusal}
use Rattle.fuse_spec.specs.Kernel.Refusals as kernel
use Rattle.fk_kernel.specs.Refused.{read_interrupt_refusal, read_forgets_refusal}
use Rattle.fuse_spec.specs.Server.Refusals as server
use Rattle.fs_server.specs.declared.server.Taken.{Taken}
use Rattle.fs_server.specs.Effects.{as_fault, CanSendAgain, CanTake, TakesFrame, AnswersFrame, TakingNeedsMemory, copy_of, RefusesFrame, fault_or, past_or_memory}
use Rattle.fs_server.specs.declared.server.ServerFault.{ServerFault}
use Rattle.fs_server.specs.declared.server.ServerFault.TheVariants.{Memory}
use Rattle.fuse_spec.specs.Server.Server.{RequestFault, fault_of}
use Rattle.fuse_theorem.specs.SoundWorlds.{IsSoundWorld}
use Rattle.fuse_theorem.proofs.Replies.NoFault.{no_fault}
use Rattle.fuse_theorem.proofs.Refining.Queuing.{All-at}
use Rattle.fw_world.specs.Values.{refusal_for}
use Rattle.fw_world.proofs.WorldParts.{no_copy_needs_memory, some_copy_needs_memory}
use Rattle.fw_world.proofs.Refusing.{is_exhausted}
use Rattle.fuse_spec.specs.World.Steps.{taking_request}
use Rattle.fs_server.specs.Steps.{CanPerform}
use Rattle.fuse_spec.specs.Server.Copies.{sent_again}
use Rattle.fs_server.proofs.Performable.{performs_within, copies_within}
use Rattle.fw_world.proofs.Counters.{kernel_low, server_low, count_low, past_by_server, world_within}
use Rattle.fw_world.proofs.Happening.{mounts, calls, reads, reads_forgets, takes, performs, sends_again}
use Rattle.fw_world.proofs.Interrupts.{reads_interrupt}

-- An event that can happen is refused only as out of memory.
pub out_of_memory : (w : World) (e : Event) (o : Outcome) (after : World) → takes_memory w e ≡ true → Happens w e o after
    → (given : Refusal) → given ≡ refusal.NoMemory → RefusedWith w e given
out_of_memory w e o after takes happens given is = inr
    (record { out_of_memory = is; takes = takes; last = λ other refused. not_both w e other refused o after happens })

-- A refusal that kernel or server gave, or else out of memory, where nothing is judged to refuse the event.
pub judged : (w : World) (e : Event) (judged : Option Refusal) (given : Refusal)
    → ((r : Refusal) → judged ≡ Some r → IsRefused w e r)
    → (judged ≡ None → given ≡ refusal.NoMemory → RefusedWith w e given) → given ≡ kernel.or_no_memory judged
    → RefusedWith w e given
judged w e None given refuses else is = else refl is
judged w e (Some r) given refuses else is = inl (subst (IsRefused w e) (sym is) (refuses r refl))

-- What the server judges, or else out of memory.
module _ (w : World) (e : Event) (Refuses : Refusal → Type 0) (Can : Type 0)
    (refused : (r : Refusal) → Refuses r → IsRefused w e r)
    (can_happen : Can → (given : Refusal) → given ≡ refusal.NoMemory → RefusedWith w e given) where
  pub looked : (judged : Option Refusal) (given : Refusal) → IfSome judged Refuses → IfNone judged Can
      → given ≡ kernel.or_no_memory judged → RefusedWith w e given
  looked None given refuses can is = can_happen can given is
  looked (Some r) given refuses can is = inl (subst (IsRefused w e) (sym is) (refused r refuses))

  pub given_so : (given : Refusal) → Refuses given ⊎ (given ≡ refusal.NoMemory) → (given ≡ refusal.NoMemory → Can)
      → RefusedWith w e given
  given_so given (inl refuses) can = inl (refused given refuses)
  given_so given (inr is) can = can_happen (can is) given is

-- ---- counters

-- A call that begins counts no node.
begun_counts : (k : Kernel) (call : Call) → is_counted_out (call_begun k call).nodes ≡ is_counted_out k.nodes
begun_counts k call = ends (cond (is_aborted k.phase) None (closed_by k.vfs.opens call)) ∙ asks begins.operation
  where
    begins : Advance Opened
    begins = begun (is_aborted k.phase) k.vfs call

    next : Kernel
    next = advanced k k.vfs.next_call begins

    asks : (o : Option (Operation ℕ Opened)) → is_counted_out
        (asking_for (record k { vfs = begins.vfs }) k.vfs.next_call o).nodes ≡ is_counted_out k.nodes
    asks None = refl
    asks (Some operation) = refl

    freed : (q : Kernel) (open_call : ℕ) (o : Option Opened)
        → is_counted_out (released q open_call o).nodes ≡ is_counted_out q.nodes
    freed q open_call None = refl
    freed q open_call (Some opened) = refl

    ends : (o : Option (ℕ × Opened)) → is_counted_out (closing_of next o).nodes ≡ is_counted_out next.nodes
    ends None = refl
    ends (Some file) =
        let closing = put next.closing file.0 file.1 in
        freed (record next { closing = closing }) file.0 (get closing file.0)

module _ (w : World) (within : is_past w ≡ false) where
  kernel_within : is_kernel_past_end w.kernel ≡ false
  kernel_within = kernel_low w within

  none_out : is_counted_out w.kernel.nodes ≡ false
  none_out = count_low w within

  pub server_within : server.is_server_past_end w.server ≡ false
  server_within = server_low w within

  past_by : (k : Kernel) → is_kernel_past_end k ≡ false → is_counted_out k.nodes ≡ false → (v : World) → v.kernel ≡ k
      → v.server ≡ w.server → is_past v ≡ false
  past_by k low none v kernel_is server_is = world_within k w.server low none server_within v kernel_is server_is

  in_counters : (k : Kernel) → refusal_in (within_counters k) ≡ None → is_kernel_past_end k ≡ false
  in_counters k none = (passed (is_kernel_past_end k) refusal.Exhausted accepted none).0

  -- ---- a call

  same_counts : (call : Call) → is_counted_out (call_put w.kernel call).nodes ≡ false
  same_counts call = begun_counts w.kernel (for_minor w.kernel.lists_files call) ∙ none_out

  pub call_out_of_memory : (call : Call) → begin_refusal w.kernel call ≡ None → (given : Refusal) → given ≡ refusal.NoMemory
      → RefusedWith w (event.call call) given
  call_out_of_memory call none given is =
      let full = nat_le max_calls (length w.kernel.vfs.calls) in
      let counted = within_counters (call_put w.kernel call) in
      let room = passed (not (is_ready w.kernel.phase)) refusal.NotReady (unless full refusal.Full counted) none in
      let begun = in_counters (call_put w.kernel call) (passed full refusal.Full counted room.1).1 in
      out_of_memory w (event.call call) (event.begun w.kernel.vfs.next_call) (after_call w call) refl
      (calls w call none (past_by (call_put w.kernel call) begun (same_counts call)
      (after_call w call) refl refl)) given is

  -- ---- reads

  read_judged : {A : Type 0} (x : Result A Refusal)
      → refusal_in (when_live w.kernel (when_not_interrupted w.kernel x)) ≡ None → refusal_in x ≡ None
  read_judged x e =
      let live = passed (not (is_live w.kernel.phase)) refusal.NotReady (when_not_interrupted w.kernel x) e in
      (passed (not (nat_eq (length w.kernel.queues.interrupts) 0)) refusal.InterruptFirst x live.1).1

  pub read_out_of_memory : (place : ℕ) → read_refusal w.kernel place ≡ None → (given : Refusal) → given ≡ refusal.NoMemory
      → RefusedWith w (event.read_pending place) given
  read_out_of_memory place none given is =
      let at = finds (pending_at w.kernel.queues place)
      (λ (q : ℕ × Purpose). found (body_of w.kernel q.1) (unrefused q.0))
      (read_judged (pending_found w.kernel (pending_at w.kernel.queues place) unrefused) none) in
      let says = finds (body_of w.kernel at.it.1) (unrefused at.it.0) at.unrefused in
      at_body at.it.0 at.it.1 at.there says.it says.there
    where
      unrefused : ℕ → RequestBody → Result (Unit {0}) Refusal
      unrefused unique body = accepted

      next_read : (o : Option (ℕ × QueuedRequest Purpose))
          → (option_map_or (λ e. after_reading w.kernel.queues e.0 e.1.mark) o w.kernel.queues).next
          ≡ w.kernel.queues.next
      next_read None = refl
      next_read (Some e) = by_mark e.1.mark
        where
          by_mark : (m : Mark) → (after_reading w.kernel.queues e.0 m).next ≡ w.kernel.queues.next
          by_mark mark.Unread = refl
          by_mark mark.Flagged = refl
          by_mark mark.Read = refl
          by_mark mark.Interrupted = refl

      at_body : (unique : ℕ) (purpose : Purpose) → pending_at w.kernel.queues place ≡ Some (unique, purpose)
          → (body : RequestBody) → body_of w.kernel purpose ≡ Some body → RefusedWith w (event.read_pending place) given
      at_body unique purpose at body there =
          let request : Request = record { unique = unique; body = body } in
          let after = worlds.world_after_read_pending w place unique body in
          let low : is_kernel_past_end after.kernel ≡ false = ap (λ (n : ℕ). nat_lt counter_end n
          || nat_lt counter_end w.kernel.vfs.next_call) (next_read
          (slice_get (pending w.kernel.queues) place)) ∙ kernel_within in
          out_of_memory w (event.read_pending place) (event.is_read unique) after refl
          (reads w place request none (record { purpose = purpose; pending = at; body = there })
          (past_by after.kernel low none_out after refl refl)) given is

  pub forgets_out_of_memory : (n : ℕ) → read_forgets_refusal w.kernel n ≡ None → (given : Refusal) → given ≡ refusal.NoMemory
      → RefusedWith w (event.read_forgets n) given
  forgets_out_of_memory n none given is =
      let counted = within_counters (record w.kernel { queues = after_read_forgets w.kernel.queues n }) in
      let at = finds (forgets_read w.kernel n) (λ (read : ℕ × List Forget). counted)
      (read_judged (found (forgets_read w.kernel n) (λ (read : ℕ × List Forget). counted)) none) in
      read_so at.it at.there at.unrefused
    where
      next_of : (single c : Bool) (read : ℕ × List Forget)
          → cond single None (cond c (Some (w.kernel.queues.next, take n w.kernel.queues.forgets)) None) ≡ Some read
          → read ≡ (w.kernel.queues.next, read.1)
      next_of true c read e = absurd (cc e)
      next_of false true read e = let is : ◌≡◌ {A = ℕ × List Forget} read
          (w.kernel.queues.next, take n w.kernel.queues.forgets) =
          sym (cc e) in ap (λ (u : ℕ). (u, read.1)) (ap (λ (x : ℕ × List Forget). x.0) is)
      next_of false false read e = absurd (cc e)

      read_so : (read : ℕ × List Forget) → forgets_read w.kernel n ≡ Some read
          → refusal_in (within_counters (record w.kernel { queues = after_read_forgets w.kernel.queues n })) ≡ None
          → RefusedWith w (event.read_forgets n) given
      read_so read at counted =
          let number : read ≡ (w.kernel.queues.next, read.1) =
          next_of (forgets_singly w.kernel.minor && nat_lt 1 n) (can_read_forgets w.kernel.queues n) read at in
          let after = worlds.world_after_read_forgets w n read.1 in
          out_of_memory w (event.read_forgets n) (event.is_read w.kernel.queues.next) after refl
          (reads_forgets w n read.1 none (at ∙ ap Some number)
          (past_by (record w.kernel { queues = after_read_forgets w.kernel.queues n })
          (in_counters (record w.kernel { queues = after_read_forgets w.kernel.queues n }) counted)
          none_out after refl refl)) given is

  pub interrupt_out_of_memory : read_interrupt_refusal w.kernel ≡ None → (given : Refusal) → given ≡ refusal.NoMemory
      → RefusedWith w event.read_interrupt given
  interrupt_out_of_memory none given is =
      let queued = first_found w.kernel.queues.interrupts (λ (original : ℕ). accepted) in
      by w.kernel.queues.interrupts refl (passed (not (is_live w.kernel.phase)) refusal.NotReady queued none).1
    where
      by : (interrupts : List ℕ) → w.kernel.queues.interrupts ≡ interrupts
          → refusal_in (first_found interrupts (λ (original : ℕ). accepted)) ≡ None
          → RefusedWith w event.read_interrupt given
      by [] at e = absurd (cc e)
      by (original ∷ others) at e = out_of_memory w event.read_interrupt _ (worlds.world_after_read_interrupt w original) refl
          (reads_interrupt w original others none at within) given is

  -- ---- a request performed, and one more copy

  past_of : (s : Server) → server.is_server_past_end s ≡ false → (v : World) → v.kernel ≡ w.kernel → v.server ≡ s
      → is_past v ≡ false
  past_of s low v kernel_is server_is = world_within w.kernel s kernel_within none_out low v kernel_is server_is

  same_kernel : (v : World) (number unique : ℕ) (wire : Option WireReply)
      → (worlds.copy_put v number unique wire).kernel ≡ v.kernel
  same_kernel v number unique None = refl
  same_kernel v number unique (Some wire) = refl

  same_server : (v : World) (number unique : ℕ) (wire : Option WireReply)
      → (worlds.copy_put v number unique wire).server ≡ v.server
  same_server v number unique None = refl
  same_server v number unique (Some wire) = refl

  pub perform_out_of_memory : (unique : ℕ) → CanPerform w.server unique
      → performing_takes_memory w.server (get w.server.held unique) ≡ true → (given : Refusal)
      → given ≡ refusal.NoMemory → RefusedWith w (event.perform unique) given
  perform_out_of_memory unique can takes given is =
      let some = some_choice w (event.perform unique) in
      let may = subst (MayChooseFor some.0 w) can.there some.1 in
      let did = served some.0 w.server unique can.held in
      let after = after_perform w unique did in
      let reply = cond w.server.aborted None (Some did.wire) in
      let low = performs_within w.server unique can.held can.there can server_within some.0 may in
      out_of_memory w (event.perform unique) (event.performed unique (errno_of did.wire) w.server.aborted) after takes
      (performs some.0 w unique can.held can.there can.counts some.1 did refl
      (past_of did.server low after (same_kernel (record w { server = did.server }) w.server.next_copy unique reply)
      (same_server (record w { server = did.server }) w.server.next_copy unique reply))) given is

  -- While the mount is not aborted the reply takes memory.
  pub reply_takes : (unique : ℕ) → w.server.aborted ≡ false → CanPerform w.server unique
      → performing_takes_memory w.server (get w.server.held unique) ≡ true
  reply_takes unique live can =
      ap (performing_takes_memory w.server) can.there ∙ ap (λ (b : Bool). not b || held_takes_memory can.held) live

  pub again_out_of_memory : (unique : ℕ) → CanSendAgain w.server unique → (given : Refusal) → given ≡ refusal.NoMemory
      → RefusedWith w (event.again unique) given
  again_out_of_memory unique can given is =
      let after = after_again w unique can.kept in
      out_of_memory w (event.again unique) (event.sent_again unique) after refl
      (sends_again w unique can.kept can.there can.current can.counts
      (past_of (sent_again w.server unique can.kept)
      (copies_within w.server unique can.kept can.number server_within) after refl refl)) given is

-- ---- a mount

pub mount_out_of_memory : (w : World) (found_ms missing_ms : ℕ) (minor : Minor)
    → nat_lt max_validity (max found_ms missing_ms) ≡ false → mount_refusal w.kernel ≡ None → (given : Refusal)
    → given ≡ refusal.NoMemory → RefusedWith w (event.mount found_ms missing_ms minor) given
mount_out_of_memory w found_ms missing_ms minor day none given is =
    out_of_memory w (event.mount found_ms missing_ms minor) event.mounted
    (worlds.after_mount w found_ms missing_ms minor) refl (mounts w found_ms missing_ms minor day none) given is

-- ---- a request taken

taken_kernel : (w : World) (place : ℕ) (request : Request)
    → (after_take w place request.unique (taking w.server request.unique request.body)).kernel ≡ w.kernel
taken_kernel w place request = by (taking w.server request.unique request.body).reply
  where
    by : (o : Option WireReply) → (worlds.copy_put (record w {
      requests = without w.requests place;
      server = (taking w.server request.unique request.body).server;
    }) w.server.next_copy request.unique o).kernel
        ≡ w.kernel
    by None = refl
    by (Some wire) = refl

taken_server : (w : World) (place : ℕ) (request : Request)
    → (after_take w place request.unique (taking w.server request.unique request.body)).server
    ≡ (taking w.server request.unique request.body).server
taken_server w place request = by (taking w.server request.unique request.body).reply
  where
    by : (o : Option WireReply) → (worlds.copy_put (record w {
      requests = without w.requests place;
      server = (taking w.server request.unique request.body).server;
    }) w.server.next_copy request.unique o).server
        ≡ (taking w.server request.unique request.body).server
    by None = refl
    by (Some wire) = refl

interrupt_takes : (s : Server) (unique original : ℕ) (held : Option HeldRequest) (kept : Option Kept)
    (reply : WireReply) → (interrupting s unique original held kept).reply ≡ Some reply
    → word_takes_memory (interrupting s unique original held kept).word ≡ true
interrupt_takes s unique original (Some taken) kept reply is = absurd (cc is)
interrupt_takes s unique original None (Some kept) reply is = absurd (cc is)
interrupt_takes s unique original None None reply is = refl

-- What is answered at once takes memory.
answer_takes : (s : Server) (unique : ℕ) (body : RequestBody) (reply : WireReply)
    → (taking s unique body).reply ≡ Some reply → word_takes_memory (taking s unique body).word ≡ true
answer_takes s unique (init flags) reply is = refl
answer_takes s unique (asks operation) reply is = refl
answer_takes s unique (release opened) reply is = refl
answer_takes s unique (forget f) reply is = absurd (cc is)
answer_takes s unique (batch_forget fs) reply is = absurd (cc is)
answer_takes s unique (interrupt original) reply is =
    interrupt_takes s unique original (get s.held original) (get s.kept original) reply is

-- The same of a request at its place, where the frame is answered.
pub answered_takes : (s : Server) (request : Request) (bytes : List ℕ) → IsRequestFrame bytes request
    → AnswersFrame s bytes → word_takes_memory (taking s request.unique request.body).word ≡ true
answered_takes s request bytes frame answers =
    let same : answers.can.request ≡ request = sym (one_request bytes answers.can.request answers.can.says)
    ∙ one_request bytes request (frame_says bytes request frame) in
    answer_takes s request.unique request.body answers.reply
    (subst (λ (r : Request). (taking s r.unique r.body).reply ≡ Some answers.reply) same answers.replies)

-- Where nothing but out of memory can refuse the frame of the request at this place.
pub take_out_of_memory : (w : World) → is_past w ≡ false → (place : ℕ) (request : Request) (bytes : List ℕ)
    → slice_get w.requests place ≡ Some request → IsRequestFrame bytes request → CanTake w.server bytes
    → word_takes_memory (taking w.server request.unique request.body).word ≡ true → (given : Refusal) → given ≡ refusal.NoMemory
    → RefusedWith w (event.take place) given
take_out_of_memory w within place request bytes there frame can takes_it given is =
    let same : can.request ≡ request = sym (one_request bytes can.request can.says) ∙ one_request bytes request
    (frame_says bytes request frame) in
    let low = subst (λ (r : Request). server.is_server_past_end (taking w.server r.unique r.body).server
    ≡ false) same can.within in
    let took = taking w.server request.unique request.body in
    let after = after_take w place request.unique took in
    out_of_memory w (event.take place) (event.taken request.unique took.word) after
    (ap (λ (o : Option Request). option_map_or
    (λ (r : Request). word_takes_memory (taking w.server r.unique r.body).word) o false) there ∙ takes_it)
    (takes w place request there (past_of w within took.server low after (taken_kernel w place request)
    (taken_server w place request))) given is

-- A request on the link has no fault; so it is refused as out of numbers, or of memory where nothing else refuses it.
pub take_refused : (w : World) → is_past w ≡ false → IsSoundWorld w
    → (place : ℕ) (request : Request) (bytes : List ℕ) (fault : ServerFault)
    → slice_get w.requests place ≡ Some request → IsRequestFrame bytes request → RefusesFrame w.server bytes fault
    → (fault ≡ Memory → CanTake w.server bytes) → (fault ≡ Memory → TakingNeedsMemory w.server bytes)
    → RefusedWith w (event.take place) (refusal_for fault)
take_refused w within here place request bytes fault there frame refuses can needs =
    let all = here.sound in
    let none : fault_of w.server request ≡ None = All-at
    (λ (r : Request). fault_of w.server r ≡ None) w.requests place request
    (no_fault w here.plain all.both all.releases all.faultless) there in
    let did = taking w.server request.unique request.body in
    let is : fault ≡ past_or_memory (server.is_server_past_end did.server) =
    refuses.of_request request (frame_says bytes request frame) ∙ ap
    (λ (o : Option RequestFault). fault_or (as_fault o)
    (past_or_memory (server.is_server_past_end did.server))) none in
    subst (λ (f : ServerFault). RefusedWith w (event.take place) (refusal_for f)) (sym is)
    (by (server.is_server_past_end did.server) refl is)
  where
    by : (past : Bool) → server.is_server_past_end (taking w.server request.unique request.body).server ≡ past
        → fault ≡ past_or_memory past → RefusedWith w (event.take place) (refusal_for (past_or_memory past))
    by true past is =
        let did = taking w.server request.unique request.body in
        let after = after_take w place request.unique did in
        let over : server.is_server_past_end after.server ≡ true =
        ap server.is_server_past_end (taken_server w place request) ∙ past in
        inl
        (λ choice may.
        ap (λ o. found o (taking_request w place)) there
        ∙ is_exhausted (event.taken request.unique did.word) after (past_by_server after over))
    by false past is = take_out_of_memory w within place request bytes there frame (can is)
        (needs is request (frame_says bytes request frame)) refusal.NoMemory refl

-- The copy with which a frame is taken, if it is answered at once, has the room that was made for it.
pub answer_has_room : {A P : Type 0} (s : Server) (bytes : List ℕ) (took : Taken A) (new : Server)
    → TakesFrame s bytes took new → server.is_server_past_end new ≡ false → (AnswersFrame s bytes → P)
    → IfSome took.sent (λ copy. P)
answer_has_room {A} {P} s bytes took new takes_it low room =
    by (taking s takes_it.request.unique takes_it.request.body).reply refl takes_it.copy
  where
    by : (o : Option WireReply) → (taking s takes_it.request.unique takes_it.request.body).reply ≡ o
        → took.sent ≡ copy_of s.next_copy takes_it.request.unique
        (taking s takes_it.request.unique takes_it.request.body).reply → IfSome took.sent (λ copy. P)
    by None e is = no_copy_needs_memory P took.sent (is ∙ ap (copy_of s.next_copy takes_it.request.unique) e)
    by (Some wire) e is =
        some_copy_needs_memory P took.sent
        (room (record {
          can = record {
            request = takes_it.request;
            says = takes_it.says;
            faultless = takes_it.faultless;
            within = ap server.is_server_past_end (sym takes_it.after) ∙ low;
          };
          reply = wire;
          replies = e;
        }))
