-- The kernel takes a copy on the reply link as the machine takes what it says.
use Rattle.std.proofs.Common.{◌≡◌, ◌≤◌, ℕ, ◌-◌, ◌%◌, Bool, true, false, true≢false, cond, List, length, Option, Some, None, nat_eq, slice_get, inl, refl, ap, sym, subst, ◌∙◌, arith}
use Rattle.std.specs.Int.{w32, cast_signed}
use Rattle.std.proofs.lemmas.Bool.Decides.{nat_tests}
use Rattle.std.proofs.lemmas.Int.{to_z-of_z}
use Rattle.fk_wire.specs.declared.opcode.Opcode.{Opcode}
use Rattle.fk_wire.specs.declared.opcode.Opcode.TheVariants as opcode
use Rattle.fk_wire.specs.Fields.{number_at}
use Rattle.fk_wire.specs.Replies.{reply_body, IsErrorNumber}
use Rattle.fk_wire.proofs.OneRequest.{within}
use Rattle.fk_wire.proofs.OneReply.{error_fits}
use Rattle.fuse_spec.specs.Values.Numbers.{init_flags}
use Rattle.fuse_spec.specs.Server.Performs.{init_reply}
use Rattle.fuse_spec.specs.declared.Opened.{Opened}
use Rattle.fuse_spec.specs.declared.Purpose.{Purpose}
use Rattle.fuse_spec.specs.declared.Refusal.{Refusal}
use Rattle.fuse_spec.specs.declared.Purpose.TheVariants as purpose
use Rattle.fuse_spec.specs.declared.QueuedRequest.{QueuedRequest}
use Rattle.fuse_spec.specs.declared.WriteResult.{WriteResult}
use Rattle.fuse_spec.specs.declared.WriteResult.TheVariants.{NoEntry}
use Rattle.fuse_spec.specs.Values.Maps.{get}
use Rattle.fuse_spec.specs.Files.Operations as op
use Rattle.fuse_spec.specs.Files.Operations.{Operation, lookup, getattr, mkdir, create, unlink, rmdir, rename, link, opening, readdir, readdirplus, read, write}
use Rattle.fuse_spec.specs.Kernel.Messages.{WireReply, asks}
use Rattle.fuse_spec.specs.Kernel.QueueCalls.{waiting}
use Rattle.fuse_spec.specs.Kernel.Kernel.{Kernel, is_live}
use Rattle.fuse_spec.specs.World.Events as event
use Rattle.fuse_spec.specs.World.Steps.{is_past, RefusedWith}
use Rattle.fuse_spec.specs.Kernel.Replies.{reply_written, request_reply_written, interrupt_reply_written, goes_with, is_init_reply, is_empty_reply}
use Rattle.fuse_spec.specs.Calls.Vfs.{CallState, asked}
use Rattle.fuse_spec.specs.World.Worlds.{World, Sent, after_write}
use Rattle.fuse_frames.specs.ReplyTies.{SaysReply}
use Rattle.fuse_frames.specs.RequestTies.{asked_opcode}
use Rattle.fuse_theorem.specs.EachEvent.{CanReceive}
use Rattle.fuse_theorem.specs.EachEvent as each
use Rattle.fuse_theorem.specs.Conditions.{awaiting}
use Rattle.fuse_theorem.specs.SoundWorlds.{IsSoundWorld}
use Rattle.fuse_theorem.specs.RepliesFit.{FitsPurpose}
use Rattle.fuse_theorem.proofs.Answers.Answered.{waiting_is}
use Rattle.fuse_theorem.proofs.Calls.Finding.{All-found}
use Rattle.fuse_theorem.proofs.Refining.Queuing.{All-at}
use Rattle.fuse_theorem.proofs.Replies.WriteNeeds.{write_met}
use Rattle.fk_kernel.specs.AwaitedReplies.{Says, HasReplyHead, head_unique, Awaited, reply_to, awaited, awaited_by, awaited_by_call, awaited_by_interrupt, IsReplyWritten, IsAwaited, IsJudged, ReadsReply}
use Rattle.fk_kernel.specs.AwaitedReplies.{said as means_said}
use Rattle.fk_kernel.specs.AwaitedReplies as said
use Rattle.std.specs.Prelude.{IfSome, IfNone}
use Rattle.fuse_spec.specs.declared.Refusal.TheVariants.{NoMemory, Exhausted}
use Rattle.fk_kernel.specs.Refused.{PassesEnd, WriteRefused, WritePasses, no_memory, exhausted}
use Rattle.fuse_spec.specs.Kernel.Refusals as kernel
use Rattle.fk_kernel.proofs.PastEnds.{passes}
use Rattle.fk_drive_frames.specs.Agreements.{IsOlderAgreement}
use Rattle.fuse_theorem.proofs.Requests.LinksSound.{none_at}
use Rattle.world_sessions.specs.WorldTransfers.{HasTransfersAt}
use Rattle.world_sessions.proofs.Over.{not_older, of_init, reply_over}
use Rattle.fw_world.proofs.Happening.{writes}
use Rattle.fw_world.proofs.Counters.{kernel_all_low, kernel_past, server_low}
use Rattle.fw_world.proofs.MemoryRefusals.{out_of_memory}
use Rattle.fw_world.proofs.Refusing.{past_written}

-- What says a reply has its head.
pub says_head : (o : Opcode) (bytes : List ℕ) (unique : ℕ) (wire : WireReply) → SaysReply o bytes unique wire
    → HasReplyHead bytes × (head_unique bytes ≡ unique)
says_head o bytes unique wire h =
    let s = h.spells in
    let long : 16 ≤ length bytes = within 16 (reply_body h.message.content) bytes s.5.1.1.1 in
    let error : IsErrorNumber (cast_signed w32 (number_at 4 4 bytes)) =
    subst IsErrorNumber (sym (ap (cast_signed w32) s.5.1.0 ∙ to_z-of_z w32 h.message.error
    (error_fits h.message.error s.1))) s.1 in
    (((long, s.5.0), error), s.5.1.1.0 ∙ h.unique_is)

-- The opcode of the request of a call.
abbrev opcode_of : Operation ℕ Opened → Opcode
opcode_of operation = asked_opcode (asks operation)

-- What awaits a reply for a call is judged as the machine judges it.
is_judged : (operation : Operation ℕ Opened) → IsAwaited (reply_to (opcode_of operation))
    → IsJudged (opcode_of operation)
is_judged (lookup d name) h = h
is_judged (getattr x) h = h
is_judged (mkdir d name) h = h
is_judged (create d name) h = h
is_judged (unlink d name) h = h
is_judged (rmdir d name) h = h
is_judged (rename d old e new) h = h
is_judged (link x d name) h = h
is_judged (opening x) h = h
is_judged (readdir d after size) h = h
is_judged (readdirplus d after size) h = h
is_judged (read o offset size) h = h
is_judged (write o offset bytes) h = h

-- What awaits a number.
module _ (k : Kernel) (unique : ℕ) where
  awaits_even : (o : Option Purpose) → nat_eq (unique % 2) 1 ≡ false → waiting k.queues unique ≡ o
      → awaited k unique ≡ awaited_by k o
  awaits_even o even is = ap (λ (b : Bool). cond b (awaited_by_interrupt (waiting k.queues (unique - 1)))
      (awaited_by k (waiting k.queues unique))) even ∙ ap (awaited_by k) is

  awaits_odd : (o : Option Purpose) → nat_eq (unique % 2) 1 ≡ true → waiting k.queues (unique - 1) ≡ o
      → awaited k unique ≡ awaited_by_interrupt o
  awaits_odd o odd is = ap (λ (b : Bool). cond b (awaited_by_interrupt (waiting k.queues (unique - 1)))
      (awaited_by k (waiting k.queues unique))) odd ∙ ap awaited_by_interrupt is

  -- No request awaits it.
  awaits_none : (wire : WireReply) → awaiting k unique ≡ None
      → (awaited k unique ≡ said.nothing) × (reply_written k unique wire ≡ (NoEntry, k))
  awaits_none wire none = by (nat_eq (unique % 2) 1) refl none
    where
      by : (b : Bool) → nat_eq (unique % 2) 1 ≡ b → cond b (waiting k.queues (unique - 1)) (waiting k.queues unique)
          ≡ None → (awaited k unique ≡ said.nothing) × (reply_written k unique wire ≡ (NoEntry, k))
      by true odd is = (
        awaits_odd None odd is,
        ap (λ (b : Bool). cond b
            (interrupt_reply_written k unique wire (waiting k.queues (unique - 1)))
            (request_reply_written k unique wire (waiting k.queues unique))) odd ∙ ap
            (interrupt_reply_written k unique wire) is,
      )
      by false even is = (
        awaits_even None even is,
        ap
            (λ (b : Bool). cond b (interrupt_reply_written k unique wire (waiting k.queues (unique - 1)))
            (request_reply_written k unique wire (waiting k.queues unique))) even ∙ ap
            (request_reply_written k unique wire) is,
      )

-- A copy that stands on the reply link, in its frame.
module _ (w : World) (here : IsSoundWorld w) (place : ℕ) (sent : Sent) (found : slice_get w.replies place ≡ Some sent)
    (bytes : List ℕ)
    (frame : (o : Opcode) × SaysReply o bytes sent.unique sent.wire)
    (fits : (operation : Operation ℕ Opened) → goes_with operation sent.wire ≡ true
    → SaysReply (asked_opcode (asks operation)) bytes sent.unique sent.wire)
    (init : is_init_reply sent.wire ≡ true → SaysReply opcode.Init bytes sent.unique sent.wire)
    (empty : is_empty_reply sent.wire ≡ true → SaysReply opcode.Release bytes sent.unique sent.wire
    × SaysReply opcode.Interrupt bytes sent.unique sent.wire) where
  head : HasReplyHead bytes × (head_unique bytes ≡ sent.unique)
  head = says_head frame.0 bytes sent.unique sent.wire frame.1

  pub has_head : HasReplyHead bytes
  has_head = head.0

  says : (o : Opcode) (wire : WireReply) → sent.wire ≡ wire → SaysReply o bytes sent.unique sent.wire
      → Says o bytes wire
  says o wire is h = record {
    unique = sent.unique;
    says = subst (λ (x : WireReply). SaysReply o bytes sent.unique x) is h;
  }

  can_receive : CanReceive w here.plain sent
  can_receive =
      let both = here.sound.both in
      write_met (λ n. n) w here.plain both.world both.asked both.links both.witness both.alike place sent found

  -- It replies to the request of a call, and goes with what is asked.
  to_call : (call : ℕ) (state : CallState Opened) → nat_eq (sent.unique % 2) 1 ≡ false
      → waiting w.kernel.queues sent.unique ≡ Some (purpose.Call call) → get w.kernel.vfs.calls call ≡ Some state
      → goes_with (asked state) sent.wire ≡ true
      → (awaited w.kernel sent.unique ≡ reply_to (opcode_of (asked state)))
      × Says (opcode_of (asked state)) bytes sent.wire
  to_call call state even waits there goes = (
    awaits_even w.kernel sent.unique (Some (purpose.Call call)) even waits ∙ ap awaited_by_call there,
    says (opcode_of (asked state)) sent.wire refl (fits (asked state) goes),
  )

  to_interrupt : (kept : Purpose) → is_live w.kernel.phase ≡ true → nat_eq (sent.unique % 2) 1 ≡ true
      → waiting w.kernel.queues (sent.unique - 1) ≡ Some kept
      → (awaited w.kernel sent.unique ≡ reply_to opcode.Interrupt) × Says opcode.Interrupt bytes sent.wire
  to_interrupt kept live odd waits =
      let number : sent.unique % 2 ≡ 1 = grind (arith, nat_tests, odd) in
      let fit = here.sound.fits live in
      let none_said = All-at (λ (s : Sent). s.unique % 2 ≡ 1
      → is_empty_reply s.wire ≡ true) w.replies place sent fit.interrupted found number in
      (awaits_odd w.kernel sent.unique (Some kept) odd waits, says opcode.Interrupt sent.wire refl (empty none_said).1)

  -- It replies to a RELEASE, and says only whether that failed.
  to_release : (file : Opened) → is_live w.kernel.phase ≡ true → nat_eq (sent.unique % 2) 1 ≡ false
      → waiting w.kernel.queues sent.unique ≡ Some (purpose.Release file)
      → (awaited w.kernel sent.unique ≡ reply_to opcode.Release) × Says opcode.Release bytes sent.wire
  to_release file live even waits =
      let fit = here.sound.fits live in
      let request = waiting_is w.kernel.queues sent.unique (purpose.Release file) waits in
      let mine = All-found (λ (e : ℕ
      × QueuedRequest Purpose). FitsPurpose w.replies w.server.kept e.0 e.1.kept) sent.unique w.kernel.queues.requests request.request fit.released request.under in
      let none = subst (FitsPurpose w.replies w.server.kept sent.unique) request.serves mine in
      let none_said = All-at (λ (s : Sent). s.unique ≡ sent.unique
      → is_empty_reply s.wire ≡ true) w.replies place sent none.of_copies found refl in (
        awaits_even w.kernel sent.unique (Some (purpose.Release file)) even waits,
        says opcode.Release sent.wire refl (empty none_said).0,
      )

  -- It is the server's reply to INIT.
  to_init : nat_eq (sent.unique % 2) 1 ≡ false → waiting w.kernel.queues sent.unique ≡ Some purpose.Init
      → sent.wire ≡ init_reply w.server.minor init_flags
      → (awaited w.kernel sent.unique ≡ reply_to opcode.Init) × Says opcode.Init bytes sent.wire
  to_init even waits wire_is = (
    awaits_even w.kernel sent.unique (Some purpose.Init) even waits,
    says opcode.Init sent.wire refl (init (ap is_init_reply wire_is)),
  )

  goes_failed : (operation : Operation ℕ Opened) → goes_with operation (op.failed 4) ≡ true
  goes_failed operation = refl

  -- The bytes say it to the request that awaits them.
  abbrev SaysTo : Opcode → Type 0
  SaysTo o = (awaited w.kernel sent.unique ≡ reply_to o) × Says o bytes sent.wire

  as_awaited : (o : Opcode) → awaited w.kernel sent.unique ≡ reply_to o → (other : Opcode) → SaysTo other
      → Says o bytes sent.wire
  as_awaited o awaits other it =
      let same : reply_to other ≡ reply_to o = sym it.0 ∙ awaits in
      subst (λ (x : Opcode). Says x bytes sent.wire) (cc same) it.1

  received_by : CanReceive w here.plain sent → (o : Opcode) → IsJudged o → awaited w.kernel sent.unique ≡ reply_to o
      → Says o bytes sent.wire
  received_by (each.nothing e) o judged awaits =
      let none = awaits_none w.kernel sent.unique sent.wire e in
      let no : said.nothing ≡ reply_to o = sym none.0 ∙ awaits in
      absurd (cc no)
  received_by (each.of_interrupt kept numbered live odd waits) o judged awaits =
      as_awaited o awaits opcode.Interrupt (to_interrupt kept live odd waits)
  received_by (each.of_release file numbered live even waits) o judged awaits =
      as_awaited o awaits opcode.Release (to_release file live even waits)
  received_by (each.of_init numbered live even waits wire_is) o judged awaits =
      as_awaited o awaits opcode.Init (to_init even waits wire_is)
  received_by (each.of_call call state reply numbered one live even waits is) o judged awaits =
      as_awaited o awaits (opcode_of (asked state)) (to_call call state even waits is.state_is is.goes)
  received_by (each.of_declined call state numbered one live even waits is) o judged awaits =
      as_awaited o awaits (opcode_of (asked state)) (to_call call state even waits is.state_is
      (ap (goes_with (asked state)) is.wire_is ∙ goes_failed (asked state)))

  -- ---- it goes over the device

  not_an_older : IsOlderAgreement bytes → ⊥
  not_an_older older = by (is_live w.kernel.phase) refl
    where
      by : (b : Bool) → is_live w.kernel.phase ≡ b → ⊥
      by true live =
          let agreed = here.sound.both.links.agreed live in
          let wire_is = All-at (λ (s : Sent). s.unique ≡ 2 → s.wire ≡ init_reply w.server.minor init_flags) w.replies place sent
          agreed.copies found (sym head.1 ∙ of_init bytes older) in
          not_older bytes sent.unique w.server.minor init_flags
          (subst (SaysReply opcode.Init bytes sent.unique) wire_is (init (ap is_init_reply wire_is))) older
      by false dead = none_at w.replies place sent (here.sound.both.links.idle dead).replies found

  pub written_over : (after : World) → HasTransfersAt w (event.write place) after
  written_over after = reply_over w after place sent found bytes head.0 head.1
      (λ o judged awaits. received_by can_receive o judged awaits) not_an_older

  -- ---- what the kernel made of its bytes
  module _ (written : WriteResult) (new : Kernel)
      (unawaited : HasReplyHead bytes → awaited w.kernel (head_unique bytes) ≡ said.nothing
      → (written ≡ NoEntry) × (new ≡ w.kernel))
      (taken : HasReplyHead bytes → IsReplyWritten w.kernel (head_unique bytes) bytes
      (awaited w.kernel (head_unique bytes)) written new) where
    taken_so : IsReplyWritten w.kernel sent.unique bytes (awaited w.kernel sent.unique) written new
    taken_so = subst (λ (u : ℕ). IsReplyWritten w.kernel u bytes (awaited w.kernel u) written new) head.1 (taken head.0)

    unawaited_so : awaited w.kernel sent.unique ≡ said.nothing → (written ≡ NoEntry) × (new ≡ w.kernel)
    unawaited_so none = unawaited head.0 (ap (awaited w.kernel) head.1 ∙ none)

    kinds_of : (awaits : Awaited) → awaited w.kernel sent.unique ≡ awaits → IsAwaited awaits
    kinds_of awaits is = subst IsAwaited is taken_so.kinds

    of_call : (state : CallState Opened) → SaysTo (opcode_of (asked state))
        → reply_written w.kernel sent.unique sent.wire ≡ (written, new)
    of_call state it = let o = opcode_of (asked state) in
        taken_so.said o (is_judged (asked state) (kinds_of (reply_to o) it.0)) it.0 sent.wire it.1

    by : CanReceive w here.plain sent → reply_written w.kernel sent.unique sent.wire ≡ (written, new)
    by (each.nothing e) =
        let none = awaits_none w.kernel sent.unique sent.wire e in
        let so = unawaited_so none.0 in
        none.1 ∙ (λ i. (sym so.0 i, sym so.1 i))
    by (each.of_interrupt kept numbered live odd waits) = let it =
        to_interrupt kept live odd waits in taken_so.said opcode.Interrupt tt it.0 sent.wire it.1
    by (each.of_release o numbered live even waits) = let it =
        to_release o live even waits in taken_so.said opcode.Release tt it.0 sent.wire it.1
    by (each.of_init numbered live even waits wire_is) = let it =
        to_init even waits wire_is in taken_so.said opcode.Init tt it.0 sent.wire it.1
    by (each.of_call call state reply numbered one live even waits is) =
        of_call state (to_call call state even waits is.state_is is.goes)
    by (each.of_declined call state numbered one live even waits is) =
        of_call state (to_call call state even waits is.state_is
        (ap (goes_with (asked state)) is.wire_is ∙ goes_failed (asked state)))

    -- The kernel made of it what the machine makes of it.
    pub reply_written_is : reply_written w.kernel sent.unique sent.wire ≡ (written, new)
    reply_written_is = by can_receive

  -- ---- what the kernel refuses

  judged_of : (operation : Operation ℕ Opened) → IsJudged (opcode_of operation)
  judged_of (lookup d name) = tt
  judged_of (getattr x) = tt
  judged_of (mkdir d name) = tt
  judged_of (create d name) = tt
  judged_of (unlink d name) = tt
  judged_of (rmdir d name) = tt
  judged_of (rename d old e new) = tt
  judged_of (link x d name) = tt
  judged_of (opening x) = tt
  judged_of (readdir d after size) = tt
  judged_of (readdirplus d after size) = tt
  judged_of (read o offset size) = tt
  judged_of (write o offset bytes) = tt

  -- No number is left for what the copy says, where the machine's counter goes past its end.
  passes_end : kernel.is_kernel_past w.kernel ≡ false → kernel.is_kernel_past (reply_written w.kernel sent.unique sent.wire).1 ≡ true
      → WritePasses w.kernel bytes
  passes_end low past = (
    head.0,
    subst (λ (u : ℕ). PassesEnd w.kernel u bytes (awaited w.kernel u)) (sym head.1)
        (by can_receive),
  )
    where
      said_past : (o : Opcode) → IsJudged o → (awaited w.kernel sent.unique ≡ reply_to o) × Says o bytes sent.wire
          → PassesEnd w.kernel sent.unique bytes (awaited w.kernel sent.unique)
      said_past o judged it = subst (PassesEnd w.kernel sent.unique bytes) (sym it.0)
          (passes w.kernel sent.unique bytes o judged sent.wire it.1 past)

      by : CanReceive w here.plain sent → PassesEnd w.kernel sent.unique bytes (awaited w.kernel sent.unique)
      by (each.nothing e) =
          let none = awaits_none w.kernel sent.unique sent.wire e in
          absurd (true≢false (sym past ∙ ap (λ (took : WriteResult × Kernel). kernel.is_kernel_past took.1) none.1 ∙ low))
      by (each.of_interrupt kept numbered live odd waits) =
          said_past opcode.Interrupt tt (to_interrupt kept live odd waits)
      by (each.of_release o numbered live even waits) = said_past opcode.Release tt (to_release o live even waits)
      by (each.of_init numbered live even waits wire_is) = said_past opcode.Init tt (to_init even waits wire_is)
      by (each.of_call call state reply numbered one live even waits is) =
          said_past (opcode_of (asked state)) (judged_of (asked state))
          (to_call call state even waits is.state_is is.goes)
      by (each.of_declined call state numbered one live even waits is) =
          said_past (opcode_of (asked state)) (judged_of (asked state))
          (to_call call state even waits is.state_is (ap (goes_with (asked state)) is.wire_is ∙ goes_failed
          (asked state)))

  -- Memory runs out only where no number is.
  write_out_of_memory : is_past w ≡ false → (WritePasses w.kernel bytes → ⊥) → (given : Refusal) → given ≡ NoMemory
      → RefusedWith w (event.write place) given
  write_out_of_memory low none given is = by (is_past after) refl
    where
      took : WriteResult × Kernel
      took = reply_written w.kernel sent.unique sent.wire

      after : World
      after = after_write w place sent took

      by : (past : Bool) → is_past after ≡ past → RefusedWith w (event.write place) given
      by true past = absurd (none (passes_end (kernel_all_low w low) (kernel_past after past (server_low w low))))
      by false ends = out_of_memory w (event.write place) (event.written sent.unique took.0) after refl
          (writes w place sent took found refl ends) given is

  -- The kernel refused its bytes.
  pub write_refused : is_past w ≡ false → (r : Refusal) → WriteRefused w.kernel bytes r
      → (r ≡ NoMemory → WritePasses w.kernel bytes → ⊥) → RefusedWith w (event.write place) r
  write_refused within r (exhausted it) last =
      let awaits : awaited w.kernel sent.unique ≡ reply_to it.opcode = ap (awaited w.kernel) (sym head.1) ∙ it.awaits in
      let means : ReadsReply it.opcode bytes sent.wire = means_said sent.wire
      (received_by can_receive it.opcode it.judged awaits) in
      let past : kernel.is_kernel_past (reply_written w.kernel sent.unique sent.wire).1 ≡ true =
      ap (λ (u : ℕ). kernel.is_kernel_past (reply_written w.kernel u sent.wire).1)
      (sym head.1) ∙ it.past sent.wire means in
      inl (past_written w place sent found past)
  write_refused within r (no_memory none) last = write_out_of_memory within (last refl) NoMemory refl

  -- Where there is no room for its result: what the kernel would refuse it for, or out of memory.
  pub look_refused : is_past w ≡ false → (o : Option Refusal)
      → IfSome o (λ r. (r ≡ Exhausted) × WritePasses w.kernel bytes) → IfNone o (WritePasses w.kernel bytes → ⊥)
      → RefusedWith w (event.write place) (kernel.or_no_memory o)
  look_refused within None passes none = write_out_of_memory within none NoMemory refl
  look_refused within (Some r) passes none = subst (RefusedWith w (event.write place)) (sym passes.0)
      (write_refused within Exhausted (exhausted passes.1.1) (λ is. absurd (cc is)))
