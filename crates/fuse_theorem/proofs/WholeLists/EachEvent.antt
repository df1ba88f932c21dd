-- Each event that is not refused, where its conditions hold: the plain world takes its step, and the two are alike.
use Rattle.fuse_spec.specs.declared.Minor.{Minor}
use Rattle.fuse_spec.specs.Server.Nodes.{count_overflows}
use Rattle.std.proofs.Common.{◌≡◌, ℕ, ◌+◌, ◌-◌, ◌%◌, Bool, true, false, not, ◌||◌, cond, List, [], ◌∷◌, Option, Some, None, Ok, nat_eq, length, slice_get, option_map, refl, ap, sym, subst, ◌∙◌}
use Rattle.std.specs.Prelude.{nat_lt, nat_le, max}
use Rattle.std.specs.List.{remove}
use Rattle.fuse_spec.specs.declared.Dentry.{Dentry}
use Rattle.fuse_spec.specs.declared.Counted.{Counted}
use Rattle.fuse_spec.specs.declared.Opened.{Opened}
use Rattle.fuse_spec.specs.declared.Purpose.{Purpose}
use Rattle.fuse_spec.specs.declared.Purpose.TheVariants as purpose
use Rattle.fuse_spec.specs.declared.QueuedRequest.{QueuedRequest}
use Rattle.fuse_spec.specs.declared.Refusal.TheVariants as refusal
use Rattle.fuse_spec.specs.declared.ReplyResult.{ReplyResult}
use Rattle.fuse_spec.specs.declared.WriteResult.{WriteResult}
use Rattle.fuse_spec.specs.declared.WriteResult.TheVariants.{Accepted}
use Rattle.fuse_spec.specs.Values.Maps.{get, get_name}
use Rattle.fuse_spec.specs.Values.Numbers.{max_calls, max_validity, clock_end}
use Rattle.fuse_spec.specs.Files.Operations.{errno_of}
use Rattle.fuse_spec.specs.Kernel.Queues.{pending}
use Rattle.fuse_spec.specs.Kernel.QueueCalls.{pending_at, waiting, without}
use Rattle.fuse_spec.specs.Kernel.Messages.{Forget, Request, RequestBody, init, asks, release, forget, batch_forget, interrupt}
use Rattle.fuse_spec.specs.Calls.Vfs.{CallState}
use Rattle.fuse_spec.specs.Calls.Calls.{Call}
use Rattle.fuse_spec.specs.Calls.Paths.{Name}
use Rattle.fuse_spec.specs.Kernel.Kernel.{Kernel, is_live, body_of, call_signalled, is_pinned, is_bound}
use Rattle.fuse_spec.specs.Kernel.Replies.{reply_written, request_reply_written, interrupt_reply_written, replied_to_call}
use Rattle.fuse_spec.specs.Server.Server.{HeldRequest, Kept, Copy, holding}
use Rattle.fuse_spec.specs.Server.Copies.{is_current, files_named}
use Rattle.fuse_spec.specs.Server.Taking.{taking}
use Rattle.fuse_spec.specs.Server.Performs.{served, files_given}
use Rattle.fuse_spec.specs.World.Worlds.{World, Sent, after_mount, after_call, world_after_read_interrupt, world_after_read_forgets, world_after_read_pending, after_take, after_perform, after_again, after_write, after_settle, after_tick, after_drop, after_evict, after_abort}
use Rattle.fuse_spec.specs.World.Events.{Event, Outcome}
use Rattle.fuse_spec.specs.World.Events as event
use Rattle.fuse_spec.specs.Kernel.Uniques.{interrupt_number}
use Rattle.fuse_spec.specs.Kernel.Kernel.{forgets_read as forgets_of_kernel}
use Rattle.fuse_spec.specs.Kernel.Refusals.{first_found, found, pending_found, unused_found, when_not_interrupted, unless, is_ready, is_busy}
use Rattle.fuse_spec.specs.Server.Refusals.{held_found, kept_found}
use Rattle.fuse_spec.specs.World.Steps.{going, reading_interrupt, reading_forgets, reading_pending, taking_request, performing_held, sending_again, writing_copy, settling, signalling, dropping, evicting, step}
use Rattle.fuse_spec.specs.Reference.Plain.{Plain}
use Rattle.fuse_spec.specs.Reference.PlainSteps.{Takes, takes}
use Rattle.fuse_spec.specs.Claim.Alike.{Alike}
use Rattle.fuse_theorem.specs.EachEvent.{PlainMoves, CanTakeRequest, CanServe, CanReceive, CanSettle, Needs}
use Rattle.fuse_theorem.specs.EachEvent as each
use Rattle.fuse_theorem.proofs.Refining.Aborting.{abort_goes}
use Rattle.fuse_theorem.proofs.RefusalCases.Accepted.{Leads, accepted, unless_ok, going_ok, ok_is, is_not}
use Rattle.fuse_theorem.proofs.Refining.Accepting.{accept_goes, accepts}
use Rattle.fuse_theorem.proofs.Refining.AcceptingEintr.{eintr_goes, accepts as eintr_accepts}
use Rattle.fuse_theorem.proofs.Calls.Calling.{call_goes_always}
use Rattle.fuse_theorem.proofs.Refining.Declining.{decline_goes}
use Rattle.fuse_theorem.proofs.Refining.Dropping.{drop_goes}
use Rattle.fuse_theorem.proofs.Refining.Evicting.{or_false, evicted_alike}
use Rattle.fuse_theorem.proofs.Refining.Forgetting.{forgotten_alike}
use Rattle.fuse_theorem.proofs.Refining.LookedUp.{one_to_one}
use Rattle.fuse_theorem.proofs.Refining.Marking.{take_interrupt_goes}
use Rattle.fuse_theorem.proofs.Refining.Mounting.{mount_goes}
use Rattle.fuse_theorem.proofs.Refining.Performing.{asked, perform_goes, lost_goes}
use Rattle.fuse_theorem.proofs.Refining.PerformingWithoutAsk.{init_goes, release_goes}
use Rattle.fuse_theorem.proofs.Refining.Reading.{read_pending_alike}
use Rattle.fuse_theorem.proofs.Refining.Replied.{no_entry, release_ends, init_ends, interrupt_replied_to}
use Rattle.fuse_theorem.proofs.Refining.SendingAgain.{again_alike}
use Rattle.fuse_theorem.proofs.Refining.Settling.{kept_fewer_alike, settled_alike}
use Rattle.fuse_theorem.proofs.Refining.Signalling.{signal_goes}
use Rattle.fuse_theorem.proofs.Refining.Taking.{held_alike}
use Rattle.fuse_theorem.proofs.Refining.Ticking.{tick_goes}
use Rattle.fuse_theorem.proofs.Refining.NoAsk.{interrupt_read, forgets_read}

-- the same, said of the outcome and the world that the step gives
led : (p : Plain) (e : Event) (outcome : Outcome) (after : World) (o : Outcome) (last : World)
    → Leads outcome after o last → PlainMoves p e outcome after → PlainMoves p e o last
led p e outcome after o last leads moves = subst (λ (y : Outcome × World). PlainMoves p e y.0 y.1)
    (λ i. (leads.outcome_is i, leads.after_is i)) moves

-- A world that the plain one is alike to already.
stays : (p : Plain) (e : Event) (outcome : Outcome) (after : World)
    → (chosen : ℕ) × (takes chosen p e outcome ≡ Some p) → Alike after p → PlainMoves p e outcome after
stays p e outcome after takes alike = (p, takes, alike)

module _ (w : World) (p : Plain) (same : Alike w p) (o : Outcome) (last : World) where
  mounts : (found_ms missing_ms : ℕ) (minor : Minor) (choice : ℕ → ℕ)
      → Needs choice w p (event.mount found_ms missing_ms minor)
      → step choice w (event.mount found_ms missing_ms minor) ≡ Ok (o, last)
      → PlainMoves p (event.mount found_ms missing_ms minor) o last
  mounts f m v choice needs e =
      let timely = unless_ok (nat_lt max_validity (max f m)) refusal.BadTime
      (unless (is_busy w.kernel) refusal.Busy (accepted event.mounted (after_mount w f m v))) o last e in
      let idle = unless_ok (is_busy w.kernel) refusal.Busy
      (accepted event.mounted (after_mount w f m v)) o last timely.rest in
      led p (event.mount f m v) event.mounted (after_mount w f m v) o last
      (ok_is event.mounted (after_mount w f m v) o last idle.rest)
      (mount_goes w f m v p needs.root needs.answers same)

  calls : (call : Call) (choice : ℕ → ℕ) → Needs choice w p (event.call call)
      → step choice w (event.call call) ≡ Ok (o, last) → PlainMoves p (event.call call) o last
  calls call choice needs e =
      let begun = event.begun w.kernel.vfs.next_call in
      let ready = unless_ok (not (is_ready w.kernel.phase)) refusal.NotReady
      (unless (nat_le max_calls (length w.kernel.vfs.calls)) refusal.Full
      (going begun (after_call w call))) o last e in
      let room = unless_ok (nat_le max_calls (length w.kernel.vfs.calls)) refusal.Full
      (going begun (after_call w call)) o last ready.rest in
      let went = going_ok begun (after_call w call) o last room.rest in
      led p (event.call call) begun (after_call w call) o last went.leads
      (call_goes_always w p needs.0 needs.1 same call (is_not (is_ready w.kernel.phase) ready.passed))

  reads_interrupt : (choice : ℕ → ℕ) → Needs choice w p event.read_interrupt
      → step choice w event.read_interrupt ≡ Ok (o, last) → PlainMoves p event.read_interrupt o last
  reads_interrupt choice sound e =
      let lives = unless_ok (not (is_live w.kernel.phase)) refusal.NotReady
      (first_found w.kernel.queues.interrupts (reading_interrupt w)) o last e in
      by w.kernel.queues.interrupts (is_not (is_live w.kernel.phase) lives.passed) lives.rest
    where
      by : (xs : List ℕ) → is_live w.kernel.phase ≡ true → first_found xs (reading_interrupt w) ≡ Ok (o, last)
          → PlainMoves p event.read_interrupt o last
      by [] live f = absurd (cc)
      by (original ∷ rest) live f =
          let outcome = event.is_read (interrupt_number original) in
          let went = going_ok outcome (world_after_read_interrupt w original) o last f in
          led p event.read_interrupt outcome (world_after_read_interrupt w original) o last went.leads
          (stays p event.read_interrupt outcome (world_after_read_interrupt w original) (0, refl)
          (interrupt_read w p sound same live original))

  reads_forgets : (n : ℕ) (choice : ℕ → ℕ) → Needs choice w p (event.read_forgets n)
      → step choice w (event.read_forgets n) ≡ Ok (o, last) → PlainMoves p (event.read_forgets n) o last
  reads_forgets n choice sound e =
      let read = forgets_of_kernel w.kernel n in
      let lives = unless_ok (not (is_live w.kernel.phase)) refusal.NotReady
      (when_not_interrupted w.kernel (found read (reading_forgets w n))) o last e in
      let free = unless_ok (not (nat_eq (length w.kernel.queues.interrupts) 0)) refusal.InterruptFirst
      (found read (reading_forgets w n)) o last lives.rest in
      by read (is_not (is_live w.kernel.phase) lives.passed) free.rest
    where
      by : (r : Option (ℕ × List Forget)) → is_live w.kernel.phase ≡ true → found r (reading_forgets w n) ≡ Ok (o, last)
          → PlainMoves p (event.read_forgets n) o last
      by None live f = absurd (cc)
      by (Some r) live f =
          let went = going_ok (event.is_read r.0) (world_after_read_forgets w n r.1) o last f in
          led p (event.read_forgets n) (event.is_read r.0) (world_after_read_forgets w n r.1) o last went.leads
          (stays p (event.read_forgets n) (event.is_read r.0) (world_after_read_forgets w n r.1) (0, refl)
          (forgets_read w p sound same live n r.1))

  takes_one : (k : ℕ) (choice : ℕ → ℕ) → Needs choice w p (event.take k) → step choice w (event.take k) ≡ Ok (o, last)
      → PlainMoves p (event.take k) o last
  takes_one k choice needs e = by (slice_get w.requests k) refl e
    where
      taken : (r : Request) (body : RequestBody) → r.body ≡ body → slice_get w.requests k ≡ Some r
          → CanTakeRequest w p k r body → PlainMoves p (event.take k) (event.taken r.unique (taking w.server r.unique body).word)
          (after_take w k r.unique (taking w.server r.unique body))
      taken r (init flags) is at can = (
        p,
        (0, refl),
        subst
            (λ (b : RequestBody). Alike (record w {
              requests = remove w.requests k;
              server = holding w.server r.unique b;
            }) p) is (held_alike w p same k r at),
      )
      taken r (asks operation) is at can = (
        p,
        (0, refl),
        subst (λ (b : RequestBody). Alike (record w {
          requests = remove w.requests k;
          server = holding w.server r.unique b;
        }) p) is (held_alike w p same k r at),
      )
      taken r (release x) is at can = (
        p,
        (0, refl),
        subst
            (λ (b : RequestBody). Alike (record w {
              requests = remove w.requests k;
              server = holding w.server r.unique b;
            }) p) is (held_alike w p same k r at),
      )
      taken r (forget f) is at can = (p, (0, refl), forgotten_alike w p can.0 same k (f ∷ []) can.1)
      taken r (batch_forget fs) is at can = (p, (0, refl), forgotten_alike w p can.0 same k fs can.1)
      taken r (interrupt original) is at can =
          subst (λ (b : RequestBody). PlainMoves p (event.take k) (event.taken r.unique (taking w.server r.unique b).word)
          (after_take w k r.unique (taking w.server r.unique b))) is (take_interrupt_goes w p same k r original can)

      by : (x : Option Request) → slice_get w.requests k ≡ x → found x (taking_request w k) ≡ Ok (o, last)
          → PlainMoves p (event.take k) o last
      by None at f = absurd (cc)
      by (Some r) at f =
          let took = taking w.server r.unique r.body in
          let went = going_ok (event.taken r.unique took.word) (after_take w k r.unique took) o last f in
          led p (event.take k) (event.taken r.unique took.word) (after_take w k r.unique took) o last went.leads
          (taken r r.body refl at (needs r at))

  reads_pending : (k : ℕ) (choice : ℕ → ℕ) → Needs choice w p (event.read_pending k)
      → step choice w (event.read_pending k) ≡ Ok (o, last) → PlainMoves p (event.read_pending k) o last
  reads_pending k choice sound e =
      let at = pending_at w.kernel.queues k in
      let lives = unless_ok (not (is_live w.kernel.phase)) refusal.NotReady
      (when_not_interrupted w.kernel (pending_found w.kernel at (reading_pending w k))) o last e in
      let free = unless_ok (not (nat_eq (length w.kernel.queues.interrupts) 0)) refusal.InterruptFirst
      (pending_found w.kernel at (reading_pending w k)) o last lives.rest in
      by_place (slice_get (pending w.kernel.queues) k) refl free.rest
    where
      by_body : (x : ℕ × QueuedRequest Purpose) (body : Option RequestBody)
          → slice_get (pending w.kernel.queues) k ≡ Some x → body_of w.kernel x.1.kept ≡ body
          → found body (reading_pending w k x.0) ≡ Ok (o, last) → PlainMoves p (event.read_pending k) o last
      by_body x None at what f = absurd (cc)
      by_body x (Some body) at what f =
          let went = going_ok (event.is_read x.0) (world_after_read_pending w k x.0 body) o last f in
          led p (event.read_pending k) (event.is_read x.0) (world_after_read_pending w k x.0 body) o last went.leads
          (stays p (event.read_pending k) (event.is_read x.0) (world_after_read_pending w k x.0 body) (0, refl)
          (read_pending_alike w p same sound k x body at what))

      by_place : (x : Option (ℕ × QueuedRequest Purpose)) → slice_get (pending w.kernel.queues) k ≡ x
          → pending_found w.kernel (option_map (λ (e : ℕ × QueuedRequest Purpose). (e.0, e.1.kept)) x)
          (reading_pending w k) ≡ Ok (o, last)
          → PlainMoves p (event.read_pending k) o last
      by_place None at f = absurd (cc)
      by_place (Some x) at f = by_body x (body_of w.kernel x.1.kept) at refl f

  performs_one : (unique : ℕ) (choice : ℕ → ℕ) → Needs choice w p (event.perform unique)
      → step choice w (event.perform unique) ≡ Ok (o, last) → PlainMoves p (event.perform unique) o last
  performs_one unique choice needs e = by (get w.server.held unique) refl e
    where
      serves : (t : HeldRequest) → get w.server.held unique ≡ Some t → CanServe choice w p unique t
          → PlainMoves p (event.perform unique) (event.performed unique
          (errno_of (served choice w.server unique t).wire) w.server.aborted)
          (after_perform w unique (served choice w.server unique t))
      serves t at (each.performs operation can live tables one known may) =
          let ask = asked w p same choice unique t operation can in
          perform_goes w p same choice unique t operation can live tables
          (one_to_one w.kernel.nodes w.server.nodes one) known (may ask.ask ask.there)
      serves t at (each.performs_unreceived operation can lost one) =
          lost_goes w p same choice unique t operation can lost one
      serves t at (each.declines operation can) = decline_goes w p same choice unique t operation can
      serves t at (each.initiates flags is unmarked still) = let goes =
          init_goes w p same choice unique t at flags is unmarked still in (p, goes.0, goes.1)
      serves t at (each.releases x can one holds opens) = let goes =
          release_goes w p same choice unique t one x can holds opens in (p, goes.0, goes.1)

      by : (x : Option HeldRequest) → get w.server.held unique ≡ x
          → held_found w.server x (performing_held choice w unique) ≡ Ok (o, last)
          → PlainMoves p (event.perform unique) o last
      by None at f = absurd (cc)
      by (Some t) at f =
          let did = served choice w.server unique t in
          let outcome = event.performed unique (errno_of did.wire) w.server.aborted in
          let few = unless_ok (count_overflows w.server.nodes (files_given w.server t)) refusal.Exhausted
          (going outcome (after_perform w unique did)) o last f in
          let went = going_ok outcome (after_perform w unique did) o last few.rest in
          led p (event.perform unique) outcome (after_perform w unique did) o last went.leads (serves t at (needs t at))

  sends_again : (unique : ℕ) (choice : ℕ → ℕ) → Needs choice w p (event.again unique)
      → step choice w (event.again unique) ≡ Ok (o, last) → PlainMoves p (event.again unique) o last
  sends_again unique choice needs e = by (get w.server.kept unique) refl e
    where
      by : (x : Option Kept) → get w.server.kept unique ≡ x
          → kept_found w.server x (sending_again w unique) ≡ Ok (o, last)
          → PlainMoves p (event.again unique) o last
      by None at f = absurd (cc)
      by (Some kept) at f =
          let out = count_overflows w.server.nodes (files_named w.server kept.wire) in
          let gone = going (event.sent_again unique) (after_again w unique kept) in
          let current = unless_ok (not (is_current w.server kept.wire)) refusal.NoCopy
          (unless out refusal.Exhausted gone) o last f in
          let few = unless_ok out refusal.Exhausted gone o last current.rest in
          let went = going_ok (event.sent_again unique) (after_again w unique kept) o last few.rest in
          led p (event.again unique) (event.sent_again unique) (after_again w unique kept) o last went.leads
          (stays p (event.again unique) (event.sent_again unique) (after_again w unique kept) (0, refl)
          (again_alike w p (one_to_one w.kernel.nodes w.server.nodes needs.0) needs.1 same unique kept at))

  writes : (k : ℕ) (choice : ℕ → ℕ) → Needs choice w p (event.write k) → step choice w (event.write k) ≡ Ok (o, last)
      → PlainMoves p (event.write k) o last
  writes k choice needs e = by (slice_get w.replies k) refl e
    where
      Received : Sent → WriteResult × Kernel → Type 0
      Received sent took = PlainMoves p (event.write k) (event.written sent.unique took.0) (after_write w k sent took)

      RepliedTo : Sent → ℕ → WriteResult × Kernel
      RepliedTo sent call = replied_to_call (record w.kernel {
        queues =
            without w.kernel.queues sent.unique;
      }) call sent.wire (get w.kernel.vfs.calls call)

      -- what a reply to a call's request results in
      to_call : (sent : Sent) (call : ℕ) → nat_eq (sent.unique % 2) 1 ≡ false
          → waiting w.kernel.queues sent.unique ≡ Some (purpose.Call call)
          → reply_written w.kernel sent.unique sent.wire ≡ replied_to_call
          (record w.kernel { queues = without w.kernel.queues sent.unique }) call sent.wire
          (get w.kernel.vfs.calls call)
      to_call sent call even waits =
          ap (λ (b : Bool). cond b (interrupt_reply_written w.kernel sent.unique sent.wire
          (waiting w.kernel.queues (sent.unique - 1))) (request_reply_written w.kernel sent.unique sent.wire
          (waiting w.kernel.queues sent.unique))) even
          ∙ ap (request_reply_written w.kernel sent.unique sent.wire) waits

      accepted_as : (sent : Sent) (call : ℕ) → (RepliedTo sent call).0 ≡ Accepted
          → (q : Plain) × Takes p (event.write k) (event.written sent.unique Accepted) q
          × Alike (after_write w k sent (RepliedTo sent call)) q → Received sent (RepliedTo sent call)
      accepted_as sent call is goes = (
        goes.0,
        subst (λ (r : WriteResult). Takes p (event.write k)
            (event.written sent.unique r) goes.0) (sym is) goes.1,
        goes.2,
      )

      receives : (sent : Sent) → CanReceive w p sent → Received sent (reply_written w.kernel sent.unique sent.wire)
      receives sent (each.nothing none) = let goes = no_entry w p same k sent none in (p, goes.0, goes.1)
      receives sent (each.of_interrupt kept numbered live odd waits) = let goes =
          interrupt_replied_to w p same k sent numbered live odd kept waits in (p, goes.0, goes.1)
      receives sent (each.of_release x numbered live even waits) = let goes =
          release_ends w p same k sent numbered live even x waits in (p, goes.0, goes.1)
      receives sent (each.of_init numbered live even waits agrees) = let goes =
          init_ends w p same k sent numbered live even waits agrees in (p, goes.0, goes.1)
      receives sent (each.of_call call state reply numbered one live even waits is) =
          subst (Received sent) (sym (to_call sent call even waits))
          (accepted_as sent call (accepts w p numbered one same live k sent call state reply is)
          (accept_goes w p numbered one same live k sent call state reply is))
      receives sent (each.of_declined call state numbered one live even waits is) =
          subst (Received sent) (sym (to_call sent call even waits))
          (accepted_as sent call (eintr_accepts w p numbered one same live k sent call state is)
          (eintr_goes w p numbered one same live k sent call state is))

      by : (x : Option Sent) → slice_get w.replies k ≡ x → found x (writing_copy w k) ≡ Ok (o, last)
          → PlainMoves p (event.write k) o last
      by None at f = absurd (cc)
      by (Some sent) at f =
          let took = reply_written w.kernel sent.unique sent.wire in
          let went = going_ok (event.written sent.unique took.0) (after_write w k sent took) o last f in
          led p (event.write k) (event.written sent.unique took.0) (after_write w k sent took) o last went.leads
          (receives sent (needs sent at))

  settles : (k : ℕ) (choice : ℕ → ℕ) → Needs choice w p (event.settle k)
      → step choice w (event.settle k) ≡ Ok (o, last) → PlainMoves p (event.settle k) o last
  settles k choice needs e = by (slice_get w.results k) refl e
    where
      by_copy : (result : ReplyResult) → slice_get w.results k ≡ Some result → (c : Option Copy)
          → get w.server.copies result.number ≡ c → Alike (after_settle w k result c) p
      by_copy result at None there = kept_fewer_alike w p same (remove w.results k) w.server.kept w.server.copies
          (λ q x kept. kept)
      by_copy result at (Some copy) there = let can = needs.1 result copy at there in
          settled_alike w p needs.0 same k result copy can.0 can.1

      by : (x : Option ReplyResult) → slice_get w.results k ≡ x → found x (settling w k) ≡ Ok (o, last)
          → PlainMoves p (event.settle k) o last
      by None at f = absurd (cc)
      by (Some result) at f =
          let outcome = event.settled result.unique result.result in
          let after = after_settle w k result (get w.server.copies result.number) in
          led p (event.settle k) outcome after o last (ok_is outcome after o last f)
          (stays p (event.settle k) outcome after (0, refl)
          (by_copy result at (get w.server.copies result.number) refl))

  signals : (call : ℕ) (fatal : Bool) (choice : ℕ → ℕ) → Needs choice w p (event.intr call fatal)
      → step choice w (event.intr call fatal) ≡ Ok (o, last) → PlainMoves p (event.intr call fatal) o last
  signals call fatal choice needs e =
      let lives = unless_ok (not (is_live w.kernel.phase)) refusal.NotReady
      (found (get w.kernel.vfs.calls call) (signalling w call fatal)) o last e in
      by (get w.kernel.vfs.calls call) refl (is_not (is_live w.kernel.phase) lives.passed) lives.rest
    where
      by : (x : Option (CallState Opened)) → get w.kernel.vfs.calls call ≡ x → is_live w.kernel.phase ≡ true
          → found x (signalling w call fatal) ≡ Ok (o, last) → PlainMoves p (event.intr call fatal) o last
      by None at live f = absurd (cc)
      by (Some state) at live f =
          let moved = call_signalled w.kernel call state fatal in
          let numbers = needs.0.live in
          let went = going_ok (event.interrupted call moved.0) (record w { kernel = moved.1 }) o last f in
          led p (event.intr call fatal) (event.interrupted call moved.0)
          (record w { kernel = moved.1 }) o last went.leads
          (signal_goes w p (numbers live)
          (one_to_one w.kernel.nodes w.server.nodes needs.1.0) same live call state at fatal needs.1.1)

  ticks : (ms : ℕ) (choice : ℕ → ℕ) → step choice w (event.tick ms) ≡ Ok (o, last) → PlainMoves p (event.tick ms) o last
  ticks ms choice e =
      let outcome = event.now (w.kernel.vfs.clock + ms) in
      let timely = unless_ok (nat_le clock_end (w.kernel.vfs.clock + ms)) refusal.BadTime
      (accepted outcome (after_tick w ms)) o last e in
      led p (event.tick ms) outcome (after_tick w ms) o last (ok_is outcome (after_tick w ms) o last timely.rest)
      (tick_goes w p same ms)

  drops : (directory : ℕ) (name : Name) (choice : ℕ → ℕ) → Needs choice w p (event.drop_name directory name)
      → step choice w (event.drop_name directory name) ≡ Ok (o, last) → PlainMoves p (event.drop_name directory name) o last
  drops directory name choice one e =
      let lives = unless_ok (not (is_live w.kernel.phase)) refusal.NotReady
      (found (get_name w.kernel.vfs.names (directory, name)) (dropping (after_drop w directory name))) o last e in
      by (get_name w.kernel.vfs.names (directory, name)) refl lives.rest
    where
      by : (x : Option Dentry) → get_name w.kernel.vfs.names (directory, name) ≡ x
          → found x (dropping (after_drop w directory name)) ≡ Ok (o, last)
          → PlainMoves p (event.drop_name directory name) o last
      by None at f = absurd (cc)
      by (Some bound) at f = led p (event.drop_name directory name) event.dropped (after_drop w directory name) o last
          (ok_is event.dropped (after_drop w directory name) o last f) (drop_goes w p one same directory name bound at)

  evicts : (node : ℕ) (choice : ℕ → ℕ) → Needs choice w p (event.evict node)
      → step choice w (event.evict node) ≡ Ok (o, last) → PlainMoves p (event.evict node) o last
  evicts node choice needs e =
      let lives = unless_ok (not (is_live w.kernel.phase)) refusal.NotReady
      (unused_found w.kernel node (get w.kernel.nodes node) (evicting w node)) o last e in
      by (get w.kernel.nodes node) lives.rest
    where
      by : (x : Option Counted) → unused_found w.kernel node x (evicting w node) ≡ Ok (o, last)
          → PlainMoves p (event.evict node) o last
      by None f = absurd (cc)
      by (Some counted) f =
          let outcome = event.evicted node counted.count in
          let after = after_evict w node counted in
          let unused = unless_ok (is_pinned w.kernel node || is_bound w.kernel node) refusal.Busy
          (accepted outcome after) o last f in
          let rooted = needs.0 in
          let parts = or_false (is_pinned w.kernel node) (is_bound w.kernel node) unused.passed in
          led p (event.evict node) outcome after o last (ok_is outcome after o last unused.rest)
          (stays p (event.evict node) outcome after (0, refl)
          (evicted_alike w p same node rooted.root parts.0 parts.1 needs.1 counted))

  aborts : (choice : ℕ → ℕ) → Needs choice w p event.abort → step choice w event.abort ≡ Ok (o, last)
      → PlainMoves p event.abort o last
  aborts choice needs e =
      let lives = unless_ok (not (is_live w.kernel.phase)) refusal.NotReady
      (accepted event.aborted (after_abort w)) o last e in
      led p event.abort event.aborted (after_abort w) o last (ok_is event.aborted (after_abort w) o last lives.rest)
      (abort_goes w p needs.root needs.answers same)

  -- Any event.
  pub each_moves : (choice : ℕ → ℕ) (e : Event) → Needs choice w p e → step choice w e ≡ Ok (o, last) → PlainMoves p e o last
  each_moves choice (event.mount f m v) needs s = mounts f m v choice needs s
  each_moves choice (event.call call) needs s = calls call choice needs s
  each_moves choice event.read_interrupt needs s = reads_interrupt choice needs s
  each_moves choice (event.read_forgets n) needs s = reads_forgets n choice needs s
  each_moves choice (event.read_pending k) needs s = reads_pending k choice needs s
  each_moves choice (event.take k) needs s = takes_one k choice needs s
  each_moves choice (event.perform unique) needs s = performs_one unique choice needs s
  each_moves choice (event.again unique) needs s = sends_again unique choice needs s
  each_moves choice (event.write k) needs s = writes k choice needs s
  each_moves choice (event.settle k) needs s = settles k choice needs s
  each_moves choice (event.intr call fatal) needs s = signals call fatal choice needs s
  each_moves choice (event.tick ms) needs s = ticks ms choice s
  each_moves choice (event.drop_name directory name) needs s = drops directory name choice needs s
  each_moves choice (event.evict node) needs s = evicts node choice needs s
  each_moves choice event.abort needs s = aborts choice needs s
