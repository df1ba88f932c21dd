-- What an accepted event did: what stood where it looked, and the world that it made.
use Rattle.fuse_spec.specs.declared.Minor.{Minor}
use Rattle.std.proofs.Common.{◌≡◌, ℕ, ◌+◌, Bool, true, false, not, ◌||◌, List, [], ◌∷◌, length, take, Option, Some, None, Ok, nat_eq, slice_get, subst, refl, ap, sym, ◌∙◌, true≢false, arith, ◌&&◌, cond}
use Rattle.std.specs.Prelude.{if◌then◌else◌, nat_lt, nat_le, max}
use Rattle.fuse_spec.specs.declared.Dentry.{Dentry}
use Rattle.fuse_spec.specs.declared.Counted.{Counted}
use Rattle.fuse_spec.specs.declared.Opened.{Opened}
use Rattle.fuse_spec.specs.declared.Purpose.{Purpose}
use Rattle.fuse_spec.specs.declared.Refusal.TheVariants as refusal
use Rattle.fuse_spec.specs.declared.ReplyResult.{ReplyResult}
use Rattle.fuse_spec.specs.Values.Maps.{get, get_name}
use Rattle.fuse_spec.specs.Values.Numbers.{max_calls, max_validity, clock_end}
use Rattle.fuse_spec.specs.Files.Operations.{errno_of}
use Rattle.fuse_spec.specs.Calls.Paths.{Name}
use Rattle.fuse_spec.specs.Calls.Calls.{Call}
use Rattle.fuse_spec.specs.Calls.Vfs.{CallState}
use Rattle.fuse_spec.specs.Kernel.QueueCalls.{pending_at, can_read_forgets}
use Rattle.fuse_spec.specs.Kernel.Uniques.{interrupt_number}
use Rattle.fuse_spec.specs.Kernel.Messages.{Request, RequestBody}
use Rattle.fuse_spec.specs.Kernel.Kernel.{is_live, body_of, call_signalled, is_pinned, is_bound, forgets_read, forgets_singly}
use Rattle.fuse_spec.specs.Kernel.Replies.{reply_written}
use Rattle.fuse_spec.specs.Server.Server.{HeldRequest, Kept}
use Rattle.fuse_spec.specs.Server.Taking.{taking}
use Rattle.fuse_spec.specs.Server.Performs.{served, files_given}
use Rattle.fuse_spec.specs.Server.Copies.{is_current, files_named}
use Rattle.fuse_spec.specs.World.Worlds.{World, Sent, after_mount, after_call, world_after_read_interrupt, world_after_read_forgets, world_after_read_pending, after_take, after_perform, after_again, after_write, after_settle, after_tick, after_drop, after_evict, after_abort}
use Rattle.fuse_spec.specs.World.Events.{Event, Outcome}
use Rattle.fuse_spec.specs.World.Events as event
use Rattle.fuse_spec.specs.Server.Nodes.{count_overflows}
use Rattle.fuse_spec.specs.Kernel.Refusals.{first_found, found, pending_found, unused_found, when_not_interrupted, unless, is_ready, is_busy}
use Rattle.fuse_spec.specs.Server.Refusals.{held_found, kept_found}
use Rattle.fuse_spec.specs.World.Steps.{is_past, going, reading_interrupt, reading_forgets, reading_pending, taking_request, performing_held, sending_again, writing_copy, settling, signalling, dropping, evicting, step}
use Rattle.fuse_theorem.proofs.Calls.Finding.{other_is}
use Rattle.fuse_theorem.proofs.RefusalCases.Accepted.{Leads, accepted, unless_ok, going_ok, ok_is, is_not}

pub data Happened (choice : ℕ → ℕ) (w : World) : Event → Outcome → World → Type 0 where
  by_mount : (found_ms missing_ms : ℕ) (minor : Minor) → is_busy w.kernel ≡ false
      → Happened choice w (event.mount found_ms missing_ms minor) event.mounted
      (after_mount w found_ms missing_ms minor)
  by_call : (call : Call) → is_ready w.kernel.phase ≡ true → nat_le max_calls (length w.kernel.vfs.calls) ≡ false
      → is_past (after_call w call) ≡ false
      → Happened choice w (event.call call) (event.begun w.kernel.vfs.next_call) (after_call w call)
  by_read_interrupt : (original : ℕ) (rest : List ℕ) → is_live w.kernel.phase ≡ true
      → w.kernel.queues.interrupts ≡ original ∷ rest → is_past (world_after_read_interrupt w original) ≡ false
      → Happened choice w event.read_interrupt (event.is_read (interrupt_number original))
      (world_after_read_interrupt w original)
  by_read_forgets : (n : ℕ) → is_live w.kernel.phase ≡ true → w.kernel.queues.interrupts ≡ []
      → can_read_forgets w.kernel.queues n ≡ true → is_past (world_after_read_forgets w n (take n w.kernel.queues.forgets))
      ≡ false
      → (forgets_singly w.kernel.minor && nat_lt 1 n) ≡ false
      → Happened choice w (event.read_forgets n) (event.is_read w.kernel.queues.next)
      (world_after_read_forgets w n (take n w.kernel.queues.forgets))
  by_read_pending : (k unique : ℕ) (kept : Purpose) (body : RequestBody) → is_live w.kernel.phase ≡ true
      → w.kernel.queues.interrupts ≡ [] → pending_at w.kernel.queues k ≡ Some (unique, kept)
      → body_of w.kernel kept ≡ Some body
      → is_past (world_after_read_pending w k unique body) ≡ false
      → Happened choice w (event.read_pending k) (event.is_read unique) (world_after_read_pending w k unique body)
  by_take : (k : ℕ) (r : Request) → slice_get w.requests k ≡ Some r
      → is_past (after_take w k r.unique (taking w.server r.unique r.body)) ≡ false
      → Happened choice w (event.take k) (event.taken r.unique (taking w.server r.unique r.body).word)
      (after_take w k r.unique (taking w.server r.unique r.body))
  by_perform : (unique : ℕ) (t : HeldRequest) → get w.server.held unique ≡ Some t
      → is_past (after_perform w unique (served choice w.server unique t)) ≡ false
      → Happened choice w (event.perform unique) (event.performed unique
      (errno_of (served choice w.server unique t).wire) w.server.aborted)
      (after_perform w unique (served choice w.server unique t))
  by_again : (unique : ℕ) (kept : Kept) → get w.server.kept unique ≡ Some kept → is_current w.server kept.wire ≡ true
      → is_past (after_again w unique kept) ≡ false
      → Happened choice w (event.again unique) (event.sent_again unique) (after_again w unique kept)
  by_write : (k : ℕ) (sent : Sent) → slice_get w.replies k ≡ Some sent
      → is_past (after_write w k sent (reply_written w.kernel sent.unique sent.wire)) ≡ false
      → Happened choice w (event.write k) (event.written sent.unique (reply_written w.kernel sent.unique sent.wire).0)
      (after_write w k sent (reply_written w.kernel sent.unique sent.wire))
  by_settle : (k : ℕ) (result : ReplyResult) → slice_get w.results k ≡ Some result
      → Happened choice w (event.settle k) (event.settled result.unique result.result)
      (after_settle w k result (get w.server.copies result.number))
  by_signal : (call : ℕ) (fatal : Bool) (state : CallState Opened) → is_live w.kernel.phase ≡ true
      → get w.kernel.vfs.calls call ≡ Some state → is_past
      (record w { kernel = (call_signalled w.kernel call state fatal).1 }) ≡ false
      → Happened choice w (event.intr call fatal) (event.interrupted call (call_signalled w.kernel call state fatal).0)
      (record w { kernel = (call_signalled w.kernel call state fatal).1 })
  by_tick : (ms : ℕ) → nat_le clock_end (w.kernel.vfs.clock + ms) ≡ false
      → Happened choice w (event.tick ms) (event.now (w.kernel.vfs.clock + ms)) (after_tick w ms)
  by_drop : (directory : ℕ) (name : Name) (bound : Dentry) → is_live w.kernel.phase ≡ true
      → get_name w.kernel.vfs.names (directory, name) ≡ Some bound
      → Happened choice w (event.drop_name directory name) event.dropped (after_drop w directory name)
  by_evict : (node : ℕ) (counted : Counted) → is_live w.kernel.phase ≡ true → get w.kernel.nodes node ≡ Some counted
      → (is_pinned w.kernel node || is_bound w.kernel node) ≡ false
      → Happened choice w (event.evict node) (event.evicted node counted.count) (after_evict w node counted)
  by_abort : is_live w.kernel.phase ≡ true → Happened choice w event.abort event.aborted (after_abort w)

-- nothing is queued where the test of it says so
pub none_queued : (xs : List ℕ) → not (nat_eq (length xs) 0) ≡ false → xs ≡ []
none_queued [] e = refl
none_queued (x ∷ xs) e = absurd (true≢false (sym
    (ap not (other_is (length (x ∷ xs)) 0 (λ q. absurd (omega (arith, q))))) ∙ e))

module _ (choice : ℕ → ℕ) (w : World) (o : Outcome) (last : World) where
  leads_to : (e : Event) (outcome : Outcome) (after : World) → Leads outcome after o last
      → Happened choice w e outcome after → Happened choice w e o last
  leads_to e outcome after leads did = subst (λ (x : Outcome). Happened choice w e x last) leads.outcome_is
      (subst (λ (v : World). Happened choice w e outcome v) leads.after_is did)

  goes : (e : Event) (outcome : Outcome) (after : World) → going outcome after ≡ Ok (o, last)
      → (is_past after ≡ false → Happened choice w e outcome after) → Happened choice w e o last
  goes e outcome after f did = let went = going_ok outcome after o last f in
      leads_to e outcome after went.leads (did went.within)

  -- What any event did that is not refused.
  pub happened : (e : Event) → step choice w e ≡ Ok (o, last) → Happened choice w e o last
  happened (event.mount f m v) s =
      let timely = unless_ok (nat_lt max_validity (max f m)) refusal.BadTime
      (unless (is_busy w.kernel) refusal.Busy (accepted event.mounted (after_mount w f m v))) o last s in
      let idle = unless_ok (is_busy w.kernel) refusal.Busy
      (accepted event.mounted (after_mount w f m v)) o last timely.rest in
      leads_to (event.mount f m v) event.mounted (after_mount w f m v)
      (ok_is event.mounted (after_mount w f m v) o last idle.rest) (by_mount f m v idle.passed)
  happened (event.call call) s =
      let begun = event.begun w.kernel.vfs.next_call in
      let ready = unless_ok (not (is_ready w.kernel.phase)) refusal.NotReady
      (unless (nat_le max_calls (length w.kernel.vfs.calls)) refusal.Full
      (going begun (after_call w call))) o last s in
      let room = unless_ok (nat_le max_calls (length w.kernel.vfs.calls)) refusal.Full
      (going begun (after_call w call)) o last ready.rest in
      goes (event.call call) begun (after_call w call) room.rest
      (λ within. by_call call (is_not (is_ready w.kernel.phase) ready.passed) room.passed within)
  happened event.read_interrupt s =
      let lives = unless_ok (not (is_live w.kernel.phase)) refusal.NotReady
      (first_found w.kernel.queues.interrupts (reading_interrupt w)) o last s in
      by w.kernel.queues.interrupts refl (is_not (is_live w.kernel.phase) lives.passed) lives.rest
    where
      by : (xs : List ℕ) → w.kernel.queues.interrupts ≡ xs → is_live w.kernel.phase ≡ true
          → first_found xs (reading_interrupt w) ≡ Ok (o, last) → Happened choice w event.read_interrupt o last
      by [] there live f = absurd (cc)
      by (original ∷ rest) there live f = goes event.read_interrupt (event.is_read (interrupt_number original))
          (world_after_read_interrupt w original) f (λ within. by_read_interrupt original rest live there within)
  happened (event.read_forgets n) s =
      let read = forgets_read w.kernel n in
      let lives = unless_ok (not (is_live w.kernel.phase)) refusal.NotReady
      (when_not_interrupted w.kernel (found read (reading_forgets w n))) o last s in
      let free = unless_ok (not (nat_eq (length w.kernel.queues.interrupts) 0)) refusal.InterruptFirst
      (found read (reading_forgets w n)) o last lives.rest in
      by (forgets_singly w.kernel.minor && nat_lt 1 n) (can_read_forgets w.kernel.queues n) refl refl
      (is_not (is_live w.kernel.phase) lives.passed) (none_queued w.kernel.queues.interrupts free.passed) free.rest
    where
      by : (a b : Bool) → (forgets_singly w.kernel.minor && nat_lt 1 n) ≡ a → can_read_forgets w.kernel.queues n ≡ b
          → is_live w.kernel.phase ≡ true → w.kernel.queues.interrupts ≡ []
          → found (cond a None (if b then Some
          (w.kernel.queues.next, take n w.kernel.queues.forgets) else None)) (reading_forgets w n) ≡ Ok (o, last)
          → Happened choice w (event.read_forgets n) o last
      by true b few can live free f = absurd (cc)
      by false true few can live free f =
          goes (event.read_forgets n) (event.is_read w.kernel.queues.next)
          (world_after_read_forgets w n (take n w.kernel.queues.forgets)) f
          (λ within. by_read_forgets n live free can within few)
      by false false few can live free f = absurd (cc)
  happened (event.read_pending k) s =
      let at = pending_at w.kernel.queues k in
      let lives = unless_ok (not (is_live w.kernel.phase)) refusal.NotReady
      (when_not_interrupted w.kernel (pending_found w.kernel at (reading_pending w k))) o last s in
      let free = unless_ok (not (nat_eq (length w.kernel.queues.interrupts) 0)) refusal.InterruptFirst
      (pending_found w.kernel at (reading_pending w k)) o last lives.rest in
      by at refl (is_not (is_live w.kernel.phase) lives.passed)
      (none_queued w.kernel.queues.interrupts free.passed) free.rest
    where
      by_body : (x : ℕ × Purpose) → pending_at w.kernel.queues k ≡ Some x → is_live w.kernel.phase ≡ true
          → w.kernel.queues.interrupts ≡ [] → (body : Option RequestBody) → body_of w.kernel x.1 ≡ body
          → found body (reading_pending w k x.0) ≡ Ok (o, last) → Happened choice w (event.read_pending k) o last
      by_body x there live free None says f = absurd (cc)
      by_body x there live free (Some body) says f =
          goes (event.read_pending k) (event.is_read x.0) (world_after_read_pending w k x.0 body) f
          (λ within. by_read_pending k x.0 x.1 body live free there says within)

      by : (x : Option (ℕ × Purpose)) → pending_at w.kernel.queues k ≡ x → is_live w.kernel.phase ≡ true
          → w.kernel.queues.interrupts ≡ [] → pending_found w.kernel x (reading_pending w k) ≡ Ok (o, last)
          → Happened choice w (event.read_pending k) o last
      by None there live free f = absurd (cc)
      by (Some x) there live free f = by_body x there live free (body_of w.kernel x.1) refl f
  happened (event.take k) s = by (slice_get w.requests k) refl s
    where
      by : (x : Option Request) → slice_get w.requests k ≡ x → found x (taking_request w k) ≡ Ok (o, last)
          → Happened choice w (event.take k) o last
      by None there f = absurd (cc)
      by (Some q) there f =
          let took = taking w.server q.unique q.body in
          goes (event.take k) (event.taken q.unique took.word) (after_take w k q.unique took) f
          (λ within. by_take k q there within)
  happened (event.perform unique) s = by (get w.server.held unique) refl s
    where
      by : (x : Option HeldRequest) → get w.server.held unique ≡ x
          → held_found w.server x (performing_held choice w unique) ≡ Ok (o, last)
          → Happened choice w (event.perform unique) o last
      by None there f = absurd (cc)
      by (Some t) there f =
          let did = served choice w.server unique t in
          let outcome = event.performed unique (errno_of did.wire) w.server.aborted in
          let few = unless_ok (count_overflows w.server.nodes (files_given w.server t)) refusal.Exhausted
          (going outcome (after_perform w unique did)) o last f in
          goes (event.perform unique) outcome (after_perform w unique did) few.rest
          (λ within. by_perform unique t there within)
  happened (event.again unique) s = by (get w.server.kept unique) refl s
    where
      by : (x : Option Kept) → get w.server.kept unique ≡ x
          → kept_found w.server x (sending_again w unique) ≡ Ok (o, last)
          → Happened choice w (event.again unique) o last
      by None there f = absurd (cc)
      by (Some kept) there f =
          let out = count_overflows w.server.nodes (files_named w.server kept.wire) in
          let gone = going (event.sent_again unique) (after_again w unique kept) in
          let current = unless_ok (not (is_current w.server kept.wire)) refusal.NoCopy
          (unless out refusal.Exhausted gone) o last f in
          let few = unless_ok out refusal.Exhausted gone o last current.rest in
          goes (event.again unique) (event.sent_again unique) (after_again w unique kept) few.rest
          (λ within. by_again unique kept there (is_not (is_current w.server kept.wire) current.passed) within)
  happened (event.write k) s = by (slice_get w.replies k) refl s
    where
      by : (x : Option Sent) → slice_get w.replies k ≡ x → found x (writing_copy w k) ≡ Ok (o, last)
          → Happened choice w (event.write k) o last
      by None there f = absurd (cc)
      by (Some sent) there f =
          let took = reply_written w.kernel sent.unique sent.wire in
          goes (event.write k) (event.written sent.unique took.0) (after_write w k sent took) f
          (λ within. by_write k sent there within)
  happened (event.settle k) s = by (slice_get w.results k) refl s
    where
      by : (x : Option ReplyResult) → slice_get w.results k ≡ x → found x (settling w k) ≡ Ok (o, last)
          → Happened choice w (event.settle k) o last
      by None there f = absurd (cc)
      by (Some result) there f =
          let outcome = event.settled result.unique result.result in
          let after = after_settle w k result (get w.server.copies result.number) in
          leads_to (event.settle k) outcome after (ok_is outcome after o last f) (by_settle k result there)
  happened (event.intr call fatal) s =
      let lives = unless_ok (not (is_live w.kernel.phase)) refusal.NotReady
      (found (get w.kernel.vfs.calls call) (signalling w call fatal)) o last s in
      by (get w.kernel.vfs.calls call) refl (is_not (is_live w.kernel.phase) lives.passed) lives.rest
    where
      by : (x : Option (CallState Opened)) → get w.kernel.vfs.calls call ≡ x → is_live w.kernel.phase ≡ true
          → found x (signalling w call fatal) ≡ Ok (o, last) → Happened choice w (event.intr call fatal) o last
      by None there live f = absurd (cc)
      by (Some state) there live f =
          let moved = call_signalled w.kernel call state fatal in
          goes (event.intr call fatal) (event.interrupted call moved.0) (record w { kernel = moved.1 }) f
          (λ within. by_signal call fatal state live there within)
  happened (event.tick ms) s =
      let outcome = event.now (w.kernel.vfs.clock + ms) in
      let timely = unless_ok (nat_le clock_end (w.kernel.vfs.clock + ms)) refusal.BadTime
      (accepted outcome (after_tick w ms)) o last s in
      leads_to (event.tick ms) outcome (after_tick w ms) (ok_is outcome (after_tick w ms) o last timely.rest)
      (by_tick ms timely.passed)
  happened (event.drop_name directory name) s =
      let lives = unless_ok (not (is_live w.kernel.phase)) refusal.NotReady
      (found (get_name w.kernel.vfs.names (directory, name)) (dropping (after_drop w directory name))) o last s in
      by (get_name w.kernel.vfs.names (directory, name)) refl (is_not (is_live w.kernel.phase) lives.passed) lives.rest
    where
      by : (x : Option Dentry) → get_name w.kernel.vfs.names (directory, name) ≡ x → is_live w.kernel.phase ≡ true
          → found x (dropping (after_drop w directory name)) ≡ Ok (o, last)
          → Happened choice w (event.drop_name directory name) o last
      by None there live f = absurd (cc)
      by (Some b) there live f =
          leads_to (event.drop_name directory name) event.dropped (after_drop w directory name)
          (ok_is event.dropped (after_drop w directory name) o last f) (by_drop directory name b live there)
  happened (event.evict node) s =
      let lives = unless_ok (not (is_live w.kernel.phase)) refusal.NotReady
      (unused_found w.kernel node (get w.kernel.nodes node) (evicting w node)) o last s in
      by (get w.kernel.nodes node) refl (is_not (is_live w.kernel.phase) lives.passed) lives.rest
    where
      by : (x : Option Counted) → get w.kernel.nodes node ≡ x → is_live w.kernel.phase ≡ true
          → unused_found w.kernel node x (evicting w node) ≡ Ok (o, last) → Happened choice w (event.evict node) o last
      by None there live f = absurd (cc)
      by (Some counted) there live f =
          let outcome = event.evicted node counted.count in
          let unused = unless_ok (is_pinned w.kernel node || is_bound w.kernel node) refusal.Busy
          (accepted outcome (after_evict w node counted)) o last f in
          leads_to (event.evict node) outcome (after_evict w node counted)
          (ok_is outcome (after_evict w node counted) o last unused.rest)
          (by_evict node counted live there unused.passed)
  happened event.abort s =
      let lives = unless_ok (not (is_live w.kernel.phase)) refusal.NotReady
      (accepted event.aborted (after_abort w)) o last s in
      leads_to event.abort event.aborted (after_abort w) (ok_is event.aborted (after_abort w) o last lives.rest)
      (by_abort (is_not (is_live w.kernel.phase) lives.passed))
