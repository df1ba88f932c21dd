-- What the step function gives is one of the cases: a refusal that the event has, or what it leads to.
use Rattle.fuse_spec.specs.declared.Minor.{Minor}
use Rattle.std.proofs.Common.{◌≡◌, ◌≢◌, ℕ, ◌+◌, Bool, true, false, true≢false, not, ◌&&◌, ◌||◌, List, [], ◌∷◌, Option, Some, None, ◌⊎◌, Ok, Err, length, nat_eq, nat_lt, nat_le, slice_get, max, inl, inr, refl, sym, ◌∙◌}
use Rattle.std.proofs.lemmas.Bool.{ltb-true, ltb-false, leb-true, leb-false, eqb-true, eqb-false, not-true, not-false}
use Rattle.fuse_spec.specs.Values.Maps.{get, get_name}
use Rattle.fuse_spec.specs.Values.Numbers.{max_calls, max_validity, clock_end}
use Rattle.fuse_spec.specs.Files.Operations.{errno_of}
use Rattle.fuse_spec.specs.Calls.Paths.{Name}
use Rattle.fuse_spec.specs.Calls.Calls.{Call}
use Rattle.fuse_spec.specs.Calls.Vfs.{CallState}
use Rattle.fuse_spec.specs.declared.Counted.{Counted}
use Rattle.fuse_spec.specs.declared.Dentry.{Dentry}
use Rattle.fuse_spec.specs.declared.Opened.{Opened}
use Rattle.fuse_spec.specs.declared.Purpose.{Purpose}
use Rattle.fuse_spec.specs.declared.ReplyResult.{ReplyResult}
use Rattle.fuse_spec.specs.declared.Refusal.{Refusal}
use Rattle.fuse_spec.specs.declared.Refusal.TheVariants.{BadTime, Busy, NotReady, Full, NoSuch, NoCopy, InterruptFirst, Exhausted}
use Rattle.fuse_spec.specs.Kernel.QueueCalls.{pending_at}
use Rattle.fuse_spec.specs.Kernel.Uniques.{interrupt_number}
use Rattle.fuse_spec.specs.Kernel.Messages.{Forget, Request, RequestBody}
use Rattle.fuse_spec.specs.Kernel.Kernel.{is_live, body_of, call_signalled, is_pinned, is_bound, forgets_read}
use Rattle.fuse_spec.specs.Kernel.Replies.{reply_written}
use Rattle.fuse_spec.specs.Server.Server.{HeldRequest, Kept}
use Rattle.fuse_spec.specs.Server.Taking.{taking}
use Rattle.fuse_spec.specs.Server.Performs.{served, files_given}
use Rattle.fuse_spec.specs.Server.Copies.{is_current, files_named}
use Rattle.fuse_spec.specs.World.Worlds.{World, Sent, after_mount, after_call, world_after_read_interrupt, world_after_read_forgets, world_after_read_pending, after_take, after_perform, after_again, after_write, after_settle, after_tick, after_drop, after_evict, after_abort}
use Rattle.fuse_spec.specs.World.Events.{Event, Outcome}
use Rattle.fuse_spec.specs.World.Events as event
use Rattle.fuse_spec.specs.Server.Nodes.{count_overflows}
use Rattle.fuse_spec.specs.Kernel.Refusals.{first_found, found, pending_found, unused_found, when_live, when_not_interrupted, unless, is_ready, is_busy}
use Rattle.fuse_spec.specs.Server.Refusals.{held_found, kept_found}
use Rattle.fuse_spec.specs.World.Steps.{Stepped, is_past, going, reading_interrupt, reading_forgets, reading_pending, taking_request, performing_held, sending_again, writing_copy, settling, signalling, dropping, evicting, step}
use Rattle.fuse_spec.specs.World.Refusals.{Leads, mounts, calls, reads_interrupt, reads_forgets, reads_pending, takes, performs, sends_again, writes, settles, signals, passes, drops, evicts, aborts, allocates, needs_live, reads_other, NamesNothing, no_interrupt, no_forgets, no_pending, no_body, no_request, none_held, no_copy, no_result, no_call, no_name, no_node, Refuses, too_long, in_use, clock_ends, not_ready, too_many, not_live, interrupt_first, names_nothing, none_kept, not_current, pinned_or_bound, counted_too_often, copied_too_often, past_its_end}
use Rattle.fuse_theorem.proofs.Refining.Evicting.{or_false}
use Rattle.fuse_theorem.proofs.RefusalCases.Happened.{none_queued}

-- What a step came to: a refusal that the event has, or what it leads to with no counter past its end.
pub data ByCases (choice : ℕ → ℕ) (w : World) (e : Event) : Stepped → Type 0 where
  is_refused : (r : Refusal) → Refuses choice w e r → ByCases choice w e (Err r)
  leads : (o : Outcome) (after : World) → Leads choice w e o after → (allocates e ≡ true → is_past after ≡ false)
      → ByCases choice w e (Ok (o, after))

-- ---- whether a mount is in use

idle : (live : Bool) (uses : ℕ) → (live && not (nat_eq uses 0)) ≡ false → (live ≡ false) ⊎ (uses ≡ 0)
idle false uses f = inl refl
idle true uses f = inr (eqb-true uses 0 (not-false (nat_eq uses 0) f))

used : (live : Bool) (uses : ℕ) → (live && not (nat_eq uses 0)) ≡ true → (live ≡ true) × (uses ≢ 0)
used true uses t = (refl, eqb-false uses 0 (not-true (nat_eq uses 0) t))
used false uses t = absurd (cc)

module _ (choice : ℕ → ℕ) (w : World) (e : Event) where
  -- a test that refuses the event, and what is judged behind it
  tested : (c : Bool) (r : Refusal) (s : Stepped) → (c ≡ true → Refuses choice w e r)
      → (c ≡ false → ByCases choice w e s) → ByCases choice w e (unless c r s)
  tested true r s refuses behind = is_refused r (refuses refl)
  tested false r s refuses behind = behind refl

  goes : (o : Outcome) (after : World) → allocates e ≡ true → Leads choice w e o after → ByCases choice w e (going o after)
  goes o after allocated there = tested (is_past after) Exhausted (Ok (o, after))
      (λ past. past_its_end e o after allocated there past) (λ within. leads o after there (λ d. within))

  goes_unallocated : (o : Outcome) (after : World) → allocates e ≡ false → Leads choice w e o after
      → ByCases choice w e (Ok (o, after))
  goes_unallocated o after unallocated there = leads o after there (λ allocated. absurd (true≢false (sym allocated ∙ unallocated)))

  if_live : needs_live e ≡ true → (s : Stepped) → (is_live w.kernel.phase ≡ true → ByCases choice w e s)
      → ByCases choice w e (when_live w.kernel s)
  if_live needs s behind = tested (not (is_live w.kernel.phase)) NotReady s
      (λ t. not_live e needs (not-true (is_live w.kernel.phase) t)) (λ f. behind (not-false (is_live w.kernel.phase) f))

  if_none_first : reads_other e ≡ true → is_live w.kernel.phase ≡ true → (s : Stepped)
      → (w.kernel.queues.interrupts ≡ [] → ByCases choice w e s) → ByCases choice w e (when_not_interrupted w.kernel s)
  if_none_first reads live s behind =
      tested (not (nat_eq (length w.kernel.queues.interrupts) 0)) InterruptFirst s
      (λ t. interrupt_first e reads live (λ none. some_queued w.kernel.queues.interrupts t none))
      (λ f. behind (none_queued w.kernel.queues.interrupts f))
    where
      some_queued : (xs : List ℕ) → not (nat_eq (length xs) 0) ≡ true → xs ≢ []
      some_queued [] t = absurd (cc)
      some_queued (x ∷ xs) t = λ q. cc

  -- ---- what the event names is not there: where the mount is live, where the event may read as well, and where
  -- neither is needed

  nothing_live : is_live w.kernel.phase ≡ true → reads_other e ≡ false → NamesNothing w e
      → ByCases choice w e (Err NoSuch)
  nothing_live live other none = is_refused NoSuch
      (names_nothing e (λ n. live) (λ r. absurd (true≢false (sym r ∙ other))) none)

  nothing_read : is_live w.kernel.phase ≡ true → w.kernel.queues.interrupts ≡ [] → NamesNothing w e
      → ByCases choice w e (Err NoSuch)
  nothing_read live first none = is_refused NoSuch (names_nothing e (λ n. live) (λ r. first) none)

  nothing_there : needs_live e ≡ false → reads_other e ≡ false → NamesNothing w e → ByCases choice w e (Err NoSuch)
  nothing_there any other none = is_refused NoSuch
      (names_nothing e (λ n. absurd (true≢false (sym n ∙ any))) (λ r. absurd (true≢false (sym r ∙ other))) none)

module _ (choice : ℕ → ℕ) (w : World) where
  abbrev Comes : Event → Stepped → Type 0
  Comes e s = ByCases choice w e s

  by_mount : (f m : ℕ) (v : Minor) → Comes (event.mount f m v) (step choice w (event.mount f m v))
  by_mount f m v =
      let uses = length w.kernel.vfs.calls + length w.kernel.vfs.opens in
      let live = is_live w.kernel.phase in
      let e = event.mount f m v in
      let mounted = Ok (event.mounted, after_mount w f m v) in
      tested choice w e (nat_lt max_validity (max f m)) BadTime (unless (is_busy w.kernel) Busy mounted)
      (λ t. too_long f m v (ltb-true max_validity (max f m) t))
      (λ s. tested choice w e (is_busy w.kernel) Busy mounted
      (λ t. in_use f m v (ltb-false max_validity (max f m) s)
      (let both = used live uses t in record { live = both.0; used = both.1 }))
      (λ i. goes_unallocated choice w e event.mounted (after_mount w f m v) refl
      (mounts f m v (ltb-false max_validity (max f m) s) (idle live uses i))))

  by_call : (call : Call) → Comes (event.call call) (step choice w (event.call call))
  by_call call =
      let e = event.call call in
      let there = length w.kernel.vfs.calls in
      let ready = is_ready w.kernel.phase in
      let begun = event.begun w.kernel.vfs.next_call in
      tested choice w e (not ready) NotReady (unless (nat_le max_calls there) Full (going begun (after_call w call)))
      (λ t. not_ready call (not-true ready t))
      (λ f. tested choice w e (nat_le max_calls there) Full (going begun (after_call w call))
      (λ t. too_many call (not-false ready f) (leb-true max_calls there t))
      (λ room. goes choice w e begun (after_call w call) refl
      (calls call (not-false ready f) (leb-false max_calls there room))))

  by_tick : (ms : ℕ) → Comes (event.tick ms) (step choice w (event.tick ms))
  by_tick ms =
      let e = event.tick ms in
      let later = w.kernel.vfs.clock + ms in
      tested choice w e (nat_le clock_end later) BadTime (Ok (event.now later, after_tick w ms))
      (λ t. clock_ends ms (leb-true clock_end later t))
      (λ f. goes_unallocated choice w e (event.now later) (after_tick w ms) refl (passes ms (leb-false clock_end later f)))

  -- ---- a read

  by_read_interrupt : Comes event.read_interrupt (step choice w event.read_interrupt)
  by_read_interrupt = if_live choice w event.read_interrupt refl
      (first_found w.kernel.queues.interrupts (reading_interrupt w))
      (λ live. by live w.kernel.queues.interrupts refl)
    where
      by : is_live w.kernel.phase ≡ true → (xs : List ℕ) → w.kernel.queues.interrupts ≡ xs
          → Comes event.read_interrupt (first_found xs (reading_interrupt w))
      by live [] there = nothing_live choice w event.read_interrupt live refl (no_interrupt there)
      by live (original ∷ rest) there = goes choice w event.read_interrupt (event.is_read (interrupt_number original))
          (world_after_read_interrupt w original) refl (reads_interrupt original rest live there)

  by_read_forgets : (n : ℕ) → Comes (event.read_forgets n) (step choice w (event.read_forgets n))
  by_read_forgets n =
      let e = event.read_forgets n in
      let read = forgets_read w.kernel n in
      if_live choice w e refl (when_not_interrupted w.kernel (found read (reading_forgets w n)))
      (λ live. if_none_first choice w e refl live (found read (reading_forgets w n)) (λ first. by live first read refl))
    where
      by : is_live w.kernel.phase ≡ true → w.kernel.queues.interrupts ≡ [] → (x : Option (ℕ × List Forget))
          → forgets_read w.kernel n ≡ x → Comes (event.read_forgets n) (found x (reading_forgets w n))
      by live first None there = nothing_read choice w (event.read_forgets n) live first (no_forgets n there)
      by live first (Some x) there =
          goes choice w (event.read_forgets n) (event.is_read x.0) (world_after_read_forgets w n x.1) refl
          (reads_forgets n x.0 x.1 (record { live = live; none_first = first }) there)

  by_read_pending : (k : ℕ) → Comes (event.read_pending k) (step choice w (event.read_pending k))
  by_read_pending k =
      let e = event.read_pending k in
      let at = pending_at w.kernel.queues k in
      if_live choice w e refl (when_not_interrupted w.kernel (pending_found w.kernel at (reading_pending w k)))
      (λ live. if_none_first choice w e refl live (pending_found w.kernel at (reading_pending w k))
      (λ first. by live first at refl))
    where
      by_body : is_live w.kernel.phase ≡ true → w.kernel.queues.interrupts ≡ [] → (x : ℕ × Purpose)
          → pending_at w.kernel.queues k ≡ Some x → (body : Option RequestBody) → body_of w.kernel x.1 ≡ body
          → Comes (event.read_pending k) (found body (reading_pending w k x.0))
      by_body live first x there None says = nothing_read choice w (event.read_pending k) live first
          (no_body k x.0 x.1 there says)
      by_body live first x there (Some body) says =
          goes choice w (event.read_pending k) (event.is_read x.0) (world_after_read_pending w k x.0 body) refl
          (reads_pending k x.0 x.1 body (record { live = live; none_first = first }) there says)

      by : is_live w.kernel.phase ≡ true → w.kernel.queues.interrupts ≡ [] → (x : Option (ℕ × Purpose))
          → pending_at w.kernel.queues k ≡ x
          → Comes (event.read_pending k) (pending_found w.kernel x (reading_pending w k))
      by live first None there = nothing_read choice w (event.read_pending k) live first (no_pending k there)
      by live first (Some x) there = by_body live first x there (body_of w.kernel x.1) refl

  -- ---- what the links carry, and what the server holds

  by_take : (k : ℕ) (x : Option Request) → slice_get w.requests k ≡ x
      → Comes (event.take k) (found x (taking_request w k))
  by_take k None there = nothing_there choice w (event.take k) refl refl (no_request k there)
  by_take k (Some q) there =
      let took = taking w.server q.unique q.body in
      goes choice w (event.take k) (event.taken q.unique took.word) (after_take w k q.unique took) refl
      (takes k q there)

  by_perform : (unique : ℕ) (x : Option HeldRequest) → get w.server.held unique ≡ x
      → Comes (event.perform unique) (held_found w.server x (performing_held choice w unique))
  by_perform unique None there = nothing_there choice w (event.perform unique) refl refl (none_held unique there)
  by_perform unique (Some held) there =
      let did = served choice w.server unique held in
      let outcome = event.performed unique (errno_of did.wire) w.server.aborted in
      let out = count_overflows w.server.nodes (files_given w.server held) in
      tested choice w (event.perform unique) out Exhausted (going outcome (after_perform w unique did))
      (λ t. counted_too_often unique held there t)
      (λ f. goes choice w (event.perform unique) outcome (after_perform w unique did) refl
      (performs unique held there f))

  by_again : (unique : ℕ) (x : Option Kept) → get w.server.kept unique ≡ x
      → Comes (event.again unique) (kept_found w.server x (sending_again w unique))
  by_again unique None there = is_refused NoCopy (none_kept unique there)
  by_again unique (Some kept) there =
      let e = event.again unique in
      let current = is_current w.server kept.wire in
      let out = count_overflows w.server.nodes (files_named w.server kept.wire) in
      let gone = going (event.sent_again unique) (after_again w unique kept) in
      tested choice w e (not current) NoCopy (unless out Exhausted gone)
      (λ t. not_current unique kept there (not-true current t))
      (λ f. tested choice w e out Exhausted gone (λ t. copied_too_often unique kept there (not-false current f) t)
      (λ g. goes choice w e (event.sent_again unique) (after_again w unique kept) refl
      (sends_again unique kept there (not-false current f) g)))

  by_write : (k : ℕ) (x : Option Sent) → slice_get w.replies k ≡ x → Comes (event.write k) (found x (writing_copy w k))
  by_write k None there = nothing_there choice w (event.write k) refl refl (no_copy k there)
  by_write k (Some sent) there =
      let took = reply_written w.kernel sent.unique sent.wire in
      goes choice w (event.write k) (event.written sent.unique took.0) (after_write w k sent took) refl
      (writes k sent there)

  by_settle : (k : ℕ) (x : Option ReplyResult) → slice_get w.results k ≡ x
      → Comes (event.settle k) (found x (settling w k))
  by_settle k None there = nothing_there choice w (event.settle k) refl refl (no_result k there)
  by_settle k (Some result) there =
      goes_unallocated choice w (event.settle k) (event.settled result.unique result.result)
      (after_settle w k result (get w.server.copies result.number)) refl (settles k result there)

  -- ---- what a live mount needs

  by_signal : (call : ℕ) (fatal : Bool) → is_live w.kernel.phase ≡ true → (x : Option (CallState Opened))
      → get w.kernel.vfs.calls call ≡ x → Comes (event.intr call fatal) (found x (signalling w call fatal))
  by_signal call fatal live None there = nothing_live choice w (event.intr call fatal) live refl
      (no_call call fatal there)
  by_signal call fatal live (Some state) there =
      let moved = call_signalled w.kernel call state fatal in
      goes choice w (event.intr call fatal) (event.interrupted call moved.0) (record w { kernel = moved.1 }) refl
      (signals call fatal state live there)

  by_drop : (directory : ℕ) (name : Name) → is_live w.kernel.phase ≡ true → (x : Option Dentry)
      → get_name w.kernel.vfs.names (directory, name) ≡ x
      → Comes (event.drop_name directory name) (found x (dropping (after_drop w directory name)))
  by_drop directory name live None there = nothing_live choice w (event.drop_name directory name) live refl
      (no_name directory name there)
  by_drop directory name live (Some bound) there =
      goes_unallocated choice w (event.drop_name directory name) event.dropped (after_drop w directory name) refl
      (drops directory name bound live there)

  by_evict : (node : ℕ) → is_live w.kernel.phase ≡ true → (x : Option Counted) → get w.kernel.nodes node ≡ x
      → Comes (event.evict node) (unused_found w.kernel node x (evicting w node))
  by_evict node live None there = nothing_live choice w (event.evict node) live refl (no_node node there)
  by_evict node live (Some counted) there =
      let e = event.evict node in
      let pinned = is_pinned w.kernel node in
      let bound = is_bound w.kernel node in
      let outcome = event.evicted node counted.count in
      tested choice w e (pinned || bound) Busy (Ok (outcome, after_evict w node counted))
      (λ t. pinned_or_bound node counted live there t)
      (λ f. goes_unallocated choice w e outcome (after_evict w node counted) refl
      (evicts node counted live there (or_false pinned bound f).0 (or_false pinned bound f).1))

  -- Each event's step is one of the cases.
  pub by_cases : (e : Event) → ByCases choice w e (step choice w e)
  by_cases (event.mount f m v) = by_mount f m v
  by_cases (event.call call) = by_call call
  by_cases event.read_interrupt = by_read_interrupt
  by_cases (event.read_forgets n) = by_read_forgets n
  by_cases (event.read_pending k) = by_read_pending k
  by_cases (event.take k) = by_take k (slice_get w.requests k) refl
  by_cases (event.perform unique) = by_perform unique (get w.server.held unique) refl
  by_cases (event.again unique) = by_again unique (get w.server.kept unique) refl
  by_cases (event.write k) = by_write k (slice_get w.replies k) refl
  by_cases (event.settle k) = by_settle k (slice_get w.results k) refl
  by_cases (event.intr call fatal) = if_live choice w (event.intr call fatal) refl
      (found (get w.kernel.vfs.calls call) (signalling w call fatal))
      (λ live. by_signal call fatal live (get w.kernel.vfs.calls call) refl)
  by_cases (event.tick ms) = by_tick ms
  by_cases (event.drop_name directory name) =
      let at = get_name w.kernel.vfs.names (directory, name) in
      if_live choice w (event.drop_name directory name) refl (found at (dropping (after_drop w directory name)))
      (λ live. by_drop directory name live at refl)
  by_cases (event.evict node) = if_live choice w (event.evict node) refl
      (unused_found w.kernel node (get w.kernel.nodes node) (evicting w node))
      (λ live. by_evict node live (get w.kernel.nodes node) refl)
  by_cases event.abort = if_live choice w event.abort refl (Ok (event.aborted, after_abort w))
      (λ live. goes_unallocated choice w event.abort event.aborted (after_abort w) refl (aborts live))
