-- Each case of the definition is what the step function gives.
use Rattle.fuse_spec.specs.Server.Performs.{files_given}
use Rattle.std.proofs.Common.{◌≡◌, ◌≢◌, ℕ, ◌+◌, Bool, true, false, not, cond, ◌&&◌, ◌||◌, List, [], ◌∷◌, Ok, Err, length, nat_eq, nat_lt, nat_le, max, inl, inr, ◌⊎◌, refl, ap, ◌∙◌, arith}
use Rattle.std.proofs.lemmas.Bool.{lt-ltb, le-ltb, le-leb, lt-leb}
use Rattle.fuse_spec.specs.Values.Maps.{get, get_name}
use Rattle.fuse_spec.specs.Values.Numbers.{max_calls, max_validity, clock_end}
use Rattle.fuse_spec.specs.declared.Refusal.{Refusal}
use Rattle.fuse_spec.specs.declared.Refusal.TheVariants.{BadTime, Busy, NotReady, Full, NoSuch, NoCopy, InterruptFirst, Exhausted}
use Rattle.fuse_spec.specs.Kernel.QueueCalls.{pending_at}
use Rattle.fuse_spec.specs.Kernel.Kernel.{is_live, is_pinned, is_bound, forgets_read}
use Rattle.fuse_spec.specs.Server.Copies.{is_current, files_named}
use Rattle.fuse_spec.specs.World.Worlds.{World, after_mount, after_drop}
use Rattle.fuse_spec.specs.World.Events.{Event, Outcome}
use Rattle.fuse_spec.specs.World.Events as event
use Rattle.fuse_spec.specs.Server.Nodes.{count_overflows}
use Rattle.fuse_spec.specs.Kernel.Refusals.{first_found, found, pending_found, unused_found, when_live, when_not_interrupted, unless, is_ready, is_busy}
use Rattle.fuse_spec.specs.Server.Refusals.{held_found, kept_found}
use Rattle.fuse_spec.specs.World.Steps.{Stepped, is_past, going, reading_interrupt, reading_forgets, reading_pending, taking_request, performing_held, sending_again, writing_copy, settling, signalling, dropping, evicting, step}
use Rattle.fuse_spec.specs.World.Refusals.{MayRead, Leads, mounts, calls, reads_interrupt, reads_forgets, reads_pending, takes, performs, sends_again, writes, settles, signals, passes, drops, evicts, aborts, allocates, needs_live, reads_other, NamesNothing, no_interrupt, no_forgets, no_pending, no_body, no_request, none_held, no_copy, no_result, no_call, no_name, no_node, Refuses, too_long, in_use, clock_ends, not_ready, too_many, not_live, interrupt_first, names_nothing, none_kept, not_current, pinned_or_bound, counted_too_often, copied_too_often, past_its_end}
use Rattle.fuse_theorem.proofs.Calls.Finding.{other_is}

-- ---- a test that refuses, and one that does not

refused_by : (c : Bool) (r : Refusal) (s : Stepped) → c ≡ true → unless c r s ≡ Err r
refused_by c r s t = ap (λ (b : Bool). cond b (Err r) s) t

passed : (c : Bool) (r : Refusal) (s : Stepped) → c ≡ false → unless c r s ≡ s
passed c r s f = ap (λ (b : Bool). cond b (Err r) s) f

busy_is : (live : Bool) (uses : ℕ) → live ≡ true → uses ≢ 0 → (live && not (nat_eq uses 0)) ≡ true
busy_is live uses t used = (λ i. t i && not (other_is uses 0 used i))

free_is : (live : Bool) (uses : ℕ) → (live ≡ false) ⊎ (uses ≡ 0) → (live && not (nat_eq uses 0)) ≡ false
free_is live uses (inl f) = ap (λ (b : Bool). b && not (nat_eq uses 0)) f
free_is true uses (inr none) = ap (λ (n : ℕ). not (nat_eq n 0)) none
free_is false uses (inr none) = refl

module _ (w : World) where
  not_live_refused : (s : Stepped) → is_live w.kernel.phase ≡ false → when_live w.kernel s ≡ Err NotReady
  not_live_refused s f = refused_by (not (is_live w.kernel.phase)) NotReady s (ap not f)

  live_passes : (s : Stepped) → is_live w.kernel.phase ≡ true → when_live w.kernel s ≡ s
  live_passes s t = passed (not (is_live w.kernel.phase)) NotReady s (ap not t)

  interrupted_refused : (s : Stepped) → w.kernel.queues.interrupts ≢ []
      → when_not_interrupted w.kernel s ≡ Err InterruptFirst
  interrupted_refused s some = refused_by (not (nat_eq (length w.kernel.queues.interrupts) 0)) InterruptFirst s
      (queued w.kernel.queues.interrupts some)
    where
      queued : (xs : List ℕ) → xs ≢ [] → not (nat_eq (length xs) 0) ≡ true
      queued [] some = absurd (some refl)
      queued (x ∷ xs) some = ap not (other_is (length (x ∷ xs)) 0 (λ q. absurd (omega (arith, q))))

  none_passes : (s : Stepped) → w.kernel.queues.interrupts ≡ [] → when_not_interrupted w.kernel s ≡ s
  none_passes s none = passed (not (nat_eq (length w.kernel.queues.interrupts) 0)) InterruptFirst s
      (ap (λ (xs : List ℕ). not (nat_eq (length xs) 0)) none)

  read_passes : (s : Stepped) → MayRead w → when_live w.kernel (when_not_interrupted w.kernel s) ≡ s
  read_passes s may = live_passes (when_not_interrupted w.kernel s) may.live ∙ none_passes s may.none_first

module _ (choice : ℕ → ℕ) (w : World) where
  -- ---- what an event leads to, but for counters

  abbrev Comes : Event → Outcome → World → Type 0
  Comes e o after = step choice w e ≡ cond (allocates e) (going o after) (Ok (o, after))

  pub comes_to : (e : Event) (o : Outcome) (after : World) → Leads choice w e o after → Comes e o after
  comes_to e o after (mounts f m v day free) =
      let mounted = Ok (event.mounted, after_mount w f m v) in
      passed (nat_lt max_validity (max f m)) BadTime (unless (is_busy w.kernel) Busy mounted)
      (le-ltb max_validity (max f m) day)
      ∙ passed (is_busy w.kernel) Busy mounted (free_is (is_live w.kernel.phase)
      (length w.kernel.vfs.calls + length w.kernel.vfs.opens) free)
  comes_to e o after (calls call ready room) =
      let there = length w.kernel.vfs.calls in
      let gone = going o after in
      passed (not (is_ready w.kernel.phase)) NotReady (unless (nat_le max_calls there) Full gone)
      (ap not ready) ∙ passed (nat_le max_calls there) Full gone (lt-leb max_calls there room)
  comes_to e o after (reads_interrupt original rest live there) =
      live_passes w (first_found w.kernel.queues.interrupts (reading_interrupt w)) live
      ∙ ap (λ o. first_found o (reading_interrupt w)) there
  comes_to e o after (reads_forgets n unique forgets may there) =
      read_passes w (found (forgets_read w.kernel n) (reading_forgets w n)) may
      ∙ ap (λ o. found o (reading_forgets w n)) there
  comes_to e o after (reads_pending k unique purpose body may there says) =
      read_passes w (pending_found w.kernel (pending_at w.kernel.queues k) (reading_pending w k)) may
      ∙ ap (λ o. pending_found w.kernel o (reading_pending w k)) there ∙ ap
      (λ o. found o (reading_pending w k unique)) says
  comes_to e o after (takes k request there) = ap (λ o. found o (taking_request w k)) there
  comes_to e o after (performs unique held there few) =
      ap (λ o. held_found w.server o (performing_held choice w unique)) there ∙ passed
      (count_overflows w.server.nodes (files_given w.server held)) Exhausted (going o after) few
  comes_to e o after (sends_again unique kept there current few) =
      ap (λ o. kept_found w.server o (sending_again w unique)) there
      ∙ passed (not (is_current w.server kept.wire)) NoCopy
      (unless (count_overflows w.server.nodes (files_named w.server kept.wire)) Exhausted (going o after)) (ap not current)
      ∙ passed (count_overflows w.server.nodes (files_named w.server kept.wire)) Exhausted (going o after) few
  comes_to e o after (writes k sent there) = ap (λ o. found o (writing_copy w k)) there
  comes_to e o after (settles k result there) = ap (λ o. found o (settling w k)) there
  comes_to e o after (signals call fatal state live there) =
      live_passes w (found (get w.kernel.vfs.calls call) (signalling w call fatal)) live
      ∙ ap (λ o. found o (signalling w call fatal)) there
  comes_to e o after (passes ms early) =
      let later = w.kernel.vfs.clock + ms in
      passed (nat_le clock_end later) BadTime (Ok (o, after)) (lt-leb clock_end later early)
  comes_to e o after (drops directory name bound live there) =
      live_passes w (found (get_name w.kernel.vfs.names (directory, name)) (dropping after)) live
      ∙ ap (λ o. found o (dropping after)) there
  comes_to e o after (evicts node counted live there unpinned unbound) =
      live_passes w (unused_found w.kernel node (get w.kernel.nodes node) (evicting w node)) live
      ∙ ap (λ o. unused_found w.kernel node o (evicting w node)) there
      ∙ passed (is_pinned w.kernel node || is_bound w.kernel node) Busy (Ok (o, after)) (λ i. unpinned i || unbound i)
  comes_to e o after (aborts live) = live_passes w (Ok (o, after)) live

  -- what an event leads to that allocates no number past its end
  pub led_to : (e : Event) (o : Outcome) (after : World) → Leads choice w e o after
      → (allocates e ≡ true → is_past after ≡ false) → step choice w e ≡ Ok (o, after)
  led_to e o after there within = comes_to e o after there ∙ allocated (allocates e) within
    where
      allocated : (b : Bool) → (b ≡ true → is_past after ≡ false) → cond b (going o after) (Ok (o, after)) ≡ Ok (o, after)
      allocated true within = passed (is_past after) Exhausted (Ok (o, after)) (within refl)
      allocated false within = refl

  -- ---- refusals

  exhausted : (e : Event) (o : Outcome) (after : World) → allocates e ≡ true → Leads choice w e o after
      → is_past after ≡ true → step choice w e ≡ Err Exhausted
  exhausted e o after allocated there past = comes_to e o after there ∙ ap
      (λ (b : Bool). cond b (going o after) (Ok (o, after))) allocated ∙ refused_by (is_past after) Exhausted
      (Ok (o, after)) past

  unready : (e : Event) → needs_live e ≡ true → is_live w.kernel.phase ≡ false → step choice w e ≡ Err NotReady
  unready event.read_interrupt needs down = not_live_refused w _ down
  unready (event.read_forgets n) needs down = not_live_refused w _ down
  unready (event.read_pending k) needs down = not_live_refused w _ down
  unready (event.intr call fatal) needs down = not_live_refused w _ down
  unready (event.drop_name directory name) needs down = not_live_refused w _ down
  unready (event.evict node) needs down = not_live_refused w _ down
  unready event.abort needs down = not_live_refused w _ down
  unready other needs down = absurd (cc)

  interrupted : (e : Event) → reads_other e ≡ true → is_live w.kernel.phase ≡ true → w.kernel.queues.interrupts ≢ []
      → step choice w e ≡ Err InterruptFirst
  interrupted (event.read_forgets n) reads live some = live_passes w _ live ∙ interrupted_refused w _ some
  interrupted (event.read_pending k) reads live some = live_passes w _ live ∙ interrupted_refused w _ some
  interrupted other reads live some = absurd (cc)

  nothing : (e : Event) → (needs_live e ≡ true → is_live w.kernel.phase ≡ true)
      → (reads_other e ≡ true → w.kernel.queues.interrupts ≡ []) → NamesNothing w e → step choice w e ≡ Err NoSuch
  nothing e live first (no_interrupt none) = live_passes w _ (live refl)
      ∙ ap (λ o. first_found o (reading_interrupt w)) none
  nothing e live first (no_forgets n none) = read_passes w _
      (record { live = live refl; none_first = first refl }) ∙ ap (λ o. found o (reading_forgets w n)) none
  nothing e live first (no_pending k none) = read_passes w _
      (record { live = live refl; none_first = first refl })
      ∙ ap (λ o. pending_found w.kernel o (reading_pending w k)) none
  nothing e live first (no_body k unique purpose there none) =
      read_passes w _ (record { live = live refl; none_first = first refl })
      ∙ ap (λ o. pending_found w.kernel o (reading_pending w k)) there ∙ ap
      (λ o. found o (reading_pending w k unique)) none
  nothing e live first (no_request k none) = ap (λ o. found o (taking_request w k)) none
  nothing e live first (none_held unique none) = ap (λ o. held_found w.server o (performing_held choice w unique)) none
  nothing e live first (no_copy k none) = ap (λ o. found o (writing_copy w k)) none
  nothing e live first (no_result k none) = ap (λ o. found o (settling w k)) none
  nothing e live first (no_call call fatal none) = live_passes w _ (live refl)
      ∙ ap (λ o. found o (signalling w call fatal)) none
  nothing e live first (no_name directory name none) =
      live_passes w _ (live refl) ∙ ap (λ o. found o (dropping (after_drop w directory name))) none
  nothing e live first (no_node node none) = live_passes w _ (live refl)
      ∙ ap (λ o. unused_found w.kernel node o (evicting w node)) none

  pub refused : (e : Event) (r : Refusal) → Refuses choice w e r → step choice w e ≡ Err r
  refused e r (too_long f m v long) = refused_by (nat_lt max_validity (max f m)) BadTime _
      (lt-ltb max_validity (max f m) long)
  refused e r (in_use f m v day used) =
      passed (nat_lt max_validity (max f m)) BadTime _ (le-ltb max_validity (max f m) day)
      ∙ refused_by (is_busy w.kernel) Busy _ (busy_is (is_live w.kernel.phase)
      (length w.kernel.vfs.calls + length w.kernel.vfs.opens) used.live used.used)
  refused e r (clock_ends ms late) = refused_by (nat_le clock_end (w.kernel.vfs.clock + ms)) BadTime _
      (le-leb clock_end (w.kernel.vfs.clock + ms) late)
  refused e r (not_ready call unready) = refused_by (not (is_ready w.kernel.phase)) NotReady _ (ap not unready)
  refused e r (too_many call ready many) =
      passed (not (is_ready w.kernel.phase)) NotReady _ (ap not ready) ∙ refused_by
      (nat_le max_calls (length w.kernel.vfs.calls)) Full _ (le-leb max_calls (length w.kernel.vfs.calls) many)
  refused e r (not_live same needs down) = unready e needs down
  refused e r (interrupt_first same reads live some) = interrupted e reads live some
  refused e r (names_nothing same live first none) = nothing e live first none
  refused e r (none_kept unique none) = ap (λ o. kept_found w.server o (sending_again w unique)) none
  refused e r (not_current unique kept there stale) =
      ap (λ o. kept_found w.server o (sending_again w unique)) there
      ∙ refused_by (not (is_current w.server kept.wire)) NoCopy _ (ap not stale)
  refused e r (pinned_or_bound node counted live there used) =
      live_passes w _ live ∙ ap (λ o. unused_found w.kernel node o (evicting w node)) there ∙ refused_by
      (is_pinned w.kernel node || is_bound w.kernel node) Busy _ used
  refused e r (counted_too_often unique held there many) =
      ap (λ o. held_found w.server o (performing_held choice w unique)) there ∙ refused_by
      (count_overflows w.server.nodes (files_given w.server held)) Exhausted _ many
  refused e r (copied_too_often unique kept there current many) =
      ap (λ o. kept_found w.server o (sending_again w unique)) there
      ∙ passed (not (is_current w.server kept.wire)) NoCopy _
      (ap not current) ∙ refused_by (count_overflows w.server.nodes (files_named w.server kept.wire)) Exhausted _ many
  refused e r (past_its_end same o after allocated there past) = exhausted e o after allocated there past
