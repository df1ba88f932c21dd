-- File handles stay balanced, whatever happens.
use Rattle.fuse_spec.specs.declared.Minor.{Minor}
use Rattle.std.proofs.Common.{◌≡◌, ℕ, Bool, true, false, true≢false, cond, [], Option, Some, None, slice_get, refl, ap, sym, subst, ◌∙◌, arith}
use Rattle.std.specs.List.{remove as without_at}
use Rattle.std.proofs.lemmas.List.Elements.{All-nil}
use Rattle.fuse_spec.specs.declared.Opened.{Opened}
use Rattle.fuse_spec.specs.declared.ReplyResult.{ReplyResult}
use Rattle.fuse_spec.specs.declared.WriteResult.{WriteResult}
use Rattle.fuse_spec.specs.declared.WriteResult.TheVariants.{Accepted, NoEntry, Invalid}
use Rattle.fuse_spec.specs.Server.Copies.{kept_after, after_result}
use Rattle.fuse_spec.specs.Calls.Calls.{Call, for_minor}
use Rattle.fuse_spec.specs.Values.Maps.{Map, get, remove}
use Rattle.fuse_spec.specs.Kernel.Messages.{RequestBody, init, asks, release, forget, batch_forget, interrupt}
use Rattle.fuse_spec.specs.Calls.Vfs.{Vfs, begun, abandoned, later}
use Rattle.fuse_spec.specs.Kernel.Kernel.{Kernel, is_live, is_aborted, advanced, closed_by, closing_of, call_begun}
use Rattle.fuse_spec.specs.Reference.Plain.{Plain}
use Rattle.fuse_spec.specs.Kernel.Replies.{reply_written}
use Rattle.fuse_spec.specs.Server.Server.{Server, HeldRequest, Kept, Copy}
use Rattle.fuse_spec.specs.Server.Taking.{taking, interrupting}
use Rattle.fuse_spec.specs.Server.Performs.{served}
use Rattle.fuse_spec.specs.World.Worlds.{World, Sent, first_world, server_settled, after_mount, after_take, after_perform, after_write, after_drop, after_evict}
use Rattle.fuse_spec.specs.World.Events.{Event, Outcome}
use Rattle.fuse_spec.specs.Kernel.Refusals.{is_ready}
use Rattle.fuse_spec.specs.World.Steps.{MayStep, MayChooseFor, Happens}
use Rattle.fuse_spec.proofs.QueueReadings.{key_count-le-one}
use Rattle.fuse_theorem.specs.EveryList.{BothSound}
use Rattle.fuse_theorem.specs.Lookups.{EntriesHeld, LookupsSound}
use Rattle.fuse_theorem.specs.Numbering.{IsNumbered}
use Rattle.fuse_theorem.specs.OpenNumbers.{OpensApart, IsOfItsNode, OpensBalanced, OpensSound}
use Rattle.fuse_theorem.specs.ReleasesKnown.{ReleasesKnown}
use Rattle.fuse_theorem.specs.WorldSound.{WorldSound}
use Rattle.fuse_theorem.proofs.Calls.CallsContinue.{begun_goes_on, signalled_goes_on}
use Rattle.fuse_theorem.proofs.RefusalCases.Happened.{Happened, by_mount, by_call, by_read_interrupt, by_read_forgets, by_read_pending, by_take, by_perform, by_again, by_write, by_settle, by_signal, by_tick, by_drop, by_evict, by_abort, happened}
use Rattle.fuse_theorem.proofs.Requests.LinksSound.{AgreesToInit, none_at, stays_live}
use Rattle.fuse_theorem.proofs.Lookups.LookupsAfterReply.{wire_usable}
use Rattle.fuse_theorem.proofs.Lookups.LookupsStay.{known_held, lookups_stay}
use Rattle.fuse_theorem.proofs.Lists.MapSums.{Rises, put_rises, gone_rises}
use Rattle.fuse_theorem.proofs.Requests.NumbersStay.{aborted_if_ready, replying_kernel}
use Rattle.fuse_theorem.proofs.OpenFiles.OpensFit.{opened_fits}
use Rattle.fuse_theorem.proofs.OpenFiles.OpensAfterReply.{ReceivesOpens, read_sum, written_received}
use Rattle.fuse_theorem.proofs.OpenFiles.OpensKept.{begun_keeps, signalled_keeps}
use Rattle.fuse_theorem.proofs.OpenFiles.OpensMoved.{kernel_moves, keeps_same, interrupt_same, pending_same, forgets_same, written_balanced}
use Rattle.fuse_theorem.proofs.OpenFiles.OpensTables.{replying_server, taken_balanced, performed_balanced, again_balanced, settled_balanced}
use Rattle.fuse_theorem.proofs.Requests.PerformedRest.{performed_rest}
use Rattle.fuse_theorem.proofs.Refining.Queuing.{All-at}
use Rattle.fuse_theorem.proofs.Replies.WriteNeeds.{write_met}

-- ---- nothing is open

emptied_apart : (c : Vfs Opened) → OpensApart (abandoned c) []
emptied_apart c = record {
  once = λ n. omega arith;
  below = λ n high. refl;
  opens = tt;
  closing = tt;
  uses = λ call state at. absurd (cc (at));
}

-- A mount, whatever was there.
fresh : (w : World) (f m : ℕ) (v : Minor) → OpensBalanced (after_mount w f m v)
fresh w f m v = record { balance = λ fh. refl; files = All-nil (IsOfItsNode (after_mount w f m v).server) }

-- ---- what the server holds stands in rising number

settled_held : (w : World) → Rises w.server.held → (result : ReplyResult) (o : Option Copy)
    → Rises (server_settled w.server result o).held
settled_held w old result None = old
settled_held w old result (Some copy) = by result.result
  where
    by : (r : WriteResult) → Rises (after_result (record w.server {
      copies = remove w.server.copies result.number;
      kept = kept_after w.server.kept copy (get w.server.kept copy.unique);
    }) copy.wire r).held
    by Accepted = old
    by NoEntry = old
    by Invalid = old

taken_held : (w : World) → Rises w.server.held → (unique : ℕ) (body : RequestBody)
    → Rises (taking w.server unique body).server.held
taken_held w old unique (init flags) = put_rises w.server.held unique _ old
taken_held w old unique (asks operation) = put_rises w.server.held unique _ old
taken_held w old unique (release o) = put_rises w.server.held unique _ old
taken_held w old unique (forget f) = old
taken_held w old unique (batch_forget fs) = old
taken_held w old unique (interrupt original) = by (get w.server.held original) (get w.server.kept original)
  where
    by : (h : Option HeldRequest) (o : Option Kept) → Rises (interrupting w.server unique original h o).server.held
    by (Some t) o = put_rises w.server.held original (record t { marked = true }) old
    by None (Some x) = old
    by None None = old

held_rises : (choice : ℕ → ℕ) (w : World) → Rises w.server.held → (e : Event) (o : Outcome) (after : World)
    → Happened choice w e o after → Rises after.server.held
held_rises choice w old e o after (by_mount f m v idle) = tt
held_rises choice w old e o after (by_call call ready room within) = old
held_rises choice w old e o after (by_read_interrupt original rest live there within) = old
held_rises choice w old e o after (by_read_forgets n live free can within few) = old
held_rises choice w old e o after (by_read_pending k unique kept body live free there says within) = old
held_rises choice w old e o after (by_take k r there within) =
    let took = taking w.server r.unique r.body in
    subst (λ (s : Server). Rises s.held) (sym (replying_server
    (record w {
      requests = without_at w.requests k;
      server =
          took.server;
    }) w.server.next_copy r.unique took.reply)) (taken_held w old r.unique r.body)
held_rises choice w old e o after (by_perform unique t there within) =
    let did = served choice w.server unique t in
    let rest = performed_rest choice (record w.server { held = remove w.server.held unique }) t in
    subst (λ (s : Server). Rises s.held) (sym (replying_server
    (record w { server = did.server }) w.server.next_copy unique (cond w.server.aborted None (Some did.wire))))
    (subst (λ (m : Map HeldRequest). Rises m) (sym rest.held) (gone_rises w.server.held unique old))
held_rises choice w old e o after (by_again unique kept there current within) = old
held_rises choice w old e o after (by_write k sent there within) = old
held_rises choice w old e o after (by_settle k result there) =
    settled_held w old result (get w.server.copies result.number)
held_rises choice w old e o after (by_signal call fatal state live there within) = old
held_rises choice w old e o after (by_tick ms timely) = old
held_rises choice w old e o after (by_drop directory name bound live there) = old
held_rises choice w old e o after (by_evict node counted live there unused) = old
held_rises choice w old e o after (by_abort live) = old

-- ---- every event

module _ (choice : ℕ → ℕ) (w : World) (p : Plain) (both : BothSound w p) (releases : ReleasesKnown w)
    (old : OpensSound w) where
  sound : WorldSound w
  sound = both.world

  lookups : LookupsSound w
  lookups = sound.lookups

  numbered : is_live w.kernel.phase ≡ true → IsNumbered w
  numbered live = let numbers = lookups.numbers in numbers.live live

  -- the kernel takes a copy
  module _ (k : ℕ) (sent : Sent) (there : slice_get w.replies k ≡ Some sent)
      (live : is_live w.kernel.phase ≡ true) where
    pub alive : is_live (reply_written w.kernel sent.unique sent.wire).1.phase ≡ true
    alive =
        let links = both.links in
        let agreed = links.agreed live in
        stays_live w.kernel (both.asked live).first live w.server.minor sent.unique sent.wire
        (All-at (AgreesToInit w.server.minor) w.replies k sent agreed.copies there)

    pub entries : EntriesHeld w.server.nodes sent.wire
    entries = let balanced = lookups.balanced live in
        All-at (λ (s : Sent). EntriesHeld w.server.nodes s.wire) w.replies k sent balanced.copies there

    receives_opens : ReceivesOpens (IsOfItsNode w.server) w.kernel sent.wire (reply_written w.kernel sent.unique sent.wire)
    receives_opens =
        let balanced = lookups.balanced live in
        let numbers = numbered live in
        written_received (IsOfItsNode w.server) w.kernel old.apart numbers.one_request sent.unique sent.wire
        (wire_usable w.server.nodes w.kernel.nodes balanced.known sent.wire entries)
        (opened_fits w p both.nodes (known_held w lookups) sent entries
        (write_met choice w p sound both.asked both.links both.witness both.alike k sent there)) alive

  kept_apart : (v : World) → v.kernel ≡ w.kernel → OpensApart v.kernel.vfs v.kernel.closing
  kept_apart v same = subst (λ (k : Kernel). OpensApart k.vfs k.closing) (sym same) old.apart

  written_apart : (k : ℕ) (sent : Sent) → slice_get w.replies k ≡ Some sent
      → OpensApart (reply_written w.kernel sent.unique sent.wire).1.vfs
      (reply_written w.kernel sent.unique sent.wire).1.closing
  written_apart k sent there = by (is_live w.kernel.phase) refl
    where
      by : (b : Bool) → is_live w.kernel.phase ≡ b → OpensApart (reply_written w.kernel sent.unique sent.wire).1.vfs
          (reply_written w.kernel sent.unique sent.wire).1.closing
      by true live = let reply_received = receives_opens k sent there live in let kept = reply_received.keeps in kept.apart
      by false dead = let links = both.links in none_at w.replies k sent (links.idle dead).replies there

  apart_after : (e : Event) (o : Outcome) (after : World) → Happened choice w e o after
      → OpensApart after.kernel.vfs after.kernel.closing
  apart_after e o after (by_mount f m v idle) = emptied_apart w.kernel.vfs
  apart_after e o after (by_call call ready room within) = let kept =
      begun_keeps w.kernel old.apart (for_minor w.kernel.lists_files call) in kept.apart
  apart_after e o after (by_read_interrupt original rest live there within) = old.apart
  apart_after e o after (by_read_forgets n live free can within few) = old.apart
  apart_after e o after (by_read_pending k unique kept body live free there says within) = old.apart
  apart_after e o after (by_take k r there within) =
      let took = taking w.server r.unique r.body in
      kept_apart (after_take w k r.unique took) (replying_kernel
      (record w {
        requests = without_at w.requests k;
        server =
            took.server;
      }) w.server.next_copy r.unique took.reply)
  apart_after e o after (by_perform unique t there within) =
      let did = served choice w.server unique t in
      kept_apart (after_perform w unique did) (replying_kernel
      (record w { server = did.server }) w.server.next_copy unique (cond w.server.aborted None (Some did.wire)))
  apart_after e o after (by_again unique kept there current within) = old.apart
  apart_after e o after (by_write k sent there within) = written_apart k sent there
  apart_after e o after (by_settle k result there) = old.apart
  apart_after e o after (by_signal call fatal state live there within) = let kept =
      signalled_keeps w.kernel old.apart (λ u. key_count-le-one w.kernel.queues u sound.queues) call state there fatal in kept.apart
  apart_after e o after (by_tick ms timely) = let a =
      old.apart in record { once = a.once; below = a.below; opens = a.opens; closing = a.closing; uses = a.uses }
  apart_after e o after (by_drop directory name bound live there) = let a =
      old.apart in record { once = a.once; below = a.below; opens = a.opens; closing = a.closing; uses = a.uses }
  apart_after e o after (by_evict node counted live there unused) = old.apart
  apart_after e o after (by_abort live) = emptied_apart w.kernel.vfs

  -- the mount stands as it stood
  same_phase : (v : World) → v.kernel ≡ w.kernel → is_live v.kernel.phase ≡ true → is_live w.kernel.phase ≡ true
  same_phase v same live = sym (ap (λ (k : Kernel). is_live k.phase) same) ∙ live

  written : (k : ℕ) (sent : Sent) → slice_get w.replies k ≡ Some sent
      → OpensBalanced (after_write w k sent (reply_written w.kernel sent.unique sent.wire))
  written k sent there = by (is_live w.kernel.phase) refl
    where
      by : (b : Bool) → is_live w.kernel.phase ≡ b → OpensBalanced
          (after_write w k sent (reply_written w.kernel sent.unique sent.wire))
      by true live = written_balanced w (old.balanced live) lookups.copies k sent there
          (reply_written w.kernel sent.unique sent.wire) (receives_opens k sent there live)
      by false dead = let links = both.links in none_at w.replies k sent (links.idle dead).replies there

  balanced_after : (e : Event) (o : Outcome) (after : World) → MayStep choice w e → LookupsSound after
      → Happened choice w e o after → is_live after.kernel.phase ≡ true → OpensBalanced after
  balanced_after e o after may next (by_mount f m v idle) live = fresh w f m v
  balanced_after e o after may next (by_call call ready room within) live =
      let goes = begun_goes_on w.kernel (for_minor w.kernel.lists_files call) in
      kernel_moves w (old.balanced (sym (ap is_live goes.phase) ∙ live))
      (call_begun w.kernel (for_minor w.kernel.lists_files call)) w.requests
      (keeps_same w (call_begun w.kernel (for_minor w.kernel.lists_files call))
      (begun_keeps w.kernel old.apart (for_minor w.kernel.lists_files call)))
  balanced_after e o after may next (by_read_interrupt original rest was there within) live =
      kernel_moves w (old.balanced was) after.kernel after.requests (interrupt_same w original)
  balanced_after e o after may next (by_read_forgets n was free can within few) live =
      kernel_moves w (old.balanced was) after.kernel after.requests (forgets_same w n)
  balanced_after e o after may next (by_read_pending k unique kept body was free there says within) live =
      kernel_moves w (old.balanced was) after.kernel after.requests
      (pending_same w k unique body (read_sum w.kernel (λ u. key_count-le-one w.kernel.queues u sound.queues) k unique kept body there says))
  balanced_after e o after may next (by_take k r there within) live =
      let took = taking w.server r.unique r.body in
      let was = same_phase (after_take w k r.unique took)
      (replying_kernel (record w {
        requests = without_at w.requests k;
        server = took.server;
      }) w.server.next_copy r.unique took.reply) live in
      taken_balanced w p both was releases old.held (old.balanced was) k r there next
  balanced_after e o after may next (by_perform unique t there within) live =
      let did = served choice w.server unique t in
      let was = same_phase (after_perform w unique did)
      (replying_kernel (record w { server = did.server }) w.server.next_copy unique
      (cond w.server.aborted None (Some did.wire))) live in
      performed_balanced w p both was releases old.held (old.balanced was) choice unique t there
      (subst (MayChooseFor choice w) there may) next
  balanced_after e o after may next (by_again unique kept there current within) live =
      again_balanced w p both live releases old.held (old.balanced live) unique kept current next
  balanced_after e o after may next (by_write k sent there within) live = written k sent there
  balanced_after e o after may next (by_settle k result there) live =
      settled_balanced w p both live releases old.held (old.balanced live) k result there next
  balanced_after e o after may next (by_signal call fatal state was there within) live =
      kernel_moves w (old.balanced was) after.kernel w.requests
      (keeps_same w after.kernel (signalled_keeps w.kernel old.apart (λ u. key_count-le-one w.kernel.queues u sound.queues) call state
      there fatal))
  balanced_after e o after may next (by_tick ms timely) live =
      kernel_moves w (old.balanced live) (record w.kernel { vfs = later w.kernel.vfs ms }) w.requests (λ f. refl)
  balanced_after e o after may next (by_drop directory name bound was there) live =
      kernel_moves w (old.balanced was) (after_drop w directory name).kernel w.requests (λ f. refl)
  balanced_after e o after may next (by_evict node counted was there unused) live =
      kernel_moves w (old.balanced was) (after_evict w node counted).kernel w.requests (λ f. refl)
  balanced_after e o after may next (by_abort was) live = absurd (true≢false (sym live))

  -- ---- without a live mount

  abbrev Unopened : Kernel → Type 0
  Unopened k = (k.vfs.opens ≡ []) × (k.closing ≡ [])

  still : (v : World) → v.kernel ≡ w.kernel → is_live v.kernel.phase ≡ false → Unopened v.kernel
  still v same dead = subst (λ (k : Kernel). Unopened k) (sym same)
      (old.unopened (sym (ap (λ (k : Kernel). is_live k.phase) same) ∙ dead))

  lives_on : (k : Kernel) → k.phase ≡ w.kernel.phase → is_live w.kernel.phase ≡ true → is_live k.phase ≡ false
      → Unopened k
  lives_on k same live dead = absurd (true≢false (sym live ∙ sym (ap is_live same) ∙ dead))

  -- after an abort a call is answered at once
  called_unopened : (call : Call) → is_ready w.kernel.phase ≡ true → is_live w.kernel.phase ≡ false
      → Unopened (call_begun w.kernel call)
  called_unopened call ready dead = at_once (is_aborted w.kernel.phase) (aborted_if_ready w.kernel.phase ready dead)
    where
      at_once : (b : Bool) → b ≡ true → Unopened (closing_of
          (advanced w.kernel w.kernel.vfs.next_call (begun b w.kernel.vfs call))
          (cond b None (closed_by w.kernel.vfs.opens call)))
      at_once true e = old.unopened dead
      at_once false e = absurd (true≢false (sym e))

  written_unopened : (k : ℕ) (sent : Sent) → slice_get w.replies k ≡ Some sent
      → is_live (reply_written w.kernel sent.unique sent.wire).1.phase ≡ false
      → Unopened (reply_written w.kernel sent.unique sent.wire).1
  written_unopened k sent there dead = by (is_live w.kernel.phase) refl
    where
      by : (b : Bool) → is_live w.kernel.phase ≡ b → Unopened (reply_written w.kernel sent.unique sent.wire).1
      by true live = absurd (true≢false (sym (alive k sent there live) ∙ dead))
      by false was = let links = both.links in none_at w.replies k sent (links.idle was).replies there

  unopened_after : (e : Event) (o : Outcome) (after : World) → Happened choice w e o after
      → is_live after.kernel.phase ≡ false → Unopened after.kernel
  unopened_after e o after (by_mount f m v idle) dead = (refl, refl)
  unopened_after e o after (by_call call ready room within) dead =
      let goes = begun_goes_on w.kernel (for_minor w.kernel.lists_files call) in
      called_unopened (for_minor w.kernel.lists_files call) ready (sym (ap is_live goes.phase) ∙ dead)
  unopened_after e o after (by_read_interrupt original rest live there within) dead =
      lives_on after.kernel refl live dead
  unopened_after e o after (by_read_forgets n live free can within few) dead = lives_on after.kernel refl live dead
  unopened_after e o after (by_read_pending k unique kept body live free there says within) dead =
      lives_on after.kernel refl live dead
  unopened_after e o after (by_take k r there within) dead =
      let took = taking w.server r.unique r.body in still (after_take w k r.unique took)
      (replying_kernel (record w {
        requests = without_at w.requests k;
        server = took.server;
      }) w.server.next_copy r.unique took.reply) dead
  unopened_after e o after (by_perform unique t there within) dead =
      let did = served choice w.server unique t in still (after_perform w unique did)
      (replying_kernel (record w { server = did.server }) w.server.next_copy unique
      (cond w.server.aborted None (Some did.wire))) dead
  unopened_after e o after (by_again unique kept there current within) dead = old.unopened dead
  unopened_after e o after (by_write k sent there within) dead = written_unopened k sent there dead
  unopened_after e o after (by_settle k result there) dead = old.unopened dead
  unopened_after e o after (by_signal call fatal state live there within) dead = let goes =
      signalled_goes_on w.kernel call state fatal in lives_on after.kernel goes.phase live dead
  unopened_after e o after (by_tick ms timely) dead = old.unopened dead
  unopened_after e o after (by_drop directory name bound live there) dead = lives_on after.kernel refl live dead
  unopened_after e o after (by_evict node counted live there unused) dead = lives_on after.kernel refl live dead
  unopened_after e o after (by_abort live) dead = (refl, refl)

-- File handles stay balanced, whatever the event.
pub opens_stay : (w : World) (p : Plain) → BothSound w p → ReleasesKnown w → OpensSound w
    → (e : Event) (o : Outcome) (after : World) → Happens w e o after → OpensSound after
opens_stay w p both releases old e o after h =
    let did = happened h.0 w o after e h.2 in
    let sound = both.world in
    record {
      apart = apart_after h.0 w p both releases old e o after did;
      held = held_rises h.0 w old.held e o after did;
      balanced = balanced_after h.0 w p both releases old e o after h.1 (lookups_stay w sound.lookups e o after h) did;
      unopened = unopened_after h.0 w p both releases old e o after did;
    }

pub first_opens : OpensSound first_world
first_opens = record {
  apart = record {
    once = λ n. omega arith;
    below = λ n high. refl;
    opens = tt;
    closing = tt;
    uses = λ call state at. absurd (cc (at));
  };
  held = tt;
  balanced = λ live. absurd (true≢false (sym live));
  unopened = λ dead. (refl, refl);
}
