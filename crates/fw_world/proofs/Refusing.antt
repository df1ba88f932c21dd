-- An event that kernel or server refused is refused so in the machine, or memory ran out.
use Rattle.std.proofs.Common.{◌≡◌, ◌≢◌, ℕ, ◌+◌, ◌||◌, Bool, true, false, cond, not, List, Option, Some, None, Ok, Err, inl, nat_eq, nat_lt, nat_le, max, length, slice_get, refl, ap, subst, ◌∙◌}
use Rattle.fuse_spec.specs.declared.Minor.{Minor}
use Rattle.fuse_spec.specs.declared.Dentry.{Dentry}
use Rattle.fuse_spec.specs.declared.Counted.{Counted}
use Rattle.fuse_spec.specs.declared.Refusal.{Refusal}
use Rattle.fuse_spec.specs.declared.Refusal.TheVariants as refusal
use Rattle.fuse_spec.specs.declared.Purpose.{Purpose}
use Rattle.fuse_spec.specs.declared.ReplyResult.{ReplyResult}
use Rattle.fuse_spec.specs.Values.Maps.{get, get_name}
use Rattle.fuse_spec.specs.Values.Numbers.{max_validity, max_calls, clock_end}
use Rattle.fuse_spec.specs.Files.Operations.{errno_of}
use Rattle.fuse_spec.specs.Calls.Calls.{Call}
use Rattle.fuse_spec.specs.Kernel.Messages.{Forget, RequestBody, WireReply}
use Rattle.fuse_spec.specs.Kernel.Kernel.{Kernel, is_live, is_pinned, is_bound, body_of, call_put, forgets_read}
use Rattle.fuse_spec.specs.Kernel.QueueCalls.{pending_at, after_read_forgets}
use Rattle.fuse_spec.specs.Kernel.Replies.{reply_written}
use Rattle.fuse_spec.specs.Server.Copies.{files_named, is_current}
use Rattle.fuse_spec.specs.Server.Nodes.{count_overflows}
use Rattle.fuse_spec.specs.Server.Performs.{served, files_given}
use Rattle.fuse_spec.specs.Server.Server.{HeldRequest, Kept}
use Rattle.fuse_spec.specs.World.Worlds as worlds
use Rattle.fuse_spec.specs.World.Worlds.{World, Sent, after_mount, after_call, after_take, after_perform, after_again, after_write, after_tick, after_drop}
use Rattle.fuse_spec.specs.World.Events.{Event, Outcome}
use Rattle.fuse_spec.specs.World.Events as event
use Rattle.fuse_spec.specs.Kernel.Refusals.{found, pending_found, unused_found, unless, refusal_in, accepted, when_live, when_not_interrupted, is_ready, is_busy, is_kernel_past_end}
use Rattle.fw_world.proofs.Judged.{unless_refused, found_refused, not_refused}
use Rattle.fuse_spec.specs.Server.Refusals.{held_found, kept_found}
use Rattle.fuse_spec.specs.World.Steps.{Stepped, going, is_past, reading_pending, reading_forgets, taking_request, performing_held, sending_again, writing_copy, settling, dropping, evicting, MayChooseFor, IsRefused, RefusedWith}
use Rattle.std.specs.Prelude.{Result, IfErr}
use Rattle.fuse_theorem.proofs.Refining.Queuing.{All-at}
use Rattle.fk_kernel.specs.Refused.{within_counters, begin_refusal, mount_refusal, read_refusal}
use Rattle.fuse_spec.specs.Kernel.Refusals as kernel
use Rattle.fuse_spec.specs.Server.Refusals as server
use Rattle.fuse_theorem.specs.SoundWorlds.{IsSoundWorld}
use Rattle.fk_kernel.specs.Refused.{read_forgets_refusal, tick_refusal, drop_refusal, evict_refusal}
use Rattle.fs_server.specs.Effects.{RefusesHeld, as_judged, exhausted, RefusesAgain, judged_again, no_number, HasNoCopy}
use Rattle.fw_world.proofs.Counters.{past_by_kernel, past_by_server, past_by_all}

pub is_exhausted : (o : Outcome) (after : World) → is_past after ≡ true → going o after ≡ Err refusal.Exhausted
is_exhausted o after past = ap (λ (b : Bool). cond b (Err refusal.Exhausted) (Ok (o, after))) past

-- A counter of the kernel past its end refuses what would come of the event.
pub past_counters : (o : Outcome) (k : Kernel) (after : World) → after.kernel ≡ k → (r : Refusal)
    → refusal_in (within_counters k) ≡ Some r → going o after ≡ Err r
past_counters o k after same r e = by (is_kernel_past_end k) refl e
  where
    by : (past : Bool) → is_kernel_past_end k ≡ past → refusal_in (unless past refusal.Exhausted accepted) ≡ Some r
        → going o after ≡ Err r
    by true past is = is_exhausted o after (past_by_kernel after (ap is_kernel_past_end same ∙ past)) ∙ cc is
    by false past is = absurd (cc is)

-- ---- a mount

pub mount_refused : (w : World) (found_ms missing_ms : ℕ) (minor : Minor)
    → nat_lt max_validity (max found_ms missing_ms) ≡ false → (r : Refusal) → mount_refusal w.kernel ≡ Some r
    → IsRefused w (event.mount found_ms missing_ms minor) r
mount_refused w found_ms missing_ms minor day r judged choice may =
    let mounted : Stepped = Ok (event.mounted, after_mount w found_ms missing_ms minor) in
    rw day (unless_refused (is_busy w.kernel) refusal.Busy accepted mounted r judged (not_refused mounted r))

pub mount_too_long : (w : World) (found_ms missing_ms : ℕ) (minor : Minor)
    → nat_lt max_validity (max found_ms missing_ms) ≡ true
    → RefusedWith w (event.mount found_ms missing_ms minor) refusal.BadTime
mount_too_long w found_ms missing_ms minor long = inl (λ choice may. rw long refl)

-- ---- a call

pub call_refused : (w : World) (call : Call) (r : Refusal) → begin_refusal w.kernel call ≡ Some r
    → IsRefused w (event.call call) r
call_refused w call r judged choice may =
    let full = nat_le max_calls (length w.kernel.vfs.calls) in
    let begun = going (event.begun w.kernel.vfs.next_call) (after_call w call) in
    let counted = within_counters (call_put w.kernel call) in
    unless_refused (not (is_ready w.kernel.phase)) refusal.NotReady (unless full refusal.Full counted)
    (unless full refusal.Full begun) r judged
    (λ e. unless_refused full refusal.Full counted begun r e
    (past_counters (event.begun w.kernel.vfs.next_call) (call_put w.kernel call) (after_call w call) refl r))

-- ---- a read

read_so : {A B : Type 0} (k : Kernel) (x : Result A Refusal) (y : Result B Refusal) (r : Refusal)
    → refusal_in (when_live k (when_not_interrupted k x)) ≡ Some r → (refusal_in x ≡ Some r → y ≡ Err r)
    → when_live k (when_not_interrupted k y) ≡ Err r
read_so k x y r e rest =
    unless_refused (not (is_live k.phase)) refusal.NotReady (when_not_interrupted k x) (when_not_interrupted k y) r e
    (λ f. unless_refused (not (nat_eq (length k.queues.interrupts) 0)) refusal.InterruptFirst x y r f rest)

pub read_refused : (w : World) (place : ℕ) (r : Refusal) → read_refusal w.kernel place ≡ Some r
    → IsRefused w (event.read_pending place) r
read_refused w place r judged choice may =
    let at = pending_at w.kernel.queues place in
    read_so w.kernel (pending_found w.kernel at unrefused)
    (pending_found w.kernel at (reading_pending w place)) r judged
    (λ e. found_refused at (λ (q : ℕ × Purpose). found (body_of w.kernel q.1) (unrefused q.0))
    (λ (q : ℕ × Purpose). found (body_of w.kernel q.1) (reading_pending w place q.0)) r e
    (λ q f. found_refused (body_of w.kernel q.1) (unrefused q.0) (reading_pending w place q.0) r f
    (λ body. not_refused (reading_pending w place q.0 body) r)))
  where
    unrefused : ℕ → RequestBody → Result (Unit {0}) Refusal
    unrefused unique body = accepted

-- ---- forgets

pub forgets_refused : (w : World) (n : ℕ) (r : Refusal) → read_forgets_refusal w.kernel n ≡ Some r
    → IsRefused w (event.read_forgets n) r
forgets_refused w n r judged choice may =
    let read = forgets_read w.kernel n in
    let after = record w.kernel { queues = after_read_forgets w.kernel.queues n } in
    let counted = λ (x : ℕ × List Forget). within_counters after in
    read_so w.kernel (found read counted) (found read (reading_forgets w n)) r judged
    (λ e. found_refused read counted (reading_forgets w n) r e
    (λ x. past_counters (event.is_read x.0) after (worlds.world_after_read_forgets w n x.1) refl r))

-- ---- the time, names and nodes

pub tick_refused : (w : World) (ms : ℕ) (r : Refusal) → tick_refusal w.kernel ms ≡ Some r
    → IsRefused w (event.tick ms) r
tick_refused w ms r judged choice may =
    let now : Stepped = Ok (event.now (w.kernel.vfs.clock + ms), after_tick w ms) in
    unless_refused (nat_le clock_end (w.kernel.vfs.clock + ms)) refusal.BadTime accepted now r judged
    (not_refused now r)

pub drop_refused : (w : World) (directory : ℕ) (name : List ℕ) (r : Refusal)
    → drop_refusal w.kernel directory name ≡ Some r → IsRefused w (event.drop_name directory name) r
drop_refused w directory name r judged choice may =
    let bound = get_name w.kernel.vfs.names (directory, name) in
    let drops = dropping (after_drop w directory name) in
    unless_refused (not (is_live w.kernel.phase)) refusal.NotReady (found bound (λ (b : Dentry). accepted))
    (found bound drops) r judged
    (λ e. found_refused bound (λ (b : Dentry). accepted) drops r e (λ b. not_refused (drops b) r))

pub evict_refused : (w : World) (node : ℕ) (r : Refusal) → evict_refusal w.kernel node ≡ Some r
    → IsRefused w (event.evict node) r
evict_refused w node r judged choice may =
    let counted = get w.kernel.nodes node in
    let busy = is_pinned w.kernel node || is_bound w.kernel node in
    unless_refused (not (is_live w.kernel.phase)) refusal.NotReady
    (unused_found w.kernel node counted (λ (c : Counted). accepted))
    (unused_found w.kernel node counted (evicting w node))
    r judged
    (λ e. found_refused counted (λ (c : Counted). unless busy refusal.Busy accepted)
    (λ (c : Counted). unless busy refusal.Busy (evicting w node c)) r e
    (λ c f. unless_refused busy refusal.Busy accepted (evicting w node c) r f (not_refused (evicting w node c) r)))

-- ---- a request performed

sent_server : (w : World) (number unique : ℕ) (wire : Option WireReply)
    → (worlds.copy_put w number unique wire).server ≡ w.server
sent_server w number unique None = refl
sent_server w number unique (Some wire) = refl

-- Refused for a count or for a number, it is refused alike.
either_way : (b : Bool)
    → unless {A = Outcome × World} b refusal.Exhausted (Err refusal.Exhausted) ≡ Err refusal.Exhausted
either_way true = refl
either_way false = refl

pub perform_refused : (w : World) (unique : ℕ) (r : Refusal) → RefusesHeld w.server unique r
    → IsRefused w (event.perform unique) r
perform_refused w unique r (as_judged _ judged) choice may =
    let held = get w.server.held unique in
    let out = λ (h : HeldRequest). count_overflows w.server.nodes (files_given w.server h) in
    found_refused held (λ (h : HeldRequest). unless (out h) refusal.Exhausted accepted)
    (λ (h : HeldRequest). unless (out h) refusal.Exhausted (performing_held choice w unique h)) r judged
    (λ h e. unless_refused (out h) refusal.Exhausted accepted (performing_held choice w unique h) r e
    (not_refused (performing_held choice w unique h) r))
perform_refused w unique r (exhausted held there past) choice may =
    let did = served choice w.server unique held in
    let after = after_perform w unique did in
    let same : after.server ≡ did.server = sent_server (record w { server = did.server }) w.server.next_copy unique
    (cond w.server.aborted None (Some did.wire)) in
    let over : server.is_server_past_end after.server ≡ true =
    ap server.is_server_past_end same ∙ past choice (subst (MayChooseFor choice w) there may) in
    ap (λ o. held_found w.server o (performing_held choice w unique)) there
    ∙ ap (unless (count_overflows w.server.nodes (files_given w.server held)) refusal.Exhausted)
    (is_exhausted (event.performed unique (errno_of did.wire) w.server.aborted) after (past_by_server after over))
    ∙ either_way (count_overflows w.server.nodes (files_given w.server held))

-- Where memory does not run out.
pub refused_with : {X : Type 0} (w : World) (e : Event) (r : Result X Refusal) → IfErr r (IsRefused w e)
    → IfErr r (RefusedWith w e)
refused_with w e (Ok x) h = tt
refused_with w e (Err refusal) h = inl h

-- ---- one more copy

pub again_refused : (w : World) (unique : ℕ) (r : Refusal) → RefusesAgain w.server unique r
    → IsRefused w (event.again unique) r
again_refused w unique r (judged_again _ judged) choice may = by (get w.server.kept unique) judged
  where
    by : (o : Option Kept) → refusal_in (kept_found w.server o (λ (k : Kept). accepted)) ≡ Some r
        → kept_found w.server o (sending_again w unique) ≡ Err r
    by None e = cc e
    by (Some kept) e =
        let stale = not (is_current w.server kept.wire) in
        let out = count_overflows w.server.nodes (files_named w.server kept.wire) in
        let again = sending_again w unique kept in
        unless_refused stale refusal.NoCopy (unless out refusal.Exhausted accepted)
        (unless out refusal.Exhausted again) r e
        (λ f. unless_refused out refusal.Exhausted accepted again r f (not_refused again r))
again_refused w unique r (no_number kept there current past) choice may =
    let outcome = event.sent_again unique in
    let after = after_again w unique kept in
    ap (λ o. kept_found w.server o (sending_again w unique)) there ∙ ap (λ (b : Bool). unless (not b) refusal.NoCopy
    (unless (count_overflows w.server.nodes (files_named w.server kept.wire)) refusal.Exhausted
    (going outcome after))) current
    ∙ ap (unless (count_overflows w.server.nodes (files_named w.server kept.wire)) refusal.Exhausted)
    (is_exhausted outcome after (past_by_server after past))
    ∙ either_way (count_overflows w.server.nodes (files_named w.server kept.wire))

-- ---- a copy written

pub past_written : (w : World) (place : ℕ) (sent : Sent) → slice_get w.replies place ≡ Some sent
    → kernel.is_kernel_past (reply_written w.kernel sent.unique sent.wire).1 ≡ true
    → IsRefused w (event.write place) refusal.Exhausted
past_written w place sent there past choice may =
    let took = reply_written w.kernel sent.unique sent.wire in
    let after = after_write w place sent took in
    ap (λ o. found o (writing_copy w place)) there
    ∙ is_exhausted (event.written sent.unique took.0) after (past_by_all after past)

-- ---- nothing stands at a place

pub no_request : (w : World) (place : ℕ) → slice_get w.requests place ≡ None
    → RefusedWith w (event.take place) refusal.NoSuch
no_request w place none = inl (λ choice may. ap (λ o. found o (taking_request w place)) none)

pub no_copy : (w : World) (place : ℕ) → slice_get w.replies place ≡ None
    → RefusedWith w (event.write place) refusal.NoSuch
no_copy w place none = inl (λ choice may. ap (λ o. found o (writing_copy w place)) none)

pub no_result : (w : World) (place : ℕ) → slice_get w.results place ≡ None
    → IsRefused w (event.settle place) refusal.NoSuch
no_result w place none choice may = ap (λ o. found o (settling w place)) none

-- A result on the link is that of a copy which the server knows.
pub is_known : (w : World) → IsSoundWorld w → (place : ℕ) (result : ReplyResult) (r : Refusal)
    → slice_get w.results place ≡ Some result → HasNoCopy w.server result.number r → ⊥
is_known w here place result r there none =
    let all = here.sound in
    let lookups = all.both.world.lookups in
    All-at (λ (x : ReplyResult). get w.server.copies x.number ≢ None) w.results place result lookups.copies.results there none.absent
