-- INIT has the first number of a mount: once that was read, no INIT is read again.
use Rattle.std.proofs.Common.{◌≡◌, ℕ, ◌+◌, Bool, true, false, true≢false, cond, List, [], ◌∷◌, Option, Some, None, drop, nat_eq, option_map, slice_get, refl, ap, sym, ◌∙◌, arith}
use Rattle.std.specs.List.{list_any}
use Rattle.std.specs.Option.{option_map_or}
use Rattle.std.proofs.lemmas.Bool.{false≢true}
use Rattle.fuse_spec.specs.declared.IntrEffect.{IntrEffect}
use Rattle.fuse_spec.specs.declared.IntrEffect.TheVariants.{Dequeued, Flagged, Queued, None as NoEffect}
use Rattle.fuse_spec.specs.declared.InterruptReply.{InterruptReply}
use Rattle.fuse_spec.specs.declared.InterruptReplyEffect.{InterruptReplyEffect}
use Rattle.fuse_spec.specs.declared.InterruptReplyEffect.TheVariants.{QueuedAgain, TurnedOff, None as NoReplyEffect}
use Rattle.fuse_spec.specs.declared.Mark.{Mark}
use Rattle.fuse_spec.specs.declared.Mark.TheVariants as mark
use Rattle.fuse_spec.specs.declared.Opened.{Opened}
use Rattle.fuse_spec.specs.declared.Purpose.{Purpose}
use Rattle.fuse_spec.specs.declared.Purpose.TheVariants as purpose
use Rattle.fuse_spec.specs.Calls.Vfs.{CallState}
use Rattle.fuse_spec.specs.Kernel.Kernel.{Kernel, asked_by, body_of}
use Rattle.fuse_spec.specs.Kernel.Messages.{Forget, Request, RequestBody}
use Rattle.fuse_spec.specs.Kernel.QueueCalls.{after_effect, after_interrupt, after_interrupt_reply, after_reading, after_reply_effect, can_read_forgets, interrupt_effect, set_mark}
use Rattle.fuse_spec.specs.Kernel.Queues.{QueueState, is_unread, mark_under, pending}
use Rattle.fuse_spec.specs.Kernel.Signals.{reply_effect}
use Rattle.fuse_spec.specs.Values.Maps.{get}
use Rattle.fuse_spec.specs.World.Worlds.{forget_body}
use Rattle.fuse_device.specs.Transfers.{Transfer}
use Rattle.fk_kernel.specs.Picks.{IsPicked, after_pick}
use Rattle.fk_kernel.specs.declared.read.Pick.{Pick}
use Rattle.fk_kernel.specs.declared.read.Pick.TheVariants.{Interrupt, Forgets, Pending}
use Rattle.fk_drive.specs.Driving.{Driven, Drives, first_driven}
use Rattle.fk_drive_theorem.proofs.Stable.{Stable, same_number}
use Rattle.driven_sessions.proofs.Frames.{is_init_body}
use Rattle.driven_sessions.proofs.Numbers.{Each, Entry, Passed, each_at, each_push, each_remarked, each_removed, each_stable, passed_later, reading_passed}
use Rattle.driven_sessions.proofs.Queues.{Closed, is_init, run_holds}

-- Where it is INIT, it has the first number.
abbrev BearsFirst : Entry → Type 0
BearsFirst e = is_init e.1.kept ≡ true → e.0 ≡ 2

-- Each INIT that is queued does.
abbrev pub InitsBearFirst : QueueState Purpose → Type 0
InitsBearFirst q = Each BearsFirst q.requests

bears_stable : (q : QueueState Purpose) → Stable (InitsBearFirst q)
bears_stable q s = each_stable BearsFirst (λ e t is. same_number _ _ (λ none. t (λ p. none (p is)))) q.requests s

marked_first : (u : ℕ) (m : Mark) (es : List Entry) → Each BearsFirst es
    → Each BearsFirst (set_mark u es m)
marked_first u m es all = each_remarked BearsFirst (λ e m is. is) u m es all

signal_first : (q : QueueState Purpose) (u : ℕ) (fatal : Bool) → InitsBearFirst q → InitsBearFirst (after_interrupt q u fatal)
signal_first q u fatal all = by (interrupt_effect q u fatal)
  where
    by : (x : IntrEffect) → InitsBearFirst (after_effect q u x)
    by Dequeued = each_removed BearsFirst (nat_eq u) q.requests all
    by Flagged = marked_first u mark.Flagged q.requests all
    by Queued = marked_first u mark.Interrupted q.requests all
    by NoEffect = all

reply_first : (q : QueueState Purpose) (u : ℕ) (reply : InterruptReply) → InitsBearFirst q
    → InitsBearFirst (after_interrupt_reply q u reply)
reply_first q u reply all = by (mark_under q u)
  where
    effect : (x : InterruptReplyEffect) → InitsBearFirst (after_reply_effect q u x)
    effect QueuedAgain = all
    effect TurnedOff = all
    effect NoReplyEffect = all

    by : (o : Option Mark) → InitsBearFirst (option_map_or
        (λ m. after_reply_effect q u (reply_effect reply m (list_any (nat_eq u) q.interrupts) q.interrupts_off)) o q)
    by None = all
    by (Some m) = effect (reply_effect reply m (list_any (nat_eq u) q.interrupts) q.interrupts_off)

picked_first : (q : QueueState Purpose) (pick : Pick) → InitsBearFirst q → InitsBearFirst (after_pick q pick)
picked_first q Interrupt all = all
picked_first q (Forgets count) all = by (can_read_forgets q count)
  where
    by : (b : Bool) → InitsBearFirst (cond b (record q { forgets = drop count q.forgets; next = q.next + 2 }) q)
    by true = all
    by false = all
picked_first q (Pending place) all = by (slice_get (pending q) place)
  where
    read : (u : ℕ) (m : Mark) → InitsBearFirst (after_reading q u m)
    read u mark.Unread = marked_first u mark.Read q.requests all
    read u mark.Flagged = marked_first u mark.Interrupted q.requests all
    read u mark.Read = all
    read u mark.Interrupted = all

    by : (o : Option Entry) → InitsBearFirst (option_map_or (λ (e : Entry). after_reading q e.0 e.1.mark) o q)
    by None = all
    by (Some e) = read e.0 e.1.mark

first_closed : Closed InitsBearFirst
first_closed = record {
  stable = bears_stable;
  empty = tt;
  mounted = ((λ is. refl), tt);
  queues = λ q kept other all. each_push BearsFirst q.requests (q.next, record { mark = mark.Unread; kept = kept }) all
      (λ is. absurd (false≢true (sym other ∙ is)));
  ends = λ q u all. each_removed BearsFirst (nat_eq u) q.requests all;
  signals = signal_first;
  replies = reply_first;
  reads = picked_first;
  forgets = λ q fs all. all;
}

pub run_first : (asks : Bool) (log : List Transfer) (new : Driven) → Drives (first_driven asks) log new
    → InitsBearFirst new.kernel.queues
run_first = run_holds InitsBearFirst first_closed

-- ---- what is read

abbrev init_in : Option RequestBody → Bool
init_in None = false
init_in (Some body) = is_init_body body

asks_no_init : (k : Kernel) (p : Purpose) (body : RequestBody) → is_init p ≡ false → body_of k p ≡ Some body
    → is_init_body body ≡ false
asks_no_init k purpose.Init body other is = absurd (true≢false other)
asks_no_init k (purpose.Release opened) body other is = sym (ap init_in is)
asks_no_init k (purpose.Call call) body other is = by (get k.vfs.calls call) is
  where
    by : (o : Option (CallState Opened)) → asked_by o ≡ Some body → is_init_body body ≡ false
    by None is = sym (ap init_in is)
    by (Some state) is = sym (ap init_in is)

forgets_no_init : (fs : List Forget) → is_init_body (forget_body fs) ≡ false
forgets_no_init [] = refl
forgets_no_init (f ∷ []) = refl
forgets_no_init (f ∷ g ∷ fs) = refl

-- Once the first number was read, no INIT is.
pub picked_no_init : (k : Kernel) (pick : Pick) (r : Request) → Passed 2 k.queues → InitsBearFirst k.queues
    → IsPicked k pick r → is_init_body r.body ≡ false
picked_no_init k Interrupt r passed all is = ap (λ (q : Request). is_init_body q.body) is.is
picked_no_init k (Forgets count) r passed all is =
    ap (λ (q : Request). is_init_body q.body) is.is ∙ forgets_no_init is.forgets
picked_no_init k (Pending place) r passed all is = by (slice_get (pending k.queues) place) refl is.pending
  where
    kept_of : Option (ℕ × Purpose) → Purpose
    kept_of None = is.purpose
    kept_of (Some p) = p.1

    of_entry : (e : Entry) → slice_get (pending k.queues) place ≡ Some e → (b : Bool) → is_init e.1.kept ≡ b → b ≡ false
    of_entry e at false init = refl
    of_entry e at true init =
        let first = each_at BearsFirst (λ x. is_unread x.1.mark) k.queues.requests place e all at in
        let read = each_at (λ x. nat_eq 2 x.0 ≡ true → is_unread x.1.mark ≡ false) (λ x. is_unread x.1.mark)
        k.queues.requests place e passed.read at in
        absurd (true≢false (sym read.0 ∙ read.1 (ap (nat_eq 2) (first.1 init))))

    by : (o : Option Entry) → slice_get (pending k.queues) place ≡ o
        → option_map {U = ℕ × Purpose} (λ (e : Entry). (e.0, e.1.kept)) o ≡ Some (r.unique, is.purpose)
        → is_init_body r.body ≡ false
    by None at found = absurd (cc found)
    by (Some e) at found = asks_no_init k is.purpose r.body
        (ap is_init (sym (ap kept_of found)) ∙ of_entry e at (is_init e.1.kept) refl) is.body

pub picked_passed : (u : ℕ) (q : QueueState Purpose) (pick : Pick) → Passed u q → Passed u (after_pick q pick)
picked_passed u q Interrupt p = passed_later u q (record q { interrupts = drop 1 q.interrupts }) refl (omega arith) p
picked_passed u q (Forgets count) p = by (can_read_forgets q count)
  where
    by : (b : Bool) → Passed u (cond b (record q { forgets = drop count q.forgets; next = q.next + 2 }) q)
    by true = passed_later u q (record q { forgets = drop count q.forgets; next = q.next + 2 }) refl (omega arith) p
    by false = p
picked_passed u q (Pending place) p = by (slice_get (pending q) place)
  where
    by : (o : Option Entry) → Passed u (option_map_or (λ (e : Entry). after_reading q e.0 e.1.mark) o q)
    by None = p
    by (Some e) = reading_passed q e.0 e.1.mark u p
