-- The numbers in the kernel's queues are even, in any run.
use Rattle.std.proofs.Common.{◌≡◌, ℕ, ◌+◌, ◌%◌, Bool, true, false, not, cond, filter, List, [], ◌∷◌, ◌++◌, Option, Some, None, drop, nat_eq, slice_get, option_map, refl, ap, ◌∙◌, arith, rules}
use Rattle.std.specs.List.{list_any}
use Rattle.std.specs.Map.{lookup}
use Rattle.std.specs.Option.{option_map_or}
use Rattle.fuse_spec.specs.declared.IntrEffect.{IntrEffect}
use Rattle.fuse_spec.specs.declared.IntrEffect.TheVariants.{Dequeued, Flagged, Queued, None as NoEffect}
use Rattle.fuse_spec.specs.declared.InterruptReply.{InterruptReply}
use Rattle.fuse_spec.specs.declared.InterruptReplyEffect.{InterruptReplyEffect}
use Rattle.fuse_spec.specs.declared.InterruptReplyEffect.TheVariants.{QueuedAgain, TurnedOff, None as NoReplyEffect}
use Rattle.fuse_spec.specs.declared.Mark.{Mark}
use Rattle.fuse_spec.specs.declared.Mark.TheVariants as mark
use Rattle.fuse_spec.specs.declared.Purpose.{Purpose}
use Rattle.fuse_spec.specs.declared.Purpose.TheVariants as purpose
use Rattle.fuse_spec.specs.declared.QueuedRequest.{QueuedRequest}
use Rattle.fuse_spec.specs.Kernel.Queues.{QueueState, empty_queues, pending, request_under, is_unread}
use Rattle.fuse_spec.specs.Kernel.QueueCalls.{after_effect, after_enqueue, after_interrupt, after_interrupt_reply, after_reading, after_reply_effect, can_read_forgets, without}
use Rattle.fuse_spec.specs.Kernel.Signals.{signal_effect, reply_effect}
use Rattle.fuse_device.specs.Transfers.{Transfer}
use Rattle.fk_kernel.specs.Picks.{after_pick}
use Rattle.fk_kernel.specs.declared.read.Pick.{Pick}
use Rattle.fk_kernel.specs.declared.read.Pick.TheVariants.{Interrupt, Forgets, Pending}
use Rattle.fk_drive.specs.Driving.{Driven, Drives, first_driven}
use Rattle.fk_drive_theorem.proofs.Stable.{Stable, same_number}
use Rattle.driven_sessions.proofs.Queues.{Closed, run_holds}
use Rattle.driven_sessions.proofs.Numbers.{Each, Entry, each_at, each_push, each_remarked, each_removed, each_stable}

-- Each of these numbers is even.
abbrev pub AreEven : List ℕ → Type 0
AreEven [] = Unit {0}
AreEven (n ∷ ns) = (n % 2 ≡ 0) × AreEven ns

abbrev IsEven : Entry → Type 0
IsEven e = e.0 % 2 ≡ 0

pub record Evens (q : QueueState Purpose) : Type 0 where
  pub next : q.next % 2 ≡ 0
  pub requests : Each (λ (e : Entry). e.0 % 2 ≡ 0) q.requests
  pub interrupts : AreEven q.interrupts

even_stable : (ns : List ℕ) → Stable (AreEven ns)
even_stable [] s = tt
even_stable (n ∷ ns) s = (same_number _ _ (λ none. s (λ all. none all.0)), even_stable ns (λ none. s (λ all. none all.1)))

evens_stable : (q : QueueState Purpose) → Stable (Evens q)
evens_stable q s = record {
  next = same_number _ _ (λ none. s (λ e. none e.next));
  requests = each_stable IsEven (λ e t. same_number _ _ t) q.requests (λ none. s (λ e. none e.requests));
  interrupts = even_stable q.interrupts (λ none. s (λ e. none e.interrupts));
}

-- ---- the queues by themselves

pub empty_evens : Evens empty_queues
empty_evens = record { next = refl; requests = tt; interrupts = tt }

even_push : (ns : List ℕ) (n : ℕ) → AreEven ns → n % 2 ≡ 0 → AreEven (ns ++ n ∷ [])
even_push [] n all is = (is, tt)
even_push (m ∷ ns) n all is = (all.0, even_push ns n all.1 is)

even_filtered : (test : ℕ → Bool) (ns : List ℕ) → AreEven ns → AreEven (filter test ns)
even_filtered test [] all = tt
even_filtered test (n ∷ ns) all = by (test n) (even_filtered test ns all.1)
  where
    by : (b : Bool) → AreEven (filter test ns) → AreEven (cond b (n ∷ filter test ns) (filter test ns))
    by true rest = (all.0, rest)
    by false rest = rest

-- a number that has a request is even
even_found : (u : ℕ) (es : List Entry) (r : QueuedRequest Purpose) → Each IsEven es → lookup (nat_eq u) es ≡ Some r
    → u % 2 ≡ 0
even_found u [] r all found = absurd (cc found)
even_found u (e ∷ es) r all found = by (nat_eq u e.0) refl found (even_found u es r all.1)
  where
    by : (b : Bool) → nat_eq u e.0 ≡ b → cond b (Some e.1) (lookup (nat_eq u) es) ≡ Some r
        → (lookup (nat_eq u) es ≡ Some r → u % 2 ≡ 0) → u % 2 ≡ 0
    by true is found rest =
        let same : u ≡ e.0 = grind (arith, rules, is) in ap (λ (n : ℕ). n % 2) same ∙ all.0
    by false is found rest = rest found

enqueue_evens : (q : QueueState Purpose) (kept : Purpose) → Evens q → Evens (after_enqueue q kept)
enqueue_evens q kept e =
    let even = e.next in
    record {
      next = omega (arith, even);
      requests = each_push IsEven q.requests (q.next, record { mark = mark.Unread; kept = kept }) e.requests even;
      interrupts = e.interrupts;
    }

without_evens : (q : QueueState Purpose) (u : ℕ) → Evens q → Evens (without q u)
without_evens q u e = record {
  next = e.next;
  requests = each_removed IsEven (nat_eq u) q.requests e.requests;
  interrupts = even_filtered (λ i. not (nat_eq u i)) q.interrupts e.interrupts;
}

with_queued : (off : Bool) (ns : List ℕ) (u : ℕ) → AreEven ns → u % 2 ≡ 0 → AreEven (cond off ns (ns ++ u ∷ []))
with_queued true ns u all is = all
with_queued false ns u all is = even_push ns u all is

signal_evens : (q : QueueState Purpose) (u : ℕ) (fatal : Bool) → Evens q → Evens (after_interrupt q u fatal)
signal_evens q u fatal e = by (request_under q u) refl
  where
    effect : (x : IntrEffect) → u % 2 ≡ 0 → Evens (after_effect q u x)
    effect Dequeued is = record {
      next = e.next;
      requests = each_removed IsEven (nat_eq u) q.requests e.requests;
      interrupts = e.interrupts;
    }
    effect Flagged is = record {
      next = e.next;
      requests = each_remarked IsEven (λ e m is. is) u mark.Flagged q.requests e.requests;
      interrupts = e.interrupts;
    }
    effect Queued is = record {
      next = e.next;
      requests = each_remarked IsEven (λ e m is. is) u mark.Interrupted q.requests e.requests;
      interrupts = with_queued q.interrupts_off q.interrupts u e.interrupts is;
    }
    effect NoEffect is = e

    by : (o : Option (QueuedRequest Purpose)) → request_under q u ≡ o
        → Evens (after_effect q u (option_map_or (λ r. signal_effect r.mark fatal q.interrupts_off) o NoEffect))
    by None at = e
    by (Some r) at = effect (signal_effect r.mark fatal q.interrupts_off) (even_found u q.requests r e.requests at)

reply_evens : (q : QueueState Purpose) (u : ℕ) (reply : InterruptReply) → Evens q → Evens (after_interrupt_reply q u reply)
reply_evens q u reply e = by (request_under q u) refl
  where
    effect : (x : InterruptReplyEffect) → u % 2 ≡ 0 → Evens (after_reply_effect q u x)
    effect QueuedAgain is = record {
      next = e.next;
      requests = e.requests;
      interrupts = with_queued q.interrupts_off q.interrupts u e.interrupts is;
    }
    effect TurnedOff is = record { next = e.next; requests = e.requests; interrupts = tt }
    effect NoReplyEffect is = e

    by : (o : Option (QueuedRequest Purpose)) → request_under q u ≡ o → Evens
        (option_map_or (λ m. after_reply_effect q u (reply_effect reply m (list_any (nat_eq u) q.interrupts) q.interrupts_off))
        (option_map (λ (r : QueuedRequest Purpose). r.mark) o) q)
    by None at = e
    by (Some r) at = effect (reply_effect reply r.mark (list_any (nat_eq u) q.interrupts) q.interrupts_off)
        (even_found u q.requests r e.requests at)

reading_evens : (q : QueueState Purpose) (u : ℕ) (m : Mark) → u % 2 ≡ 0 → Evens q → Evens (after_reading q u m)
reading_evens q u mark.Unread is e = record {
  next = e.next;
  requests = each_remarked IsEven (λ e m is. is) u mark.Read q.requests e.requests;
  interrupts = e.interrupts;
}
reading_evens q u mark.Flagged is e = record {
  next = e.next;
  requests = each_remarked IsEven (λ e m is. is) u mark.Interrupted q.requests e.requests;
  interrupts = with_queued q.interrupts_off q.interrupts u e.interrupts is;
}
reading_evens q u mark.Read is e = e
reading_evens q u mark.Interrupted is e = e

picked_evens : (q : QueueState Purpose) (pick : Pick) → Evens q → Evens (after_pick q pick)
picked_evens q Interrupt e = record { next = e.next; requests = e.requests; interrupts = dropped q.interrupts e.interrupts }
  where
    dropped : (ns : List ℕ) → AreEven ns → AreEven (drop 1 ns)
    dropped [] all = tt
    dropped (n ∷ ns) all = all.1
picked_evens q (Forgets count) e = by (can_read_forgets q count)
  where
    by : (b : Bool) → Evens (cond b (record q { forgets = drop count q.forgets; next = q.next + 2 }) q)
    by true = let even = e.next in record { next = omega (arith, even); requests = e.requests; interrupts = e.interrupts }
    by false = e
picked_evens q (Pending place) e = by (slice_get (pending q) place) refl
  where
    by : (o : Option Entry) → slice_get (pending q) place ≡ o
        → Evens (option_map_or (λ (x : Entry). after_reading q x.0 x.1.mark) o q)
    by None at = e
    by (Some x) at = reading_evens q x.0 x.1.mark (each_at IsEven (λ y. is_unread y.1.mark) q.requests place x e.requests at).1 e

-- ---- in any run

evens_closed : Closed Evens
evens_closed = record {
  stable = evens_stable;
  empty = empty_evens;
  mounted = enqueue_evens empty_queues purpose.Init empty_evens;
  queues = λ q kept other. enqueue_evens q kept;
  ends = without_evens;
  signals = signal_evens;
  replies = reply_evens;
  reads = picked_evens;
  forgets = λ q fs e. record { next = e.next; requests = e.requests; interrupts = e.interrupts };
}

pub run_evens : (asks : Bool) (log : List Transfer) (new : Driven) → Drives (first_driven asks) log new
    → Evens new.kernel.queues
run_evens = run_holds Evens evens_closed
