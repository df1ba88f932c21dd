-- Signals to calls: which request serves a call, and what a signal makes of it.
use Rattle.std.proofs.Common.{◌≡◌, ◌≢◌, ℕ, Bool, true, false, true≢false, cond, List, [], ◌∷◌, Option, Some, None, drop, ap, sym, ◌∙◌, refl, nat_eq, inl, inr, ◌⊎◌}
use Rattle.std.specs.Prelude.{find, is_some, not, option_map, slice_get}
use Rattle.std.specs.Map.{lookup}
use Rattle.std.specs.Option.{option_map_or}
use Rattle.std.proofs.lemmas.Bool.Decides.{eqb_tells}
use Rattle.fuse_spec.specs.declared.IntrEffect.{IntrEffect}
use Rattle.fuse_spec.specs.declared.IntrEffect.TheVariants.{Dequeued, None as NoEffect}
use Rattle.fuse_spec.specs.declared.Mark.{Mark}
use Rattle.fuse_spec.specs.declared.Mark.TheVariants.{Unread, Flagged, Read, Interrupted}
use Rattle.fuse_spec.specs.declared.Opened.{Opened}
use Rattle.fuse_spec.specs.declared.Purpose.{Purpose}
use Rattle.fuse_spec.specs.declared.QueuedRequest.{QueuedRequest}
use Rattle.fuse_spec.specs.declared.Refusal.TheVariants.{NotReady, Exhausted}
use Rattle.fuse_spec.specs.Calls.Answers.{failed}
use Rattle.fuse_spec.specs.Kernel.Kernel.{Kernel, is_for, is_live, request_of, after_use, released_if_idle, after_signal, signalled_at, call_signalled}
use Rattle.fuse_spec.specs.Values.Maps.{get}
use Rattle.fuse_spec.specs.Values.Numbers.{eintr}
use Rattle.fuse_spec.specs.Kernel.Queues.{QueueState, is_unread, request_under}
use Rattle.fuse_spec.specs.Kernel.QueueCalls.{waiting, interrupt_effect, after_dequeue, after_effect}
use Rattle.fuse_spec.specs.Kernel.Signals.{signal_effect}
use Rattle.fuse_spec.specs.Calls.Vfs.{CallState, using, answered}
use Rattle.fk_kernel.specs.Entries.{LacksUniqueForRelease}
use Rattle.std.specs.Prelude.{Result}
use Rattle.fuse_spec.specs.declared.Refusal.{Refusal}
use Rattle.fuse_spec.specs.Kernel.Refusals.{unless, found, refusal_in, accepted, is_kernel_past_end}
use Rattle.fk_kernel.specs.Refused.{within_counters, signal_refusal, IsSignalled}
use Rattle.fk_kernel.proofs.Closes.{released_some}
use Rattle.fk_kernel.proofs.Walking.{asks_past}

abbrev Entry : Type 0
Entry = ℕ × QueuedRequest Purpose

-- the oldest of a list
pub oldest_is : (xs : List ℕ) (x : ℕ) → Some x ≡ slice_get xs 0 → xs ≡ x ∷ drop 1 xs
oldest_is [] x at =
    let no : ◌≡◌ {A = Option ℕ} (Some x) None = at in
    cc
oldest_is (y ∷ ys) x at =
    let same : y ≡ x = cc at in
    ap (λ (n : ℕ). n ∷ ys) same

-- the first request that serves a call
abbrev first_for : ℕ → List Entry → Option Entry
first_for call es = find (λ e. is_for call e.1.kept) es

-- A signal takes a request out where it is fatal and the request is unread, and not else.
takes_out : (r : QueuedRequest Purpose) (off : Bool) → is_unread r.mark ≡ true
    → signal_effect r.mark true off ≡ Dequeued
takes_out r off unread = by r.mark unread
  where
    by : (mark : Mark) → is_unread mark ≡ true → signal_effect mark true off ≡ Dequeued
    by Unread is = refl
    by Flagged is = refl
    by Read is = absurd (true≢false (sym is))
    by Interrupted is = absurd (true≢false (sym is))

module _ (s : QueueState Purpose) (unique : ℕ) where
  abbrev waits_by : Option (QueuedRequest Purpose) → Option Purpose
  waits_by o = option_map_or (λ r. cond (is_unread r.mark) None (Some r.kept)) o None

  abbrev effect_by : Bool → Option (QueuedRequest Purpose) → IntrEffect
  effect_by fatal o = option_map_or (λ r. signal_effect r.mark fatal s.interrupts_off) o NoEffect

  pub once_read : (fatal : Bool) → is_some (waiting s unique) ≡ true → interrupt_effect s unique fatal ≢ Dequeued
  once_read fatal waits is = by (request_under s unique) waits is
    where
      marked : (kept : Purpose) (mark : Mark) (f off : Bool) → is_some (cond (is_unread mark) None (Some kept)) ≡ true
          → signal_effect mark f off ≢ Dequeued
      marked kept Unread f off there e = true≢false (sym there)
      marked kept Flagged f off there e = true≢false (sym there)
      marked kept Read f true there e = cc
      marked kept Read f false there e = cc
      marked kept Interrupted f off there e = cc

      by : (o : Option (QueuedRequest Purpose)) → is_some (waits_by o) ≡ true → effect_by fatal o ≢ Dequeued
      by None there e = true≢false (sym there)
      by (Some r) there e = marked r.kept r.mark fatal s.interrupts_off there e

  pub unread_dequeued : is_some (request_under s unique) ≡ true → is_some (waiting s unique) ≡ false
      → interrupt_effect s unique true ≡ Dequeued
  unread_dequeued there none = by (request_under s unique) there none
    where
      marked : (r : QueuedRequest Purpose) (b : Bool) → is_unread r.mark ≡ b
          → is_some (cond b None (Some r.kept)) ≡ false → signal_effect r.mark true s.interrupts_off ≡ Dequeued
      marked r true is gone = takes_out r s.interrupts_off is
      marked r false is gone = absurd (true≢false gone)

      by : (o : Option (QueuedRequest Purpose)) → is_some o ≡ true → is_some (waits_by o) ≡ false
          → effect_by true o ≡ Dequeued
      by None is gone = absurd (true≢false (sym is))
      by (Some r) is gone = marked r (is_unread r.mark) refl gone

-- the request that is found for a call is one of those under its number
found_under : (call : ℕ) (es : List Entry) (unique : ℕ)
    → option_map (λ (e : Entry). e.0) (first_for call es) ≡ Some unique → is_some (lookup (nat_eq unique) es) ≡ true
found_under call [] unique is =
    let no : ◌≡◌ {A = Option ℕ} None (Some unique) = is in
    cc
found_under call (e ∷ es) unique is = by (is_for call e.1.kept) is (nat_eq unique e.0) (eqb_tells unique e.0)
    (found_under call es unique)
  where
    by : (b : Bool) → option_map (λ (x : Entry). x.0) (cond b (Some e) (first_for call es)) ≡ Some unique → (t : Bool)
        → ((t ≡ true) × (unique ≡ e.0)) ⊎ ((t ≡ false) × (unique ≢ e.0))
        → (option_map (λ (x : Entry). x.0) (first_for call es) ≡ Some unique
        → is_some (lookup (nat_eq unique) es) ≡ true) → is_some (cond t (Some e.1) (lookup (nat_eq unique) es))
        ≡ true
    by b is true tells rest = refl
    by true is false tells rest =
        let same : e.0 ≡ unique = cc is in
        elim tells [ inl h ↦ absurd (true≢false (sym h.0)) | inr h ↦ absurd (h.1 (sym same)) ]
    by false is false tells rest = rest is

pub current_there : (k : Kernel) (call unique : ℕ) → request_of k call ≡ Some unique
    → is_some (request_under k.queues unique) ≡ true
current_there k call unique is = found_under call k.queues.requests unique is

-- A signal to a call without a request does nothing.
pub unrequested : (k : Kernel) (call : ℕ) (state : CallState Opened) (fatal : Bool) → request_of k call ≡ None
    → call_signalled k call state fatal ≡ (NoEffect, k)
unrequested k call state fatal none = ap (signalled_at k call state fatal) none

requested : (k : Kernel) (call : ℕ) (state : CallState Opened) (fatal : Bool) (unique : ℕ)
    → request_of k call ≡ Some unique → call_signalled k call state fatal
    ≡ signalled_at k call state fatal (Some unique)
requested k call state fatal unique at = ap (signalled_at k call state fatal) at

-- A signal that lets a closed file go needs a number.
module _ (k : Kernel) (call unique : ℕ) (fatal : Bool) (current : request_of k call ≡ Some unique)
    (effect : interrupt_effect k.queues unique fatal ≡ Dequeued) (p : LacksUniqueForRelease k call) where
  abbrev over : Kernel
  over = record k { vfs = answered k.vfs call (failed eintr); queues = after_dequeue k.queues unique }

  let_go : is_kernel_past_end (after_use over (using p.open_call p.operation)) ≡ true
  let_go = closed_some (get k.closing p.open_call) refl p.closed
    where
      closed_some : (o : Option Opened) → get k.closing p.open_call ≡ o → is_some o ≡ true
          → is_kernel_past_end (released_if_idle over p.open_call) ≡ true
      closed_some None at is = absurd (true≢false (sym is))
      closed_some (Some file) at is = ap is_kernel_past_end (released_some over p.open_call file at p.idle) ∙ asks_past over call
          (Some p.operation) refl p.none_left

  past : is_kernel_past_end (call_signalled k call (using p.open_call p.operation) fatal).1 ≡ true
  past =
      ap (λ (r : IntrEffect × Kernel). is_kernel_past_end r.1)
      (requested k call (using p.open_call p.operation) fatal unique current)
      ∙ ap (λ (e : IntrEffect). is_kernel_past_end (after_signal (record k { queues = after_effect k.queues unique e }) call
      (using p.open_call p.operation) e)) effect ∙ let_go

  pub exhausted : is_live k.phase ≡ true → signal_refusal k call fatal ≡ Some Exhausted
  exhausted live =
      ap (λ (b : Bool). refusal_in (unless (not b) NotReady (signalled (get k.vfs.calls call)))) live
      ∙ ap (λ (o : Option (CallState Opened)). refusal_in (signalled o)) p.is
      ∙ ap (λ (b : Bool). refusal_in (unless b Exhausted accepted)) past
    where
      signalled : Option (CallState Opened) → Result (Unit {0}) Refusal
      signalled o = found o (λ (state : CallState Opened). within_counters (call_signalled k call state fatal).1)

-- A call that is unanswered stands somewhere.
pub signalled_there : (k : Kernel) (call : ℕ) (fatal : Bool) (effect : IntrEffect) (after : Kernel)
    (o : Option (CallState Opened)) → get k.vfs.calls call ≡ o → is_some o ≡ true
    → ((state : CallState Opened) → get k.vfs.calls call ≡ Some state
    → call_signalled k call state fatal ≡ (effect, after)) → IsSignalled k call fatal effect after
signalled_there k call fatal effect after None at there is = absurd (true≢false (sym there))
signalled_there k call fatal effect after (Some state) at there is =
    record { state = state; unanswered = at; signalled = is state at }
