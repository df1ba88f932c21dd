-- A signal reaches an unanswered call in both worlds.
use Rattle.std.proofs.Common.{◌≡◌, ◌≢◌, ℕ, Bool, true, false, true≢false, ◌&&◌, Option, Some, None, nat_eq, option_map, get_or, All, refl, ap, sym, subst, ◌∙◌, arith, inl, inr, is_some}
use Rattle.std.specs.Option.{option_map_or}
use Rattle.std.specs.Prelude.{MatchOption}
use Rattle.std.proofs.lemmas.Bool.{cases_eq}
use Rattle.fuse_spec.specs.declared.IntrEffect.{IntrEffect}
use Rattle.fuse_spec.specs.declared.IntrEffect.TheVariants.{Dequeued, Flagged, Queued, None as NoEffect}
use Rattle.fuse_spec.specs.declared.Mark.{Mark}
use Rattle.fuse_spec.specs.declared.Mark.TheVariants as mark
use Rattle.fuse_spec.specs.declared.Opened.{Opened}
use Rattle.fuse_spec.specs.declared.Purpose.{Purpose}
use Rattle.fuse_spec.specs.declared.Purpose.TheVariants as purpose
use Rattle.fuse_spec.specs.declared.QueuedRequest.{QueuedRequest}
use Rattle.fuse_spec.specs.Values.Maps.{get}
use Rattle.fuse_spec.specs.Calls.Answers as answer
use Rattle.fuse_spec.specs.Kernel.Signals.{signal_effect}
use Rattle.fuse_spec.specs.Calls.Vfs.{CallState, answered, no_more}
use Rattle.fuse_spec.specs.Kernel.Queues.{QueueState, pending, request_under, is_unread, has_interrupt, is_signalled}
use Rattle.fuse_spec.specs.Kernel.Messages.{RequestBody}
use Rattle.fuse_spec.specs.Kernel.QueueCalls.{interrupt_effect, after_effect, after_dequeue}
use Rattle.fuse_spec.specs.Kernel.Kernel.{Kernel, is_live, body_of, is_for, after_signal, signalled_at, call_signalled}
use Rattle.fuse_spec.specs.World.Worlds.{World}
use Rattle.fuse_spec.specs.World.Events as event
use Rattle.fuse_spec.specs.Reference.Plain.{Plain, Ask, Stage, waiting, performed, declined, ask_noted, ask_interrupted}
use Rattle.fuse_spec.specs.Reference.PlainSteps.{Takes, may_signal, signalled_ask, plain_signalling, where_so}
use Rattle.fuse_spec.specs.Claim.Denotes.{NodeDenotesIn, OpenDenotesIn, StateAlike}
use Rattle.fuse_spec.specs.Files.Operations.{OptionAlike}
use Rattle.fuse_spec.specs.Claim.Alike.{IsPaired, RequestBodyAsked, PurposeAsked, Alike}
use Rattle.fuse_spec.proofs.Tables.{get_put_here}
use Rattle.fuse_spec.proofs.QueueReadings.{key_count-le-one}
use Rattle.fuse_spec.proofs.QueueSoundness.{IsSound-dequeue}
use Rattle.fuse_theorem.specs.Numbering.{IsNumbered, IsOneToOne}
use Rattle.fuse_theorem.specs.Conditions.{UnreadAreUnsent}
use Rattle.fuse_theorem.proofs.Calls.Advancing.{answered_alone}
use Rattle.fuse_theorem.proofs.Refining.Asking.{next_request_refines}
use Rattle.fuse_theorem.proofs.Refining.Ending.{without_ask, not_asked, paused_ended}
use Rattle.fuse_theorem.proofs.Calls.Finding.{same_is, other_is, all_fail, count_less, found_entry}
use Rattle.fuse_theorem.proofs.Requests.PendingCounts.{unread_pending}
use Rattle.fuse_theorem.proofs.Calls.RepliesReceived.{answered_alike}
use Rattle.fuse_theorem.proofs.Refining.SignalNoted.{noted_alike, flagged_alike, interrupted_alike}
use Rattle.fuse_theorem.proofs.Refining.Writing.{used_alike}

-- a request that serves a call
pub serves_call : (call : ℕ) (kept : Purpose) → is_for call kept ≡ true → kept ≡ purpose.Call call
serves_call call purpose.Init e = absurd (true≢false (sym e))
serves_call call (purpose.Release o) e = absurd (true≢false (sym e))
serves_call call (purpose.Call other) e = elim (cases_eq other call) [
  | inl same ↦ ap
      (λ (n : ℕ). purpose.Call n) same
  | inr ne ↦ absurd (true≢false (sym e ∙ other_is other call ne))
]

-- what a signal can do, by the mark
pub dequeues_unread : (m : Mark) (fatal off : Bool) → signal_effect m fatal off ≡ Dequeued → is_unread m ≡ true
dequeues_unread mark.Unread fatal off e = refl
dequeues_unread mark.Flagged fatal off e = refl
dequeues_unread mark.Read fatal true e = absurd (cc)
dequeues_unread mark.Read fatal false e = absurd (cc)
dequeues_unread mark.Interrupted fatal off e = absurd (cc)

pub flags_unread : (m : Mark) (fatal off : Bool) → signal_effect m fatal off ≡ Flagged → is_unread m ≡ true
flags_unread mark.Unread fatal off e = refl
flags_unread mark.Flagged fatal off e = refl
flags_unread mark.Read fatal true e = absurd (cc)
flags_unread mark.Read fatal false e = absurd (cc)
flags_unread mark.Interrupted fatal off e = absurd (cc)

queues_read : (m : Mark) (fatal off : Bool) → signal_effect m fatal off ≡ Queued → is_unread m ≡ false
queues_read mark.Read fatal off e = refl
queues_read mark.Interrupted fatal off e = refl
queues_read mark.Unread true off e = absurd (cc)
queues_read mark.Unread false true e = absurd (cc)
queues_read mark.Unread false false e = absurd (cc)
queues_read mark.Flagged true off e = absurd (cc)
queues_read mark.Flagged false off e = absurd (cc)

quiet_unread : (m : Mark) → is_unread m ≡ true → has_interrupt m ≡ false
quiet_unread mark.Unread e = refl
quiet_unread mark.Flagged e = refl
quiet_unread mark.Read e = refl
quiet_unread mark.Interrupted e = absurd (cc)

module _ (w : World) (p : Plain) (numbered : IsNumbered w) (one : IsOneToOne (NodeDenotesIn w)) (same : Alike w p)
    (live : is_live w.kernel.phase ≡ true) (call : ℕ) (state : CallState Opened)
    (there : get w.kernel.vfs.calls call ≡ Some state) (fatal : Bool)
    (once : UnreadAreUnsent w) where
  pair : IsPaired w p call state
  pair = (same.asks live).of_calls call state there

  abbrev q0 : QueueState Purpose
  q0 = w.kernel.queues

  found : (r : QueuedRequest Purpose) × (request_under q0 pair.unique ≡ Some r) × (is_for call r.kept ≡ true)
  found = found_entry (λ (x : ℕ × QueuedRequest Purpose). is_for call x.1.kept) q0.requests pair.unique
      (key_count-le-one q0 pair.unique numbered.queues) pair.request

  effect_is : interrupt_effect q0 pair.unique fatal ≡ signal_effect found.0.mark fatal q0.interrupts_off
  effect_is = ap (λ (o : Option (QueuedRequest Purpose)). option_map_or
      (λ r. signal_effect r.mark fatal q0.interrupts_off) o NoEffect) found.1

  -- what the signal does, by its effect
  abbrev done_by : IntrEffect → Kernel
  done_by e = after_signal (record w.kernel { queues = after_effect q0 pair.unique e }) call state e

  noted : Alike w (ask_noted p pair.unique pair.ask)
  noted = noted_alike w p same pair.unique pair.ask pair.there

  noted_there : get (ask_noted p pair.unique pair.ask).asks pair.unique ≡ Some (record pair.ask { noted = true })
  noted_there = get_put_here p.asks pair.unique (record pair.ask { noted = true })

  -- an ask of a request that is unread waits
  unread_waits : is_unread found.0.mark ≡ true → pair.ask.stage ≡ waiting
  unread_waits unread = by pair.ask.stage refl
    where
      none_pending : pair.ask.stage ≢ waiting → All (λ (e : ℕ × QueuedRequest Purpose). nat_eq pair.unique e.0 ≡ false)
          (pending q0)
      none_pending over i e lt = under (get_or (pending q0) i e) (same.requests.pending i e lt)
        where
          asks_none : (e : ℕ × QueuedRequest Purpose) → pair.unique ≡ e.0 → (o : Option RequestBody)
              → MatchOption o ⊥ (RequestBodyAsked p.asks e.0 (is_signalled e.1.mark) false (NodeDenotesIn w) (OpenDenotesIn w))
              → ⊥
          asks_none e is None old = old
          asks_none e is (Some body) old = not_asked (NodeDenotesIn w) (OpenDenotesIn w) p.asks e.0
              (is_signalled e.1.mark) false body pair.ask (subst
              (λ (n : ℕ). get p.asks n ≡ Some pair.ask) is pair.there) over old

          under : (e : ℕ × QueuedRequest Purpose) → PurposeAsked w p e → nat_eq pair.unique e.0 ≡ false
          under e old = other_is pair.unique e.0 (λ is. asks_none e is (body_of w.kernel e.1.kept) old)

      not_over : pair.ask.stage ≢ waiting → ⊥
      not_over over =
          let some = unread_pending pair.unique q0 found.0 found.1 unread in
          let none = all_fail (λ (e : ℕ × QueuedRequest Purpose). nat_eq pair.unique e.0) (pending q0)
          (none_pending over) in
          absurd (omega (arith, some, none))

      by : (stage : Stage) → pair.ask.stage ≡ stage → pair.ask.stage ≡ waiting
      by waiting is = is
      by (performed reply) is = absurd (not_over (λ e. cc))
      by declined is = absurd (not_over (λ e. cc))

  -- the signal's step of the plain world may be taken
  may_reach : (e : IntrEffect) → signal_effect found.0.mark fatal q0.interrupts_off ≡ e
      → may_signal e pair.ask.stage ≡ true
  may_reach Dequeued e = ap (may_signal Dequeued) (unread_waits
      (dequeues_unread found.0.mark fatal q0.interrupts_off e))
  may_reach Flagged e = refl
  may_reach Queued e = refl
  may_reach NoEffect e = refl

  dequeued_alike : is_unread found.0.mark ≡ true → Alike (record w { kernel = done_by Dequeued })
      (ask_interrupted p pair.unique pair.ask)
  dequeued_alike unread =
      let serves = serves_call call found.0.kept found.2 in
      let apart = once pair.unique found.0 found.1 unread in
      let paused = paused_ended w p numbered same pair.unique call found.0 pair.ask found.1 serves pair.there q0.interrupts apart.0 apart.1 in
      let sound = IsSound-dequeue q0 pair.unique found.0.mark numbered.queues
      (ap (λ (o : Option (QueuedRequest Purpose)). option_map (λ (r : QueuedRequest Purpose). r.mark) o) found.1)
      (quiet_unread found.0.mark unread) in
      let k1 = record w.kernel { queues = after_dequeue q0 pair.unique } in
      let w1 = record w { kernel = k1 } in
      let numbered1 : IsNumbered w1 = record {
        queues = sound;
        calls_below = numbered.calls_below;
        one_request = λ c. let less = count_less (λ (e : ℕ
            × QueuedRequest Purpose). is_for c e.1.kept) pair.unique q0.requests in let few = numbered.one_request c in
            omega (arith, less, few);
        sent_below = numbered.sent_below;
        replies_below = numbered.replies_below;
        held_below = numbered.held_below;
        kept_below = numbered.kept_below;
      } in
      let stepped : Alike (record w { kernel = record k1 { vfs = answered w.kernel.vfs call (answer.failed 4) } })
      (record (without_ask p pair.unique) { vfs = answered p.vfs call (answer.failed 4) }) =
      next_request_refines w1 (without_ask p pair.unique) call numbered1 paused one same.tree same.validity same.minor same.agreed w.kernel.vfs.next_call (no_more (answered w.kernel.vfs call (answer.failed 4))) (no_more (answered p.vfs call (answer.failed 4)))
      (record {
        vfs = answered_alike (NodeDenotesIn w) (OpenDenotesIn w) one w.kernel.vfs p.vfs same.vfs call call
            (answer.failed 4) (answer.failed 4) refl refl;
        operation = tt;
      })
      (answered_alone w.kernel.vfs call (answer.failed 4)) (λ a e. live) same.aborted in
      used_alike (record w { kernel = record k1 { vfs = answered w.kernel.vfs call (answer.failed 4) } })
      (ask_interrupted p pair.unique pair.ask) sound live
      (subst (λ (c : ℕ). Alike (record w { kernel = record k1 { vfs = answered w.kernel.vfs call (answer.failed 4) } })
      (record (without_ask p pair.unique) { vfs = answered p.vfs c (answer.failed 4) }))
      (sym pair.by) stepped) state

  by_effect : (e : IntrEffect) → signal_effect found.0.mark fatal q0.interrupts_off ≡ e
      → Alike (record w { kernel = done_by e }) (signalled_ask p e pair.unique pair.ask)
  by_effect Dequeued e = dequeued_alike (dequeues_unread found.0.mark fatal q0.interrupts_off e)
  by_effect Flagged e = flagged_alike w (ask_noted p pair.unique pair.ask) noted pair.unique
      (record pair.ask { noted = true }) noted_there refl found.0 found.1
      (flags_unread found.0.mark fatal q0.interrupts_off e)
  by_effect Queued e = interrupted_alike w (ask_noted p pair.unique pair.ask) noted pair.unique
      (record pair.ask { noted = true }) noted_there refl found.0 found.1
      (queues_read found.0.mark fatal q0.interrupts_off e)
  by_effect NoEffect e = noted

  -- the call is unanswered in the plain world too
  unanswered : is_some (get p.vfs.calls call) ≡ true
  unanswered = by (get p.vfs.calls call) (subst (λ (o : Option (CallState Opened)). OptionAlike
      (StateAlike (NodeDenotesIn w) (OpenDenotesIn w)) o (get p.vfs.calls call)) there (same.vfs.calls call))
    where
      by : (o : Option (CallState ℕ)) → OptionAlike (StateAlike (NodeDenotesIn w) (OpenDenotesIn w)) (Some state) o
          → is_some o ≡ true
      by None h = absurd h
      by (Some s) h = refl

  -- A signal to an unanswered call: the plain world notes it on the call's ask, or ends the ask.
  pub signal_goes : (q : Plain) × Takes p (event.intr call fatal)
      (event.interrupted call (call_signalled w.kernel call state fatal).0) q
      × Alike (record w { kernel = (call_signalled w.kernel call state fatal).1 }) q
  signal_goes =
      let e = interrupt_effect q0 pair.unique fatal in
      let q = signalled_ask p e pair.unique pair.ask in
      let may : may_signal e pair.ask.stage ≡ true = subst (λ (x : IntrEffect). may_signal x pair.ask.stage ≡ true)
      (sym effect_is) (may_reach (signal_effect found.0.mark fatal q0.interrupts_off) refl) in
      let mine : nat_eq pair.ask.call call ≡ true = subst (λ (n : ℕ). nat_eq n call ≡ true) (sym pair.by)
      (same_is call) in
      let taken : Takes p (event.intr call fatal) (event.interrupted call e) q = (
        pair.unique,
        ap (λ (o : Option Ask). plain_signalling p e call pair.unique o) pair.there ∙ ap
            (λ (b : Bool). where_so (b && (nat_eq pair.ask.call call && may_signal e pair.ask.stage)) q) unanswered ∙ ap
            (λ (b : Bool). where_so (b && may_signal e pair.ask.stage) q) mine ∙ ap (λ (b : Bool). where_so b q) may,
      ) in
      let alike : Alike (record w { kernel = done_by e }) q =
      subst (λ (x : IntrEffect). Alike (record w { kernel = done_by x }) (signalled_ask p x pair.unique pair.ask))
      (sym effect_is) (by_effect (signal_effect found.0.mark fatal q0.interrupts_off) refl) in
      let whole : signalled_at w.kernel call state fatal (Some pair.unique)
      ≡ call_signalled w.kernel call state fatal = ap (λ (o : Option ℕ). signalled_at w.kernel call state fatal o)
      (sym pair.request) in
      subst (λ (x : IntrEffect × Kernel). (q' : Plain)
      × Takes p (event.intr call fatal) (event.interrupted call x.0) q'
      × Alike (record w { kernel = x.1 }) q') whole (q, taken, alike)
