-- Which steps the plain world takes with an event and its outcome. `chosen` is the label of the ask that the event
-- puts, if it puts one, or of the ask that a signal reaches, or the directory in which a name is dropped.
use Rattle.std.specs.Prelude.{◌≡◌, ℕ, ◌+◌, ◌-◌, Bool, true, false, ◌&&◌, cond, not, Option, Some, None, nat_eq, is_some}
use Rattle.fuse_spec.specs.Values.Maps.{get}
use Rattle.fuse_spec.specs.Calls.Vfs.{CallState}
use Rattle.fuse_spec.specs.Files.Operations.{Reply}
use Rattle.fuse_spec.specs.declared.IntrEffect.{IntrEffect}
use Rattle.fuse_spec.specs.declared.IntrEffect.TheVariants as effect
use Rattle.fuse_spec.specs.declared.WriteResult.TheVariants.{Accepted, NoEntry, Invalid}
use Rattle.fuse_spec.specs.declared.Taken.TheVariants as word
use Rattle.fuse_spec.specs.World.Events.{Event, Outcome}
use Rattle.fuse_spec.specs.World.Events as event
use Rattle.fuse_spec.specs.Reference.Plain.{Plain, Ask, Stage, waiting, performed, declined, plain_call_put, ask_performed, ask_declined, ask_delivered, ask_interrupted, ask_noted, ask_marked, plain_later, name_dropped, plain_aborted, plain_mounted}

-- A step, where the condition holds.
abbrev pub where_so : Bool → Plain → Option Plain
where_so condition p = cond condition (Some p) None

-- An ask is performed, or declined if it is marked and a signal was noted. Only a waiting one is.
abbrev pub serving_ask : Plain → ℕ → Ask → Stage → Option Plain
serving_ask p label ask waiting = cond ask.marked (where_so ask.noted (ask_declined p label ask))
    (Some (ask_performed p label ask))
serving_ask p label ask (performed reply) = None
serving_ask p label ask declined = None

-- The ask under this label is served; a request with no ask (INIT, RELEASE) takes no step.
abbrev pub serving : Plain → ℕ → Option Ask → Option Plain
serving p label None = Some p
serving p label (Some ask) = serving_ask p label ask ask.stage

-- The reply to a performed ask reaches its call, if that is unanswered and what it asks next can have the coming label.
abbrev pub delivering_to_call : Plain → (label next : ℕ) → Ask → Reply ℕ ℕ → Option (CallState ℕ) → Option Plain
delivering_to_call p label next ask reply None = None
delivering_to_call p label next ask reply (Some state) =
    where_so (not (is_some (get p.asks next))) (ask_delivered p label next ask reply state)

-- The reply to a performed ask reaches its call, and a declined one answers its call EINTR, if that is unanswered.
abbrev pub delivering_reply : Plain → (label next : ℕ) → Ask → Stage → Option Plain
delivering_reply p label next ask waiting = None
delivering_reply p label next ask (performed reply) = delivering_to_call p label next ask reply
    (get p.vfs.calls ask.call)
delivering_reply p label next ask declined = where_so (ask.noted && is_some (get p.vfs.calls ask.call))
    (ask_interrupted p label ask)

-- A reply that is accepted is delivered to the call of its ask, and one under a label of no ask takes no step.
abbrev pub delivering : Plain → (label next : ℕ) → Option Ask → Option Plain
delivering p label next None = Some p
delivering p label next (Some ask) = delivering_reply p label next ask ask.stage

-- A signal is noted on an ask; one that took the request off the list also ends the ask.
abbrev pub signalled_ask : Plain → IntrEffect → (label : ℕ) → Ask → Plain
signalled_ask p effect.Dequeued label ask = ask_interrupted p label ask
signalled_ask p effect.Flagged label ask = ask_noted p label ask
signalled_ask p effect.Queued label ask = ask_noted p label ask
signalled_ask p effect.None label ask = ask_noted p label ask

-- Only an ask that waits is ended by a signal.
abbrev pub may_signal : IntrEffect → Stage → Bool
may_signal effect.Dequeued waiting = true
may_signal effect.Dequeued (performed reply) = false
may_signal effect.Dequeued declined = false
may_signal effect.Flagged stage = true
may_signal effect.Queued stage = true
may_signal effect.None stage = true

-- A signal reaches the ask of its call, if that is unanswered.
abbrev pub plain_signalling : Plain → IntrEffect → (call label : ℕ) → Option Ask → Option Plain
plain_signalling p signal call label None = None
plain_signalling p signal call label (Some ask) = where_so
    (is_some (get p.vfs.calls call) && (nat_eq ask.call call && may_signal signal ask.stage))
    (signalled_ask p signal label ask)

-- An INTERRUPT marks the ask of its original, if there is one.
abbrev pub marking : Plain → ℕ → Option Ask → Option Plain
marking p label None = Some p
marking p label (Some ask) = Some (ask_marked p label ask)

-- The plain world after an event with this outcome. With any other outcome than the event can have there is no step.
abbrev pub takes : ℕ → Plain → Event → Outcome → Option Plain
takes chosen p (event.call call) (event.begun number) =
    where_so (nat_eq number p.vfs.next_call && not (is_some (get p.asks chosen))) (plain_call_put p chosen call)
takes chosen p (event.perform unique) (event.performed u errno lost) = serving p unique (get p.asks unique)
takes chosen p (event.write k) (event.written unique Accepted) = delivering p unique chosen (get p.asks unique)
takes chosen p (event.write k) (event.written unique NoEntry) = Some p
takes chosen p (event.write k) (event.written unique Invalid) = Some p
takes chosen p (event.intr call fatal) (event.interrupted c effect) =
    plain_signalling p effect call chosen (get p.asks chosen)
takes chosen p (event.take k) (event.taken unique word.Marked) = marking p (unique - 1) (get p.asks (unique - 1))
takes chosen p (event.take k) (event.taken unique other) = Some p
takes chosen p (event.tick ms) (event.now clock) = where_so (nat_eq clock (p.vfs.clock + ms)) (plain_later p ms)
takes chosen p (event.drop_name node name) event.dropped = Some (name_dropped p chosen name)
takes chosen p event.abort event.aborted = Some (plain_aborted p)
takes chosen p (event.mount found_ms missing_ms minor) event.mounted =
    Some (plain_mounted p (record { found_ms = found_ms; missing_ms = missing_ms }) minor)
-- these are no steps of the plain world
takes chosen p event.read_interrupt (event.is_read unique) = Some p
takes chosen p (event.read_forgets n) (event.is_read unique) = Some p
takes chosen p (event.read_pending k) (event.is_read unique) = Some p
takes chosen p (event.again unique) (event.sent_again u) = Some p
takes chosen p (event.settle k) (event.settled unique result) = Some p
takes chosen p (event.evict node) (event.evicted n count) = Some p
takes chosen p e o = None

-- With this event and outcome the plain world goes from p to q.
abbrev pub Takes : Plain → Event → Outcome → Plain → Type 0
Takes p e o q = (chosen : ℕ) × (takes chosen p e o ≡ Some q)
