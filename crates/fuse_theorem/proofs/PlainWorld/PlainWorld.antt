-- Each step of the plain world is one in its own words.
use Rattle.fuse_spec.specs.declared.Minor.TheVariants.{M15, M31}
use Rattle.fuse_spec.specs.declared.Minor.{Minor}
use Rattle.std.proofs.Common.{◌≡◌, ℕ, ◌+◌, ◌-◌, Bool, true, false, not, ◌&&◌, cond, Option, Some, None, nat_eq, is_some, refl, sym, subst, inl, inr}
use Rattle.std.proofs.lemmas.Bool.Decides.{eqb_tells}
use Rattle.fuse_spec.specs.declared.IntrEffect.{IntrEffect}
use Rattle.fuse_spec.specs.declared.IntrEffect.TheVariants as effect
use Rattle.fuse_spec.specs.declared.Taken.TheVariants.{Held, Forgot, Marked, Ignored, Again}
use Rattle.fuse_spec.specs.declared.WriteResult.TheVariants.{Accepted, NoEntry, Invalid}
use Rattle.fuse_spec.specs.Values.Maps.{get, remove}
use Rattle.fuse_spec.specs.Files.Operations.{Operation, Reply}
use Rattle.fuse_spec.specs.Calls.Calls as call
use Rattle.fuse_spec.specs.Calls.Calls.{Call, for_minor, lists_files_at}
use Rattle.fuse_spec.specs.Calls.Vfs.{CallState, Vfs, begun, abandoned}
use Rattle.fuse_spec.specs.Calls.CallReplies.{call_replied}
use Rattle.fuse_spec.specs.Reference.Plain.{Plain, Ask, Stage, waiting, performed, declined, ask_put, going_on, plain_call_put, ask_performed, ask_declined, ask_delivered, ask_interrupted, plain_later}
use Rattle.fuse_spec.specs.Reference.PlainSteps.{where_so, serving_ask, serving, delivering_to_call, delivering_reply, delivering, may_signal, signalled_ask, plain_signalling, marking, takes, Takes}
use Rattle.fuse_spec.specs.World.Events.{Event, Outcome}
use Rattle.fuse_spec.specs.World.Events as event
use Rattle.fuse_spec.specs.Reference.PlainWords.{one_more, Asks, Steps, PutAs}
use Rattle.fuse_spec.specs.Reference.PlainWords as plain
use Rattle.fuse_theorem.proofs.PlainWorld.PlainBegins.{begins}
use Rattle.fuse_theorem.proofs.PlainWorld.PlainGivesUp.{abandons}
use Rattle.fuse_theorem.proofs.PlainWorld.PlainReplies.{receives}

-- ---- conditions

-- A step that is taken where a condition holds.
record TakenSo (condition : Bool) (p q : Plain) : Type 0 where
  pub so : condition ≡ true
  pub leads : p ≡ q

taken_so : (condition : Bool) (p q : Plain) → where_so condition p ≡ Some q → TakenSo condition p q
taken_so true p q e = record { so = refl; leads = cc }
taken_so false p q e = absurd (cc)

is_free : (o : Option Ask) → not (is_some o) ≡ true → o ≡ None
is_free None e = refl
is_free (Some ask) e = absurd (cc)

-- two tests that both hold
record Both (a b : Bool) : Type 0 where
  pub first : a ≡ true
  pub second : b ≡ true

both : (a b : Bool) → (a && b) ≡ true → Both a b
both true b e = record { first = refl; second = e }
both false b e = absurd (cc)

-- an option that is there
standing : {X : Type 0} (o : Option X) → is_some o ≡ true → (x : X) × (o ≡ Some x)
standing None e = absurd (cc)
standing (Some x) e = (x, refl)

same_number : (a b : ℕ) → nat_eq a b ≡ true → b ≡ a
same_number a b e = elim (eqb_tells a b) [ inl h ↦ sym h.1 | inr h ↦ absurd (cc) ]

-- ---- the steps

asks : (p : Plain) (label number : ℕ) (after : Vfs ℕ) (asked : Option (Operation ℕ ℕ))
    → Asks p label number after asked (ask_put (record p { vfs = after }) label number asked)
asks p label number after None = plain.nothing
asks p label number after (Some operation) = plain.puts_ask operation

-- A call is put as it is in words.
put_as : (m : Minor) (x : Call) → PutAs m x (for_minor (lists_files_at m) x)
put_as M31 x = plain.in_full x
put_as M15 (call.listplus path after) = plain.names_alone path after
put_as M15 x = plain.any_other x (λ path after e. absurd (cc (e)))

module _ (p q : Plain) where
  -- A step to r is one to q, which is r.
  goes : (e : Event) (o : Outcome) (r : Plain) → r ≡ q → Steps p e o r → Steps p e o q
  goes e o r same step = subst (λ (s : Plain). Steps p e o s) same step

  some_goes : (e : Event) (o : Outcome) (r : Plain) → ◌≡◌ {A = Option Plain} (Some r) (Some q) → Steps p e o r
      → Steps p e o q
  some_goes e o r same step = goes e o r (cc) step

  call_begins : (x : Call) (label : ℕ) → get p.asks label ≡ None
      → Steps p (event.call x) (event.begun p.vfs.next_call) (plain_call_put p label x)
  call_begins x label free = by p.aborted refl
    where
      y : Call
      y = for_minor (lists_files_at p.minor) x

      by : (aborted : Bool) → p.aborted ≡ aborted → Steps p (event.call x) (event.begun p.vfs.next_call)
          (going_on p label p.vfs.next_call (begun aborted p.vfs (for_minor (lists_files_at p.minor) x)))
      by true lost = plain.begins_after_abort x lost
      by false live =
          let went = begun false p.vfs y in
          plain.begins x y label went.vfs went.operation (going_on p label p.vfs.next_call went) live free
          (put_as p.minor x) (begins (one_more p.vfs) p.vfs.next_call y)
          (asks p label p.vfs.next_call went.vfs went.operation)

  performs : (unique u errno : ℕ) (lost : Bool) (o : Option Ask) → get p.asks unique ≡ o → serving p unique o ≡ Some q
      → Steps p (event.perform unique) (event.performed u errno lost) q
  performs unique u errno lost None there e = some_goes _ _ p e (plain.performs_no_ask unique u errno lost there)
  performs unique u errno lost (Some ask) there e = by ask.stage refl e
    where
      by_mark : (marked : Bool) → ask.stage ≡ waiting → ask.marked ≡ marked
          → cond marked (where_so ask.noted (ask_declined p unique ask)) (Some (ask_performed p unique ask)) ≡ Some q
          → Steps p (event.perform unique) (event.performed u errno lost) q
      by_mark true stage mark f = let did = taken_so ask.noted (ask_declined p unique ask) q f in
          goes _ _ _ did.leads (plain.declines unique u errno lost ask there stage mark did.so)
      by_mark false stage mark f = some_goes _ _ _ f (plain.performs unique u errno lost ask there stage mark)

      by : (stage : Stage) → ask.stage ≡ stage → serving_ask p unique ask stage ≡ Some q
          → Steps p (event.perform unique) (event.performed u errno lost) q
      by waiting stage f = by_mark ask.marked stage refl f
      by (performed reply) stage f = absurd (cc)
      by declined stage f = absurd (cc)

  tells : (k unique label : ℕ) (o : Option Ask) → get p.asks unique ≡ o → delivering p unique label o ≡ Some q
      → Steps p (event.write k) (event.written unique Accepted) q
  tells k unique label None there e = some_goes _ _ p e (plain.delivers_no_ask k unique there)
  tells k unique label (Some ask) there e = by ask.stage refl e
    where
      by_call : (reply : Reply ℕ ℕ) → ask.stage ≡ performed reply → (standing : Option (CallState ℕ))
          → get p.vfs.calls ask.call ≡ standing → delivering_to_call p unique label ask reply standing ≡ Some q
          → Steps p (event.write k) (event.written unique Accepted) q
      by_call reply stage None stands f = absurd (cc)
      by_call reply stage (Some state) stands f =
          let did = taken_so (not (is_some (get p.asks label))) (ask_delivered p unique label ask reply state) q f in
          let went = call_replied p.vfs ask.call state reply in
          goes _ _ _ did.leads
          (plain.delivers k unique label ask reply state went.vfs went.operation
          (ask_delivered p unique label ask reply state) there stage stands (is_free (get p.asks label) did.so)
          (receives p.vfs ask.call state reply)
          (asks (record p { asks = remove p.asks unique }) label ask.call went.vfs went.operation))

      by : (stage : Stage) → ask.stage ≡ stage → delivering_reply p unique label ask stage ≡ Some q
          → Steps p (event.write k) (event.written unique Accepted) q
      by waiting stage f = absurd (cc)
      by (performed reply) stage f = by_call reply stage (get p.vfs.calls ask.call) refl f
      by declined stage f =
          let did = taken_so (ask.noted && is_some (get p.vfs.calls ask.call)) (ask_interrupted p unique ask) q f in
          let holds = both ask.noted (is_some (get p.vfs.calls ask.call)) did.so in
          let state = standing (get p.vfs.calls ask.call) holds.second in
          goes _ _ _ did.leads (plain.delivers_eintr k unique ask state.0 there stage holds.first state.1)

  signals : (number label : ℕ) (fatal : Bool) (c : ℕ) (signal : IntrEffect) (o : Option Ask) → get p.asks label ≡ o
      → plain_signalling p signal number label o ≡ Some q → Steps p (event.intr number fatal) (event.interrupted c signal) q
  signals number label fatal c signal None there e = absurd (cc)
  signals number label fatal c signal (Some ask) there e =
      let did = taken_so (is_some (get p.vfs.calls number) && (nat_eq ask.call number && may_signal signal ask.stage))
      (signalled_ask p signal label ask) q e in
      let waits_so = both (is_some (get p.vfs.calls number))
      (nat_eq ask.call number && may_signal signal ask.stage) did.so in
      let state = standing (get p.vfs.calls number) waits_so.first in
      let holds = both (nat_eq ask.call number) (may_signal signal ask.stage) waits_so.second in
      goes _ _ _ did.leads (by state.0 state.1 signal holds.second (sym (same_number ask.call number holds.first)))
    where
      waits : (stage : Stage) → may_signal effect.Dequeued stage ≡ true → stage ≡ waiting
      waits waiting h = refl
      waits (performed reply) h = absurd (cc)
      waits declined h = absurd (cc)

      by : (state : CallState ℕ) → get p.vfs.calls number ≡ Some state → (x : IntrEffect)
          → may_signal x ask.stage ≡ true → ask.call ≡ number
          → Steps p (event.intr number fatal) (event.interrupted c x) (signalled_ask p x label ask)
      by state stands effect.Dequeued may of = plain.interrupts number label fatal c ask state there
          (waits ask.stage may) of stands
      by state stands effect.Flagged may of = plain.notes number label fatal c effect.Flagged ask state
          (λ is. cc) there of stands
      by state stands effect.Queued may of = plain.notes number label fatal c effect.Queued ask state
          (λ is. cc) there of stands
      by state stands effect.None may of = plain.notes number label fatal c effect.None ask state
          (λ is. cc) there of stands

  marks : (k unique : ℕ) (o : Option Ask) → get p.asks (unique - 1) ≡ o → marking p (unique - 1) o ≡ Some q
      → Steps p (event.take k) (event.taken unique Marked) q
  marks k unique None there e = some_goes _ _ p e (plain.marks_no_ask k unique there)
  marks k unique (Some ask) there e = some_goes _ _ _ e (plain.marks k unique ask there)

  steps : (chosen : ℕ) (e : Event) (o : Outcome) → takes chosen p e o ≡ Some q → Steps p e o q
  steps chosen (event.call x) (event.begun number) e =
      let did = taken_so (nat_eq number p.vfs.next_call && not (is_some (get p.asks chosen)))
      (plain_call_put p chosen x) q e in
      let tests = both (nat_eq number p.vfs.next_call) (not (is_some (get p.asks chosen))) did.so in
      subst (λ (n : ℕ). Steps p (event.call x) (event.begun n) q) (same_number number p.vfs.next_call tests.first)
      (goes _ _ _ did.leads (call_begins x chosen (is_free (get p.asks chosen) tests.second)))
  steps chosen (event.perform unique) (event.performed u errno lost) e =
      performs unique u errno lost (get p.asks unique) refl e
  steps chosen (event.write k) (event.written unique Accepted) e = tells k unique chosen (get p.asks unique) refl e
  steps chosen (event.write k) (event.written unique NoEntry) e = some_goes _ _ p e (plain.no_entry k unique)
  steps chosen (event.write k) (event.written unique Invalid) e = some_goes _ _ p e (plain.is_invalid k unique)
  steps chosen (event.intr number fatal) (event.interrupted c signal) e =
      signals number chosen fatal c signal (get p.asks chosen) refl e
  steps chosen (event.take k) (event.taken unique Marked) e = marks k unique (get p.asks (unique - 1)) refl e
  steps chosen (event.take k) (event.taken unique Held) e =
      some_goes _ _ p e (plain.takes_other k unique Held (λ is. cc))
  steps chosen (event.take k) (event.taken unique Forgot) e =
      some_goes _ _ p e (plain.takes_other k unique Forgot (λ is. cc))
  steps chosen (event.take k) (event.taken unique Ignored) e =
      some_goes _ _ p e (plain.takes_other k unique Ignored (λ is. cc))
  steps chosen (event.take k) (event.taken unique Again) e =
      some_goes _ _ p e (plain.takes_other k unique Again (λ is. cc))
  steps chosen (event.tick ms) (event.now clock) e =
      let did = taken_so (nat_eq clock (p.vfs.clock + ms)) (plain_later p ms) q e in
      subst (λ (n : ℕ). Steps p (event.tick ms) (event.now n) q) (same_number clock (p.vfs.clock + ms) did.so)
      (goes _ _ _ did.leads (plain.time_passes ms))
  steps chosen (event.drop_name node name) event.dropped e = some_goes _ _ _ e (plain.drops node chosen name)
  steps chosen event.abort event.aborted e = some_goes _ _ _ e (plain.aborts (abandoned p.vfs) (abandons p.vfs))
  steps chosen (event.mount found_ms missing_ms minor) event.mounted e =
      some_goes _ _ _ e (plain.mounts found_ms missing_ms minor (abandoned p.vfs) (abandons p.vfs))
  steps chosen event.read_interrupt (event.is_read unique) e = some_goes _ _ p e (plain.reads_interrupt unique)
  steps chosen (event.read_forgets n) (event.is_read unique) e = some_goes _ _ p e (plain.reads_forgets n unique)
  steps chosen (event.read_pending k) (event.is_read unique) e = some_goes _ _ p e (plain.reads_pending k unique)
  steps chosen (event.again unique) (event.sent_again u) e = some_goes _ _ p e (plain.sends_again unique u)
  steps chosen (event.settle k) (event.settled unique result) e = some_goes _ _ p e (plain.settles k unique result)
  steps chosen (event.evict node) (event.evicted n count) e = some_goes _ _ p e (plain.evicts node n count)
  steps chosen e o is = absurd (cc)

-- Each step of the plain world, as the theorem has it, is one in its own words.
pub steps_in_words : (p q : Plain) (e : Event) (o : Outcome) → Takes p e o q → Steps p e o q
steps_in_words p q e o took = steps p q took.0 e o took.1
