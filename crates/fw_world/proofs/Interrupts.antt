-- Signals, reads of INTERRUPTs and aborts: what the kernel made of them is what the machine makes of them, and what it
-- refuses the machine refuses.
use Rattle.std.proofs.Common.{◌≡◌, ℕ, Bool, false, not, List, ◌∷◌, Option, Some, None, Ok, Err, refl, ap, ◌∙◌}
use Rattle.fuse_spec.specs.declared.IntrEffect.{IntrEffect}
use Rattle.fuse_spec.specs.declared.Opened.{Opened}
use Rattle.fuse_spec.specs.declared.Refusal.{Refusal}
use Rattle.fuse_spec.specs.declared.Refusal.TheVariants as refusal
use Rattle.fuse_spec.specs.Values.Maps.{get}
use Rattle.fuse_spec.specs.Kernel.Kernel.{Kernel, is_live, call_signalled}
use Rattle.fuse_spec.specs.Kernel.Uniques.{interrupt_number}
use Rattle.fuse_spec.specs.Calls.Vfs.{CallState}
use Rattle.fuse_spec.specs.World.Worlds.{World, world_after_read_interrupt, after_abort}
use Rattle.fuse_spec.specs.World.Events.{Outcome}
use Rattle.fuse_spec.specs.World.Events as event
use Rattle.std.specs.Prelude.{Result}
use Rattle.fuse_spec.specs.Kernel.Refusals.{first_found, found, refusal_in, accepted}
use Rattle.fuse_spec.specs.World.Steps.{Stepped, going, is_past, reading_interrupt, signalling, Happens, IsRefused}
use Rattle.fk_kernel.specs.Refused.{within_counters, signal_refusal, IsSignalled, read_interrupt_refusal, abort_refusal}
use Rattle.fw_world.proofs.Judged.{unless_ok, unless_refused, found_refused, first_refused, not_refused}
use Rattle.fw_world.proofs.Happening.{goes}
use Rattle.fw_world.proofs.Refusing.{past_counters}

-- any ids will do, where none is given
abbrev any_id : ℕ → ℕ
any_id file = file

-- ---- a signal

-- the counters after a signal to a call that stands so
abbrev counted : World → ℕ → Bool → CallState Opened → Result (Unit {0}) Refusal
counted w call fatal state = within_counters (call_signalled w.kernel call state fatal).1

pub signals : (w : World) (call : ℕ) (fatal : Bool) (effect : IntrEffect) (kernel : Kernel)
    → signal_refusal w.kernel call fatal ≡ None → IsSignalled w.kernel call fatal effect kernel
    → is_past (record w { kernel = kernel }) ≡ false
    → Happens w (event.intr call fatal) (event.interrupted call effect) (record w { kernel = kernel })
signals w call fatal effect kernel judged is within =
    let at = get w.kernel.vfs.calls call in
    let outcome = event.interrupted call effect in (
      any_id,
      tt,
      unless_ok (not (is_live w.kernel.phase)) refusal.NotReady (found at (counted w call fatal))
          (found at (signalling w call fatal)) (outcome, record w { kernel = kernel }) judged
          (ap (λ (o : Option (CallState Opened)). found o (signalling w call fatal)) is.unanswered
          ∙ ap (λ (m : IntrEffect × Kernel). going (event.interrupted call m.0)
          (record w { kernel = m.1 })) is.signalled
          ∙ goes outcome (record w { kernel = kernel }) within),
    )

pub signal_refused : (w : World) (call : ℕ) (fatal : Bool) (r : Refusal) → signal_refusal w.kernel call fatal ≡ Some r
    → IsRefused w (event.intr call fatal) r
signal_refused w call fatal r judged choice may =
    let at = get w.kernel.vfs.calls call in
    unless_refused (not (is_live w.kernel.phase)) refusal.NotReady (found at (counted w call fatal))
    (found at (signalling w call fatal)) r judged
    (λ e. found_refused at (counted w call fatal) (signalling w call fatal) r e state_refused)
  where
    state_refused : (state : CallState Opened) → refusal_in (counted w call fatal state) ≡ Some r
        → signalling w call fatal state ≡ Err r
    state_refused state e =
        let moved = call_signalled w.kernel call state fatal in
        past_counters (event.interrupted call moved.0) moved.1 (record w { kernel = moved.1 }) refl r e

-- ---- the oldest INTERRUPT

pub reads_interrupt : (w : World) (original : ℕ) (rest : List ℕ) → read_interrupt_refusal w.kernel ≡ None
    → w.kernel.queues.interrupts ≡ original ∷ rest → is_past (world_after_read_interrupt w original) ≡ false
    → Happens w event.read_interrupt (event.is_read (interrupt_number original)) (world_after_read_interrupt w original)
reads_interrupt w original rest judged first within =
    let outcome = event.is_read (interrupt_number original) in (
      any_id,
      tt,
      unless_ok (not (is_live w.kernel.phase)) refusal.NotReady
          (first_found w.kernel.queues.interrupts (λ (n : ℕ). accepted))
          (first_found w.kernel.queues.interrupts (reading_interrupt w))
          (outcome, world_after_read_interrupt w original) judged
          (ap (λ (xs : List ℕ). first_found xs (reading_interrupt w)) first
          ∙ goes outcome (world_after_read_interrupt w original) within),
    )

pub read_interrupt_refused : (w : World) (r : Refusal) → read_interrupt_refusal w.kernel ≡ Some r
    → IsRefused w event.read_interrupt r
read_interrupt_refused w r judged choice may =
    let queued = w.kernel.queues.interrupts in
    unless_refused (not (is_live w.kernel.phase)) refusal.NotReady (first_found queued (λ (n : ℕ). accepted))
    (first_found queued (reading_interrupt w)) r judged
    (λ e. first_refused queued (λ (n : ℕ). accepted) (reading_interrupt w) r e
    (λ n. not_refused (reading_interrupt w n) r))

-- ---- an abort

pub aborts : (w : World) → abort_refusal w.kernel ≡ None → Happens w event.abort event.aborted (after_abort w)
aborts w judged =
    let aborted : Outcome × World = (event.aborted, after_abort w) in
    (any_id, tt, unless_ok (not (is_live w.kernel.phase)) refusal.NotReady accepted (Ok aborted) aborted judged refl)

pub abort_refused : (w : World) (r : Refusal) → abort_refusal w.kernel ≡ Some r → IsRefused w event.abort r
abort_refused w r judged choice may =
    let aborted : Stepped = Ok (event.aborted, after_abort w) in
    unless_refused (not (is_live w.kernel.phase)) refusal.NotReady accepted aborted r judged (not_refused aborted r)
