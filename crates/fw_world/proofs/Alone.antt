-- An event of the kernel alone, in a world.
use Rattle.std.specs.Prelude.{IfErr, IfOk, OnErr}
use Rattle.std.proofs.Common.{subst, ◌≡◌, ℕ, false, [], Result, Ok, Err, inl, refl, sym}
use Rattle.fuse_spec.specs.declared.Refusal.{Refusal}
use Rattle.fuse_spec.specs.Kernel.Kernel.{Kernel}
use Rattle.fuse_spec.specs.World.Events as machine
use Rattle.fuse_spec.specs.World.Steps.{RefusedWith, is_past}
use Rattle.fuse_spec.specs.World.Worlds.{World}
use Rattle.fuse_theorem.specs.SoundWorlds.{IsSoundWorld}
use Rattle.fk_syscalls.specs.Values.{call_of}
use Rattle.fk_kernel.specs.Refused.{begin_refusal}
use Rattle.world_sessions.specs.WorldTransfers.{HasTransfersAt}
use Rattle.fw_world.specs.declared.event.Event.{Event}
use Rattle.fw_world.specs.declared.event.Event.TheVariants.{Call, DropName, Evict, Interrupt, Tick}
use Rattle.fw_world.specs.declared.event.Outcome.{Outcome}
use Rattle.fw_world.specs.declared.event.Outcome.TheVariants as outcome
use Rattle.fw_world.specs.Acts.{ActRefuses, Acts, IsAlone}
use Rattle.fw_world.specs.Frames.{IsShown}
use Rattle.fw_world.specs.Steps.{IsStep}
use Rattle.fw_world.specs.Values.{event_of, outcome_of}
use Rattle.fw_world.proofs.EventEffects.{Made, Within, called, dropped, evicted_so, signalled, ticked}
use Rattle.fw_world.proofs.Interrupts.{signal_refused}
use Rattle.fw_world.proofs.MemoryRefusals.{call_out_of_memory, judged}
use Rattle.fw_world.proofs.Refusing.{call_refused, drop_refused, evict_refused, tick_refused}
use Rattle.fw_world.proofs.Stepped.{happened, refused}
use Rattle.fw_world.proofs.WorldParts.{is_made, world_of}

-- What the kernel made of it is what the machine makes of it, shows no frame, and nothing goes over the device.
pub record MadeAlone (w : World) (sound : IsSoundWorld w) (kernel : Kernel) (e : Event) (o : Outcome) : Type 0 where
  pub made : Made w sound kernel w.server w.requests w.replies w.results (event_of e) (outcome_of o)
  pub shown : (v : World) → IsShown v o
  pub over : (v : World) → HasTransfersAt w (event_of e) v

module _ (w : World) (sound : IsSoundWorld w) (kernel : Kernel)
    (within : Within w sound kernel w.server w.requests w.replies w.results) where
  pub made_alone : (e : Event) → IsAlone e → (o : Outcome) → Acts w.kernel e o kernel → MadeAlone w sound kernel e o
  made_alone (Call call) alone (outcome.Begun number) (may, is, new) = record {
    made = called w sound kernel w.server w.requests w.replies w.results (call_of call) number may is new refl refl refl refl within;
    shown = λ v. tt;
    over = λ v. ([], refl);
  }
  made_alone (Interrupt call fatal) alone (outcome.Interrupted signal effect) (may, same, new) = record {
    made = subst (λ (n : ℕ). Made w sound kernel w.server w.requests w.replies w.results (machine.intr call fatal)
        (machine.interrupted n effect)) (sym same)
        (signalled w sound kernel w.server w.requests w.replies w.results call fatal effect may new refl refl refl refl within);
    shown = λ v. tt;
    over = λ v. ([], refl);
  }
  made_alone (Tick ms) alone (outcome.Now clock) (may, is, new) = record {
    made = ticked w sound kernel w.server w.requests w.replies w.results ms clock may is new refl refl refl refl;
    shown = λ v. tt;
    over = λ v. ([], refl);
  }
  made_alone (DropName directory name) alone outcome.Dropped (may, new) = record {
    made = dropped w sound kernel w.server w.requests w.replies w.results directory name.now may new refl refl refl refl;
    shown = λ v. tt;
    over = λ v. ([], refl);
  }
  made_alone (Evict node) alone (outcome.Evicted evicted count) (may, same, (counted, there, is, new)) = record {
    made = subst (λ (n : ℕ). Made w sound kernel w.server w.requests w.replies w.results (machine.evict node)
        (machine.evicted n count)) (sym same)
        (evicted_so w sound kernel w.server w.requests w.replies w.results node count counted may there (sym is) new refl refl refl refl);
    shown = λ v. tt;
    over = λ v. ([], refl);
  }
  made_alone e alone o does = absurd search

-- What the kernel refuses it for is what the machine refuses it for.
pub refused_alone : (w : World) → is_past w ≡ false → (e : Event) → IsAlone e → (r : Refusal) → ActRefuses w.kernel e r
    → RefusedWith w (event_of e) r
refused_alone w within (Call call) alone r refuses =
    judged w (machine.call (call_of call)) (begin_refusal w.kernel (call_of call)) r (call_refused w (call_of call))
    (λ none is. call_out_of_memory w within (call_of call) none r is) refuses
refused_alone w within (Interrupt call fatal) alone r refuses = inl (signal_refused w call fatal r refuses)
refused_alone w within (Tick ms) alone r refuses = inl (tick_refused w ms r refuses)
refused_alone w within (DropName directory name) alone r refuses = inl (drop_refused w directory name.now r refuses)
refused_alone w within (Evict node) alone r refuses = inl (evict_refused w node r refuses)
refused_alone w within e alone r refuses = absurd alone

-- A step of the kernel alone is a step of the world, which stays sound.
pub stepped : (w : World) (sound : IsSoundWorld w) (kernel : Kernel)
    → Within w sound kernel w.server w.requests w.replies w.results → (e : Event) → IsAlone e → (r : Result Outcome Refusal)
    → IfOk r (λ o. Acts w.kernel e o kernel) → IfErr r (ActRefuses w.kernel e) → OnErr r (kernel ≡ w.kernel)
    → IsStep w (event_of e) r (world_of kernel w.server w.requests w.replies w.results)
    × IsSoundWorld (world_of kernel w.server w.requests w.replies w.results)
stepped w sound kernel within e alone (Ok o) does refuses same =
    let m = made_alone w sound kernel within e alone o does in
    let v = world_of kernel w.server w.requests w.replies w.results in
    (happened w v (event_of e) o m.made.0 (m.shown v) (m.over v), m.made.1)
stepped w sound kernel within e alone (Err r) does refuses same =
    let back = is_made w kernel w.server w.requests w.replies w.results same refl refl refl refl in (
      refused w (world_of kernel w.server w.requests w.replies w.results) (event_of e) r back
          (refused_alone w (within w (sym same) refl) e alone r refuses),
      subst IsSoundWorld (sym back) sound,
    )
