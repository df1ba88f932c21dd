-- An event that happened carries the headline.
use Rattle.std.proofs.Common.{◌≡◌, ℕ, Bool, true, false, refl, Result, Ok, Err, Option, Some, None, subst, sym}
use Rattle.std.specs.Prelude.{IfOk, IfSome}
use Rattle.fuse_spec.specs.declared.Refusal.{Refusal}
use Rattle.fuse_spec.specs.World.Events.{Event as EventValue, Outcome as OutcomeValue, abort, aborted}
use Rattle.fuse_spec.specs.Kernel.Kernel.{Kernel}
use Rattle.fuse_spec.specs.Values.Maps.{remove}
use Rattle.fuse_spec.specs.Reference.Plain.{Plain}
use Rattle.fuse_spec.specs.Claim.Alike.{Alike}
use Rattle.fuse_spec.specs.Claim.Runs.{plain_handed_out}
use Rattle.fuse_spec.specs.Claim.Sessions.{linked}
use Rattle.fuse_spec.specs.World.Steps.{Happens}
use Rattle.fuse_spec.specs.World.Worlds.{World}
use Rattle.fuse_theorem.specs.SoundWorlds.{IsSoundWorld}
use Rattle.fuse_theorem.proofs.WholeLists.SoundWorlds.{sound_next}
use Rattle.fuse_theorem.proofs.Refining.Refining.{event_refines, over_stays, kept, handing_out}
use Rattle.fw_world.specs.declared.event.Event.{Event}
use Rattle.fw_world.specs.declared.event.Outcome.{Outcome}
use Rattle.fw_world.specs.OverLinks.{StepsOver, goes_on, link_fails, session_of}
use Rattle.fw_world.specs.Runs.{StepsAs}
use Rattle.fw_world.specs.Values.{event_of, outcome_of}

-- What happens in a world that events led to carries the headline.
pub happens_as : (old new : World) (e : EventValue) (o : OutcomeValue) → IsSoundWorld old → Happens old e o new
    → StepsAs old e o new
happens_as old new e o here happens = record {
  plain_step = λ p refines. event_refines old here e o new happens p refines;
  keeps = kept new (sound_next old here e o new happens);
  over = λ call over. over_stays old here e o new happens call over;
}

pub steps_as : (old new : World) (e : Event) → IsSoundWorld old → (r : Result Outcome Refusal)
    → IfOk r (λ o. Happens old (event_of e) (outcome_of o) new)
    → IfOk r (λ o. StepsAs old (event_of e) (outcome_of o) new)
steps_as old new e here (Err refusal) happens = tt
steps_as old new e here (Ok o) happens = happens_as old new (event_of e) (outcome_of o) here happens

-- An event in a session whose link was not lost: it is as in a world, or an abort follows.
pub steps_over : (old mid new : World) (e : EventValue) (o : OutcomeValue) (is_lost : Bool) → IsSoundWorld old
    → Happens old e o mid → (is_lost ≡ false → new ≡ mid) → (is_lost ≡ true → Happens mid abort aborted new)
    → StepsOver old e o (session_of new is_lost)
steps_over old mid new e o false here happens same aborts =
    subst (λ (w : World). StepsOver old e o (linked w)) (sym (same refl))
    (goes_on mid (happens_as old mid e o here happens))
steps_over old mid new e o true here happens same aborts =
    link_fails mid new (happens_as old mid e o here happens)
    (happens_as mid new abort aborted (sound_next old here e o mid happens) (aborts refl))

-- A plain world that is alike stays alike, as the answer of one call is collected in both.
pub collect_refines : {X : Type 0} (old : World) (kernel : Kernel) → IsSoundWorld old → (o : Option (ℕ × X))
    → IfSome o (λ r. kernel ≡ record old.kernel {
      vfs =
          record old.kernel.vfs { answers = remove old.kernel.vfs.answers r.0 };
    })
    → IfSome o (λ r. (p : Plain) → Alike old p → Alike (record old { kernel = kernel }) (plain_handed_out p r.0))
collect_refines old kernel here None after = tt
collect_refines old kernel here (Some r) after =
    λ p refines. subst (λ (k : Kernel). Alike (record old { kernel = k }) (plain_handed_out p r.0)) (sym after)
    (handing_out old here r.0 p refines)
