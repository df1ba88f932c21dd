-- What an event that was refused, or that happened, comes to.
use Rattle.std.proofs.Common.{◌≡◌, Ok, Err}
use Rattle.fuse_spec.specs.declared.Refusal.{Refusal}
use Rattle.fuse_spec.specs.World.Events.{Event}
use Rattle.fuse_spec.specs.World.Steps.{Happens, RefusedWith}
use Rattle.fuse_spec.specs.World.Worlds.{World}
use Rattle.world_sessions.specs.WorldTransfers.{HasTransfersAt}
use Rattle.fw_world.specs.Frames.{IsShown}
use Rattle.fw_world.specs.Steps.{IsStep}
use Rattle.fw_world.specs.Values.{outcome_of}
use Rattle.fw_world.specs.declared.event.Outcome.{Outcome}

pub refused : (old new : World) (e : Event) (refusal : Refusal) → new ≡ old → RefusedWith old e refusal
    → IsStep old e (Err refusal) new
refused old new e refusal same is = record { err = same; refusal = is; happens = tt; shows = tt; transfers = tt }

pub happened : (old new : World) (e : Event) (o : Outcome) → Happens old e (outcome_of o) new → IsShown new o
    → HasTransfersAt old e new → IsStep old e (Ok o) new
happened old new e o is shown over = record { err = tt; refusal = tt; happens = is; shows = shown; transfers = over }
