-- What an event comes to.
use Rattle.std.specs.Prelude.{◌≡◌, IfErr, IfOk, OnErr, Result}
use Rattle.fuse_spec.specs.declared.Refusal.{Refusal}
use Rattle.fuse_spec.specs.World.Events.{Event}
use Rattle.fuse_spec.specs.World.Steps.{Happens, RefusedWith}
use Rattle.fuse_spec.specs.World.Worlds.{World}
use Rattle.world_sessions.specs.WorldTransfers.{HasTransfersAt}
use Rattle.fw_world.specs.Frames.{IsShown}
use Rattle.fw_world.specs.Values.{outcome_of}
use Rattle.fw_world.specs.declared.event.Outcome.{Outcome}

-- The event led from the one world to the other with this result: it was refused, and changed nothing; or it happened, and
-- what its outcome says of its frame is so. A request that it read and a reply that it wrote have a frame.
pub record IsStep (old : World) (event : Event) (result : Result Outcome Refusal) (new : World) : Type 0 where
  pub err : OnErr result (new ≡ old)
  pub refusal : IfErr result (RefusedWith old event)
  pub happens : IfOk result (λ outcome. Happens old event (outcome_of outcome) new)
  pub shows : IfOk result (IsShown new)
  pub transfers : IfOk result (λ outcome. HasTransfersAt old event new)
