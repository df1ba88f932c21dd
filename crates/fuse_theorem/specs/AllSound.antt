-- All that is true of the world and the plain world, whatever list of events led to them: the inductive invariant.
use Rattle.fuse_spec.specs.Reference.Plain.{Plain}
use Rattle.fuse_spec.specs.World.Worlds.{World}
use Rattle.fuse_theorem.specs.EveryList.{BothSound}
use Rattle.fuse_theorem.specs.Faultless.{Faultless}
use Rattle.fuse_theorem.specs.NodesHeld.{TakenServable}
use Rattle.fuse_theorem.specs.OnTheWay.{ReadAreOnTheirWay}
use Rattle.fuse_theorem.specs.OpenNumbers.{OpensSound}
use Rattle.fuse_theorem.specs.OpensOnce.{OpensOnceWhileLive}
use Rattle.fuse_theorem.specs.ReleasesKnown.{ReleasesKnown}
use Rattle.fuse_theorem.specs.RepliesFit.{RepliesFitWhileLive}
use Rattle.fuse_theorem.specs.StillHeld.{StillHeldAfterAbort}
use Rattle.fuse_theorem.specs.StillOpen.{OpensAfterAbort}

-- They are alike and sound, the server holds what requests name, forgets and replies are right, and file handles are
-- balanced and of one open file each.
pub record AllSound (w : World) (p : Plain) : Type 0 where
  pub both : BothSound w p
  pub releases : ReleasesKnown w
  pub taken : TakenServable w.server
  pub faultless : Faultless w
  pub fits : RepliesFitWhileLive w
  pub still : StillHeldAfterAbort w
  pub opens : OpensSound w
  pub left : OpensAfterAbort w
  pub waiting : ReadAreOnTheirWay w
  pub once : OpensOnceWhileLive w
