-- What is true of the world and the plain world together, whatever list of events led to them.
use Rattle.std.specs.Prelude.{◌≡◌, Some, slice_get}
use Rattle.fuse_spec.specs.Kernel.Messages.{Request, RequestBody, init, asks, release, forget, batch_forget, interrupt}
use Rattle.fuse_spec.specs.World.Worlds.{World}
use Rattle.fuse_spec.specs.Reference.Plain.{Plain}
use Rattle.fuse_spec.specs.World.Events.{Event}
use Rattle.fuse_spec.specs.World.Events as event
use Rattle.fuse_spec.specs.Claim.Alike.{Alike}
use Rattle.fuse_theorem.specs.AskedRequests.{RequestsAskedWhileLive}
use Rattle.fuse_theorem.specs.Copies.{KeptAreSent}
use Rattle.fuse_theorem.specs.HeldKnown.{HeldKnownWhileLive}
use Rattle.fuse_theorem.specs.KnownNodes.{NodesKnown}
use Rattle.fuse_theorem.specs.Links.{LinksSound}
use Rattle.fuse_theorem.specs.PlainWitness.{PlainWitness}
use Rattle.fuse_theorem.specs.WorldSound.{WorldSound}

-- The two are alike, and each is sound.
pub record BothSound (w : World) (p : Plain) : Type 0 where
  pub alike : Alike w p
  pub world : WorldSound w
  pub asked : RequestsAskedWhileLive w
  pub links : LinksSound w
  pub nodes : NodesKnown w.kernel
  pub held : HeldKnownWhileLive w
  pub kept : KeptAreSent w
  pub witness : PlainWitness w

abbrev pub ForgetsNothing : RequestBody → Type 0
ForgetsNothing (init flags) = Unit {0}
ForgetsNothing (asks operation) = Unit {0}
ForgetsNothing (release o) = Unit {0}
ForgetsNothing (forget f) = ⊥
ForgetsNothing (batch_forget fs) = ⊥
ForgetsNothing (interrupt original) = Unit {0}

-- Every event needs no more than that but the taking of forgets, the performing of a request, and the settling of a
-- copy.
abbrev pub NeedsBothAlone : World → Event → Type 0
NeedsBothAlone w (event.take k) = (r : Request) → slice_get w.requests k ≡ Some r → ForgetsNothing r.body
NeedsBothAlone w (event.perform unique) = ⊥
NeedsBothAlone w (event.settle k) = ⊥
NeedsBothAlone w (event.mount found_ms missing_ms minor) = Unit {0}
NeedsBothAlone w (event.call call) = Unit {0}
NeedsBothAlone w event.read_interrupt = Unit {0}
NeedsBothAlone w (event.read_forgets n) = Unit {0}
NeedsBothAlone w (event.read_pending k) = Unit {0}
NeedsBothAlone w (event.again unique) = Unit {0}
NeedsBothAlone w (event.write k) = Unit {0}
NeedsBothAlone w (event.intr call fatal) = Unit {0}
NeedsBothAlone w (event.tick ms) = Unit {0}
NeedsBothAlone w (event.drop_name directory name) = Unit {0}
NeedsBothAlone w (event.evict node) = Unit {0}
NeedsBothAlone w event.abort = Unit {0}
