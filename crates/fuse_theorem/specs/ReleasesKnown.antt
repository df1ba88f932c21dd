-- Which nodes the kernel knows for the files that are closed and their RELEASEs.
use Rattle.std.specs.Prelude.{◌≡◌, ℕ, true, Some, All}
use Rattle.fuse_spec.specs.declared.Counted.{Counted}
use Rattle.fuse_spec.specs.declared.Opened.{Opened}
use Rattle.fuse_spec.specs.declared.Purpose.{Purpose}
use Rattle.fuse_spec.specs.declared.Purpose.TheVariants as purpose
use Rattle.fuse_spec.specs.declared.QueuedRequest.{QueuedRequest}
use Rattle.fuse_spec.specs.Claim.Denotes.{generation_known}
use Rattle.fuse_spec.specs.Kernel.Kernel.{is_live}
use Rattle.fuse_spec.specs.Values.Maps.{Map, get, values}
use Rattle.fuse_spec.specs.Kernel.Messages.{release}
use Rattle.fuse_spec.specs.Server.Server.{HeldRequest}
use Rattle.fuse_spec.specs.World.Worlds.{World}
use Rattle.fuse_theorem.specs.ClosedFiles.{ClosedFiles}
use Rattle.fuse_theorem.specs.KnownNodes.{IsKnown}

-- A RELEASE is of a node that is known.
abbrev pub ReleaseKnown : Map Counted → Purpose → Type 0
ReleaseKnown nodes purpose.Init = Unit {0}
ReleaseKnown nodes (purpose.Release o) = IsKnown nodes o.nodeid
ReleaseKnown nodes (purpose.Call call) = Unit {0}

-- The kernel knows the node of each closed file whose RELEASE is not queued, and of each unanswered RELEASE. In a live
-- mount the server holds a RELEASE with the generation that the kernel knows.
pub record ReleasesKnown (w : World) : Type 0 where
  pub files : ClosedFiles w.kernel.vfs w.kernel.closing
  pub closing : All (λ (o : Opened). IsKnown w.kernel.nodes o.nodeid) (values w.kernel.closing)
  pub requests : All (λ (e : ℕ × QueuedRequest Purpose). ReleaseKnown w.kernel.nodes e.1.kept) w.kernel.queues.requests
  pub held : is_live w.kernel.phase ≡ true → (unique : ℕ) (t : HeldRequest) → get w.server.held unique ≡ Some t
      → (o : Opened) → t.body ≡ release o →
      All (λ (g : ℕ × ℕ). generation_known w.kernel.nodes g.0 ≡ Some g.1) t.generations
