-- What is true of the requests that the server holds, in a live mount and after an abort.
use Rattle.std.specs.Prelude.{◌≡◌, ℕ, Bool, true, false, Some, All}
use Rattle.fuse_spec.specs.declared.Opened.{Opened}
use Rattle.fuse_spec.specs.Values.Maps.{get}
use Rattle.fuse_spec.specs.Kernel.Messages.{RequestBody, init, asks, release, forget, batch_forget, interrupt}
use Rattle.fuse_spec.specs.Kernel.Kernel.{is_live}
use Rattle.fuse_spec.specs.Server.Nodes.{NodeTable}
use Rattle.fuse_spec.specs.Server.Server.{HeldRequest}
use Rattle.fuse_spec.specs.Claim.Denotes.{generation_known}
use Rattle.fuse_spec.specs.World.Worlds.{World}
use Rattle.fuse_theorem.specs.Lookups.{IsHeldAs}

-- Requests of calls, INIT and RELEASEs are held, and of these only requests of calls are marked.
abbrev pub IsHeldMarked : Bool → RequestBody → Type 0
IsHeldMarked marked (init flags) = marked ≡ false
IsHeldMarked marked (asks operation) = Unit {0}
IsHeldMarked marked (release o) = marked ≡ false
IsHeldMarked marked (forget f) = ⊥
IsHeldMarked marked (batch_forget fs) = ⊥
IsHeldMarked marked (interrupt original) = ⊥

-- The server holds the request's nodes still, under the generations that they had when it was taken.
pub record NodesStillHeld (nodes : NodeTable) (t : HeldRequest) : Type 0 where
  pub held : All (λ (g : ℕ × ℕ). IsHeldAs nodes g.0 g.1) t.generations
  pub mark : IsHeldMarked t.marked t.body

-- So it is of each held request while no mount is live.
abbrev pub StillHeldAfterAbort : World → Type 0
StillHeldAfterAbort w = is_live w.kernel.phase ≡ false → (unique : ℕ) (t : HeldRequest)
    → get w.server.held unique ≡ Some t → NodesStillHeld w.server.nodes t

-- While the mount is live, a held RELEASE names its node under the generation that the kernel knows.
abbrev pub HeldReleasesKnown : World → Type 0
HeldReleasesKnown w = is_live w.kernel.phase ≡ true → (unique : ℕ) (t : HeldRequest)
    → get w.server.held unique ≡ Some t → (o : Opened) → t.body ≡ release o
    → All (λ (g : ℕ × ℕ). generation_known w.kernel.nodes g.0 ≡ Some g.1) t.generations
