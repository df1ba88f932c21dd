-- Under which generations the requests of calls that the server holds name their nodes.
use Rattle.std.specs.Prelude.{◌≡◌, ℕ, true, Some, All, map}
use Rattle.fuse_spec.specs.declared.Opened.{Opened}
use Rattle.fuse_spec.specs.Values.Maps.{get}
use Rattle.fuse_spec.specs.Kernel.Messages.{asks}
use Rattle.fuse_spec.specs.Files.Operations.{Operation}
use Rattle.fuse_spec.specs.Kernel.Kernel.{is_live}
use Rattle.fuse_spec.specs.Server.Server.{HeldRequest, nodes_of_body}
use Rattle.fuse_spec.specs.Claim.Denotes.{generation_known}
use Rattle.fuse_spec.specs.World.Worlds.{World}

-- A held request's generations are of the nodes that it names, and those of a call's request are the generations that
-- the kernel knows.
pub record HeldKnown (w : World) (t : HeldRequest) : Type 0 where
  pub names : map (λ (g : ℕ × ℕ). g.0) t.generations ≡ nodes_of_body t.body
  pub known : (operation : Operation ℕ Opened) → t.body ≡ asks operation
      → All (λ (g : ℕ × ℕ). generation_known w.kernel.nodes g.0 ≡ Some g.1) t.generations

abbrev pub HeldKnownWhileLive : World → Type 0
HeldKnownWhileLive w = is_live w.kernel.phase ≡ true → (unique : ℕ) (t : HeldRequest)
    → get w.server.held unique ≡ Some t → HeldKnown w t
