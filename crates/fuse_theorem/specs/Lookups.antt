-- What is true of the lookups of nodes, whatever happened.
use Rattle.std.specs.Prelude.{◌≡◌, ◌≢◌, ◌≤◌, ℕ, true, false, [], Some, All}
use Rattle.fuse_spec.specs.declared.Counted.{Counted}
use Rattle.fuse_spec.specs.declared.Entry.{Entry}
use Rattle.fuse_spec.specs.declared.ReplyResult.{ReplyResult}
use Rattle.fuse_spec.specs.declared.WriteResult.TheVariants.{Accepted}
use Rattle.fuse_spec.specs.Values.Maps.{Map, get}
use Rattle.fuse_spec.specs.Kernel.Messages.{WireReply}
use Rattle.fuse_spec.specs.Files.Operations.{files_in_reply}
use Rattle.fuse_spec.specs.Kernel.Kernel.{is_live}
use Rattle.fuse_spec.specs.Server.Nodes.{NodeTable}
use Rattle.fuse_spec.specs.Server.Server.{Kept, Copy}
use Rattle.fuse_spec.specs.Claim.Counts.{Balance}
use Rattle.fuse_spec.specs.Claim.Denotes.{Denotes}
use Rattle.fuse_spec.specs.World.Worlds.{World, Sent}
use Rattle.fuse_theorem.specs.Numbering.{IsNumberedWhileLive}
use Rattle.fuse_theorem.specs.ServerTables.{ServerSound}
use Rattle.fuse_theorem.specs.Copies.{CopiesSound}

-- The server holds the node under this generation.
abbrev pub IsHeldAs : NodeTable → ℕ → ℕ → Type 0
IsHeldAs t id generation = (file : ℕ) × Denotes t id generation file

-- Each entry of the reply names a node from 2 up that is held under the entry's generation.
abbrev pub EntriesHeld : NodeTable → WireReply → Type 0
EntriesHeld t wire = All (λ (g : Entry). (2 ≤ g.nodeid) × IsHeldAs t g.nodeid g.generation) (files_in_reply wire)

-- So does each entry of a refused copy, as the server knows the copy.
abbrev pub RefusedHeld : NodeTable → Map Copy → ReplyResult → Type 0
RefusedHeld t copies r = (copy : Copy) → r.result ≢ Accepted → get copies r.number ≡ Some copy → EntriesHeld t copy.wire

-- The server's count of each node is the kernel's and what is in flight. It holds what the kernel counts, what copies
-- name and what refused ones named.
pub record LookupsBalanced (w : World) : Type 0 where
  pub balance : Balance w
  pub known : (id : ℕ) (node : Counted) → get w.kernel.nodes id ≡ Some node
      → (2 ≤ id) × (1 ≤ node.count) × IsHeldAs w.server.nodes id node.generation
  pub copies : All (λ (s : Sent). EntriesHeld w.server.nodes s.wire) w.replies
  pub refused : All (RefusedHeld w.server.nodes w.server.copies) w.results

-- While the mount is live the lookups are balanced; else the kernel counts no node. The rest is what keeps it so: no
-- entry of a kept reply names the root.
pub record LookupsSound (w : World) : Type 0 where
  pub server : ServerSound w.server
  pub numbers : IsNumberedWhileLive w
  pub copies : CopiesSound w
  pub kept : (unique : ℕ) (k : Kept) → get w.server.kept unique ≡ Some k
      → All (λ (g : Entry). 2 ≤ g.nodeid) (files_in_reply k.wire)
  pub balanced : is_live w.kernel.phase ≡ true → LookupsBalanced w
  pub uncounted : is_live w.kernel.phase ≡ false → w.kernel.nodes ≡ []
