-- What keeps the requests on the link without a fault, beside that the lookups are balanced.
use Rattle.std.specs.Prelude.{◌≡◌, ◌≤◌, ◌%◌, ℕ, true, false, Some, All}
use Rattle.fuse_spec.specs.declared.Minor.TheVariants.{M15}
use Rattle.fuse_spec.specs.declared.Opened.{Opened}
use Rattle.fuse_spec.specs.Kernel.Kernel.{is_live}
use Rattle.fuse_spec.specs.Values.Maps.{get, values}
use Rattle.fuse_spec.specs.Kernel.Messages.{Forget, Request, asks}
use Rattle.fuse_spec.specs.Files.Operations.{readdirplus}
use Rattle.fuse_spec.specs.Server.Server.{Kept, forgets_of, knows}
use Rattle.fuse_spec.specs.Calls.Vfs.{CallState, walking, doing, using}
use Rattle.fuse_spec.specs.Calls.Walks.{WalkPlan, last}
use Rattle.fuse_spec.specs.World.Worlds.{World}

-- A forget is of a node from 2 up, and of one lookup at least.
abbrev pub IsForget : Forget → Type 0
IsForget f = (2 ≤ f.0) × (1 ≤ f.1)

-- What is asked at the end of a walk, a call, and a request, that 7.15 knows.
abbrev pub OldPlan : WalkPlan ℕ → Type 0
OldPlan (last (readdirplus named after size)) = ⊥
OldPlan plan = Unit {0}

abbrev pub OldState : CallState Opened → Type 0
OldState (walking directory word words plan) = OldPlan plan
OldState (doing operation) = knows M15 (asks operation) ≡ true
OldState (using open_call operation) = knows M15 (asks operation) ≡ true

abbrev pub OldRequest : Request → Type 0
OldRequest r = knows M15 r.body ≡ true

-- The kernel speaks 7.15, its calls ask what 7.15 knows, and so do the requests on the link.
pub record SpeaksOld (w : World) : Type 0 where
  pub minor : w.kernel.minor ≡ M15
  pub lists_files : w.kernel.lists_files ≡ false
  pub calls : All OldState (values w.kernel.vfs.calls)
  pub sent : All OldRequest w.requests

-- So it does in the live mount of a server that speaks 7.15.
abbrev pub Spoken : World → Type 0
Spoken w = is_live w.kernel.phase ≡ true → w.server.minor ≡ M15 → SpeaksOld w

-- So are those that are queued and those on the request link. No reply is kept under the number of an INTERRUPT. Each
-- request asks what the server's minor knows.
pub record Faultless (w : World) : Type 0 where
  pub queued : All IsForget w.kernel.queues.forgets
  pub sent : All (λ (r : Request). All IsForget (forgets_of r.body)) w.requests
  pub kept : (unique : ℕ) (k : Kept) → get w.server.kept unique ≡ Some k → unique % 2 ≡ 0
  pub for_minor : Spoken w
