-- What a session counts where a world is at rest.
use Rattle.std.specs.Prelude.{◌≡◌, ◌≤◌, ℕ, List, [], ◌∷◌, None}
use Rattle.fuse_device.specs.Transfers.{Transfer}
use Rattle.fuse_spec.specs.Claim.Counts.{AtRest, Protocol, counted}
use Rattle.fuse_spec.specs.Server.Server.{count_in}
use Rattle.fuse_spec.specs.Values.Maps.{get}
use Rattle.fuse_spec.specs.World.Worlds.{World}
use Rattle.protocol_law.specs.Law.{Carries}
use Rattle.fuse_sessions.specs.declared.known.Known.{Known}
use Rattle.fuse_sessions.specs.declared.transfer.Transfer.{Transfer as Said}
use Rattle.fuse_sessions.specs.declared.transfer.Transfer.TheVariants as said
use Rattle.fuse_sessions.specs.Counts.{most_count}
use Rattle.fuse_sessions.specs.Frames.{IsSession, nothing_known}
use Rattle.fuse_sessions.specs.Sessions.{Session}
use Rattle.driven_sessions.specs.Driven.{HaveAgreed}
use Rattle.driven_sessions.specs.Taken.{AreRefusedToo, AreTaken, outcomes_of}
use Rattle.driven_sessions.specs.Transfers.{AreSaid}
use Rattle.world_sessions.specs.KernelRules.{IsDrivenTo}

-- Each node is counted in the session as often as the kernel and the server count it. The root has no count.
abbrev pub CountsAsBoth : World → Session → Type 0
CountsAsBoth w s = (node : ℕ) → 2 ≤ node
    → (most_count s node ≡ counted (get w.kernel.nodes node)) × (most_count s node ≡ count_in (get w.server.nodes.rows node))

-- So it is where the world mounted once and is at rest, for each session that has of each reply what the kernel made of it, and is
-- judged to its end by agreements that carry the codec's frames.
abbrev pub CountsAtRest : Type 0
CountsAtRest = (mounts : ℕ) (log : List Transfer) (w : World) (driven : IsDrivenTo mounts log w.kernel) → mounts ≤ 1 → Protocol w
    → AtRest w → (ts : List Said) → AreSaid log ts → (k : Known) (s : Session) (is : IsSession (said.SeveralReaders ∷ ts) k s)
    → AreTaken nothing_known [] (said.SeveralReaders ∷ ts) k s is (outcomes_of driven.run) → AreRefusedToo ts (outcomes_of driven.run)
    → HaveAgreed Carries nothing_known [] (said.SeveralReaders ∷ ts) k s is → k.unjudged ≡ None → CountsAsBoth w s
