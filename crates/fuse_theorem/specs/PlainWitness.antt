-- A plain world that stands beside the world from the first event on.
use Rattle.std.specs.Prelude.{◌≡◌, ◌≢◌, ℕ, true, Some}
use Rattle.fuse_spec.specs.Values.Maps.{get}
use Rattle.fuse_spec.specs.Values.Numbers.{eintr}
use Rattle.fuse_spec.specs.Files.Operations.{Reply, failed}
use Rattle.fuse_spec.specs.Kernel.Kernel.{Kernel, is_live}
use Rattle.fuse_spec.specs.World.Worlds.{World}
use Rattle.fuse_spec.specs.Reference.Plain.{Plain, Ask, performed, declined}
use Rattle.fuse_spec.specs.Reference.PlainCalls.{RepliesTo}
use Rattle.fuse_spec.specs.Claim.Alike.{Alike}
use Rattle.fuse_theorem.specs.AskedRequests.{IsInterrupted}

-- A performed ask has a reply to its operation, which is not EINTR. While the mount is live, the request of a declined
-- one was interrupted.
pub record AskServed (k : Kernel) (unique : ℕ) (ask : Ask) : Type 0 where
  pub replied : (reply : Reply ℕ ℕ) → ask.stage ≡ performed reply → RepliesTo ask.operation reply
  pub not_interrupted : (reply : Reply ℕ ℕ) → ask.stage ≡ performed reply → reply ≢ failed eintr
  pub interrupted : is_live k.phase ≡ true → ask.stage ≡ declined → IsInterrupted k unique

-- Each ask of a plain world.
abbrev pub AsksServed : Kernel → Plain → Type 0
AsksServed k p = (unique : ℕ) (ask : Ask) → get p.asks unique ≡ Some ask → AskServed k unique ask

-- Some plain world is alike to the world, and its asks were served. This is of the world alone: what its copies say to
-- the requests of calls follows for every plain world that is alike to it.
pub record PlainWitness (w : World) : Type 0 where
  pub plain : Plain
  pub alike : Alike w plain
  pub served : AsksServed w.kernel plain
