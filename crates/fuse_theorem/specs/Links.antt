-- What is true of the links while no mount is live, and of the replies to INIT, whatever happened.
use Rattle.std.specs.Prelude.{◌≡◌, ◌⊎◌, ℕ, true, false, [], Some, All}
use Rattle.fuse_spec.specs.Values.Maps.{get}
use Rattle.fuse_spec.specs.Values.Numbers.{init_flags}
use Rattle.fuse_spec.specs.Kernel.Messages.{init}
use Rattle.fuse_spec.specs.Server.Performs.{init_reply}
use Rattle.fuse_spec.specs.Kernel.Kernel.{is_live}
use Rattle.fuse_spec.specs.Server.Server.{HeldRequest, Kept}
use Rattle.fuse_spec.specs.World.Worlds.{World, Sent}

-- INIT has the first number of a mount. Each copy of its reply says the minor that the server speaks, and so does the
-- kept reply.
pub record InitAgreed (w : World) : Type 0 where
  pub copies : All (λ (s : Sent). s.unique ≡ 2 → s.wire ≡ init_reply w.server.minor init_flags) w.replies
  pub kept : (x : Kept) → get w.server.kept 2 ≡ Some x → x.wire ≡ init_reply w.server.minor init_flags

-- Nothing is on its way and no reply is kept. The server holds nothing, or knows of the abort.
pub record IsIdle (w : World) : Type 0 where
  pub requests : w.requests ≡ []
  pub replies : w.replies ≡ []
  pub results : w.results ≡ []
  pub kept : w.server.kept ≡ []
  pub server : (w.server.held ≡ []) ⊎ (w.server.aborted ≡ true)

-- INIT names no node. The server of a live mount knows of no abort and agrees on its minor, and without a live mount
-- the links are empty.
pub record LinksSound (w : World) : Type 0 where
  pub held : (unique : ℕ) (t : HeldRequest) → get w.server.held unique ≡ Some t → (flags : ℕ) → t.body ≡ init flags
      → t.generations ≡ []
  pub serving : is_live w.kernel.phase ≡ true → w.server.aborted ≡ false
  pub agreed : is_live w.kernel.phase ≡ true → InitAgreed w
  pub idle : is_live w.kernel.phase ≡ false → IsIdle w
