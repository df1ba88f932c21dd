-- What is true of the file handles of the requests that the server holds, in a live mount and after an abort.
use Rattle.std.specs.Prelude.{Contains, ◌≡◌, ◌≤◌, ◌+◌, ℕ, true, false, [], Some, sum_by}
use Rattle.fuse_spec.specs.declared.Opened.{Opened}
use Rattle.fuse_spec.specs.Values.Maps.{Map, get, values}
use Rattle.fuse_spec.specs.Files.Operations.{Operation}
use Rattle.fuse_spec.specs.Kernel.Messages.{asks}
use Rattle.fuse_spec.specs.Kernel.Kernel.{is_live}
use Rattle.fuse_spec.specs.Server.Nodes.{NodeTable, HandleTable, file_of, is_open}
use Rattle.fuse_spec.specs.Server.Server.{HeldRequest}
use Rattle.fuse_spec.specs.Claim.Counts.{opens_of, opens_of_body, releases_in, handle_count}
use Rattle.fuse_spec.specs.World.Worlds.{World}

-- How often held requests release a file handle.
abbrev pub releases_held : Map HeldRequest → ℕ → ℕ
releases_held held fh = sum_by (λ (t : HeldRequest). releases_in fh t.body) (values held)

-- Each file handle that a held request names is one of its node's file. It is counted as often as held RELEASEs release
-- it, and once more where a held read or write uses it.
pub record HandlesStillOpen (nodes : NodeTable) (handles : HandleTable) (held : Map HeldRequest) : Type 0 where
  pub files : (unique : ℕ) (t : HeldRequest) → get held unique ≡ Some t → (o : Opened)
      → Contains (opens_of_body t.body) o → is_open handles o.fh (file_of nodes o.nodeid) ≡ true
  pub released : (fh : ℕ) → releases_held held fh ≤ handle_count (get handles.handles fh)
  pub used : (unique : ℕ) (t : HeldRequest) → get held unique ≡ Some t → (operation : Operation ℕ Opened)
      → t.body ≡ asks operation → (o : Opened) → Contains (opens_of operation) o
      → releases_held held o.fh + 1 ≤ handle_count (get handles.handles o.fh)

abbrev pub HeldHandlesOpen : World → Type 0
HeldHandlesOpen w = HandlesStillOpen w.server.nodes w.server.handles w.server.held

-- No call is unanswered, no file is open, and the handles that held requests name are open still.
pub record OpensLeft (w : World) : Type 0 where
  pub numbers : HeldHandlesOpen w
  pub calls : w.kernel.vfs.calls ≡ []
  pub opens : w.kernel.vfs.opens ≡ []

-- So it is while no mount is live.
abbrev pub OpensAfterAbort : World → Type 0
OpensAfterAbort w = is_live w.kernel.phase ≡ false → OpensLeft w
