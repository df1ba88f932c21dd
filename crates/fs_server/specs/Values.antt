-- What contracts see of the server's parts.
use Rattle.std.specs.Prelude.{ℕ, Bool}
use Rattle.fuse_spec.specs.Values.Maps.{Map}
use Rattle.fuse_spec.specs.Server.Server.{Server, HeldRequest, Kept, Copy}
use Rattle.fuse_spec.specs.declared.Minor.{Minor}
use Rattle.fuse_spec.specs.declared.Validity.{Validity}
use Rattle.fs_files.specs.Values.{FilesState, server_at}

-- A server with these files and these parts.
abbrev pub server_with : FilesState → Map HeldRequest → Map Kept → Map Copy → ℕ → Validity → Minor → Bool → Server
server_with files held kept copies next_copy validity minor aborted =
    record (server_at minor files validity) {
      held = held;
      kept = kept;
      copies = copies;
      next_copy = next_copy;
      aborted = aborted;
    }
