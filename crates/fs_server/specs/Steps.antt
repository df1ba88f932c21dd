-- When a held request can be performed.
use Rattle.std.specs.Prelude.{◌≡◌, ◌<◌, ℕ, false, Some, T}
use Rattle.std.specs.FinMap.{is_sorted}
use Rattle.std.specs.Ordering.{nat_cmp}
use Rattle.fuse_spec.specs.Values.Maps.{get}
use Rattle.fuse_spec.specs.Server.Nodes.{count_overflows}
use Rattle.fuse_spec.specs.Server.Performs.{files_given}
use Rattle.fuse_spec.specs.Server.Server.{Server, HeldRequest}
use Rattle.fuse_spec.specs.Values.Numbers.{counter_end}
use Rattle.fs_files.specs.Performing.{said, tree_said}
use Rattle.fs_files.specs.Plans.{HasNumbers}

-- A request is held under this unique, and the counters have the numbers that performing it allocates. Nodes are in
-- rising nodeid.
pub record CanPerform (s : Server) (unique : ℕ) : Type 0 where
  pub held : HeldRequest
  pub there : get s.held unique ≡ Some held
  pub rising : T (is_sorted nat_cmp s.nodes.rows)
  pub counts : count_overflows s.nodes (files_given s held) ≡ false
  pub copy : s.aborted ≡ false → s.next_copy < counter_end
  pub numbers : HasNumbers (tree_said s held) s.nodes s.handles s.aborted (said s held)
