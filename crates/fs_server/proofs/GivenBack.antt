-- Nameless files that nothing holds go, once lookups and file handles are given back.
use Rattle.std.proofs.Common.{◌≡◌, ℕ, Bool, false, List, [], ap, ◌∙◌}
use Rattle.fuse_spec.specs.declared.Minor.{Minor}
use Rattle.fuse_spec.specs.declared.Minor.TheVariants.{M31}
use Rattle.fuse_spec.specs.Server.Copies.{handles_back, rows_back, remounted}
use Rattle.fuse_spec.specs.Values.Maps.{Map}
use Rattle.fuse_spec.specs.Kernel.Messages.{Forget, WireReply}
use Rattle.fuse_spec.specs.Server.Nodes.{NodeTable, HandleTable}
use Rattle.fuse_spec.specs.Files.Operations.{files_in_reply, opens_in_reply}
use Rattle.fuse_spec.specs.Server.Server.{Server, HeldRequest, Kept, Copy, all_taken_back, forgetting, is_file_held, without_unheld_files}
use Rattle.fuse_spec.specs.Files.Trees.{Tree}
use Rattle.fuse_spec.specs.declared.Validity.{Validity}
use Rattle.fs_tree.specs.Outcomes.{without_unheld}
use Rattle.fs_files.specs.Values.{FilesState, server_of}
use Rattle.fs_server.specs.Effects.{Forgets, GivesBack}
use Rattle.fs_server.specs.Values.{server_with}

-- Nameless files that nothing holds have gone.
pub record AreDiscarded (mid new : FilesState) : Type 0 where
  pub tree : (v : Validity) → new.tree ≡ without_unheld (is_file_held (server_of mid v)) mid.tree
  pub nodes : new.nodes ≡ mid.nodes
  pub handles : new.handles ≡ mid.handles

abbrev bare : Tree → NodeTable → HandleTable → Validity → Server
bare t n h v = record {
  tree = t;
  nodes = n;
  handles = h;
  held = [];
  kept = [];
  copies = [];
  next_copy = 1;
  validity = v;
  minor = M31;
  aborted = false;
}

discarded_unheld : (mid new : FilesState) → AreDiscarded mid new → (v : Validity)
    → server_of new v ≡ without_unheld_files (server_of mid v)
discarded_unheld mid new s v = λ i. bare (s.tree v i) (s.nodes i) (s.handles i) v

pub forgets : (old mid new : FilesState) (fs : List Forget) → mid.tree ≡ old.tree
    → mid.nodes ≡ all_taken_back old.nodes fs → mid.handles ≡ old.handles → AreDiscarded mid new → Forgets old fs new
forgets old mid new fs tree nodes handles s v = discarded_unheld mid new s v ∙
    (λ i. without_unheld_files (bare (tree i) (nodes i) (handles i) v))

pub gives_back : (old mid new : FilesState) (wire : WireReply) → mid.tree ≡ old.tree
    → mid.nodes ≡ rows_back old.nodes (files_in_reply wire)
    → mid.handles ≡ handles_back old.handles (opens_in_reply wire) → AreDiscarded mid new
    → GivesBack old wire new
gives_back old mid new wire tree nodes handles s v =
    discarded_unheld mid new s v ∙ (λ i. without_unheld_files (bare (tree i) (nodes i) (handles i) v))

-- the same of the whole server
module _ (old new : FilesState) (held : Map HeldRequest) (kept : Map Kept) (copies : Map Copy) (next : ℕ)
    (v : Validity) (m : Minor) (a : Bool) where
  pub forgets_so : (fs : List Forget) → Forgets old fs new
      → server_with new held kept copies next v m a ≡ forgetting (server_with old held kept copies next v m a) fs
  forgets_so fs f = ap (λ (b : Server). record b {
    held = held;
    kept = kept;
    copies = copies;
    next_copy = next;
    minor = m;
    aborted = a;
  }) (f v)

  pub remounts : (mid : FilesState) (w : Validity) (n : Minor) → mid.tree ≡ old.tree
      → mid.nodes ≡ record old.nodes { rows = [] } → mid.handles ≡ record old.handles { handles = [] }
      → AreDiscarded mid new
      → server_with new [] [] [] next w n false ≡ remounted (server_with old held kept copies next v m a) w n
  remounts mid w n tree nodes handles s =
      ap (λ (b : Server). record b { next_copy = next; minor = n })
      (discarded_unheld mid new s w ∙ (λ i. without_unheld_files (bare (tree i) (nodes i) (handles i) w)))
