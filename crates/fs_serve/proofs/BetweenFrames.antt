-- What is true of a server that was just mounted between the frames that it serves.
use Rattle.std.proofs.Common.{◌≡◌, ◌≢◌, false, [], refl}
use Rattle.std.proofs.lemmas.List.Elements.{All-nil}
use Rattle.fuse_spec.specs.declared.Minor.{Minor}
use Rattle.fuse_spec.specs.Files.Trees.{Named}
use Rattle.fuse_spec.specs.Server.Server.{Server}
use Rattle.fuse_theorem.specs.ServerTables.{ServerSound}
use Rattle.fuse_theorem.proofs.Nodes.ServerSound.{first_sound}
use Rattle.fs_serve.specs.LookupCounts.{IsFresh, fresh}

-- It is sound, holds no request, keeps no reply and awaits the result of no copy.
pub record IsBetween (minor : Minor) (s : Server) : Type 0 where
  pub sound : ServerSound s
  pub held : s.held ≡ []
  pub kept : s.kept ≡ []
  pub copies : s.copies ≡ []
  pub live : s.aborted ≡ false
  pub for_minor : s.minor ≡ minor

pub fresh_between : (s : Server) → IsFresh s → IsBetween s.minor s
fresh_between s (fresh validity minor) = record {
  sound = record {
    tree = record { root = refl; names = All-nil (λ (n : Named). n.file ≢ 0); inodes = first_sound.tree.inodes };
    nodes = first_sound.nodes;
    handles = first_sound.handles;
    copies = λ number later. refl;
  };
  held = refl;
  kept = refl;
  copies = refl;
  live = refl;
  for_minor = refl;
}
