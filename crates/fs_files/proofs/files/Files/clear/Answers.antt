use Rattle.fs_files.proofs.DiscardingUnheld.{cleared_files}
use Rattle.fs_files.proofs.files.Files.clear.Goals as goal

pub returns-clause-named : goal.returns-clause-named
returns-clause-named g c =
    cleared_files c.self.inside.tree c.self.inside.known.nodes c.self.inside.known.handles _ _ _ c.discard_nameless.ensures c.clear.ensures.nodes c.clear.ensures.handles
