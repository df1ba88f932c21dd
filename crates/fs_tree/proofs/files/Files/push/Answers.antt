use Rattle.std.proofs.Common.{ap, ◌∙◌, map}
use Rattle.fuse_spec.specs.Values.Maps.{put}
use Rattle.fs_tree.specs.Views.{content_in, viewed_file}
use Rattle.fs_tree.proofs.FileRows.{absent-seen, put-seen}
use Rattle.fs_tree.proofs.files.Files.push.Goals as goal

pub put-requires-clause-absent : goal.put-requires-clause-absent
put-requires-clause-absent g c = rw c.reserve.ensures.entries (absent-seen content_in c.self.inside.contents.entries
    c.args.inode (rw (← c.self.view_is) at c.requires))

pub returns-clause-ok : goal.returns-clause-ok
returns-clause-ok g c = rw (← c.self.view_is) (ap (map viewed_file) (c.put.ensures.entries
    ∙ ap (λ es. put es c.args.inode c.args.content) c.reserve.ensures.entries)
    ∙ put-seen content_in c.self.inside.contents.entries c.args.inode c.args.content)
