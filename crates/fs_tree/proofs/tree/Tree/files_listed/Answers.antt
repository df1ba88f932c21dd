use Rattle.std.proofs.Common.{◌∙◌}
use Rattle.fs_tree.proofs.Leads.{files-listed}
use Rattle.fs_tree.proofs.tree.Tree.files_listed.Goals as goal

pub returns : goal.returns
returns g c =
    let room = c.min-room.ensures in
    let files = c.self.inside.files in
    λ valid. rw (← c.self.view_is)
    (rw room at (c.files_listed.ensures files) ∙ files-listed valid.found_ms files c.args.directory c.args.offset _ c.self.inside.names)
