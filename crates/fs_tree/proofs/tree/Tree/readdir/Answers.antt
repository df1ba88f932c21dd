use Rattle.std.proofs.Common.{ap, sym}
use Rattle.fuse_spec.specs.Files.Operations.{listed}
use Rattle.fs_tree.proofs.Leads.{names-listed}
use Rattle.fs_tree.proofs.tree.Tree.readdir.Goals as goal

pub returns-clause-ok : goal.returns-clause-ok
returns-clause-ok g c =
    let room = c.min-room.ensures in
    let records = rw room at c.in_ok-list.ensures in (
      c.in_ok-may_lookup.ensures,
      λ valid. ap listed
          (rw (← c.self.view_is) (sym
          (names-listed c.self.inside.files c.args.directory c.args.offset _ c.self.inside.names _ records))),
    )
