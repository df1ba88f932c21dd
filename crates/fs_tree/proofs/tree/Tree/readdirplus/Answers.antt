use Rattle.std.proofs.Common.{ap, sym}
use Rattle.fuse_spec.specs.Files.Operations.{listed_plus}
use Rattle.fs_tree.proofs.Leads.{pairs-listed}
use Rattle.fs_tree.proofs.tree.Tree.readdirplus.Goals as goal

pub returns-clause-ok : goal.returns-clause-ok
returns-clause-ok g c =
    let room = c.min-room.ensures in
    let records = rw room at c.in_ok-records.ensures in (
      c.in_ok-may_lookup.ensures,
      λ valid. ap listed_plus
          (rw (← c.self.view_is) (sym
          (pairs-listed valid.found_ms c.self.inside.files c.args.directory c.args.offset _ c.self.inside.names _ records))),
    )
