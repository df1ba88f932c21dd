use Rattle.fs_handles.proofs.Uses.{has_is}
use Rattle.fs_handles.proofs.handle_table.HandleTable.has.Goals as goal

pub returns : goal.returns
returns g c = rw (← c.self.view_is) (has_is c.has.result c.args.file c.self.invariant c.has.ensures)
