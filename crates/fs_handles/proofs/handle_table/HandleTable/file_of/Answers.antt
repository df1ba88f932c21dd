use Rattle.std.proofs.Common.{rules}
use Rattle.fs_handles.proofs.Handles.{get-handles_of}
use Rattle.fs_handles.proofs.handle_table.HandleTable.file_of.Goals as goal

pub returns : goal.returns
returns g c = rw (← c.self.view_is, get-handles_of) (search rules)
